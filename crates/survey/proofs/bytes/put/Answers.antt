use Rattle.std.proofs.Common.{arith}
use Rattle.survey.proofs.Pastes.{put_mid_pastes}
use Rattle.survey.proofs.bytes.put.Goals as goal

pub returns : goal.returns
returns c =
    let sum = c.in_ok-end.ensures in
    (omega arith, sum.1, put_mid_pastes c.args.place _ c.args.out.now _ c.args.bytes.now c.copy_from_slice.ensures.after (omega arith))
