use Rattle.std.proofs.Common.{◌≡◌, arith, rules}
use Rattle.survey.specs.Bytes.{pasted, two_bytes}
use Rattle.bookfile.proofs.Saving.{numbers_begin, numbers_more}
use Rattle.bookfile.proofs.save.put_numbers.Goals as goal

pub loop-line-init : goal.loop-line-init
loop-line-init c = record { behind = omega arith; so_far = numbers_begin c.args.out.now c.args.place }

pub loop-line-preserved : goal.loop-line-preserved
loop-line-preserved c =
    let one : c.paste-place.new.out ≡ pasted c.loop-line.out c.loop-line.place (two_bytes c.loop-line.line) = search rules in
    record {
      behind = omega arith;
      so_far = numbers_more c.args.out.now c.args.place c.loop-line.line c.loop-line.place c.loop-line.out c.paste-place.new.out (omega arith) c.loop-line.invariant.behind c.loop-line.invariant.so_far one;
    }
