use Rattle.std.proofs.Common.{◌+◌, ◌*◌, length, ap, ◌∙◌, arith}
use Rattle.bookfile.proofs.Walk.{none_left, row_decoded, pair_given}
use Rattle.bookfile.proofs.pairs.PairIterIterator.next.Goals as goal

pub returns-in_err-number-clause-steps : goal.returns-in_err-number-clause-steps
returns-in_err-number-clause-steps g c =
    let walk = c.args.self.now in
    let m = walk.pairs.now.count in
    let bs = walk.pairs.now.bytes.now in
    let (end, more) = c.in_err-number.ensures.steps in
    rw c.from_residual.ensures (none_left g.R.Row.format m bs walk.numbers.start walk.numbers.end (omega arith), none_left g.R.Row.format m bs c.next.new.self.start c.next.new.self.end (omega arith))

pub returns-clause-steps : goal.returns-clause-steps
returns-clause-steps g c =
    let f = g.R.Row.format in
    let walk = c.args.self.now in
    let m = walk.pairs.now.count in
    let bs = walk.pairs.now.bytes.now in
    let (end, (some, number, on)) = c.in_ok-number.ensures.steps in
    let place = 4 + 2 * m + c.WIDTH.result * c.in_ok-number.number in
    let row = row_decoded f place bs c.split_at.result.1 c.decode.result c.unwrap-row.result c.split_at.ensures.back c.decode.ensures c.unwrap-row.ensures in
    pair_given f m bs walk.numbers.start walk.numbers.end c.next.new.self.start c.next.new.self.end c.in_ok-number.number c.WIDTH.result c.two_at.result c.unwrap-row.result.0 (omega arith) number on end (c.WIDTH.ensures ∙ g.met.R.Row.wide) c.two_at.ensures.value row

pub returns-clause-goes : goal.returns-clause-goes
returns-clause-goes g c =
    let shorter = ap length (returns-clause-steps g c) in
    record { on = λ _. (tt, tt, omega (arith, shorter)); keeps = tt; rests = λ _. tt }
