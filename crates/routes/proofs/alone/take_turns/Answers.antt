use Rattle.std.proofs.Common.{◌≡◌, None, arith}
use Rattle.routes.specs.Searches.{route_family}
use Rattle.routes.specs.Answers.{still, asked_row}
use Rattle.jobs.proofs.Turns.{stands_since}
use Rattle.routes.proofs.Passing.{turn_rests}
use Rattle.routes.proofs.alone.take_turns.Goals as goal

-- a search that a turn leaves as it is stays so
pub returns-in_default : goal.returns-in_default
returns-in_default g c =
    let rows = g.B.Book.lines c.args.book.now in
    let s = c.loop-turn.search in
    let lacks : asked_row rows s.next ≡ None = cc in
    stands_since route_family rows (still c.args.search.now) (still s) c.loop-turn._turn c.args.count (omega arith) c.loop-turn.invariant (turn_rests rows s lacks)
