use Rattle.std.proofs.Common.{◌≡◌}
use Rattle.jobs.specs.Alone.{turns}
use Rattle.routes.specs.Searches.{route_family}
use Rattle.routes.specs.Answers.{still}
use Rattle.routes.proofs.alone.take_turns.Given as goal

abbrev pub invariant-loop-turn : goal.invariant-loop-turn
invariant-loop-turn g l = turns route_family (g.B.Book.lines l.book) l._turn (still l.initial.search) ≡ still l.search
