use Rattle.std.proofs.Common.{◌≡◌, ◌-◌}
use Rattle.jobs.specs.Doing.{done}
use Rattle.jobs.proofs.alone.run.Given as goal

-- the book is as it was, and the turns that are left decide
abbrev pub invariant-loop-turn : goal.invariant-loop-turn
invariant-loop-turn g l =
    record {
      same : g.B.Book.lines l.book ≡ g.B.Book.lines l.initial.book;
      rest : done (g.F.Family.meaning l.family) (g.B.Book.lines l.initial.book) (l.turns - l._turn) l.job
          ≡ done (g.F.Family.meaning l.family) (g.B.Book.lines l.initial.book) l.turns l.initial.job;
    }
