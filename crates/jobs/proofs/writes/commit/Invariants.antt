use Rattle.std.proofs.Common.{◌≡◌, reverse, take}
use Rattle.jobs.specs.Alone.{applied}
use Rattle.jobs.proofs.writes.commit.Given as goal

abbrev pub invariant-loop-write : goal.invariant-loop-write
invariant-loop-write g l = g.B.Book.lines l.book ≡ applied (reverse (take l.write-index l.writes)) (g.B.Book.lines l.initial.book)
