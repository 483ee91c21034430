use Rattle.std.proofs.Common.{◌≡◌}
use Rattle.bookfile.specs.Files.{pairs_between}
use Rattle.bookfile.specs.Loads.{loaded}
use Rattle.bookfile.proofs.Walk.{written}
use Rattle.bookfile.proofs.pairs.Pairs.load.Given as goal

-- what is left to write gives the whole
abbrev pub invariant-loop-pair : goal.invariant-loop-pair
invariant-loop-pair g l =
    let f = g.R.Row.format in
    let walk = l.pair-iterator in
    written f (pairs_between f walk.pairs.now.count walk.pairs.now.bytes.now walk.numbers.start walk.numbers.end) (g.B.Book.lines l.book)
    ≡ loaded f l.self.count l.self.bytes.now 0 l.self.count (g.B.Book.lines l.initial.book)
