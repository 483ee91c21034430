use Rattle.std.proofs.Common.{◌≡◌}
use Rattle.bookfile.specs.Files.{pairs_between, pairs_fault}
use Rattle.bookfile.proofs.Walk.{first_fault}
use Rattle.bookfile.proofs.pairs.Pairs.check.Given as goal

-- what is left decides
abbrev pub invariant-loop-pair : goal.invariant-loop-pair
invariant-loop-pair g l =
    let f = g.R.Row.format in
    let walk = l.pair-iterator in
    first_fault f l.lines (pairs_between f walk.pairs.now.count walk.pairs.now.bytes.now walk.numbers.start walk.numbers.end)
    ≡ pairs_fault f l.lines l.self.count l.self.bytes.now 0 l.self.count
