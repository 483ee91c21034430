use Rattle.std.proofs.Common.{◌+◌, ◌-◌, min, sym, ap, ◌∙◌}
use Rattle.book.specs.Chapters.{part}
use Rattle.book.proofs.Parts.{part_of_part}
use Rattle.book.proofs.chapter.Chapter.part_extent.Goals as goal

pub returns : goal.returns
returns g c =
    let s = c.args.self.now in
    let xs = g.B.Book.lines s.below in
    let outer = c.extent-outer.result in
    let skipped = c.clip-inner.result.start in
    let e = c.extent-outer.ensures in
    let inner = c.clip-inner.ensures in
    ap (λ k. part (outer.start + skipped) k xs) (inner.size ∙ ap (λ l. min c.args.count (outer.size - l)) (sym inner.start))
    ∙ part_of_part s.first s.count c.args.first c.args.count outer.start outer.size skipped xs e.start e.size inner.start
