use Rattle.std.proofs.Common.{arith}
use Rattle.book.proofs.Parts.{is_line}
use Rattle.book.proofs.chapter.Chapter.line_below.Goals as goal

pub returns-then-line-size : goal.returns-then-line-size
returns-then-line-size g c =
    let s = c.args.self.now in
    is_line s.first s.count (g.B.Book.lines s.below) c.extent-start.result.start c.args.line c.extent-start.ensures.start (omega arith)
