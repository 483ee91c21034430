use Rattle.std.proofs.Common.{arith}
use Rattle.book.proofs.Parts.{row_given}
use Rattle.book.proofs.rows.RowsIterator.next.Goals as goal

pub returns-clause-steps : goal.returns-clause-steps
returns-clause-steps g c =
    let rows = c.args.self.now in
    let (_, (some, line, on)) = c.in_ok-line.ensures.steps in
    row_given (g.B.Book.lines rows.book.now) rows.numbers.start c.in_ok-line.line c.next.new.self.start c.read.result c.ok.result (omega arith) line on c.read.ensures c.ok.ensures.value
