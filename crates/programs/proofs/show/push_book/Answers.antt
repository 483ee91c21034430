use Rattle.std.proofs.Common.{◌++◌, string_bytes, ap, ◌∙◌}
use Rattle.std.specs.Iterator.Adapters.{enumerate_source, enumerate_count}
use Rattle.script.specs.Listing.{look_line}
use Rattle.survey.specs.Formats.{or_blank}
use Rattle.book.specs.Rows.{rows_left}
use Rattle.programs.specs.Shows.{book_lines}
use Rattle.programs.proofs.Lines.{line_pushed, lines_done}
use Rattle.programs.proofs.show.push_book.Goals as goal

pub loop-line-preserved : goal.loop-line-preserved
loop-line-preserved g c =
    let f = g.R.Row.format in
    let (on, line, up, _) = c.in-Some.ensures.steps in
    let before = string_bytes c.loop-line.out in
    let whole = string_bytes c.args.out.now ++ book_lines f 0 (g.B.Book.lines c.args.book.now) in
    let pushed = c.in_ok-push_line.ensures ∙ ap (λ k. before ++ look_line k (f.text (or_blank f c.in-Some.row))) line in
    line_pushed f (enumerate_count c.loop-line.line-iterator) (enumerate_count c.next.new.self) c.in-Some.row
    (rows_left (enumerate_source c.loop-line.line-iterator)) (rows_left (enumerate_source c.next.new.self)) before (string_bytes c.push_line.new.out) whole
    on up pushed c.loop-line.invariant

pub returns : goal.returns
returns g c =
    let whole = string_bytes c.args.out.now ++ book_lines g.R.Row.format 0 (g.B.Book.lines c.args.book.now) in
    lines_done g.R.Row.format (enumerate_count c.loop-line.line-iterator) (rows_left (enumerate_source c.loop-line.line-iterator)) (string_bytes c.loop-line.out) whole c.in-None.ensures.steps.0.0 c.loop-line.invariant
