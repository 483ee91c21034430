use Rattle.std.proofs.Common.{◌≡◌, ◌++◌, string_bytes}
use Rattle.std.specs.Iterator.Adapters.{enumerate_source, enumerate_count}
use Rattle.book.specs.Rows.{rows_left}
use Rattle.programs.specs.Shows.{book_lines}
use Rattle.programs.proofs.show.push_book.Given as goal

-- the lines that are left complete the whole
abbrev pub invariant-loop-line : goal.invariant-loop-line
invariant-loop-line g l =
    string_bytes l.out ++ book_lines g.R.Row.format (enumerate_count l.line-iterator) (rows_left (enumerate_source l.line-iterator))
    ≡ string_bytes l.initial.out ++ book_lines g.R.Row.format 0 (g.B.Book.lines l.book)
