-- The lines that an iterator over a book has left.
use Rattle.std.specs.Prelude.{List, drop}
use Rattle.book.specs.declared.book.Book.{Ghosts}
use Rattle.book.specs.declared.rows.Rows.{Rows}

-- those from its next number on
abbrev pub rows_left : {B V : Type 0} {book : Ghosts B V} → Rows B V book → List V
rows_left {book = book} rows = drop rows.numbers.start (book.lines rows.book.now)
