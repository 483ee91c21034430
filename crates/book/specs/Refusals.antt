-- The number of a book's refusal.
use Rattle.std.specs.Prelude.{ℕ}
use Rattle.book.specs.declared.refusal.BookRefusal.{BookRefusal}
use Rattle.book.specs.declared.refusal.BookRefusal.TheVariants.{NoLine}

abbrev pub number : BookRefusal → ℕ
number NoLine = 4
