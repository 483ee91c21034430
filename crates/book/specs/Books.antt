-- What reading and writing a list of lines answers.
use Rattle.std.specs.Prelude.{◌≡◌, ℕ, ◌<◌, ◌≤◌, List, length, Some, Ok, Err, Result, slice_set}
use Rattle.std.specs.List.{slice_get}
use Rattle.book.specs.declared.refusal.BookRefusal.{BookRefusal}
use Rattle.book.specs.declared.refusal.BookRefusal.TheVariants.{NoLine}

-- the value of line l, or the refusal of a line that is not there
abbrev pub Reads : {V : Type 0} → List V → ℕ → Result V BookRefusal → Type 0
Reads xs l (Ok v) = (l < length xs) × (slice_get xs l ≡ Some v)
Reads xs l (Err e) = (length xs ≤ l) × (e ≡ NoLine)

-- line l alone has the value v afterwards, or the refusal of a line that is not there, and nothing changed
abbrev pub Writes : {V : Type 0} → List V → ℕ → V → List V → Result (Unit {0}) BookRefusal → Type 0
Writes before l v after (Ok u) = (l < length before) × (after ≡ slice_set before l v)
Writes before l v after (Err e) = (length before ≤ l) × (e ≡ NoLine) × (after ≡ before)
