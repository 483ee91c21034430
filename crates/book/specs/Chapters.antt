-- A part of a list, the lines of a chapter, and what a write to it is below.
use Rattle.std.specs.Prelude.{◌≡◌, ℕ, ◌+◌, ◌-◌, ◌<◌, ◌≤◌, min, List, length, take, drop, Ok, Err, Result, slice_set}
use Rattle.std.specs.List.{slice_get}
use Rattle.book.specs.declared.refusal.BookRefusal.{BookRefusal}
use Rattle.book.specs.declared.refusal.BookRefusal.TheVariants.{NoLine}
use Rattle.book.specs.declared.chapter.Chapter.{Chapter}
use Rattle.book.specs.Books.{Reads, Writes}

-- at most c elements, from place a on
abbrev pub part : {V : Type 0} → ℕ → ℕ → List V → List V
part a c xs = take c (drop a xs)

-- the lines of a chapter, where `below` gives those of the book below
abbrev pub lines_of : {B V : Type 0} → (B → List V) → Chapter B → List V
lines_of below chapter = part chapter.first chapter.count (below chapter.below)

-- ys begins at min a n of the n elements of xs, has min c (n - min a n) of them, and its element i is that at min a n + i
pub record IsPart {V : Type 0} (a c : ℕ) (xs ys : List V) : Type 0 where
  pub size : length ys ≡ min c (length xs - min a (length xs))
  pub line : (i : ℕ) → i < length ys → slice_get ys i ≡ slice_get xs (min a (length xs) + i)

-- a write to line l of a part that begins at a, seen from below: the line a + l alone is written, or nothing
abbrev pub WrittenBelow : {V : Type 0} → ℕ → List V → ℕ → V → List V → Result (Unit {0}) BookRefusal → Type 0
WrittenBelow a before l v after (Ok u) = after ≡ slice_set before (a + l) v
WrittenBelow a before l v after (Err e) = after ≡ before

-- line l of the part of xs is line k below: what reading or writing the one does, the other does
pub record IsLine {V : Type 0} (a c : ℕ) (xs : List V) (l k : ℕ) : Type 0 where
  pub within : l < length (part a c xs)
  pub reads : (r : Result V BookRefusal) → Reads xs k r → Reads (part a c xs) l r
  pub writes : (v : V) (ys : List V) (r : Result (Unit {0}) BookRefusal) → Writes xs k v ys r → Writes (part a c xs) l v (part a c ys) r
  pub below : (v : V) (ys : List V) (r : Result (Unit {0}) BookRefusal) → Writes xs k v ys r → WrittenBelow a xs l v ys r

-- the line below that line l of the part is, or the refusal of a line that the part lacks
abbrev pub FindsBelow : {V : Type 0} → ℕ → ℕ → List V → ℕ → Result ℕ BookRefusal → Type 0
FindsBelow a c xs l (Ok k) = IsLine a c xs l k
FindsBelow a c xs l (Err e) = (length (part a c xs) ≤ l) × (e ≡ NoLine)
