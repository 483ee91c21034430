-- The file of a book, and what saving answers and leaves.
use Rattle.std.specs.Prelude.{◌≡◌, ℕ, zero, suc, ◌<◌, ◌≤◌, List, [], ◌++◌, map, length, drop, Ok, Err, Result}
use Rattle.std.specs.List.{flat_map}
use Rattle.survey.specs.Bytes.{two_bytes}
use Rattle.survey.specs.Formats.{Format, or_blank}
use Rattle.bookfile.specs.declared.save.SaveRefusal.{SaveRefusal}
use Rattle.bookfile.specs.declared.save.SaveRefusal.TheVariants.{ShortOutput}
use Rattle.bookfile.specs.Loads.{Loads}

-- the line numbers below n
unfoldable pub numbers : ℕ → List ℕ
numbers zero = []
numbers (suc n) = numbers n ++ two_bytes n

-- bs stands at the front, and the rest is as it was
abbrev pub PutsFront : List ℕ → List ℕ → List ℕ → Type 0
PutsFront bs before after = after ≡ bs ++ drop (length bs) before

module _ {R : Type 0} (f : Format R) where
  -- a row outside the ranges is saved as the blank
  abbrev pub value_bytes : R → List ℕ
  value_bytes row = f.encoded (or_blank f row)

  -- each line once, in order: n, m, the line numbers, the values
  unfoldable pub file_of : List R → List ℕ
  file_of lines = (two_bytes (length lines) ++ two_bytes (length lines)) ++ (numbers (length lines) ++ flat_map value_bytes lines)

  -- the file stands at the front of the output; or it does not fit, and nothing was written
  abbrev pub Saves : List R → List ℕ → List ℕ → Result ℕ SaveRefusal → Type 0
  Saves lines before after (Ok size) = (size ≡ length (file_of lines)) × (size ≤ length before) × PutsFront (file_of lines) before after
  Saves lines before after (Err e) = (e ≡ ShortOutput) × (length before < length (file_of lines)) × (after ≡ before)

  -- loaded into any book of that size, bs gives the same lines, rows outside the ranges counting as the blank
  abbrev pub KeepsLines : List R → List ℕ → Type 0
  KeepsLines lines bs = (book : List R) → length book ≡ length lines → Loads f bs book (map (or_blank f) lines) (Ok (tt {0}))
