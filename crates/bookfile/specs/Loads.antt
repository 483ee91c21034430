-- What loading a book file answers and leaves.
use Rattle.std.specs.Prelude.{◌≡◌, ℕ, zero, suc, ◌+◌, List, length, Some, None, Ok, Err, Result, slice_set}
use Rattle.survey.specs.Formats.{Format}
use Rattle.bookfile.specs.Faults.{FileFault}
use Rattle.bookfile.specs.Files.{line_of, row_of, file_fault, pair_count}

module _ {R : Type 0} (f : Format R) where
  -- the lines after k pairs were written, from pair i on
  unfoldable pub loaded : ℕ → List ℕ → ℕ → ℕ → List R → List R
  loaded m bs i zero lines = lines
  loaded m bs i (suc k) lines = loaded m bs (i + 1) k (slice_set lines (line_of bs i) (row_of f m bs i))

  -- the file has no fault and all its pairs were written in order; or it has one, and nothing was written
  abbrev pub Loads : List ℕ → List R → List R → Result (Unit {0}) FileFault → Type 0
  Loads bs before after (Ok x) = (file_fault f (length before) bs ≡ None) × (after ≡ loaded (pair_count bs) bs 0 (pair_count bs) before)
  Loads bs before after (Err e) = (file_fault f (length before) bs ≡ Some e) × (after ≡ before)
