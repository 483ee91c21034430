-- When each fault of a book file comes, in the words of the format.
use Rattle.std.specs.Prelude.{◌≡◌, ℕ, ◌<◌, ◌≤◌, min, ◌≢◌, List, length, Some, None}
use Rattle.survey.specs.Formats.{Format}
use Rattle.bookfile.specs.declared.fault.FileCause.{FileCause}
use Rattle.bookfile.specs.declared.fault.FileCause.TheVariants.{Short, Lines, Pairs, Length, Line, Value}
use Rattle.bookfile.specs.Faults.{FileFault}
use Rattle.bookfile.specs.Files.{line_count, pair_count, line_place, line_of, value_place, row_of, file_size, file_fault}

-- bs as a file for a book of n lines
module _ {R : Type 0} (f : Format R) (n : ℕ) (bs : List ℕ) where
  pub record RightHead : Type 0 where
    pub room : 4 ≤ length bs
    pub lines : line_count bs ≡ n
    pub pairs : pair_count bs ≤ 4096
    pub whole : length bs ≡ file_size f (pair_count bs)

  pub record RightPair (i : ℕ) : Type 0 where
    pub line : line_of bs i < n
    pub value : f.fault (row_of f (pair_count bs) bs i) ≡ None

  abbrev pub RightBefore : ℕ → Type 0
  RightBefore i = (j : ℕ) → j < i → RightPair j

  abbrev pub RightFile : Type 0
  RightFile = RightHead × RightBefore (pair_count bs)

  -- when the fault with this cause comes at this place; a fault of a pair comes at the first pair that is not right
  abbrev pub Comes : FileCause → ℕ → Type 0
  Comes Short place = (length bs < 4) × (place ≡ length bs)
  Comes Lines place = (4 ≤ length bs) × (line_count bs ≢ n) × (place ≡ 0)
  Comes Pairs place = (4 ≤ length bs) × (line_count bs ≡ n) × (4096 < pair_count bs) × (place ≡ 2)
  Comes Length place =
      (4 ≤ length bs) × (line_count bs ≡ n) × (pair_count bs ≤ 4096) × (length bs ≢ file_size f (pair_count bs))
      × (place ≡ min (length bs) (file_size f (pair_count bs)))
  Comes Line place =
      RightHead × ((i : ℕ) × (i < pair_count bs) × RightBefore i × (n ≤ line_of bs i) × (place ≡ line_place i))
  Comes (Value fault) place =
      RightHead
      × ((i : ℕ) × (i < pair_count bs) × RightBefore i × (line_of bs i < n) × (f.fault (row_of f (pair_count bs) bs i) ≡ Some fault)
      × (place ≡ value_place f (pair_count bs) i))

  -- a file is refused exactly when a fault comes, by that fault, and taken exactly when it is right
  pub record Exactly : Type 0 where
    pub right : file_fault f n bs ≡ None → RightFile
    pub taken : RightFile → file_fault f n bs ≡ None
    pub comes : (e : FileFault) → file_fault f n bs ≡ Some e → Comes e.cause e.place
    pub refused : (e : FileFault) → Comes e.cause e.place → file_fault f n bs ≡ Some e
