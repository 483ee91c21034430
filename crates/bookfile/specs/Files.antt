-- The layout of a book file, and the first fault of some bytes that should be one.
use Rattle.std.specs.Prelude.{◌≡◌, ℕ, zero, suc, ◌+◌, ◌-◌, ◌*◌, min, Bool, true, false, cond, not, List, [], ◌∷◌, length, drop, Some, None, Ok, Err, Option, Result, ◌==◌, nat_le, nat_lt}
use Rattle.std.specs.Option.{option_or}
use Rattle.survey.specs.declared.fault.ValueFault.{ValueFault}
use Rattle.survey.specs.Bytes.{two}
use Rattle.survey.specs.Formats.{Format}
use Rattle.bookfile.specs.declared.fault.FileCause.{FileCause}
use Rattle.bookfile.specs.declared.fault.FileCause.TheVariants.{Short, Lines, Pairs, Length, Line, Value}
use Rattle.bookfile.specs.declared.pair.Pair.{Pair}
use Rattle.bookfile.specs.Faults.{FileFault}

-- n, then m: two bytes each
abbrev pub line_count : List ℕ → ℕ
line_count bs = two bs

abbrev pub pair_count : List ℕ → ℕ
pair_count bs = two (drop 2 bs)

-- the lines that a file states, at most 1,024; none where the number is not there
abbrev pub stated_lines : List ℕ → ℕ
stated_lines bs = cond (nat_lt (length bs) 2) 0 (min (line_count bs) 1024)

-- pair i: its line number
abbrev pub line_place : ℕ → ℕ
line_place i = 4 + 2 * i

abbrev pub line_of : List ℕ → ℕ → ℕ
line_of bs i = two (drop (line_place i) bs)

abbrev pub fault_at : ℕ → FileCause → Option FileFault
fault_at place cause = Some (record { place = place; cause = cause })

abbrev pub value_fault : ℕ → Option ValueFault → Option FileFault
value_fault place None = None
value_fault place (Some fault) = fault_at place (Value fault)

abbrev pub fault_where : Bool → ℕ → FileCause → Option FileFault
fault_where true place cause = fault_at place cause
fault_where false place cause = None

-- the first fault of several checks
abbrev pub first_of : {F : Type 0} → List (Option F) → Option F
first_of [] = None
first_of (check ∷ checks) = option_or check (first_of checks)

module _ {R : Type 0} (f : Format R) where
  -- the values begin behind the m line numbers
  abbrev pub value_place : ℕ → ℕ → ℕ
  value_place m i = 4 + 2 * m + f.width * i

  abbrev pub file_size : ℕ → ℕ
  file_size m = 4 + 2 * m + f.width * m

  abbrev pub row_of : ℕ → List ℕ → ℕ → R
  row_of m bs i = f.decoded (drop (value_place m i) bs)

  -- pair i: where its line number and its value stand, and what they are
  abbrev pub pair_of : ℕ → List ℕ → ℕ → Pair R
  pair_of m bs i = record { line_place = line_place i; value_place = value_place m i; line = line_of bs i; row = row_of m bs i }

  -- k pairs, from pair i on
  unfoldable pub pairs_from : ℕ → List ℕ → ℕ → ℕ → List (Pair R)
  pairs_from m bs i zero = []
  pairs_from m bs i (suc k) = pair_of m bs i ∷ pairs_from m bs (i + 1) k

  -- those from pair i up to pair e
  abbrev pub pairs_between : ℕ → List ℕ → ℕ → ℕ → List (Pair R)
  pairs_between m bs i e = pairs_from m bs i (e - i)

  -- first the line of a pair, then its value
  abbrev pub fault_of : ℕ → Pair R → Option FileFault
  fault_of n pair =
      first_of (fault_where (nat_le n pair.line) pair.line_place Line ∷ value_fault pair.value_place (f.fault pair.row) ∷ [])

  abbrev pub pair_fault : ℕ → ℕ → List ℕ → ℕ → Option FileFault
  pair_fault n m bs i = fault_of n (pair_of m bs i)

  -- the first fault of k pairs, from pair i on
  unfoldable pub pairs_fault : ℕ → ℕ → List ℕ → ℕ → ℕ → Option FileFault
  pairs_fault n m bs i zero = None
  pairs_fault n m bs i (suc k) = option_or (pair_fault n m bs i) (pairs_fault n m bs (i + 1) k)

  -- the first fault of bs before its pairs: too few bytes, then n, then m, then the length
  abbrev pub head_fault : ℕ → List ℕ → Option FileFault
  head_fault n bs =
      first_of
      (fault_where (nat_lt (length bs) 4) (length bs) Short
      ∷ fault_where (not (line_count bs == n)) 0 Lines
      ∷ fault_where (nat_lt 4096 (pair_count bs)) 2 Pairs
      ∷ fault_where (not (length bs == file_size (pair_count bs))) (min (length bs) (file_size (pair_count bs))) Length
      ∷ [])

  -- the first fault of bs as a file for a book of n lines
  abbrev pub file_fault : ℕ → List ℕ → Option FileFault
  file_fault n bs = option_or (head_fault n bs) (pairs_fault n (pair_count bs) bs 0 (pair_count bs))

-- an answer that tells whether there is a fault, and which
abbrev pub Tells : {T : Type 0} → Option FileFault → Result T FileFault → Type 0
Tells fault (Ok x) = fault ≡ None
Tells fault (Err e) = fault ≡ Some e

abbrev pub TellsCause : Option ValueFault → Result (Unit {0}) FileCause → Type 0
TellsCause fault (Ok x) = fault ≡ None
TellsCause fault (Err cause) = (e : ValueFault) × (fault ≡ Some e) × (cause ≡ Value e)
