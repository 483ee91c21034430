-- A kind of value by its rows: which rows are values, how a row lies in bytes, and how its value is printed.
use Rattle.std.specs.Prelude.{◌≡◌, ℕ, ◌<◌, ◌≤◌, List, ◌++◌, length, Some, None, Ok, Err, Option, Result}
use Rattle.std.specs.Borrow.{Bor}
use Rattle.std.specs.List.{between}
use Rattle.survey.specs.declared.fault.ValueFault.{ValueFault}

pub record Format (R : Type 0) : Type 0 where
  -- how many bytes a row takes
  pub width : ℕ
  -- the row that stands for any row outside the ranges
  pub blank : R
  -- the first range that a row breaks, if it breaks one
  pub fault : R → Option ValueFault
  -- the row at the front of some bytes, and the bytes of a row
  pub decoded : List ℕ → R
  pub encoded : R → List ℕ
  -- how the value of a row is printed
  pub text : R → List ℕ

-- what every format keeps: the blank is a value, and what was encoded decodes to the same value
pub record Sound {R : Type 0} (f : Format R) : Type 0 where
  pub narrow : f.width ≤ 8
  pub blank_is_value : f.fault f.blank ≡ None
  pub wide : (row : R) → length (f.encoded row) ≡ f.width
  pub reads_back : (row : R) (rest : List ℕ) → f.fault row ≡ None → f.decoded (f.encoded row ++ rest) ≡ row

abbrev pub unless : {R : Type 0} → Option ValueFault → R → R → R
unless None row blank = row
unless (Some e) row blank = blank

-- the row that counts where a value is asked for
abbrev pub or_blank : {R : Type 0} → Format R → R → R
or_blank f row = unless (f.fault row) row f.blank

-- what the check of a row answers, where plain gives the row of a value
abbrev pub Checks : {R V : Type 0} → Format R → (V → R) → R → Result V ValueFault → Type 0
Checks f plain row (Ok v) = (f.fault row ≡ None) × (plain v ≡ row)
Checks f plain row (Err e) = f.fault row ≡ Some e

-- the row at the front of bs and what follows it, or nothing where bs is too short
abbrev pub Decodes : {R : Type 0} → Format R → List ℕ → Option (R × Bor (List ℕ)) → Type 0
Decodes f bs (Some p) = (f.width ≤ length bs) × (p.0 ≡ f.decoded bs) × (p.1.now ≡ between f.width (length bs) bs)
Decodes f bs None = length bs < f.width
