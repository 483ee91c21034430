-- What is known of the leg that any row counts as. A search of legs rests on these facts alone, and not on what the ranges and the rule of leading are.
use Rattle.std.proofs.Common.{◌≡◌, ℕ, ◌<◌, ◌≤◌, Bool, true, false, cond, ◌&&◌, ◌||◌, eqb, leb, ◌⊎◌, Some, None, sym, refl, inl, inr, arith}
use Rattle.std.proofs.lemmas.Bool.{leb-true, eqb-true, and_parts, or_cases}
use Rattle.survey.specs.declared.fault.ValueFault.TheVariants.{Station, Length, Passage}
use Rattle.survey.specs.declared.leg.LegRow.{LegRow}
use Rattle.survey.specs.Formats.{unless}
use Rattle.survey.specs.Legs.{leg_row, as_leg, leads}

-- the ranges of a leg, as far as a search needs them
pub record InRange (leg : LegRow) : Type 0 where
  pub from_low : leg.from < 16
  pub to_low : leg.to < 16
  pub short : leg.length ≤ 10000000

blank_in_range : InRange (leg_row 0 0 0 1)
blank_in_range = record { from_low = omega arith; to_low = omega arith; short = omega arith }

-- by the five tests of a row
ranged : (r : LegRow) (s t u v w : Bool) → leb r.from 15 ≡ s → leb r.to 15 ≡ t → leb r.length 10000000 ≡ v
    → InRange (unless (cond (s && t) (cond (u && v) (cond w None (Some Passage)) (Some Length)) (Some Station)) r (leg_row 0 0 0 1))
ranged r true true true true true e f g =
    record { from_low = omega (arith, leb-true _ _ e); to_low = omega (arith, leb-true _ _ f); short = leb-true _ _ g }
ranged r true true true true false e f g = blank_in_range
ranged r true true true false w e f g = blank_in_range
ranged r true true false v w e f g = blank_in_range
ranged r true false u v w e f g = blank_in_range
ranged r false t u v w e f g = blank_in_range

pub in_range : (r : LegRow) → InRange (as_leg r)
in_range r = ranged r (leb r.from 15) (leb r.to 15) (leb 1 r.length) (leb r.length 10000000) (leb r.passage 1) refl refl refl

-- a leg leads to one of its ends
pub leads_to_end : (leg : LegRow) (u v : ℕ) → leads leg u v ≡ true → (v ≡ leg.to) ⊎ (v ≡ leg.from)
leads_to_end leg u v h =
    let forth = eqb leg.from u && eqb leg.to v in
    let back = eqb leg.to u && eqb leg.from v in
    elim (or_cases forth back (and_parts (eqb leg.passage 1) (forth || back) h).1) [
      | inl e ↦ inl (sym (eqb-true leg.to v (and_parts (eqb leg.from u) (eqb leg.to v) e).1))
      | inr e ↦ inr (sym (eqb-true leg.from v (and_parts (eqb leg.to u) (eqb leg.from v) e).1))
    ]
