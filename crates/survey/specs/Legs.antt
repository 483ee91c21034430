-- Legs: their ranges, their seven bytes and their text.
use Rattle.std.specs.Prelude.{ℕ, Bool, cond, ◌&&◌, ◌||◌, List, ◌∷◌, ◌++◌, Some, None, codes, decimal, Option, ◌==◌, nat_le, slice_index}
use Rattle.survey.specs.declared.fault.ValueFault.{ValueFault}
use Rattle.survey.specs.declared.fault.ValueFault.TheVariants.{Station, Length, Passage}
use Rattle.survey.specs.declared.leg.LegRow.{LegRow}
use Rattle.survey.specs.Bytes.{four, four_bytes}
use Rattle.survey.specs.Formats.{Format, or_blank}

abbrev pub leg_row : ℕ → ℕ → ℕ → ℕ → LegRow
leg_row from to passage length = record { from = from; to = to; passage = passage; length = length }

-- the same leg, closed
abbrev pub closed_row : LegRow → LegRow
closed_row r = leg_row r.from r.to 0 r.length

-- stations go to 15, then the length from 1 to 10,000,000, then the passage is 0 or 1
abbrev pub leg_fault : LegRow → Option ValueFault
leg_fault r =
    cond (nat_le r.from 15 && nat_le r.to 15) (cond (nat_le 1 r.length && nat_le r.length 10000000) (cond (nat_le r.passage 1) None (Some Passage)) (Some Length)) (Some Station)

-- from, to, passage, and four bytes of length
abbrev pub leg_at : List ℕ → LegRow
leg_at bs = leg_row (slice_index bs 0) (slice_index bs 1) (slice_index bs 2) (four 3 bs)

abbrev pub leg_bytes : LegRow → List ℕ
leg_bytes r = r.from ∷ r.to ∷ r.passage ∷ four_bytes r.length

-- from, to, passage and length, with a space between
abbrev pub leg_text : LegRow → List ℕ
leg_text r = decimal r.from ++ (codes " " ++ (decimal r.to ++ (codes " " ++ (decimal r.passage ++ (codes " " ++ decimal r.length)))))

abbrev pub leg_format : Format LegRow
leg_format =
    record {
      width = 7;
      blank = leg_row 0 0 0 1;
      fault = leg_fault;
      decoded = leg_at;
      encoded = leg_bytes;
      text = leg_text;
    }

-- the row of the leg that a row counts as
abbrev pub as_leg : LegRow → LegRow
as_leg r = or_blank leg_format r

-- whether a leg leads from station u to station v: it is open, and is walked either way
abbrev pub leads : LegRow → ℕ → ℕ → Bool
leads leg u v = leg.passage == 1 && ((leg.from == u && leg.to == v) || (leg.to == u && leg.from == v))
