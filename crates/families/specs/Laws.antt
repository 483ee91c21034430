-- What an entry, a transfer and a count do when they are done alone, in the words of the survey.
use Rattle.std.specs.Prelude.{◌≡◌, ℕ, ◌+◌, ◌-◌, ◌<◌, ◌≤◌, ◌≢◌, ◌⊎◌, List, length, take, sum_by, Some, None, slice_set}
use Rattle.std.specs.List.{slice_get}
use Rattle.survey.specs.declared.fault.ValueFault.{ValueFault}
use Rattle.survey.specs.declared.leg.LegRow.{LegRow}
use Rattle.survey.specs.declared.metres.MetresRow.{MetresRow}
use Rattle.survey.specs.Faults.{number}
use Rattle.survey.specs.Formats.{or_blank}
use Rattle.survey.specs.Legs.{leg_fault, leg_format, closed_row}
use Rattle.survey.specs.Ropes.{metres_row}
use Rattle.calls.specs.declared.ending.Ending.{Ending}
use Rattle.calls.specs.declared.order.Order.{Order}
use Rattle.jobs.specs.Alone.{Ends, ends_with}
use Rattle.jobs.specs.Meanings.{Meaning}
use Rattle.families.specs.Entries.{entry, asked_leg}
use Rattle.families.specs.Transfers.{transfer, metres_of}
use Rattle.families.specs.Counts.{count}

-- an order of the family, done alone on some values, ends so and leaves other values exactly where the relation says so
pub record Exactly {V S : Type 0} (m : Meaning V S) (Does : Order → List V → Ending → List V → Type 0) : Type 0 where
  pub only : (o : Order) (values : List V) (ending : Ending) (after : List V) → Ends m o values ending after → Does o values ending after
  pub always : (o : Order) (values : List V) (ending : Ending) (after : List V) → Does o values ending after → Ends m o values ending after

-- the leg asked for stands on its line; or it is impossible; or the leg of a line is closed; every other line is as it was
pub data Entered (o : Order) (values : List LegRow) : Ending → List LegRow → Type 0 where
  enters : o.kind ≡ 0 → leg_fault (asked_leg o) ≡ None → o.a < length values → Entered o values (ends_with 0 0) (slice_set values o.a (asked_leg o))
  impossible : (fault : ValueFault) → o.kind ≡ 0 → leg_fault (asked_leg o) ≡ Some fault → Entered o values (ends_with 9 (number fault)) values
  closes : (row : LegRow) → o.kind ≡ 1 → slice_get values o.a ≡ Some row → Entered o values (ends_with 0 0) (slice_set values o.a (closed_row (or_blank leg_format row)))
  unknown : 1 < o.kind → Entered o values (ends_with 9 0) values

abbrev pub EntriesAreRight : Type 0
EntriesAreRight = Exactly entry Entered

-- the metres of all lines together
abbrev pub total : List MetresRow → ℕ
total rows = sum_by metres_of rows

-- the rows of two lines, of which c metres are to go from the first to the second
pub record Between (o : Order) (values : List MetresRow) (held there : MetresRow) : Type 0 where
  pub kind : o.kind ≡ 0
  pub apart : o.a ≢ o.b
  pub from : slice_get values o.a ≡ Some held
  pub to : slice_get values o.b ≡ Some there

-- c metres go from line a to line b; or a holds too few; or b would have too many; or the order is bad
pub data Transferred (o : Order) (values : List MetresRow) : Ending → List MetresRow → Type 0 where
  moves : (held there : MetresRow) → Between o values held there → o.c ≤ metres_of held → metres_of there + o.c ≤ 1000000
      → Transferred o values (ends_with 0 0) (slice_set (slice_set values o.a (metres_row (metres_of held - o.c))) o.b (metres_row (metres_of there + o.c)))
  too_few : (held there : MetresRow) → Between o values held there → metres_of held < o.c → Transferred o values (ends_with 1 0) values
  too_many : (held there : MetresRow) → Between o values held there → o.c ≤ metres_of held → 1000000 < metres_of there + o.c → Transferred o values (ends_with 2 0) values
  bad : (o.kind ≢ 0) ⊎ (o.a ≡ o.b) → Transferred o values (ends_with 9 0) values

-- and whatever it did, the metres of all lines add up to what they were
pub record TransfersAreRight : Type 0 where
  pub exactly : Exactly transfer Transferred
  pub total_stays : (o : Order) (values : List MetresRow) (ending : Ending) (after : List MetresRow) → Ends transfer o values ending after → total after ≡ total values

-- the sum of the lines below a, or a bad order; no line is changed
pub data Counted (o : Order) (values : List MetresRow) : Ending → List MetresRow → Type 0 where
  counts : o.kind ≡ 0 → o.a ≤ 64 → o.a ≤ length values → Counted o values (ends_with 0 (total (take o.a values))) values
  bad_count : (o.kind ≢ 0) ⊎ (64 < o.a) → Counted o values (ends_with 9 0) values

abbrev pub CountsAreRight : Type 0
CountsAreRight = Exactly count Counted
