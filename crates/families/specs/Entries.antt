-- Entering and closing legs.
use Rattle.std.specs.Prelude.{ℕ, cond, Some, None, Option, Ok, Err, Result, ◌==◌}
use Rattle.survey.specs.declared.fault.ValueFault.{ValueFault}
use Rattle.survey.specs.declared.leg.LegRow.{LegRow}
use Rattle.survey.specs.Faults.{number}
use Rattle.survey.specs.Formats.{or_blank}
use Rattle.survey.specs.Legs.{leg_row, leg_fault, leg_format, closed_row}
use Rattle.calls.specs.Endings.{bad_ending}
use Rattle.calls.specs.declared.ending.Ending.{Ending}
use Rattle.calls.specs.declared.order.Order.{Order}
use Rattle.jobs.specs.declared.request.Request.{Request}
use Rattle.jobs.specs.declared.request.Request.TheVariants as request
use Rattle.jobs.specs.Alone.{ends_with}
use Rattle.jobs.specs.Meanings.{Meaning}
use Rattle.families.specs.declared.entry.EntryRefusal.{EntryRefusal}
use Rattle.families.specs.declared.entry.EntryRefusal.TheVariants.{Impossible, BadOrder}
use Rattle.families.specs.declared.entry.EntryState.{EntryState}
use Rattle.families.specs.declared.entry.EntryState.TheVariants.{Closing, Writing, Written}

-- what an entry goes on with, or why nothing is entered
abbrev pub Entering : Type 0
Entering = Result EntryState EntryRefusal

-- the open leg that an order of kind 0 enters
abbrev pub asked_leg : Order → LegRow
asked_leg o = leg_row o.b o.c 1 o.d

abbrev pub unless_impossible : ℕ → LegRow → Option ValueFault → Entering
unless_impossible line row None = Ok (Writing line row)
unless_impossible line row (Some fault) = Err (Impossible fault)

abbrev pub entry_first : Order → Entering
entry_first o =
    cond (o.kind == 0) (unless_impossible o.a (asked_leg o) (leg_fault (asked_leg o))) (cond (o.kind == 1) (Ok (Closing o.a)) (Err BadOrder))

-- what users see of a refusal
abbrev pub refused : EntryRefusal → Ending
refused (Impossible fault) = ends_with 9 (number fault)
refused BadOrder = bad_ending

abbrev pub entry_request : Entering → Request LegRow
entry_request (Ok (Closing line)) = request.Read line
entry_request (Ok (Writing line row)) = request.Write line row
entry_request (Ok Written) = request.End (ends_with 0 0)
entry_request (Err refusal) = request.End (refused refusal)

abbrev pub entry_read : Entering → LegRow → Entering
entry_read (Ok (Closing line)) row = Ok (Writing line (closed_row (or_blank leg_format row)))
entry_read (Ok (Writing line new)) row = Ok (Writing line new)
entry_read (Ok Written) row = Ok Written
entry_read (Err refusal) row = Err refusal

abbrev pub entry_written : Entering → Entering
entry_written (Ok (Closing line)) = Ok (Closing line)
entry_written (Ok (Writing line row)) = Ok Written
entry_written (Ok Written) = Ok Written
entry_written (Err refusal) = Err refusal

abbrev pub entry : Meaning LegRow Entering
entry = record { first = entry_first; request = entry_request; after_read = entry_read; after_write = entry_written }
