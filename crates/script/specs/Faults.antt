-- What can be wrong with a turn list, and what is listed of any fault. Assumes nothing.
use Rattle.std.specs.Prelude.{ℕ, Bool, ◌==◌, Some, None, Option, unwrap_or}
use Rattle.std.specs.Option.{option_map_or}
use Rattle.std.specs.Ordering.{on, eq_of_both}
use Rattle.survey.specs.Faults as value
use Rattle.survey.specs.declared.fault.ValueFault.{ValueFault}
use Rattle.bookfile.specs.Faults as file
use Rattle.script.specs.declared.fault.LineCause.{LineCause}
use Rattle.script.specs.declared.fault.LineCause.TheVariants.{UnknownLetter, NotNumber, WordCount}
use Rattle.bookfile.specs.declared.fault.Placed.{Placed}
use Rattle.script.specs.declared.fault.ListFault.{ListFault}
use Rattle.script.specs.declared.fault.ListFault.TheVariants.{TooLong}
use Rattle.script.specs.declared.listing.Fault.{Fault}
use Rattle.script.specs.declared.listing.Fault.TheVariants as fault
use Rattle.script.specs.declared.listing.FaultLine.{FaultLine}

-- the numbers that users see
abbrev pub line_cause_number : LineCause → ℕ
line_cause_number UnknownLetter = 21
line_cause_number NotNumber = 22
line_cause_number WordCount = 23

abbrev pub list_fault_number : ListFault → ℕ
list_fault_number TooLong = 24

-- the bytes that a turn list may have at most
abbrev pub most_bytes : ℕ
most_bytes = 60000

-- what is wrong with a line, and at which of its bytes
abbrev pub LineFault : Type 0
LineFault = Placed LineCause

-- a fault at a place of its line
abbrev pub fault_at : ℕ → LineCause → LineFault
fault_at p c = record { place = p; cause = c }

-- the line that a fault is in, unless the whole input is at fault
abbrev pub faulty_line : Fault → Option ℕ
faulty_line (fault.File f) = None
faulty_line (fault.List f) = None
faulty_line (fault.Line n f) = Some n

abbrev pub fault_number : Fault → ℕ
fault_number (fault.File f) = file.number f.cause
fault_number (fault.List f) = list_fault_number f
fault_number (fault.Line n f) = line_cause_number f.cause

-- a list's fault stands where the list should have ended
abbrev pub fault_place : Fault → ℕ
fault_place (fault.File f) = f.place
fault_place (fault.List TooLong) = most_bytes
fault_place (fault.Line n f) = f.place

-- the fault of a value, where one is the cause
abbrev pub fault_cause : Fault → Option ValueFault
fault_cause (fault.File f) = file.inner f.cause
fault_cause (fault.List f) = None
fault_cause (fault.Line n f) = None

-- a fault as a listing shows it: a line or 0, a number, a place, and the number of what caused it or 0
abbrev pub as_listed : Fault → FaultLine
as_listed f = record { line = unwrap_or (faulty_line f) 0; number = fault_number f; place = fault_place f; cause = option_map_or value.number (fault_cause f) 0 }

-- whether two faults show the same four numbers
abbrev pub same_numbers : FaultLine → FaultLine → Bool
same_numbers = eq_of_both (on (λ l. l.line) ◌==◌) (eq_of_both (on (λ l. l.number) ◌==◌) (eq_of_both (on (λ l. l.place) ◌==◌) (on (λ l. l.cause) ◌==◌)))
