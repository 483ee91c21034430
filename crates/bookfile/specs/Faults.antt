-- The numbers of the faults of a book file.
use Rattle.std.specs.Prelude.{ℕ, Some, None, Ok, Err, Option, Result}
use Rattle.survey.specs.declared.fault.ValueFault.{ValueFault}
use Rattle.bookfile.specs.declared.fault.FileCause.{FileCause}
use Rattle.bookfile.specs.declared.fault.FileCause.TheVariants.{Short, Lines, Pairs, Length, Line, Value}
use Rattle.bookfile.specs.declared.fault.Placed.{Placed}
use Rattle.bookfile.specs.declared.save.SaveRefusal.{SaveRefusal}
use Rattle.bookfile.specs.declared.save.SaveRefusal.TheVariants.{ShortOutput}

-- what is wrong with a file, and at which of its bytes
abbrev pub FileFault : Type 0
FileFault = Placed FileCause

abbrev pub number : FileCause → ℕ
number Short = 31
number Lines = 32
number Pairs = 32
number Length = 33
number Line = 34
number (Value fault) = 35

-- the value's own fault, where one is the cause
abbrev pub inner : FileCause → Option ValueFault
inner Short = None
inner Lines = None
inner Pairs = None
inner Length = None
inner Line = None
inner (Value fault) = Some fault

-- an answer with the place at which it went wrong
abbrev pub at : {T C : Type 0} → ℕ → Result T C → Result T (Placed C)
at place (Ok found) = Ok found
at place (Err cause) = Err (record { place = place; cause = cause })

-- the number of the refusal to save
abbrev pub save_number : SaveRefusal → ℕ
save_number ShortOutput = 36
