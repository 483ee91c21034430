-- A turn list as the calls and faults of its lines. Assumes nothing.
use Rattle.std.specs.Prelude.{◌≡◌, ℕ, ◌+◌, ◌<◌, ◌≤◌, List, [], ◌∷◌, length, Ok, Err, Result}
use Rattle.calls.specs.declared.call.Call.{Call}
use Rattle.script.specs.declared.fault.ListFault.{ListFault}
use Rattle.script.specs.declared.fault.ListFault.TheVariants.{TooLong}
use Rattle.script.specs.declared.listing.Fault.{Fault}
use Rattle.script.specs.declared.listing.Fault.TheVariants.{Line}
use Rattle.script.specs.declared.turns.Turns.{Turns}
use Rattle.script.specs.Commands.{line_says}
use Rattle.script.specs.Cuts.{lines_of, LinesOfBytes}
use Rattle.script.specs.Faults.{most_bytes, LineFault}
use Rattle.script.specs.Parts.{lines_left}

-- a call, or a fault that names its line
abbrev pub numbered : ℕ → Result Call LineFault → Result Call Fault
numbered n (Ok c) = Ok c
numbered n (Err f) = Err (Line n f)

-- lines with their numbers, from n on
abbrev pub items_from : ℕ → List (List ℕ) → List (Result Call Fault)
items_from n [] = []
items_from n (line ∷ lines) = numbered n (line_says line) ∷ items_from (n + 1) lines

-- what a turn list says: each line a call or a fault, the lines numbered from 1
abbrev pub items : List ℕ → List (Result Call Fault)
items bytes = items_from 1 (lines_of bytes)

-- what is still to come of a list
abbrev pub items_left : Turns → List (Result Call Fault)
items_left t = items_from (t.count + 1) (lines_left t.lines)

-- the turns of a list that is not too long, none of it read, and whose lines are its bytes
abbrev pub Admitted : List ℕ → Result Turns ListFault → Type 0
Admitted bytes (Ok turns) = (length bytes ≤ most_bytes) × (items_left turns ≡ items bytes) × LinesOfBytes bytes (lines_of bytes)
Admitted bytes (Err f) = (most_bytes < length bytes) × (f ≡ TooLong)
