-- A whole turn list. Assumes nothing.
use Rattle.std.specs.Prelude.{◌≡◌, ℕ, ◌<◌, ◌≤◌, List, length, Ok, Err, Result}
use Rattle.script.specs.declared.fault.ListFault.{ListFault}
use Rattle.script.specs.declared.fault.ListFault.TheVariants.{TooLong}
use Rattle.script.specs.declared.list.TurnList.{TurnList}
use Rattle.script.specs.Faults.{most_bytes}

-- a list that is not too long, as it was handed in
abbrev pub Admitted : List ℕ → Result TurnList ListFault → Type 0
Admitted bytes (Ok list) = (length bytes ≤ most_bytes) × (list.bytes.now ≡ bytes)
Admitted bytes (Err f) = (most_bytes < length bytes) × (f ≡ TooLong)
