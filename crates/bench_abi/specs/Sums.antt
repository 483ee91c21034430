-- What the benchmark asks of a turn list. Assumes nothing.
use Rattle.std.specs.Prelude.{ℕ, ◌+◌, ◌-◌, ◌%◌, ◌^◌, cond, List, length, Some, None, Ok, Err, Option, Result, nat_le, fold}
use Rattle.calls.specs.declared.call.Call.{Call}
use Rattle.calls.specs.declared.call.Call.TheVariants.{Start, Step, Withdraw, Look}
use Rattle.script.specs.declared.listing.Fault.{Fault}
use Rattle.script.specs.Faults.{most_bytes, fault_number}
use Rattle.script.specs.Turns.{items}

-- the numbers of a call together, or the number of a fault
abbrev pub item_sum : Result Call Fault → ℕ
item_sum (Ok (Start seat o)) = seat + o.kind + o.a + o.b + o.c + o.d
item_sum (Ok (Step seat)) = seat
item_sum (Ok (Withdraw seat)) = seat
item_sum (Ok (Look line)) = line
item_sum (Err fault) = fault_number fault

-- what is added to n, within 64 bits
abbrev pub sum_from : ℕ → List (Result Call Fault) → ℕ
sum_from n items = fold (λ sum item. (sum + item_sum item) % 2 ^ 64) n items

-- all numbers of a list; one that is too long has none
abbrev pub list_sum : List ℕ → ℕ
list_sum bytes = cond (nat_le (length bytes) most_bytes) (sum_from 0 (items bytes)) 0

abbrev pub number_or_none : Option ℕ → ℕ
number_or_none (Some n) = n
number_or_none None = 2 ^ 64 - 1
