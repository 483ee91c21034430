-- The bytes of the lines of a listing. Assumes nothing.
use Rattle.std.specs.Prelude.{ℕ, List, [], ◌∷◌, ◌++◌, Some, codes, decimal, Option}
use Rattle.std.specs.Option.{option_map}
use Rattle.calls.specs.declared.answer.Answer.{Answer}
use Rattle.calls.specs.declared.answer.Answer.TheVariants.{Read, Write, End, Back}
use Rattle.calls.specs.Refusals.{refusal_number}
use Rattle.script.specs.declared.listing.Fault.{Fault}
use Rattle.script.specs.declared.listing.FaultLine.{FaultLine}
use Rattle.script.specs.declared.listing.ListingLine.{ListingLine}
use Rattle.script.specs.declared.listing.ListingLine.TheVariants as sort
use Rattle.script.specs.Faults.{as_listed}
use Rattle.script.specs.Letters.{letter_byte}

-- a line of the book that was looked at, whose value shows as these bytes
abbrev pub look_line : ℕ → List ℕ → List ℕ
look_line line value = codes "L " ++ (decimal line ++ (codes " " ++ (value ++ codes "\n")))

-- what was wrong with the input: in which line of it, or 0 for the whole; which fault, where, and the fault of a value that caused it, or 0
abbrev pub numbers_line : FaultLine → List ℕ
numbers_line l =
    codes "! " ++ (decimal l.line ++ (codes " " ++ (decimal l.number ++ (codes " " ++ (decimal l.place ++ (codes " " ++ (decimal l.cause ++ codes "\n")))))))

abbrev pub fault_line : Fault → List ℕ
fault_line f = numbers_line (as_listed f)

-- what a step answered
abbrev pub answer_bytes : Answer → List ℕ
answer_bytes (Read line) = codes "read " ++ decimal line
answer_bytes (Write line) = codes "write " ++ decimal line
answer_bytes (End ending) = codes "end " ++ (decimal ending.code ++ (codes " " ++ decimal ending.number))
answer_bytes (Back kept) = codes "back " ++ decimal kept

-- one line of a listing, of whatever sort, with its newline; `show` says how a looked-at value shows
abbrev pub listing_line : {V : Type 0} → (V → Option (List ℕ)) → ListingLine V → Option (List ℕ)
listing_line show (sort.Started seat) = Some (codes "S " ++ (decimal seat ++ codes " ok\n"))
listing_line show (sort.Stepped seat answer) = Some (codes "T " ++ (decimal seat ++ (codes " " ++ (answer_bytes answer ++ codes "\n"))))
listing_line show (sort.Withdrawn seat) = Some (codes "W " ++ (decimal seat ++ codes " ok\n"))
listing_line show (sort.Looked look) = option_map (look_line look.line) (show look.value)
listing_line show (sort.Refused letter number refusal) =
    Some ((letter_byte letter ∷ []) ++ (codes " " ++ (decimal number ++ (codes " refused " ++ (decimal (refusal_number refusal) ++ codes "\n")))))
listing_line show (sort.Faulty fault) = Some (fault_line fault)
listing_line show (sort.Noted line) = Some (numbers_line line)
