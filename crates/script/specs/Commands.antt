-- What a line of a turn list says. Assumes nothing.
use Rattle.std.specs.Prelude.{ℕ, ◌+◌, cond, List, [], ◌∷◌, length, Some, None, Ok, Err, Option, Result, ◌==◌, slice_index}
use Rattle.calls.specs.declared.call.Call.{Call}
use Rattle.calls.specs.declared.call.Call.TheVariants as call
use Rattle.script.specs.declared.letter.Letter.{Letter}
use Rattle.script.specs.declared.letter.Letter.TheVariants as letter
use Rattle.script.specs.declared.fault.LineCause.TheVariants.{UnknownLetter, NotNumber, WordCount}
use Rattle.script.specs.Cuts.{words}
use Rattle.script.specs.Faults.{fault_at, LineFault}
use Rattle.script.specs.Letters.{letter_of, numbers_after}
use Rattle.script.specs.Numbers.{number_of}

-- one number in front of others, unless one of those is none
abbrev pub in_front : ℕ → Result (List ℕ) LineFault → Result (List ℕ) LineFault
in_front n (Ok ns) = Ok (n ∷ ns)
in_front n (Err f) = Err f

-- a word at a place, in front of others: the number that it is, if it is one
abbrev pub first_number : ℕ → Option ℕ → Result (List ℕ) LineFault → Result (List ℕ) LineFault
first_number place None others = Err (fault_at place NotNumber)
first_number place (Some n) others = in_front n others

-- words as numbers, from a place of the line on, or the first that is none
abbrev pub numbers_in : ℕ → List (List ℕ) → Result (List ℕ) LineFault
numbers_in place [] = Ok []
numbers_in place (w ∷ ws) = first_number place (number_of w) (numbers_in (place + length w + 1) ws)

-- the call of a letter and its numbers
abbrev pub call_of : Letter → List ℕ → Call
call_of letter.Start ns = call.Start (slice_index ns 0) (record { kind = slice_index ns 1; a = slice_index ns 2; b = slice_index ns 3; c = slice_index ns 4; d = slice_index ns 5 })
call_of letter.Step ns = call.Step (slice_index ns 0)
call_of letter.Withdraw ns = call.Withdraw (slice_index ns 0)
call_of letter.Look ns = call.Look (slice_index ns 0)

-- the same, unless one of the words is no number
abbrev pub called : Letter → Result (List ℕ) LineFault → Result Call LineFault
called l (Ok ns) = Ok (call_of l ns)
called l (Err f) = Err f

-- whether a line has a word for its letter and one for each number after it
abbrev pub counted : List ℕ → Letter → Result (Unit {0}) LineFault
counted line l = cond (length (words line) == numbers_after l + 1) (Ok tt) (Err (fault_at (length line) WordCount))

-- of a line of n bytes: its letter, and the words after it, from a place on. Words are counted before any is weighed
abbrev pub after_letter : ℕ → Option Letter → ℕ → List (List ℕ) → Result Call LineFault
after_letter n None place ws = Err (fault_at 0 UnknownLetter)
after_letter n (Some l) place ws = cond (length ws == numbers_after l) (called l (numbers_in place ws)) (Err (fault_at n WordCount))

-- of a line of n bytes: its words from a place on, the letter first
abbrev pub from_letter : ℕ → ℕ → List (List ℕ) → Result Call LineFault
from_letter n place [] = Err (fault_at 0 UnknownLetter)
from_letter n place (w ∷ ws) = after_letter n (letter_of w) (place + length w + 1) ws

-- the call that a line is, or what is wrong with it first, and where
unfoldable pub line_says : List ℕ → Result Call LineFault
line_says line = from_letter (length line) 0 (words line)
