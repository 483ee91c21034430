-- How the words to come make a call. Assumes nothing.
use Rattle.std.specs.Prelude.{◌≡◌, ℕ, ◌+◌, List, length, Some, Ok, Err, Result}
use Rattle.script.specs.declared.letter.Letter.{Letter}
use Rattle.script.specs.declared.words.Words.{Words}
use Rattle.script.specs.Commands.{in_front, numbers_in, after_letter, from_letter}
use Rattle.script.specs.Parts.{words_left}
use Rattle.script.specs.Faults.{LineFault}

-- the words to come, as numbers
abbrev pub numbers_left : Words → Result (List ℕ) LineFault
numbers_left r = numbers_in r.reader.place (words_left r)

-- one word is read
abbrev pub OneLess : Words → Words → Type 0
OneLess r s = length (words_left r) ≡ length (words_left s) + 1

-- a number, and then the other numbers are to come; or no number is
abbrev pub NextNumber : Words → Words → Result ℕ LineFault → Type 0
NextNumber r s (Ok n) = (numbers_left r ≡ in_front n (numbers_left s)) × OneLess r s
NextNumber r s (Err f) = numbers_left r ≡ Err f

-- the letter, and then what comes after it is to come, whatever the line's length; or there is no letter
abbrev pub FirstLetter : Words → Words → Result Letter LineFault → Type 0
FirstLetter r s (Ok l) = ((n : ℕ) → from_letter n r.reader.place (words_left r) ≡ after_letter n (Some l) s.reader.place (words_left s)) × OneLess r s
FirstLetter r s (Err f) = (n : ℕ) → from_letter n r.reader.place (words_left r) ≡ Err f
