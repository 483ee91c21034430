-- The letters of the four commands. Assumes nothing.
use Rattle.std.specs.Prelude.{◌≡◌, ℕ, cond, List, [], ◌∷◌, Some, None, Ok, Err, Option, Result, ◌==◌}
use Rattle.script.specs.declared.fault.LineCause.{LineCause}
use Rattle.script.specs.declared.fault.LineCause.TheVariants.{UnknownLetter}
use Rattle.script.specs.declared.letter.Letter.{Letter}
use Rattle.script.specs.declared.letter.Letter.TheVariants.{Start, Step, Withdraw, Look}

-- S, T, W and L
abbrev pub letter_byte : Letter → ℕ
letter_byte Start = 83
letter_byte Step = 84
letter_byte Withdraw = 87
letter_byte Look = 76

-- the letter that a byte is
abbrev pub letter_named : ℕ → Option Letter
letter_named b =
    cond (b == 83) (Some Start) (cond (b == 84) (Some Step) (cond (b == 87) (Some Withdraw) (cond (b == 76) (Some Look) None)))

-- the letter that a word is: a word of one byte
abbrev pub letter_of : List ℕ → Option Letter
letter_of [] = None
letter_of (b ∷ []) = letter_named b
letter_of (b ∷ c ∷ bs) = None

-- the letter that a word is, or that it is none
abbrev pub IsLetter : List ℕ → Result Letter LineCause → Type 0
IsLetter word (Ok letter) = letter_of word ≡ Some letter
IsLetter word (Err cause) = (letter_of word ≡ None) × (cause ≡ UnknownLetter)

-- how many numbers follow the letter
abbrev pub numbers_after : Letter → ℕ
numbers_after Start = 6
numbers_after Step = 1
numbers_after Withdraw = 1
numbers_after Look = 1
