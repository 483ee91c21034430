-- The line that a call shows, and how lines and calls belong together. Assumes nothing.
use Rattle.std.specs.Prelude.{◌≡◌, ℕ, ◌^◌, ◌<◌, List, [], ◌∷◌, ◌++◌, map, length, Ok, Err, codes, decimal, Result, ◌≢◌}
use Rattle.calls.specs.declared.call.Call.{Call}
use Rattle.calls.specs.declared.call.Call.TheVariants.{Start, Step, Withdraw, Look}
use Rattle.script.specs.declared.letter.Letter.{Letter}
use Rattle.script.specs.declared.fault.LineCause.{LineCause}
use Rattle.script.specs.declared.fault.LineCause.TheVariants.{UnknownLetter, NotNumber, WordCount}
use Rattle.script.specs.Commands.{line_says}
use Rattle.script.specs.Cuts.{words, ended_by}
use Rattle.script.specs.Letters.{letter_byte, numbers_after}
use Rattle.script.specs.Faults.{LineFault}

-- the line of a call, without its newline
abbrev pub call_bytes : Call → List ℕ
call_bytes (Start seat o) =
    codes "S "
    ++ (decimal seat ++ (codes " " ++ (decimal o.kind ++ (codes " " ++ (decimal o.a ++ (codes " " ++ (decimal o.b ++ (codes " " ++ (decimal o.c ++ (codes " " ++ decimal o.d))))))))))
call_bytes (Step seat) = codes "T " ++ decimal seat
call_bytes (Withdraw seat) = codes "W " ++ decimal seat
call_bytes (Look line) = codes "L " ++ decimal line

-- its numbers, in their order
abbrev pub call_numbers : Call → List ℕ
call_numbers (Start seat o) = seat ∷ o.kind ∷ o.a ∷ o.b ∷ o.c ∷ o.d ∷ []
call_numbers (Step seat) = seat ∷ []
call_numbers (Withdraw seat) = seat ∷ []
call_numbers (Look line) = line ∷ []

-- numbers of 32 bits
abbrev pub Small : List ℕ → Type 0
Small [] = Unit {0}
Small (n ∷ ns) = (n < 2 ^ 32) × Small ns

-- the word of a letter
abbrev pub letter_word : Letter → List ℕ
letter_word l = letter_byte l ∷ []

-- as many words as its letter asks for, and one of them, the first such, is not the decimal writing of a number of 32 bits.
-- The fault's place counts the words before that one, each with its space
pub record FirstNoNumber (line : List ℕ) (place : ℕ) : Type 0 where
  pub letter : Letter
  pub before : List ℕ
  pub word : List ℕ
  pub after : List (List ℕ)
  pub cut_so : words line ≡ letter_word letter ∷ (map decimal before ++ (word ∷ after))
  pub count : length (map decimal before ++ (word ∷ after)) ≡ numbers_after letter
  pub small : Small before
  pub no_number : (n : ℕ) → n < 2 ^ 32 → word ≢ decimal n
  pub at : place ≡ length (ended_by 32 (letter_word letter ∷ map decimal before))

-- what is wrong with a line, and where
abbrev pub Wrong : List ℕ → LineCause → ℕ → Type 0
Wrong line UnknownLetter place = (place ≡ 0) × ((l : Letter) (ws : List (List ℕ)) → words line ≢ letter_word l ∷ ws)
Wrong line WordCount place = (place ≡ length line) × ((l : Letter) × ((ws : List (List ℕ)) × ((words line ≡ letter_word l ∷ ws) × (length ws ≢ numbers_after l))))
Wrong line NotNumber place = FirstNoNumber line place

-- a line is a call of 32-bit numbers exactly if it is what the call shows; else something is wrong with it
abbrev pub Told : List ℕ → Result Call LineFault → Type 0
Told line (Ok c) = Small (call_numbers c) × (line ≡ call_bytes c)
Told line (Err f) = Wrong line f.cause f.place

-- what a call shows is read as the same call
abbrev pub ReadsBack : Type 0
ReadsBack = (c : Call) → Small (call_numbers c) → line_says (call_bytes c) ≡ Ok c
