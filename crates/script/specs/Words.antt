-- Words by their kind. Assumes nothing.
use Rattle.std.specs.Prelude.{◌≡◌, ℕ, List, Some, None}
use Rattle.script.specs.declared.word.Word.{Word}
use Rattle.script.specs.declared.word.WordKind.{WordKind}
use Rattle.script.specs.declared.word.WordKind.TheVariants.{Letter, Number, Other}
use Rattle.script.specs.Letters.{letter_of}
use Rattle.script.specs.Numbers.{number_of}

-- a kind says what these bytes are
abbrev pub SaysWhatItIs : List ℕ → WordKind → Type 0
SaysWhatItIs bytes (Letter letter) = (letter_of bytes ≡ Some letter) × (number_of bytes ≡ None)
SaysWhatItIs bytes (Number number) = (letter_of bytes ≡ None) × (number_of bytes ≡ Some number)
SaysWhatItIs bytes Other = (letter_of bytes ≡ None) × (number_of bytes ≡ None)

-- the word of these bytes at this place
pub record IsWord (bytes : List ℕ) (place : ℕ) (w : Word) : Type 0 where
  pub borrows : w.bytes.now ≡ bytes
  pub at : w.place ≡ place
  pub kind : SaysWhatItIs w.bytes.now w.kind
