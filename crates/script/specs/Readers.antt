-- What a reader is still to read. Assumes nothing.
use Rattle.std.specs.Prelude.{◌≡◌, ℕ, ◌+◌, cond, List, [], ◌∷◌, length, drop, Some, None, Option, nat_le}
use Rattle.std.specs.Borrow.{Bor}
use Rattle.script.specs.declared.reader.Reader.{Reader}
use Rattle.script.specs.declared.word.Word.{Word}
use Rattle.script.specs.Cuts.{words, lines_of}
use Rattle.script.specs.Words.{IsWord}

-- all the bytes, read or not
abbrev pub text : Reader → List ℕ
text r = r.bytes.now

-- the bytes to come
abbrev pub left : Reader → List ℕ
left r = drop r.place (text r)

-- the lines to come
abbrev pub lines_left : Reader → List (List ℕ)
lines_left r = lines_of (left r)

-- the words from a place of a line on: behind the last byte an empty one, and none behind that
unfoldable pub words_from : ℕ → List ℕ → List (List ℕ)
words_from place line = cond (nat_le place (length line)) (words (drop place line)) []

-- the words to come
abbrev pub words_left : Reader → List (List ℕ)
words_left r = words_from r.place (text r)

-- s is r past a part of n bytes and its separator
pub record Past (r : Reader) (n : ℕ) (s : Reader) : Type 0 where
  pub place : s.place ≡ r.place + n + 1
  pub same : text s ≡ text r

-- s is r, and nothing was read
abbrev pub Unmoved : Reader → Reader → Type 0
Unmoved r s = (s.place ≡ r.place) × (text s ≡ text r)

-- the first line to come, and then the others are
abbrev pub NextLine : Reader → Reader → Option (Bor (List ℕ)) → Type 0
NextLine r s None = (lines_left r ≡ []) × Unmoved r s
NextLine r s (Some line) = (lines_left r ≡ line.now ∷ lines_left s) × Past r (length line.now) s

-- the first word to come with its place, and then the others are
abbrev pub NextWord : Reader → Reader → Option Word → Type 0
NextWord r s None = (words_left r ≡ []) × Unmoved r s
NextWord r s (Some w) = (words_left r ≡ w.bytes.now ∷ words_left s) × IsWord w.bytes.now r.place w × Past r (length w.bytes.now) s
