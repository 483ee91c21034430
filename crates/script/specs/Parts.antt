-- Bytes gone through part by part. Assumes nothing.
use Rattle.std.specs.Prelude.{◌≡◌, ℕ, ◌+◌, ◌<◌, List, [], ◌∷◌, length, drop, Some, None, Option, MatchOption, IfSome}
use Rattle.std.specs.Borrow.{Bor}
use Rattle.script.specs.declared.lines.Lines.{Lines}
use Rattle.script.specs.declared.word.Word.{Word}
use Rattle.script.specs.declared.words.Words.{Words}
use Rattle.script.specs.Cuts.{cut}
use Rattle.script.specs.Readers.{Past, Unmoved}
use Rattle.script.specs.Readers as reader
use Rattle.script.specs.Words.{IsWord}

-- the parts of the bytes behind a separator, where there is one; `none` are the parts of no bytes
abbrev pub parts_behind : ℕ → List (List ℕ) → Option (Bor (List ℕ)) → List (List ℕ)
parts_behind s none None = []
parts_behind s none (Some bytes) = cut s none bytes.now

-- the first part of some bytes, and the bytes behind its separator, if it has one: the other parts are theirs
pub record FirstPart (s : ℕ) (bytes part : List ℕ) (behind : Option (Bor (List ℕ))) : Type 0 where
  pub words : cut s ([] ∷ []) bytes ≡ part ∷ parts_behind s ([] ∷ []) behind
  pub lines : 0 < length bytes → cut s [] bytes ≡ part ∷ parts_behind s [] behind
  pub size : MatchOption behind (length part ≡ length bytes) (λ more. length bytes ≡ length part + 1 + length more.now)
  pub others : IfSome behind (λ more. more.now ≡ drop (length part + 1) bytes)

-- the lines to come
abbrev pub lines_left : Lines → List (List ℕ)
lines_left l = reader.lines_left l.reader

-- the words to come: of no bytes an empty one, and none behind the last
abbrev pub words_left : Words → List (List ℕ)
words_left w = reader.words_left w.reader

-- the first word to come with its place, and then the others are, as the reader has it too
abbrev pub NextWord : Words → Words → Option Word → Type 0
NextWord v w None = (words_left v ≡ []) × (words_left w ≡ []) × Unmoved v.reader w.reader
NextWord v w (Some word) = (words_left v ≡ word.bytes.now ∷ words_left w) × IsWord word.bytes.now v.reader.place word × Past v.reader (length word.bytes.now) w.reader
