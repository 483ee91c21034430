-- Bytes cut at each separator, and put together again. Assumes nothing.
use Rattle.std.specs.Prelude.{◌≡◌, ℕ, ◌<◌, Bool, true, cond, not, ◌&&◌, List, [], ◌∷◌, ◌++◌, length, ◌==◌}

-- a byte in front of the first part
abbrev pub onto : ℕ → List (List ℕ) → List (List ℕ)
onto b [] = (b ∷ []) ∷ []
onto b (part ∷ parts) = (b ∷ part) ∷ parts

-- the parts between separators; `none` are the parts of no bytes
unfoldable pub cut : ℕ → List (List ℕ) → List ℕ → List (List ℕ)
cut s none [] = none
cut s none (b ∷ bs) = cond (b == s) ([] ∷ cut s none bs) (onto b (cut s none bs))

-- the words of a line: a space parts two words, and no bytes are one empty word
abbrev pub words : List ℕ → List (List ℕ)
words = cut 32 ([] ∷ [])

-- the lines of a list: a newline ends a line, and no bytes are no line
abbrev pub lines_of : List ℕ → List (List ℕ)
lines_of = cut 10 []

-- the bytes up to the first separator
unfoldable pub front : ℕ → List ℕ → List ℕ
front s [] = []
front s (b ∷ bs) = cond (b == s) [] (b ∷ front s bs)

-- parts with a separator between each two
unfoldable pub joined_by : ℕ → List (List ℕ) → List ℕ
joined_by s [] = []
joined_by s (part ∷ []) = part
joined_by s (part ∷ next ∷ parts) = part ++ (s ∷ joined_by s (next ∷ parts))

-- parts with a separator behind each
unfoldable pub ended_by : ℕ → List (List ℕ) → List ℕ
ended_by s [] = []
ended_by s (part ∷ parts) = part ++ (s ∷ ended_by s parts)

-- bytes that end with a separator as they are, and others with one more; no bytes want none
unfoldable pub closed_by : ℕ → List ℕ → List ℕ
closed_by s [] = []
closed_by s (b ∷ []) = cond (b == s) (b ∷ []) (b ∷ s ∷ [])
closed_by s (b ∷ c ∷ bs) = b ∷ closed_by s (c ∷ bs)

-- no byte is a separator
unfoldable pub free : ℕ → List ℕ → Bool
free s [] = true
free s (b ∷ bs) = not (b == s) && free s bs

-- and none in any part
unfoldable pub all_free : ℕ → List (List ℕ) → Bool
all_free s [] = true
all_free s (part ∷ parts) = free s part && all_free s parts

-- the lines, each with a newline behind it, are the bytes of the list, but for a newline that the last line may lack
pub record LinesOfBytes (bytes : List ℕ) (lines : List (List ℕ)) : Type 0 where
  pub together : ended_by 10 lines ≡ closed_by 10 bytes
  pub apart : all_free 10 lines ≡ true

-- the words, with a space between each two, are the line, and there is at least one
pub record WordsOfLine (line : List ℕ) (ws : List (List ℕ)) : Type 0 where
  pub together : joined_by 32 ws ≡ line
  pub apart : all_free 32 ws ≡ true
  pub some : 0 < length ws
