-- Which words are numbers, and which numbers they are. Assumes nothing.
use Rattle.std.specs.Prelude.{◌≡◌, ℕ, ◌+◌, ◌-◌, ◌*◌, ◌^◌, ◌<◌, Bool, cond, not, ◌&&◌, List, [], ◌∷◌, length, Some, None, decimal, Option, ◌==◌, ◌≢◌, nat_le, nat_lt, slice_index}

abbrev pub is_digit : ℕ → Bool
is_digit b = nat_le 48 b && nat_le b 57

-- the number that digits write after those of n, if each byte is a digit
unfoldable pub spelt : ℕ → List ℕ → Option ℕ
spelt n [] = Some n
spelt n (b ∷ bs) = cond (is_digit b) (spelt (n * 10 + (b - 48)) bs) None

-- a zero in front of another byte
abbrev pub padded : List ℕ → Bool
padded w = slice_index w 0 == 48 && nat_lt 1 (length w)

-- a number that 32 bits hold
abbrev pub held : Option ℕ → Option ℕ
held None = None
held (Some n) = cond (nat_lt n (2 ^ 32)) (Some n) None

-- the number that a word is: 1 to 10 digits, no zero in front of another, and below 2 ^ 32
abbrev pub number_of : List ℕ → Option ℕ
number_of w = cond (nat_lt 0 (length w) && (nat_le (length w) 10 && not (padded w))) (held (spelt 0 w)) None

-- a word is a number exactly if it is the decimal writing of a number below 2 ^ 32, and then it is that number
abbrev pub IsWriting : List ℕ → Option ℕ → Type 0
IsWriting w (Some n) = (n < 2 ^ 32) × (w ≡ decimal n)
IsWriting w None = (n : ℕ) → n < 2 ^ 32 → w ≢ decimal n
