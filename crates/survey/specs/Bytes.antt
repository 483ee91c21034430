-- Numbers as bytes, the lowest first, and bytes put over others.
use Rattle.std.specs.Prelude.{◌≡◌, ℕ, ◌+◌, ◌*◌, ◌/◌, ◌%◌, ◌<◌, ◌≤◌, List, [], ◌∷◌, ◌++◌, length, take, drop, Some, None, Option, slice_index}

-- the number in the first two bytes, and in the four from place p on
abbrev pub two : List ℕ → ℕ
two bs = slice_index bs 0 + slice_index bs 1 * 256

abbrev pub four : ℕ → List ℕ → ℕ
four p bs = slice_index bs p + slice_index bs (p + 1) * 256 + slice_index bs (p + 2) * 65536 + slice_index bs (p + 3) * 16777216

abbrev pub two_bytes : ℕ → List ℕ
two_bytes n = (n % 256) ∷ (n / 256 % 256) ∷ []

abbrev pub four_bytes : ℕ → List ℕ
four_bytes n = (n % 256) ∷ (n / 256 % 256) ∷ (n / 65536 % 256) ∷ (n / 16777216 % 256) ∷ []

-- bs in the place of what stood from place p on
abbrev pub pasted : List ℕ → ℕ → List ℕ → List ℕ
pasted old p bs = take p old ++ (bs ++ drop (p + length bs) old)

-- bs was put at place p and the answer is the place behind it; or it does not fit, and nothing was put
abbrev pub Puts : List ℕ → ℕ → List ℕ → List ℕ → Option ℕ → Type 0
Puts old p bs new (Some q) = (p + length bs ≤ length old) × (q ≡ p + length bs) × (new ≡ pasted old p bs)
Puts old p bs new None = (length old < p + length bs) × (new ≡ old)
