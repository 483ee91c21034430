-- The part up to the first separator. Assumes nothing.
use Rattle.std.proofs.Common.{◌≡◌, ℕ, suc, ◌+◌, ◌≤◌, ◌==◌, Bool, not, true, false, cond, eqb, List, [], ◌∷◌, length, take, Option, refl, ap, ◌∙◌, ⊎_elim, arith, lt-ltb}
use Rattle.std.specs.Prelude.{unwrap_or}
use Rattle.std.specs.List.{position, position_or_len}
use Rattle.std.proofs.lemmas.Bool.{cases_lt, cond-true, cond-false, le-ltb}
use Rattle.std.proofs.lemmas.List.Sums.{prefix_len-le-length}
use Rattle.script.specs.Cuts.{front}

front_is : (s : ℕ) (xs : List ℕ) → take (position_or_len (λ b. b == s) xs) xs ≡ front s xs
unfolding front
front_is s [] = refl
front_is s (b ∷ bs) =
    let n = position_or_len (λ c. c == s) bs in
    let more : 1 + n ≡ suc n = omega arith in
    elim (eqb b s) as (λ t. take (cond (not t) (1 + position_or_len (λ c. c == s) bs) 0) (b ∷ bs) ≡ cond t [] (b ∷ front s bs))
    [ true ↦ refl | false ↦ ap (λ k. take k (b ∷ bs)) more ∙ ap (λ l. b ∷ l) (front_is s bs) ]

place_or_all : (p : ℕ → Bool) (xs : List ℕ) → unwrap_or (position p xs) (length xs) ≡ position_or_len p xs
place_or_all p xs =
    let n = position_or_len p xs in
    ⊎_elim
    (λ lt. ap (λ o. unwrap_or o (length xs)) (cond-true _ _ _ (lt-ltb n (length xs) lt)))
    (λ ge. ap (λ o. unwrap_or o (length xs)) (cond-false _ _ _ (le-ltb n (length xs) ge)) ∙ omega (arith, prefix_len-le-length (λ b. not (p b)) xs))
    (cases_lt n (length xs))

module _ (s end : ℕ) (xs : List ℕ) (o : Option ℕ) (found : o ≡ position (λ b. b == s) xs) (is : end ≡ unwrap_or o (length xs)) where
  at_separator : end ≡ position_or_len (λ b. b == s) xs
  at_separator = is ∙ ap (λ p. unwrap_or p (length xs)) found ∙ place_or_all (λ b. b == s) xs

  -- up to the place of the separator, if there is one, or all
  pub front_at : take end xs ≡ front s xs
  front_at = ap (λ n. take n xs) at_separator ∙ front_is s xs

  pub end_inside : end ≤ length xs
  end_inside = omega (arith, at_separator, prefix_len-le-length (λ b. not (b == s)) xs)
