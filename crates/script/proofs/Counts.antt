-- How many words a line has. Assumes nothing.
use Rattle.std.proofs.Common.{◌≡◌, ℕ, ◌+◌, ◌==◌, true, false, cond, eqb, List, [], ◌∷◌, length, sym, refl, ap, ◌∙◌, arith}
use Rattle.std.specs.List.{count_by}
use Rattle.std.proofs.lemmas.List.Sums.{sum_by-cons}
use Rattle.script.specs.Cuts.{onto, cut, words}
use Rattle.script.proofs.Parts.{word_step}

-- a byte that is no space makes no further word
length_onto : (b : ℕ) (bs : List ℕ) → length (onto b (words bs)) ≡ length (words bs)
length_onto b bs = rw (word_step 32 bs)

pub length_words : (line : List ℕ) → length (words line) ≡ count_by (λ b. b == 32) line + 1
unfolding cut
length_words [] = refl
length_words (b ∷ bs) =
    elim (eqb b 32) as (λ t. length (cond t ([] ∷ words bs) (onto b (words bs))) ≡ (cond t 1 0 + count_by (λ c. c == 32) bs) + 1)
    [ true ↦ omega (arith, length_words bs) | false ↦ omega (arith, length_onto b bs, length_words bs) ]
    ∙ sym (ap (λ n. n + 1) (sum_by-cons (λ c. cond (c == 32) 1 0) b bs))
