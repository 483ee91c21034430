-- Digits read one by one, and the decimal writing. Assumes nothing.
use Rattle.std.proofs.Common.{◌≡◌, ℕ, ◌+◌, ◌-◌, ◌*◌, ◌^◌, ◌<◌, ◌≤◌, true, false, List, length, get_or, drop, Some, None, sym, ◌∙◌, pow-suc, add-one, arith}
use Rattle.std.proofs.lemmas.List.{at_drop_more, at_drop_all}
use Rattle.std.proofs.lemmas.Bool.{cond-true, cond-false}
use Rattle.script.specs.Numbers.{is_digit, spelt}

pub digit_more : (n d i : ℕ) → n < 10 ^ i → d ≤ 9 → n * 10 + d < 10 ^ (i + 1)
digit_more n d i h low = rw (add-one, pow-suc) (omega arith)

module _ (w : List ℕ) (n i : ℕ) where
  pub spelt_digit : i < length w → is_digit (get_or w i 0) ≡ true → spelt (n * 10 + (get_or w i 0 - 48)) (drop (i + 1) w) ≡ spelt n (drop i w)
  unfolding spelt
  spelt_digit inside digit = sym (at_drop_more (spelt n) w i 0 inside ∙ cond-true _ _ _ digit)

  pub spelt_other : i < length w → is_digit (get_or w i 0) ≡ false → spelt n (drop i w) ≡ None
  unfolding spelt
  spelt_other inside other = at_drop_more (spelt n) w i 0 inside ∙ cond-false _ _ _ other

  pub spelt_end : length w ≤ i → spelt n (drop i w) ≡ Some n
  unfolding spelt
  spelt_end past = at_drop_all (spelt n) w i past
