-- A word is a number exactly if it is the decimal writing of one. Assumes nothing.
use Rattle.std.proofs.Common.{◌≡◌, ℕ, ◌+◌, ◌-◌, ◌*◌, ◌^◌, ◌<◌, true, false, not, ◌&&◌, ltb, leb, List, [], ◌∷◌, length, get_or, Some, None, decimal, Option, sym, refl, ap, ◌∙◌, ⊎_elim, arith}
use Rattle.std.proofs.lemmas.Fmt.{decimal_is_IsNumeral, decimal_digit, decimal_nonempty, first_decimal, length-decimal-le, decimal-digits_value}
use Rattle.std.proofs.lemmas.Str.Parse.{digit_from_value, numerals_by_value, tells_digits}
use Rattle.std.proofs.lemmas.Bool.{le-leb, lt-ltb, leb-true, ltb-true, ltb-false, eq-eqb, ne_eqb, and_from, and_parts, and_left, not-true, not_from_false, cond-true, cases_eq, cases_Bool, both_ways}
use Rattle.std.proofs.lemmas.Str.{digit_value_digit}
use Rattle.std.specs.Str.Parse.{AllDigits, digits_value, digits_value_after}
use Rattle.std.specs.Char.{digit_value}
use Rattle.script.specs.Numbers.{is_digit, spelt, padded, held, number_of, IsWriting}

-- digits are spelt as their value
spelt_digits : (n : ℕ) (w : List ℕ) → AllDigits 10 w → spelt n w ≡ Some (digits_value_after 10 n w)
unfolding spelt
spelt_digits n [] h = refl
spelt_digits n (b ∷ bs) h =
    let range = digit_from_value b h.0 in
    let same : b - 48 ≡ digit_value b = omega (arith, digit_value_digit b range) in
    cond-true _ _ _ (and_from _ _ (le-leb 48 b range.0) (le-leb b 57 range.1))
    ∙ spelt_digits (n * 10 + (b - 48)) bs h.1 ∙ ap (λ d. Some (digits_value_after 10 (n * 10 + d) bs)) same

-- and what is spelt is digits
spelt_only_digits : (n m : ℕ) (w : List ℕ) → spelt n w ≡ Some m → AllDigits 10 w × (digits_value_after 10 n w ≡ m)
unfolding spelt
spelt_only_digits n m [] e = (tt, (cc))
spelt_only_digits n m (b ∷ bs) e =
    ⊎_elim
    (λ t.
    let range = and_parts (leb 48 b) (leb b 57) t in
    let low = leb-true 48 b range.0 in
    let high = leb-true b 57 range.1 in
    let digit = digit_value_digit b (low, high) in
    let same : b - 48 ≡ digit_value b = omega arith in
    let rest = spelt_only_digits (n * 10 + (b - 48)) m bs (sym (cond-true _ _ _ t) ∙ e) in
    let small : digit_value b < 10 = omega arith in
    ((small, rest.0), ap (λ d. digits_value_after 10 (n * 10 + d) bs) (sym same) ∙ rest.1))
    (λ f.
    absurd (cc (rw f at e)))
    (cases_Bool (is_digit b))

never_padded : (n : ℕ) → n < 2 ^ 64 → padded (decimal n) ≡ false
never_padded n h =
    ⊎_elim
    (λ z. ap (λ m. padded (decimal m)) z ∙ ap padded (decimal_digit 0 (omega arith)))
    (λ some.
    let more : 0 < n = omega (arith, some) in
    let first = first_decimal n more h in
    let apart : get_or (decimal n) 0 0 ≡ 48 → ⊥ = λ e. omega arith in
    and_left _ _ (ne_eqb (get_or (decimal n) 0 0) 48 apart))
    (cases_eq n 0)

pub number_of_decimal : (n : ℕ) → n < 2 ^ 32 → number_of (decimal n) ≡ Some n
number_of_decimal n h =
    let wide : n < 2 ^ 64 = omega arith in
    let reads = decimal_is_IsNumeral n wide in
    let some : ltb 0 (length (decimal n)) ≡ true = lt-ltb _ _ (decimal_nonempty n wide) in
    let few : leb (length (decimal n)) 10 ≡ true = le-leb _ _ (length-decimal-le 10 n (omega arith) (omega arith) wide) in
    let plain : not (padded (decimal n)) ≡ true = not_from_false _ (never_padded n wide) in
    cond-true _ _ _ (and_from _ _ some (and_from _ _ few plain))
    ∙ ap held (spelt_digits 0 (decimal n) reads.0.1 ∙ ap Some reads.1)
    ∙ cond-true _ _ _ (lt-ltb n (2 ^ 32) h)

held_is : (o : Option ℕ) (n : ℕ) → held o ≡ Some n → (o ≡ Some n) × (n < 2 ^ 32)
held_is None n e = absurd (cc)
held_is (Some m) n e =
    ⊎_elim
    (λ t. let same : m ≡ n = cc (rw t at e) in (ap Some same, omega (arith, ltb-true m (2 ^ 32) t)))
    (λ f. absurd (cc (rw f at e)))
    (cases_Bool (ltb m (2 ^ 32)))

pub number_is_decimal : (w : List ℕ) (n : ℕ) → number_of w ≡ Some n → (n < 2 ^ 32) × (w ≡ decimal n)
number_is_decimal w n e =
    ⊎_elim
    (λ t.
    let shape = and_parts (ltb 0 (length w)) _ t in
    let more = and_parts (leb (length w) 10) _ shape.1 in
    let known = held_is (spelt 0 w) n (sym (cond-true _ _ _ t) ∙ e) in
    let digits = spelt_only_digits 0 n w known.0 in
    let plain : get_or w 0 0 ≡ 48 → length w ≡ 1 = λ z.
    ⊎_elim
    (λ long. absurd (both_ways (padded w) (not-true _ more.1) (and_from _ _ (eq-eqb _ _ z) long)))
    (λ short. omega (arith, ltb-true 0 (length w) shape.0, ltb-false 1 (length w) short))
    (cases_Bool (ltb 1 (length w))) in
    let small : digits_value 10 w < 2 ^ 64 = omega (arith, digits.1, known.1) in
    (known.1, sym (decimal-digits_value (numerals_by_value _ tells_digits) w digits.0 (ltb-true 0 (length w) shape.0) plain small) ∙ ap decimal digits.1))
    (λ f. absurd (cc (rw f at e)))
    (cases_Bool (ltb 0 (length w) && (leb (length w) 10 && not (padded w))))

pub is_writing : (w : List ℕ) (r : Option ℕ) → r ≡ number_of w → IsWriting w r
is_writing w (Some n) e = number_is_decimal w n (sym e)
is_writing w None e = λ n h is. absurd (cc (e, ap number_of is, number_of_decimal n h))
