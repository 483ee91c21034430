-- The parts of bytes, one by one. Assumes nothing.
use Rattle.std.proofs.Common.{◌≡◌, ℕ, suc, ◌+◌, ◌-◌, ◌<◌, ◌≤◌, ◌==◌, true, false, cond, eqb, leb, List, [], ◌∷◌, length, take, drop, Some, None, Option, sym, refl, ap, ◌∙◌, subst, ⊎_elim, arith, length-drop, length-take, le-leb}
use Rattle.std.specs.Slice.{IsGetRangeResult}
use Rattle.std.specs.Borrow.{Bor}
use Rattle.std.specs.List.{position}
use Rattle.std.specs.Prelude.{unwrap_or, MatchOption, IfSome}
use Rattle.std.proofs.lemmas.List.{take_all, drop-drop, drop_all}
use Rattle.std.proofs.lemmas.Bool.{lt-leb, cond-true, cond-false}
use Rattle.script.specs.Cuts.{onto, cut, words, lines_of, front}
use Rattle.script.specs.Parts.{parts_behind, FirstPart}
use Rattle.script.specs.Readers.{words_from}
use Rattle.script.proofs.Fronts.{front_at, end_inside}

-- what follows the first part: the parts behind its separator, or, without one, what `none` has behind its first
pub rest : ℕ → List (List ℕ) → List ℕ → List (List ℕ)
rest s none [] = []
rest s none (b ∷ bs) = cond (eqb b s) (cut s none bs) (rest s none bs)

module _ (s : ℕ) where
  -- at words no bytes are one empty part, at lines none
  pub word_step : (bs : List ℕ) → cut s ([] ∷ []) bs ≡ front s bs ∷ rest s ([] ∷ []) bs
  unfolding cut front rest
  word_step [] = refl
  word_step (b ∷ bs) =
      elim (eqb b s) as (λ t. cond t ([] ∷ cut s ([] ∷ []) bs) (onto b (cut s ([] ∷ []) bs)) ≡ cond t [] (b ∷ front s bs) ∷ cond t (cut s ([] ∷ []) bs) (rest s ([] ∷ []) bs))
      [ true ↦ refl | false ↦ ap (onto b) (word_step bs) ]

  onto_lines : (b : ℕ) (bs : List ℕ) → onto b (cut s [] bs) ≡ (b ∷ front s bs) ∷ rest s [] bs
  unfolding cut front rest
  onto_lines b [] = refl
  onto_lines b (c ∷ bs) =
      elim (eqb c s) as (λ t. onto b (cond t ([] ∷ cut s [] bs) (onto c (cut s [] bs))) ≡ (b ∷ cond t [] (c ∷ front s bs)) ∷ cond t (cut s [] bs) (rest s [] bs))
      [ true ↦ refl | false ↦ ap (onto b) (onto_lines c bs) ]

  pub line_step : (bs : List ℕ) → 0 < length bs → cut s [] bs ≡ front s bs ∷ rest s [] bs
  unfolding cut front rest
  line_step [] h = absurd (omega arith)
  line_step (b ∷ bs) h =
      elim (eqb b s) as (λ t. cond t ([] ∷ cut s [] bs) (onto b (cut s [] bs)) ≡ cond t [] (b ∷ front s bs) ∷ cond t (cut s [] bs) (rest s [] bs))
      [ true ↦ refl | false ↦ onto_lines b bs ]

  rest_behind : (none : List (List ℕ)) (bs : List ℕ) → length (front s bs) < length bs → rest s none bs ≡ cut s none (drop (suc (length (front s bs))) bs)
  unfolding front rest
  rest_behind none [] h = absurd (omega arith)
  rest_behind none (b ∷ bs) h =
      elim (eqb b s) as (λ t. length (cond t [] (b ∷ front s bs)) < suc (length bs) → cond t (cut s none bs) (rest s none bs) ≡ cut s none (drop (suc (length (cond t [] (b ∷ front s bs)))) (b ∷ bs)))
      [ true ↦ λ _. refl | false ↦ λ lt. rest_behind none bs (omega arith) ] h

  rest_none : (none : List (List ℕ)) (bs : List ℕ) → length bs ≤ length (front s bs) → rest s none bs ≡ []
  unfolding front rest
  rest_none none [] h = refl
  rest_none none (b ∷ bs) h =
      elim (eqb b s) as (λ t. suc (length bs) ≤ length (cond t [] (b ∷ front s bs)) → cond t (cut s none bs) (rest s none bs) ≡ [])
      [ true ↦ λ le. absurd (omega arith) | false ↦ λ le. rest_none none bs (omega arith) ] h

  module _ (bs : List ℕ) (end : ℕ) (long : length (front s bs) ≡ end) where
    others : (none : List (List ℕ)) (behind : Option (Bor (List ℕ))) → IsGetRangeResult bs (end + 1) (length bs) behind → rest s none bs ≡ parts_behind s none behind
    others none None got = ⊎_elim (λ past. rest_none none bs (omega (arith, long))) (λ never. absurd (omega arith)) got.0
    others none (Some more) got =
        let same : more.now ≡ drop (end + 1) bs = got.0.2 ∙ take_all _ _ (simp length-drop (omega arith)) in
        let on : suc (length (front s bs)) ≡ end + 1 = omega (arith, long) in
        rest_behind none bs (omega (arith, long, got.0.1)) ∙ ap (cut s none) (ap (λ n. drop n bs) on ∙ sym same)

    behind_is : (behind : Option (Bor (List ℕ))) → IsGetRangeResult bs (end + 1) (length bs) behind → IfSome behind (λ more. more.now ≡ drop (end + 1) bs)
    behind_is None got = tt
    behind_is (Some more) got = got.0.2 ∙ take_all _ _ (simp length-drop (omega arith))

    sizes : (behind : Option (Bor (List ℕ))) → IsGetRangeResult bs (end + 1) (length bs) behind → end ≤ length bs → MatchOption behind (end ≡ length bs) (λ more. length bs ≡ end + 1 + length more.now)
    sizes None got inside = ⊎_elim (λ past. omega arith) (λ never. absurd (omega arith)) got.0
    sizes (Some more) got inside = omega (arith, got.0.3)

  pub first_part : (bs : List ℕ) (end : ℕ) (o : Option ℕ) (behind : Option (Bor (List ℕ))) → o ≡ position (λ b. b == s) bs → end ≡ unwrap_or o (length bs) → IsGetRangeResult bs (end + 1) (length bs) behind → FirstPart s bs (take end bs) behind
  first_part bs end o behind found is got =
      let inside = end_inside s end bs o found is in
      let at = front_at s end bs o found is in
      let whole : length (take end bs) ≡ end = simp length-take (omega (arith, inside)) in
      let long : length (front s bs) ≡ end = ap length (sym at) ∙ whole in
      record {
        words = word_step bs ∙ ap (λ p. p ∷ rest s ([] ∷ []) bs) (sym at) ∙ ap (λ ps. take end bs ∷ ps) (others bs end long ([] ∷ []) behind got);
        lines = λ some. line_step bs some ∙ ap (λ p. p ∷ rest s [] bs) (sym at) ∙ ap (λ ps. take end bs ∷ ps) (others bs end long [] behind got);
        size = rw whole (sizes bs end long behind got inside);
        others = rw whole (behind_is bs end long behind got);
      }

-- a part has at least one byte, or a separator
more_parts : (b : ℕ) (parts : List (List ℕ)) → length (onto b parts) ≤ suc (length parts)
more_parts b [] = omega arith
more_parts b (part ∷ parts) = omega arith

pub line_count : (bs : List ℕ) → length (lines_of bs) ≤ length bs
unfolding cut
line_count [] = omega arith
line_count (b ∷ bs) =
    elim (eqb b 10) as (λ t. length (cond t ([] ∷ lines_of bs) (onto b (lines_of bs))) ≤ suc (length bs))
    [ true ↦ omega (arith, line_count bs) | false ↦ omega (arith, line_count bs, more_parts b (lines_of bs)) ]

-- past the part at p, at q, the others are to come
module _ (xs part : List ℕ) (p q : ℕ) (next : q ≡ p + length part + 1) where
  from_place : (s : ℕ) (behind : Option (Bor (List ℕ))) → FirstPart s (take (length xs - p) (drop p xs)) part behind → FirstPart s (drop p xs) part behind
  from_place s behind = subst (λ bs. FirstPart s bs part behind) (take_all (length xs - p) (drop p xs) (simp length-drop (omega arith)))

  others_at : (more : Bor (List ℕ)) → more.now ≡ drop (length part + 1) (drop p xs) → more.now ≡ drop q xs
  others_at more is =
      let on : p + (length part + 1) ≡ q = omega (arith, next) in
      is ∙ drop-drop (length part + 1) p xs ∙ ap (λ n. drop n xs) on

  line_at : (behind : Option (Bor (List ℕ))) → FirstPart 10 (drop p xs) part behind → p < length xs → lines_of (drop p xs) ≡ part ∷ lines_of (drop q xs)
  unfolding cut
  line_at None first inside =
      let all = length-drop p xs in
      let past : length xs ≤ q = omega (arith, first.size, next) in
      first.lines (omega arith) ∙ ap (λ ls. part ∷ ls) (sym (ap lines_of (drop_all q xs past)))
  line_at (Some more) first inside =
      let all = length-drop p xs in
      first.lines (omega arith) ∙ ap (λ bs. part ∷ lines_of bs) (others_at more first.others)

  word_at : (behind : Option (Bor (List ℕ))) → FirstPart 32 (drop p xs) part behind → p ≤ length xs → words_from p xs ≡ part ∷ words_from q xs
  unfolding words_from
  word_at None first inside =
      let all = length-drop p xs in
      let past : leb q (length xs) ≡ false = lt-leb q (length xs) (omega (arith, first.size, next)) in
      cond-true _ _ _ (le-leb p (length xs) inside) ∙ first.words ∙ ap (λ ws. part ∷ ws) (sym (cond-false _ _ _ past))
  word_at (Some more) first inside =
      let all = length-drop p xs in
      let within : leb q (length xs) ≡ true = le-leb q (length xs) (omega (arith, first.size, next)) in
      cond-true _ _ _ (le-leb p (length xs) inside) ∙ first.words
      ∙ ap (λ ws. part ∷ ws) (ap (cut 32 ([] ∷ [])) (others_at more first.others) ∙ sym (cond-true _ _ _ within))

  module _ (s : ℕ) (behind : Option (Bor (List ℕ))) (first : FirstPart s (take (length xs - p) (drop p xs)) part behind) where
    pub next_line : s ≡ 10 → p < length xs → lines_of (drop p xs) ≡ part ∷ lines_of (drop q xs)
    next_line is = line_at behind (subst (λ t. FirstPart t (drop p xs) part behind) is (from_place s behind first))

    pub next_word : s ≡ 32 → p ≤ length xs → words_from p xs ≡ part ∷ words_from q xs
    next_word is = word_at behind (subst (λ t. FirstPart t (drop p xs) part behind) is (from_place s behind first))

pub no_line : (xs : List ℕ) (p : ℕ) → length xs ≤ p → lines_of (drop p xs) ≡ []
unfolding cut
no_line xs p past = ap lines_of (drop_all p xs past)

pub no_word : (xs : List ℕ) (p : ℕ) → length xs < p → words_from p xs ≡ []
unfolding words_from
no_word xs p past = cond-false _ _ _ (lt-leb p (length xs) past)

pub words_from_start : (p : ℕ) (xs line : List ℕ) → p ≡ 0 → xs ≡ line → words_from p xs ≡ words line
unfolding words_from
words_from_start p xs line start is = ap (λ q. words_from q xs) start ∙ ap (words_from 0) is ∙ cond-true _ _ _ (le-leb 0 (length line) (omega arith))
