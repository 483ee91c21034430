-- Parts put together again. Assumes nothing.
use Rattle.std.proofs.Common.{◌≡◌, ℕ, true, false, not, eqb, List, [], ◌∷◌, ◌++◌, length, sym, refl, ap, ◌∙◌, ⊎_elim, arith}
use Rattle.std.proofs.lemmas.Bool.{cond-true, cond-false, cases_Bool, eqb-true, eq-eqb, and_parts, and_from, not-true, not_from_false}
use Rattle.script.specs.Cuts.{onto, cut, words, lines_of, joined_by, ended_by, closed_by, free, all_free, LinesOfBytes, WordsOfLine}
use Rattle.script.proofs.Parts.{word_step, line_step}

joined_onto : (s b : ℕ) (parts : List (List ℕ)) → joined_by s (onto b parts) ≡ b ∷ joined_by s parts
unfolding joined_by
joined_onto s b [] = refl
joined_onto s b (part ∷ []) = refl
joined_onto s b (part ∷ next ∷ parts) = refl

ended_onto : (s b : ℕ) (part : List ℕ) (parts : List (List ℕ)) → ended_by s (onto b (part ∷ parts)) ≡ b ∷ ended_by s (part ∷ parts)
unfolding ended_by
ended_onto s b part parts = refl

-- a list of words is never empty
joined_words : (s : ℕ) (bs : List ℕ) → joined_by s (cut s ([] ∷ []) bs) ≡ bs
unfolding cut joined_by
joined_words s [] = refl
joined_words s (b ∷ bs) =
    ⊎_elim
    (λ t.
    let first = word_step s bs in
    ap (joined_by s) (cond-true _ ([] ∷ cut s ([] ∷ []) bs) (onto b (cut s ([] ∷ []) bs)) t)
    ∙ (rw first (ap (λ l. s ∷ l) (rw first at (joined_words s bs))))
    ∙ ap (λ c. c ∷ bs) (sym (eqb-true b s t)))
    (λ f.
    ap (joined_by s) (cond-false _ ([] ∷ cut s ([] ∷ []) bs) (onto b (cut s ([] ∷ []) bs)) f)
    ∙ joined_onto s b (cut s ([] ∷ []) bs) ∙ ap (λ l. b ∷ l) (joined_words s bs))
    (cases_Bool (eqb b s))

ended_lines : (s : ℕ) (bs : List ℕ) → ended_by s (cut s [] bs) ≡ closed_by s bs
unfolding cut ended_by closed_by
ended_lines s [] = refl
ended_lines s (b ∷ []) =
    ⊎_elim
    (λ t. rw t (ap (λ c. c ∷ []) (sym (eqb-true b s t))))
    (λ f. rw f)
    (cases_Bool (eqb b s))
ended_lines s (b ∷ c ∷ bs) =
    ⊎_elim
    (λ t.
    ap (ended_by s) (cond-true _ ([] ∷ cut s [] (c ∷ bs)) (onto b (cut s [] (c ∷ bs))) t)
    ∙ ap (λ l. s ∷ l) (ended_lines s (c ∷ bs))
    ∙ ap (λ d. d ∷ closed_by s (c ∷ bs)) (sym (eqb-true b s t)))
    (λ f.
    let first = line_step s (c ∷ bs) (omega arith) in
    ap (ended_by s) (cond-false _ ([] ∷ cut s [] (c ∷ bs)) (onto b (cut s [] (c ∷ bs))) f)
    ∙ ap (λ l. ended_by s (onto b l)) first
    ∙ ap (λ l. b ∷ l) (ap (ended_by s) (sym first) ∙ ended_lines s (c ∷ bs)))
    (cases_Bool (eqb b s))

free_onto : (s b : ℕ) (parts : List (List ℕ)) → eqb b s ≡ false → all_free s parts ≡ true → all_free s (onto b parts) ≡ true
unfolding all_free free
free_onto s b [] apart h = and_from _ _ (and_from _ _ (not_from_false _ apart) refl) refl
free_onto s b (part ∷ parts) apart h =
    let both = and_parts (free s part) (all_free s parts) h in
    and_from _ _ (and_from _ _ (not_from_false _ apart) both.0) both.1

-- no part holds a separator
free_cut : (s : ℕ) (none : List (List ℕ)) → all_free s none ≡ true → (bs : List ℕ) → all_free s (cut s none bs) ≡ true
unfolding cut all_free free
free_cut s none h [] = h
free_cut s none h (b ∷ bs) =
    ⊎_elim
    (λ t. ap (all_free s) (cond-true _ ([] ∷ cut s none bs) (onto b (cut s none bs)) t) ∙ and_from _ _ refl (free_cut s none h bs))
    (λ f. ap (all_free s) (cond-false _ ([] ∷ cut s none bs) (onto b (cut s none bs)) f) ∙ free_onto s b (cut s none bs) f (free_cut s none h bs))
    (cases_Bool (eqb b s))

pub words_of_line : (line : List ℕ) → WordsOfLine line (words line)
unfolding all_free free
words_of_line line = record { together = joined_words 32 line; apart = free_cut 32 ([] ∷ []) refl line; some = omega (arith, ap length (word_step 32 line)) }

pub lines_of_bytes : (bytes : List ℕ) → LinesOfBytes bytes (lines_of bytes)
unfolding all_free
lines_of_bytes bytes = record { together = ended_lines 10 bytes; apart = free_cut 10 [] refl bytes }

-- parts without a separator are the parts of what they join to
cut_front : (s : ℕ) (none : List (List ℕ)) (part bs : List ℕ) → free s part ≡ true → cut s none (part ++ (s ∷ bs)) ≡ part ∷ cut s none bs
unfolding cut free
cut_front s none [] bs h = cond-true _ _ _ (eq-eqb s s refl)
cut_front s none (b ∷ part) bs h =
    let both = and_parts (not (eqb b s)) (free s part) h in
    cond-false _ _ _ (not-true _ both.0) ∙ ap (onto b) (cut_front s none part bs both.1)

cut_last : (s : ℕ) (part : List ℕ) → free s part ≡ true → cut s ([] ∷ []) part ≡ part ∷ []
unfolding cut free
cut_last s [] h = refl
cut_last s (b ∷ part) h =
    let both = and_parts (not (eqb b s)) (free s part) h in
    cond-false _ _ _ (not-true _ both.0) ∙ ap (onto b) (cut_last s part both.1)

pub words_joined : (s : ℕ) (part : List ℕ) (parts : List (List ℕ)) → all_free s (part ∷ parts) ≡ true → cut s ([] ∷ []) (joined_by s (part ∷ parts)) ≡ part ∷ parts
unfolding joined_by all_free
words_joined s part [] h = cut_last s part (and_parts (free s part) true h).0
words_joined s part (next ∷ parts) h =
    let both = and_parts (free s part) (all_free s (next ∷ parts)) h in
    cut_front s ([] ∷ []) part (joined_by s (next ∷ parts)) both.0 ∙ ap (λ l. part ∷ l) (words_joined s next parts both.1)
