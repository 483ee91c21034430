-- Bytes put over others: a part of a slice that was written, nothing, and one paste behind another.
use Rattle.std.proofs.Common.{◌≡◌, ℕ, ◌+◌, ◌≤◌, List, [], ◌++◌, length, take, drop, Some, None, Option, sym, ap, ◌∙◌, add-zero, add_assoc, arith}
use borrow.Rule.Slice.PartMut.{put_mid}
use Rattle.std.proofs.lemmas.List.{drop-drop, take_at, drop_at, append_assoc, length-append, length-take-le, take-append-drop}
use Rattle.survey.specs.Bytes.{pasted, Puts}

pub put_mid_pastes : (p k : ℕ) (old part bs : List ℕ) → part ≡ bs → k ≡ length bs → put_mid p k old part ≡ pasted old p bs
put_mid_pastes p k old part bs e n =
    ap (λ l. take p old ++ l) (ap (λ l. l ++ drop k (drop p old)) e ∙ ap (λ l. bs ++ l) (ap (λ m. drop m (drop p old)) n ∙ drop-drop (length bs) p old))

pub paste_nothing : (old : List ℕ) (p : ℕ) → pasted old p [] ≡ old
paste_nothing old p = ap (λ k. take p old ++ drop k old) (add-zero p) ∙ take-append-drop p old

-- a paste right behind a paste is one paste
pub paste_more : (old : List ℕ) (p q : ℕ) (a b : List ℕ) → p ≤ length old → q ≡ p + length a → pasted (pasted old p a) q b ≡ pasted old p (a ++ b)
paste_more old p q a b h e =
    let front = take p old ++ a in
    let rest = drop (p + length a) old in
    let long : length front ≡ q = length-append (take p old) a ∙ (ap (λ k. k + length a) (length-take-le p old h) ∙ sym e) in
    let whole : pasted old p a ≡ front ++ rest = sym (append_assoc (take p old) a rest) in
    let head : take q (pasted old p a) ≡ front = ap (take q) whole ∙ take_at front rest q long in
    let tail : drop (q + length b) (pasted old p a) ≡ drop (p + length (a ++ b)) old =
    ap (drop (q + length b)) whole ∙ (sym (drop-drop (length b) q (front ++ rest)) ∙ (ap (drop (length b)) (drop_at front rest q long)
    ∙ (drop-drop (length b) (p + length a) old ∙ ap (λ k. drop k old) (add_assoc p (length a) (length b) ∙ ap (λ k. p + k) (sym (length-append a b)))))) in
    ap (λ l. l ++ (b ++ drop (q + length b) (pasted old p a))) head
    ∙ (ap (λ l. front ++ (b ++ l)) tail
    ∙ (append_assoc (take p old) a (b ++ drop (p + length (a ++ b)) old) ∙ ap (λ l. take p old ++ l) (sym (append_assoc a b (drop (p + length (a ++ b)) old)))))

-- what fits was put
pub puts_paste : (old : List ℕ) (p : ℕ) (bs new : List ℕ) (r : Option ℕ) → Puts old p bs new r → p + length bs ≤ length old → new ≡ pasted old p bs
puts_paste old p bs new (Some q) h fits = h.2
puts_paste old p bs new None h fits = let short = h.0 in absurd (omega arith)
