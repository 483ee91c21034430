-- The writes of a job one by one: the newest comes to the front.
use Rattle.std.proofs.Common.{◌≡◌, ℕ, ◌+◌, ◌<◌, ◌≤◌, ◌==◌, List, [], ◌∷◌, reverse, length, get_or, take, set, refl, sym, ap, ◌∙◌, arith}
use Rattle.std.specs.Option.{option_map}
use Rattle.std.specs.List.{find}
use Rattle.std.proofs.lemmas.List.{take_more, reverse-append, take_all}
use Rattle.jobs.specs.declared.written.Written.{Written}
use Rattle.jobs.specs.Alone.{newest, applied}

pub reverse_more : {X : Type 0} (xs : List X) (i : ℕ) (x : X) → i < length xs → x ≡ get_or xs i x → reverse (take (i + 1) xs) ≡ x ∷ reverse (take i xs)
reverse_more xs i x h e =
    ap reverse (take_more xs i x h) ∙ (reverse-append (take i xs) (get_or xs i x ∷ []) ∙ ap (λ y. y ∷ reverse (take i xs)) (sym e))

pub reverse_all : {X : Type 0} (xs : List X) (i : ℕ) → length xs ≤ i → reverse (take i xs) ≡ reverse xs
reverse_all xs i h = ap reverse (take_all i xs h)

module _ {V : Type 0} where
  -- the newest write to a line is the first that has it
  pub first_to_line : (ws : List (Written V)) (l : ℕ) → option_map (λ w. w.value) (find (λ w. w.line == l) ws) ≡ newest ws l
  first_to_line [] l = refl
  first_to_line (w ∷ ws) l = grind (arith, first_to_line ws l)

  -- one write more is put in
  pub applied_more : (ws : List (Written V)) (i : ℕ) (w : Written V) → i < length ws → w ≡ get_or ws i w → (values : List V)
      → applied (reverse (take (i + 1) ws)) values ≡ set (applied (reverse (take i ws)) values) w.line w.value
  applied_more ws i w h e values = ap (λ r. applied r values) (reverse_more ws i w h e)
