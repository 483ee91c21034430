-- The marks of finished stations, and how many stations are left.
use Rattle.std.proofs.Common.{◌≡◌, ℕ, zero, suc, ◌<◌, Bool, true, false, cond, ◌⊎◌, List, [], ◌∷◌, length, get_or, set, Option, sym, refl, ap, ◌∙◌, inl, inr, arith, get_or-set_other, get_or-set_same}
use Rattle.std.proofs.lemmas.Bool.{both_ways, cases_eq, cases_lt, cond-true, cond-false}
use Rattle.std.proofs.lemmas.List.{get_or_past}
use Rattle.routes.specs.declared.reach.Station.{Station}
use Rattle.routes.specs.Reaches.{unknown, marked}

abbrev pub is_finished : List Station → ℕ → Bool
is_finished ss x = (get_or ss x unknown).finished

abbrev pub distance_at : List Station → ℕ → Option ℕ
distance_at ss x = (get_or ss x unknown).distance

-- how many stations are not finished
abbrev pub left_in : List Station → ℕ
left_in [] = 0
left_in (s ∷ ss) = cond s.finished (left_in ss) (suc (left_in ss))

pub clash : {P : Type 0} (b : Bool) → b ≡ true → b ≡ false → P
clash b e f = absurd (both_ways b f e)

pub finished_inside : (ss : List Station) (x : ℕ) → is_finished ss x ≡ true → x < length ss
finished_inside ss x e =
    elim (cases_lt x (length ss)) [
      | inl h ↦ h
      | inr h ↦ clash (is_finished ss x) e (ap (λ (s : Station). s.finished) (get_or_past ss x unknown h))
    ]

left_cons : (f : Bool) {m n : ℕ} → m ≡ suc n → cond f m (suc m) ≡ suc (cond f n (suc n))
left_cons true e = e
left_cons false e = ap suc e

-- one more is finished, and one less is left
pub left_set : (ss : List Station) (u : ℕ) (s : Station) → s.finished ≡ true → u < length ss → is_finished ss u ≡ false → left_in ss ≡ suc (left_in (set ss u s))
left_set [] u s f h e = absurd (let q : ⊥ = omega arith in q)
left_set (t ∷ ss) zero s f h e = cond-false t.finished _ _ e ∙ ap suc (sym (cond-true s.finished _ _ f))
left_set (t ∷ ss) (suc u) s f h e = left_cons t.finished (left_set ss u s f (omega arith) e)

-- stations with the same marks have as many left
left_alike : (f g : Bool) {m n : ℕ} → f ≡ g → m ≡ n → cond f m (suc m) ≡ cond g n (suc n)
left_alike f g e h = cc

pub left_same : (ss ts : List Station) → length ss ≡ length ts → ((x : ℕ) → is_finished ss x ≡ is_finished ts x) → left_in ss ≡ left_in ts
left_same [] [] e same = refl
left_same [] (t ∷ ts) e same = absurd (let q : ⊥ = omega arith in q)
left_same (s ∷ ss) [] e same = absurd (let q : ⊥ = omega arith in q)
left_same (s ∷ ss) (t ∷ ts) e same = left_alike s.finished t.finished (same zero) (left_same ss ts (omega arith) (λ x. same (suc x)))

module _ (ss : List Station) (u x : ℕ) (in_List : u < length ss) where
  marked_here : x ≡ u → get_or (marked u ss) x unknown ≡ record { distance = distance_at ss u; finished = true }
  marked_here q =
      ap (λ (y : ℕ). get_or (marked u ss) y unknown) q
      ∙ get_or-set_same ss u (record { distance = distance_at ss u; finished = true }) unknown in_List

  marked_elsewhere : (x ≡ u → ⊥) → get_or (marked u ss) x unknown ≡ get_or ss x unknown
  marked_elsewhere n = get_or-set_other ss u x (record { distance = distance_at ss u; finished = true }) unknown n

  -- a mark changes no distance
  pub marked_distance : distance_at (marked u ss) x ≡ distance_at ss x
  marked_distance =
      elim (cases_eq x u) [
        | inl q ↦ ap (λ (s : Station). s.distance) (marked_here q) ∙ ap (λ (y : ℕ). distance_at ss y) (sym q)
        | inr n ↦ ap (λ (s : Station). s.distance) (marked_elsewhere n)
      ]

  -- what is finished now is the station that was marked, or was finished before
  pub marked_true : is_finished (marked u ss) x ≡ true → (x ≡ u) ⊎ (is_finished ss x ≡ true)
  marked_true e =
      elim (cases_eq x u) [
        | inl q ↦ inl q
        | inr n ↦ inr (sym (ap (λ (s : Station). s.finished) (marked_elsewhere n)) ∙ e)
      ]

  -- what was finished is so
  pub marked_keeps : is_finished ss x ≡ true → is_finished (marked u ss) x ≡ true
  marked_keeps e =
      elim (cases_eq x u) [
        | inl q ↦ ap (λ (s : Station). s.finished) (marked_here q)
        | inr n ↦ ap (λ (s : Station). s.finished) (marked_elsewhere n) ∙ e
      ]

  -- what is not finished was not
  pub marked_false : is_finished (marked u ss) x ≡ false → is_finished ss x ≡ false
  marked_false e =
      elim (cases_eq x u) [
        | inl q ↦ clash (is_finished (marked u ss) x) (ap (λ (s : Station). s.finished) (marked_here q)) e
        | inr n ↦ sym (ap (λ (s : Station). s.finished) (marked_elsewhere n)) ∙ e
      ]

  -- no other is
  pub marked_other : (x ≡ u → ⊥) → is_finished ss x ≡ false → is_finished (marked u ss) x ≡ false
  marked_other n e = ap (λ (s : Station). s.finished) (marked_elsewhere n) ∙ e
