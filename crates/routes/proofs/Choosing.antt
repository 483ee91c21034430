-- What is known of the nearest unfinished station.
use Rattle.std.proofs.Common.{◌≡◌, ℕ, zero, suc, ◌+◌, ◌<◌, ◌≤◌, Bool, true, false, cond, List, [], length, drop, Some, None, Option, refl, sym, ap, ◌∙◌, subst, inl, inr, add-zero, add-one, arith}
use Rattle.std.specs.List.{fold, range_with_len, zip}
use Rattle.std.proofs.lemmas.Bool.{ltb-true, ltb-false, cases_order, both_ways}
use Rattle.std.proofs.lemmas.List.{drop_more, drop_all}
use Rattle.routes.specs.declared.reach.Nearest.{Nearest}
use Rattle.routes.specs.declared.reach.Station.{Station}
use Rattle.routes.specs.Reaches.{unknown, is_shorter, distance_of, nearer, with_station, nearest_below, nearest_of, Inside}
use Rattle.routes.proofs.Flags.{is_finished, distance_at}

module _ (ss : List Station) where
  -- n is one of the unfinished stations below i, and is reached
  pub record Candidate (i : ℕ) (n : Nearest) : Type 0 where
    pub inside : n.station < i
    pub unfinished : is_finished ss n.station ≡ false
    pub reached : distance_at ss n.station ≡ Some n.distance

  abbrev Found : ℕ → Option Nearest → Type 0
  Found i None = Unit {0}
  Found i (Some n) = Candidate i n

  -- the best station is reached at d or less
  abbrev pub Beats : ℕ → Option Nearest → Type 0
  Beats d None = ⊥
  Beats d (Some n) = n.distance ≤ d

  -- none of the unfinished stations below i is nearer
  pub record IsNearest (i : ℕ) (best : Option Nearest) : Type 0 where
    pub is : Found i best
    pub low : (j d : ℕ) → j < i → is_finished ss j ≡ false → distance_at ss j ≡ Some d → Beats d best

  found_more : (i : ℕ) (best : Option Nearest) → Found i best → Found (suc i) best
  found_more i None k = tt
  found_more i (Some n) k = record { inside = omega (arith, k.inside); unfinished = k.unfinished; reached = k.reached }

  -- what holds of the unfinished stations below i, and of i, holds of those below the next
  low_more : (P : ℕ → Type 0) (i : ℕ) → ((j d : ℕ) → j < i → is_finished ss j ≡ false → distance_at ss j ≡ Some d → P d)
      → ((d : ℕ) → is_finished ss i ≡ false → distance_at ss i ≡ Some d → P d) → (j d : ℕ) → j < suc i → is_finished ss j ≡ false → distance_at ss j ≡ Some d → P d
  low_more P i below here j d l h e =
      elim (cases_order j i) [
        | inl q ↦ here d (subst (λ (y : ℕ). is_finished ss y ≡ false) q h) (subst (λ (y : ℕ). distance_at ss y ≡ Some d) q e)
        | inr o ↦ below j d (elim o [ inl a ↦ a | inr a ↦ absurd (let q : ⊥ = omega arith in q) ]) h e
      ]

  -- by whether the station is nearer
  nearer_at : (i d : ℕ) (best : Option Nearest) → IsNearest i best → is_finished ss i ≡ false → distance_at ss i ≡ Some d → (t : Bool)
      → is_shorter d (distance_of best) ≡ t → IsNearest (suc i) (cond t (Some (record { station = i; distance = d })) best)
  nearer_at i d None k e f true g =
      record {
        is = record { inside = omega arith; unfinished = e; reached = f };
        low = low_more (λ x. d ≤ x) i (λ j x l h r. absurd (k.low j x l h r)) (λ x h r. let q : d ≡ x = cc in omega arith);
      }
  nearer_at i d None k e f false g = absurd (both_ways true g refl)
  nearer_at i d (Some n) k e f true g =
      let b = ltb-true d n.distance g in
      record {
        is = record { inside = omega arith; unfinished = e; reached = f };
        low = low_more (λ x. d ≤ x) i (λ j x l h r. omega (arith, b, k.low j x l h r)) (λ x h r. let q : d ≡ x = cc in omega arith);
      }
  nearer_at i d (Some n) k e f false g =
      record {
        is = found_more i (Some n) k.is;
        low = low_more (λ x. n.distance ≤ x) i k.low (λ x h r. let q : d ≡ x = cc in omega (arith, ltb-false d n.distance g));
      }

  -- by the station's distance
  step_at : (i : ℕ) (best : Option Nearest) → IsNearest i best → is_finished ss i ≡ false → (o : Option ℕ) → distance_at ss i ≡ o → IsNearest (suc i) (nearer o i best)
  step_at i best k e None f =
      record {
        is = found_more i best k.is;
        low = low_more (λ x. Beats x best) i k.low (λ x h r. let z : ◌≡◌ {A = ℕ} 0 1 = cc in absurd (let q : ⊥ = omega arith in q));
      }
  step_at i best k e (Some d) f = nearer_at i d best k e f (is_shorter d (distance_of best)) refl

  -- by whether it is finished
  step : (i : ℕ) (best : Option Nearest) → IsNearest i best → (b : Bool) → is_finished ss i ≡ b → IsNearest (suc i) (cond b best (nearer (distance_at ss i) i best))
  step i best k true e =
      record { is = found_more i best k.is; low = low_more (λ x. Beats x best) i k.low (λ x h r. absurd (both_ways (is_finished ss i) h e)) }
  step i best k false e = step_at i best k e (distance_at ss i) refl

  below : (i : ℕ) → IsNearest i (nearest_below ss i)
  below zero = record { is = tt; low = λ j d l. absurd (let q : ⊥ = omega arith in q) }
  below (suc i) = step i (nearest_below ss i) (below i) (is_finished ss i) refl

  pub nearest_is : IsNearest 16 (nearest_of ss)
  unfolding nearest_of
  nearest_is = below 16

  inside_of : (best : Option Nearest) → Found 16 best → Inside best
  inside_of None k = tt
  inside_of (Some n) k = k.inside

  pub nearest_inside : Inside (nearest_of ss)
  nearest_inside = inside_of (nearest_of ss) nearest_is.is

-- the better of the best so far and a station, by its number
abbrev pub better : Option Nearest → Station × ℕ → Option Nearest
better best s = with_station s.0 s.1 best

-- after the stations below a, n more
fold-below : (ss : List Station) (n a : ℕ) → a + n ≡ length ss → fold better (nearest_below ss a) (zip (drop a ss) (range_with_len a n)) ≡ nearest_below ss (a + n)
fold-below ss zero a e =
    ap (λ (ys : List Station). fold better (nearest_below ss a) (zip ys [])) (drop_all a ss (omega arith)) ∙ ap (nearest_below ss) (sym (add-zero a))
fold-below ss (suc n) a e =
    let q : a + 1 + n ≡ a + suc n = omega arith in
    ap (λ (ys : List Station). fold better (nearest_below ss a) (zip ys (range_with_len a (suc n)))) (drop_more ss a unknown (omega arith))
    ∙ (ap (λ (k : ℕ). fold better (nearest_below ss k) (zip (drop (a + 1) ss) (range_with_len (a + 1) n))) (sym (add-one a))
    ∙ (fold-below ss n (a + 1) (omega arith) ∙ ap (nearest_below ss) q))

-- the nearest is what going over the stations one by one leads to
pub fold-better : (ss : List Station) → length ss ≡ 16 → fold better None (zip ss (range_with_len 0 16)) ≡ nearest_of ss
unfolding nearest_of
fold-better ss e = fold-below ss 16 0 (sym e)
