-- What one leg, and a list of legs, does to the distances.
use Rattle.std.proofs.Common.{◌≡◌, ℕ, ◌+◌, ◌<◌, ◌≤◌, min, Bool, true, false, cond, ◌⊎◌, List, [], ◌∷◌, length, get_or, set, Some, None, Option, sym, refl, ap, ◌∙◌, subst, inl, inr, arith, length-set, get_or-set_other, get_or-set_same}
use Rattle.std.proofs.lemmas.Bool.{ltb-true, ltb-false, cases_eq}
use Rattle.survey.specs.declared.leg.LegRow.{LegRow}
use Rattle.survey.specs.Legs.{leads}
use Rattle.survey.proofs.Ranges.{InRange, leads_to_end}
use Rattle.routes.specs.declared.reach.Station.{Station}
use Rattle.routes.specs.Reaches.{unknown, is_noted, improved, improved_by, relaxed_by, relaxed_from, relaxed}
use Rattle.routes.specs.Routes.{Among}
use Rattle.routes.proofs.Flags.{is_finished, distance_at, clash}

-- more than any route that visits no station twice
abbrev pub beyond : ℕ
beyond = 4294967295

abbrev pub or_beyond : Option ℕ → ℕ
or_beyond None = beyond
or_beyond (Some d) = d

-- how far a station is; one that is not reached is beyond the others
abbrev pub far : List Station → ℕ → ℕ
far ss x = or_beyond (distance_at ss x)

pub reached_at : (o : Option ℕ) → or_beyond o < beyond → o ≡ Some (or_beyond o)
reached_at None h = absurd (let q : ⊥ = omega arith in q)
reached_at (Some d) h = refl

shorter : (d : ℕ) (o : Option ℕ) → is_noted d o ≡ true → d < or_beyond o
shorter d None e = ltb-true _ _ e
shorter d (Some l) e = ltb-true _ _ e

no_shorter : (d : ℕ) (o : Option ℕ) → is_noted d o ≡ false → or_beyond o ≤ d
no_shorter d None e = ltb-false _ _ e
no_shorter d (Some l) e = ltb-false _ _ e

-- each station is as it was, or has become nearer by a way of which K holds; the marks stay
pub record Gains (K : ℕ → ℕ → Type 0) (r s : List Station) : Type 0 where
  pub size : length s ≡ length r
  pub marks : (x : ℕ) → is_finished s x ≡ is_finished r x
  pub each : (x : ℕ) → (distance_at s x ≡ distance_at r x) ⊎ ((d : ℕ) × (distance_at s x ≡ Some d) × K x d × (d < far r x))

pub no_farther : {K : ℕ → ℕ → Type 0} {r s : List Station} → Gains K r s → (x : ℕ) → far s x ≤ far r x
no_farther g x = elim (g.each x) [ inl e ↦ omega (arith, ap or_beyond e) | inr k ↦ omega (arith, ap or_beyond k.1, k.3) ]

gains_none : {K : ℕ → ℕ → Type 0} (r : List Station) → Gains K r r
gains_none r = record { size = refl; marks = λ x. refl; each = λ x. inl refl }

gains_both : {K : ℕ → ℕ → Type 0} {r s t : List Station} → Gains K r s → Gains K s t → Gains K r t
gains_both {K} {r} {s} {t} g h =
    record {
      size = h.size ∙ g.size;
      marks = λ x. h.marks x ∙ g.marks x;
      each = λ x.
          elim (h.each x) [
            | inl e ↦
                elim (g.each x) [
                  | inl f ↦ inl (e ∙ f)
                  | inr k ↦ inr (k.0, e ∙ k.1, k.2, k.3)
                ]
            | inr k ↦ inr (k.0, k.1, k.2, omega (arith, k.3, no_farther g x))
          ];
    }

-- a way of length d to station v, where K holds of it once it is found
module _ (K : ℕ → ℕ → Type 0) (v d : ℕ) (r : List Station) (in_List : v < length r) where
  pub record Noted (found : Bool) (s : List Station) : Type 0 where
    pub gains : Gains K r s
    pub low : found ≡ true → far s v ≤ d

  abbrev noted_station : Station
  noted_station = record { distance = Some d; finished = is_finished r v }

  abbrev written : List Station
  written = set r v noted_station

  written_here : (x : ℕ) → x ≡ v → get_or written x unknown ≡ noted_station
  written_here x q = ap (λ (y : ℕ). get_or written y unknown) q ∙ get_or-set_same r v noted_station unknown in_List

  written_elsewhere : (x : ℕ) → (x ≡ v → ⊥) → get_or written x unknown ≡ get_or r x unknown
  written_elsewhere x n = get_or-set_other r v x noted_station unknown n

  written_gains : K v d → d < far r v → Gains K r written
  written_gains k l =
      record {
        size = length-set r v noted_station;
        marks = λ x.
            elim (cases_eq x v) [
              | inl q ↦ ap (λ (s : Station). s.finished) (written_here x q) ∙ ap (λ (y : ℕ). is_finished r y) (sym q)
              | inr n ↦ ap (λ (s : Station). s.finished) (written_elsewhere x n)
            ];
        each = λ x.
            elim (cases_eq x v) [
              | inl q ↦
                  let m : d < far r x = subst (λ (y : ℕ). d < far r y) (sym q) l in
                  let w : K x d = subst (λ (y : ℕ). K y d) (sym q) k in
                  inr (d, ap (λ (s : Station). s.distance) (written_here x q), w, m)
              | inr n ↦ inl (ap (λ (s : Station). s.distance) (written_elsewhere x n))
            ];
      }

  -- by whether the way is noted
  noted_at : (short : Bool) → K v d → is_noted d (distance_at r v) ≡ short → Noted true (cond short written r)
  noted_at false k e = record { gains = gains_none r; low = λ f. no_shorter d (distance_at r v) e }
  noted_at true k e =
      record {
        gains = written_gains k (shorter d (distance_at r v) e);
        low = λ f. omega (arith, ap (λ (s : Station). or_beyond s.distance) (written_here v refl));
      }

  -- by whether it is found
  noted : (found : Bool) → (found ≡ true → K v d) → Noted found (cond found (improved v d r) r)
  noted false k = record { gains = gains_none r; low = λ f. clash false f refl }
  noted true k = noted_at (is_noted d (distance_at r v)) (k refl) refl

-- what is known of the stations once the legs, in their order, were taken into account
abbrev pub relaxed_all : ℕ → List LegRow → List Station → List Station
relaxed_all u [] r = r
relaxed_all u (l ∷ ls) r = relaxed_all u ls (relaxed u l r)

-- the legs from station u, which is so far away
module _ (legs : List LegRow) (u away : ℕ) where
  -- one of the legs leads from u to x, which it reaches at e
  abbrev pub Via : ℕ → ℕ → Type 0
  Via x e = (leg : LegRow) × Among leg legs × (leads leg u x ≡ true) × (e ≡ away + leg.length)

  -- the legs ls are taken into account
  pub record Passed (ls : List LegRow) (r s : List Station) : Type 0 where
    pub gains : Gains Via r s
    pub covers : (leg : LegRow) → Among leg ls → (v : ℕ) → leads leg u v ≡ true → far s v ≤ away + leg.length

  -- a station that is at most as far as u keeps its distance
  pub stays : {r s : List Station} → Gains Via r s → (x : ℕ) → far r x ≤ away → distance_at s x ≡ distance_at r x
  stays g x h = elim (g.each x) [ inl e ↦ e | inr k ↦ absurd (let q : ⊥ = omega (arith, k.2.3, k.3) in q) ]

  module _ (ranges : (leg : LegRow) → Among leg legs → InRange leg) (near : away + 10000000 < beyond) where
    relax_by : (leg : LegRow) (r : List Station) → Among leg legs → length r ≡ 16 → Passed (leg ∷ []) r (relaxed_by u (away + leg.length) leg r)
    relax_by leg r i size =
        let k = ranges leg i in
        let d = away + leg.length in
        let forth = noted Via leg.to d r (omega (arith, k.to_low)) (leads leg u leg.to) (λ e. (leg, i, e, refl)) in
        let s = improved_by leg u leg.to d r in
        let back = noted Via leg.from d s (omega (arith, forth.gains.size, k.from_low)) (leads leg u leg.from) (λ e. (leg, i, e, refl)) in
        let t = relaxed_by u d leg r in
        let low : (v : ℕ) → leads leg u v ≡ true → far t v ≤ d =
        λ v e.
        elim (leads_to_end leg u v e) [
          | inl w ↦
              let x : far s v ≤ d = subst (λ (y : ℕ). far s y ≤ d) (sym w) (forth.low (subst (λ (y : ℕ). leads leg u y ≡ true) w e)) in
              omega (arith, x, no_farther back.gains v)
          | inr w ↦ subst (λ (y : ℕ). far t y ≤ d) (sym w) (back.low (subst (λ (y : ℕ). leads leg u y ≡ true) w e))
        ] in
        record {
          gains = gains_both forth.gains back.gains;
          covers = λ l j v e.
              elim j [
                | inl q ↦ subst (λ (y : LegRow). far t v ≤ away + y.length) (sym q) (low v (subst (λ (y : LegRow). leads y u v ≡ true) q e))
                | inr z ↦ absurd z
              ];
        }

    relax_one : (leg : LegRow) (r : List Station) → Among leg legs → length r ≡ 16 → distance_at r u ≡ Some away → Passed (leg ∷ []) r (relaxed u leg r)
    relax_one leg r i size e =
        let m : min (away + leg.length) 4294967295 ≡ away + leg.length = omega (arith, (ranges leg i).short) in
        let f : relaxed u leg r ≡ relaxed_by u (away + leg.length) leg r =
        ap (λ (o : Option ℕ). relaxed_from o u leg r) e ∙ ap (λ (d : ℕ). relaxed_by u d leg r) m in
        subst (Passed (leg ∷ []) r) (sym f) (relax_by leg r i size)

    pub pass : (ls : List LegRow) (r : List Station) → ((leg : LegRow) → Among leg ls → Among leg legs) → length r ≡ 16 → distance_at r u ≡ Some away
        → Passed ls r (relaxed_all u ls r)
    pass [] r within size e = record { gains = gains_none r; covers = λ leg i. absurd i }
    pass (l ∷ ls) r within size e =
        let one = relax_one l r (within l (inl refl)) size e in
        let same = stays one.gains u (omega (arith, ap or_beyond e)) in
        let rest = pass ls (relaxed u l r) (λ leg i. within leg (inr i)) (one.gains.size ∙ size) (same ∙ e) in
        record {
          gains = gains_both one.gains rest.gains;
          covers = λ leg i v h.
              elim i [
                | inl q ↦ omega (arith, one.covers leg (inl q) v h, no_farther rest.gains v)
                | inr j ↦ rest.covers leg j v h
              ];
        }
