-- What the distances say while stations are finished one by one, the nearest first.
use Rattle.std.proofs.Common.{◌≡◌, ℕ, zero, suc, ◌+◌, ◌*◌, ◌<◌, ◌≤◌, Bool, true, false, ◌⊎◌, List, length, get_or, replicate, Some, None, Option, sym, refl, ap, ◌∙◌, subst, inl, inr, arith, length-set, get_or-set_other, get_or-set_same}
use Rattle.std.proofs.lemmas.Bool.{cases_eq, cases_Bool}
use Rattle.survey.specs.declared.leg.LegRow.{LegRow}
use Rattle.survey.specs.Legs.{leads}
use Rattle.survey.proofs.Ranges.{InRange, leads_to_end}
use Rattle.routes.specs.declared.reach.Nearest.{Nearest}
use Rattle.routes.specs.declared.reach.Station.{Station}
use Rattle.routes.specs.Reaches.{unknown, all_unknown, reached_first, marked}
use Rattle.routes.specs.Routes.{Among, Route, here, onward, Least, NoRoute}
use Rattle.routes.proofs.Relaxing.{beyond, or_beyond, far, reached_at, no_farther, Passed, relaxed_all, pass, stays}
use Rattle.routes.proofs.Choosing.{IsNearest}
use Rattle.routes.proofs.Flags.{is_finished, distance_at, left_in, left_same, left_set, marked_distance, marked_true, marked_false, marked_keeps, marked_other, finished_inside, clash}

unknown_there : (n x : ℕ) → get_or (replicate n unknown) x unknown ≡ unknown
unknown_there zero x = refl
unknown_there (suc n) zero = refl
unknown_there (suc n) (suc x) = unknown_there n x

-- a search from station a by the legs
module _ (legs : List LegRow) (a : ℕ) where
  -- What stays true throughout, with m passes to come at most. Nothing is said of least lengths: a distance is that of some route, and is small.
  pub record Known (m : ℕ) (ss : List Station) : Type 0 where
    pub size : length ss ≡ 16
    pub begun : is_finished ss a ≡ true
    pub at_begin : far ss a ≡ 0
    pub way : (v d : ℕ) → v < 16 → distance_at ss v ≡ Some d → Route legs a v d × (d + 10000000 * m ≤ 150000000)

  -- every leg from station x is taken into account
  abbrev Covered : List Station → ℕ → Type 0
  Covered ss x = (leg : LegRow) → Among leg legs → (v : ℕ) → leads leg x v ≡ true → far ss v ≤ far ss x + leg.length

  -- before the pass for station u, which is finished last and is so far away
  pub record Before (m u : ℕ) (ss : List Station) : Type 0 where
    pub known : Known m ss
    pub left : left_in ss ≡ m
    pub station : u < 16
    pub reached : distance_at ss u ≡ Some (far ss u)
    pub low : (x : ℕ) → is_finished ss x ≡ true → far ss x ≤ far ss u
    pub high : (x : ℕ) → x < 16 → is_finished ss x ≡ false → far ss u ≤ far ss x
    pub covered : (x : ℕ) → is_finished ss x ≡ true → (x ≡ u → ⊥) → Covered ss x

  -- after it; the finished stations are at most as far as the limit, and the others at least
  pub record After (m limit : ℕ) (ss : List Station) : Type 0 where
    pub known : Known m ss
    pub left : left_in ss ≡ suc m
    pub reached : limit < beyond
    pub low : (x : ℕ) → is_finished ss x ≡ true → far ss x ≤ limit
    pub high : (x : ℕ) → x < 16 → is_finished ss x ≡ false → limit ≤ far ss x
    pub covered : (x : ℕ) → is_finished ss x ≡ true → Covered ss x

  module _ (ranges : (leg : LegRow) → Among leg legs → InRange leg) where
    leads_inside : (leg : LegRow) → Among leg legs → (u v : ℕ) → leads leg u v ≡ true → v < 16
    leads_inside leg i u v e =
        let k = ranges leg i in
        elim (leads_to_end leg u v e) [ inl q ↦ omega arith | inr q ↦ omega arith ]

    passed : (m u : ℕ) (ss : List Station) → Before (suc m) u ss → Passed legs u (far ss u) legs ss (relaxed_all u legs ss)
    passed m u ss b =
        pass legs u (far ss u) ranges (omega (arith, (b.known.way u (far ss u) b.station b.reached).1)) legs ss (λ leg i. i) b.known.size b.reached

    -- a pass leaves the marks as they are
    pub finish_marks : (m u : ℕ) (ss : List Station) → Before (suc m) u ss → (x : ℕ) → is_finished (relaxed_all u legs ss) x ≡ is_finished ss x
    finish_marks m u ss b = (passed m u ss b).gains.marks

    pub finish : (m u : ℕ) (ss : List Station) → Before (suc m) u ss → After m (far ss u) (relaxed_all u legs ss)
    finish m u ss b =
        let k = b.known in
        let after = relaxed_all u legs ss in
        let away = far ss u in
        let way = k.way u away b.station b.reached in
        let p : Passed legs u away legs ss after = passed m u ss b in
        let was : (x : ℕ) (f : Bool) → is_finished after x ≡ f → is_finished ss x ≡ f = λ x f e. sym (p.gains.marks x) ∙ e in
        let same : (x : ℕ) → is_finished ss x ≡ true → far after x ≡ far ss x = λ x e. ap or_beyond (stays legs u away p.gains x (b.low x e)) in
        record {
          known =
              record {
                size = p.gains.size ∙ k.size;
                begun = p.gains.marks a ∙ k.begun;
                at_begin = same a k.begun ∙ k.at_begin;
                way = λ v d h l.
                    elim (p.gains.each v) [
                      | inl e ↦
                          let o = k.way v d h (sym e ∙ l) in
                          (o.0, omega (arith, o.1))
                      | inr g ↦
                          let leg = g.2.0 in
                          let f : ◌≡◌ {A = Option ℕ} (Some g.0) (Some d) = sym g.1 ∙ l in
                          let n : g.0 ≡ d = cc in
                          let q : d ≡ away + leg.length = sym n ∙ g.2.3 in
                          (subst (Route legs a v) (sym q) (onward way.0 leg g.2.1 g.2.2), omega (arith, q, way.1, (ranges leg g.2.1).short))
                    ];
              };
          left = left_same after ss p.gains.size p.gains.marks ∙ b.left;
          reached = omega (arith, way.1);
          low = λ x e. omega (arith, same x (was x true e), b.low x (was x true e));
          high = λ x h e.
              elim (p.gains.each x) [
                | inl q ↦ omega (arith, ap or_beyond q, b.high x h (was x false e))
                | inr g ↦ omega (arith, ap or_beyond g.1, g.2.3)
              ];
          covered = λ x e leg i v h.
              let f = was x true e in
              elim (cases_eq x u) [
                | inl q ↦
                    let c = p.covers leg i v (subst (λ (y : ℕ). leads leg y v ≡ true) q h) in
                    let t : far ss x ≡ away = ap (λ (y : ℕ). far ss y) q in
                    omega (arith, c, same x f, t)
                | inr n ↦ omega (arith, b.covered x f n leg i v h, same x f, no_farther p.gains v)
              ];
        }

    module _ {m limit : ℕ} {ss : List Station} (k : After m limit ss) where
      -- an unfinished station that is reached, and no farther than d
      abbrev Beyond : ℕ → Type 0
      Beyond d = (j : ℕ) × (j < 16) × (is_finished ss j ≡ false) × (far ss j < beyond) × (far ss j ≤ d)

      -- a station that is nearer than beyond the others is reached by a route, and that is short
      way_to : (v : ℕ) → v < 16 → far ss v < beyond → Route legs a v (far ss v) × (far ss v + 10000000 * m ≤ 150000000)
      way_to v h l = k.known.way v (far ss v) h (reached_at (distance_at ss v) l)

      -- A route ends at a finished station that is no farther, or is at least as long as some other is far.
      reaches : {v d : ℕ} → Route legs a v d → ((is_finished ss v ≡ true) × (far ss v ≤ d)) ⊎ Beyond d
      reaches here = inl (k.known.begun, omega (arith, k.known.at_begin))
      reaches (onward {u} {v} {d} w leg i e) =
          elim (reaches w) [
            | inl f ↦
                let c = k.covered u f.0 leg i v e in
                elim (cases_Bool (is_finished ss v)) [
                  | inl t ↦ inl (t, omega (arith, c, f.1))
                  | inr t ↦
                      let inside : u < 16 = omega (arith, finished_inside ss u f.0, k.known.size) in
                      let o = way_to u inside (omega (arith, k.low u f.0, k.reached)) in
                      inr (v, leads_inside leg i u v e, t, omega (arith, c, o.1, (ranges leg i).short), omega (arith, c, f.1))
                ]
            | inr f ↦ inr (f.0, f.1, f.2, f.3, omega (arith, f.4))
          ]

      -- the target is not finished
      module _ (b : ℕ) (unfinished : is_finished ss b ≡ false) where
        pub no_route : IsNearest ss 16 None → NoRoute legs a b
        no_route s d w =
            elim (reaches w) [
              | inl f ↦ clash (is_finished ss b) f.0 unfinished
              | inr f ↦ s.low f.0 (far ss f.0) f.1 f.2 (reached_at (distance_at ss f.0) f.3)
            ]

        module _ (n : Nearest) (s : IsNearest ss 16 (Some n)) where
          abbrev away : far ss n.station ≡ n.distance
          away = ap or_beyond s.is.reached

          pub least_way : n.station ≡ b → Least legs a b n.distance
          least_way e =
              record {
                route = subst (λ (y : ℕ). Route legs a y n.distance) e (k.known.way n.station n.distance s.is.inside s.is.reached).0;
                least = λ d w.
                    elim (reaches w) [
                      | inl g ↦ clash (is_finished ss b) g.0 unfinished
                      | inr g ↦
                          let l : n.distance ≤ far ss g.0 = s.low g.0 (far ss g.0) g.1 g.2 (reached_at (distance_at ss g.0) g.3) in
                          omega (arith, g.4)
                    ];
              }

          -- the others that are not finished are as far, or are not reached
          no_nearer : (x : ℕ) → x < 16 → is_finished ss x ≡ false → (o : Option ℕ) → distance_at ss x ≡ o → n.distance ≤ or_beyond o
          no_nearer x h e None f = omega (arith, (k.known.way n.station n.distance s.is.inside s.is.reached).1)
          no_nearer x h e (Some d) f = s.low x d h e f

          pub goes_on : Before m n.station (marked n.station ss)
          goes_on =
              let u = n.station in
              let next = marked u ss in
              let known = k.known in
              let in_list : u < length ss = omega (arith, s.is.inside, known.size) in
              let limited : limit ≤ far ss u = k.high u s.is.inside s.is.unfinished in
              let same : (x : ℕ) → far next x ≡ far ss x = λ x. ap or_beyond (marked_distance ss u x in_list) in
              record {
                known =
                    record {
                      size = length-set ss u _ ∙ known.size;
                      begun = marked_keeps ss u a in_list known.begun;
                      at_begin = same a ∙ known.at_begin;
                      way = λ v d h l. known.way v d h (sym (marked_distance ss u v in_list) ∙ l);
                    };
                left = omega (arith, left_set ss u (record { distance = distance_at ss u; finished = true }) refl in_list s.is.unfinished, k.left);
                station = s.is.inside;
                reached = marked_distance ss u u in_list ∙ (s.is.reached ∙ ap Some (sym (same u ∙ away)));
                low = λ x e.
                    elim (marked_true ss u x in_list e) [
                      | inl q ↦ subst (λ (y : ℕ). far next y ≤ far next u) (sym q) (omega arith)
                      | inr f ↦ omega (arith, k.low x f, limited, same x, same u)
                    ];
                high = λ x h e. omega (arith, no_nearer x h (marked_false ss u x in_list e) (distance_at ss x) refl, same x, same u, away);
                covered = λ x e q leg i v h.
                    elim (marked_true ss u x in_list e) [
                      | inl p ↦ absurd (q p)
                      | inr f ↦ omega (arith, k.covered x f leg i v h, same x, same v)
                    ];
              }

          pub still_unfinished : (n.station ≡ b → ⊥) → is_finished (marked n.station ss) b ≡ false
          still_unfinished q = marked_other ss n.station b (omega (arith, s.is.inside, k.known.size)) (λ e. q (sym e)) unfinished

  -- the beginning, where the first station alone is reached, and is finished
  module _ (inside : a < 16) where
    abbrev first_station : Station
    first_station = record { distance = Some 0; finished = true }

    first_there : get_or (reached_first a) a unknown ≡ first_station
    first_there = get_or-set_same all_unknown a first_station unknown inside

    other_there : (x : ℕ) → (x ≡ a → ⊥) → get_or (reached_first a) x unknown ≡ unknown
    other_there x n = get_or-set_other all_unknown a x first_station unknown n ∙ unknown_there 16 x

    far_there : far (reached_first a) a ≡ 0
    far_there = ap (λ (s : Station). or_beyond s.distance) first_there

    -- the first station alone is finished
    finished_first : (x : ℕ) → is_finished (reached_first a) x ≡ true → x ≡ a
    finished_first x e =
        elim (cases_eq x a) [
          | inl q ↦ q
          | inr n ↦ clash (is_finished (reached_first a) x) e (ap (λ (s : Station). s.finished) (other_there x n))
        ]

    -- and alone reached
    way_first : (v d : ℕ) → distance_at (reached_first a) v ≡ Some d → (v ≡ a) × (d ≡ 0)
    way_first v d l =
        elim (cases_eq v a) [
          | inl q ↦
              let e : distance_at (reached_first a) v ≡ Some 0 = ap (λ (y : ℕ). distance_at (reached_first a) y) q ∙ ap (λ (s : Station). s.distance) first_there in
              let f : ◌≡◌ {A = Option ℕ} (Some d) (Some 0) = sym l ∙ e in
              (q, cc)
          | inr n ↦
              let f : ◌≡◌ {A = Option ℕ} None (Some d) = sym (ap (λ (s : Station). s.distance) (other_there v n)) ∙ l in
              let z : ◌≡◌ {A = ℕ} 0 1 = cc in
              absurd (let q : ⊥ = omega arith in q)
        ]

    left_at_first : left_in (reached_first a) ≡ 15
    left_at_first = omega (arith, left_set all_unknown a first_station refl inside (ap (λ (s : Station). s.finished) (unknown_there 16 a)))

    pub begins : Before 15 a (reached_first a)
    begins =
        record {
          known =
              record {
                size = length-set all_unknown a first_station;
                begun = ap (λ (s : Station). s.finished) first_there;
                at_begin = far_there;
                way = λ v d h l.
                    let q = way_first v d l in
                    (subst (λ (y : ℕ). Route legs a y d) (sym q.0) (subst (Route legs a a) (sym q.1) here), omega (arith, q.1));
              };
          left = left_at_first;
          station = inside;
          reached = ap (λ (s : Station). s.distance) first_there ∙ ap Some (sym far_there);
          low = λ x e. subst (λ (y : ℕ). far (reached_first a) y ≤ far (reached_first a) a) (sym (finished_first x e)) (omega arith);
          high = λ x h e. omega (arith, far_there);
          covered = λ x e n. absurd (n (finished_first x e));
        }

    pub first_unfinished : (b : ℕ) → (a ≡ b → ⊥) → is_finished (reached_first a) b ≡ false
    first_unfinished b n = ap (λ (s : Station). s.finished) (other_there b (λ e. n (sym e)))
