-- A search alone ends in time, and its answer is right.
use Rattle.std.proofs.Common.{◌≡◌, ℕ, zero, suc, ◌+◌, ◌-◌, ◌*◌, ◌%◌, ◌<◌, ◌≤◌, true, false, ◌||◌, eqb, ltb, List, [], length, take, Some, None, Ok, Err, Option, sym, refl, ap, ◌∙◌, subst, inl, inr, mod-eq_of_lt, suc-mul, arith}
use native.Mathlib.Nat.{add-mod_left}
use Rattle.std.proofs.lemmas.Bool.{ltb-false, cond-true, cond-false, cases_eq, cases_lt, cases_Bool, eq-eqb, ne_eqb, or_parts}
use Rattle.survey.specs.declared.leg.LegRow.{LegRow}
use Rattle.survey.proofs.Ranges.{InRange}
use Rattle.calls.specs.declared.ending.Ending.{Ending}
use Rattle.calls.specs.declared.order.Order.{Order}
use Rattle.calls.specs.Endings.{bad_ending}
use Rattle.jobs.specs.declared.request.Request.{Request}
use Rattle.jobs.specs.declared.request.Request.TheVariants.{Read, End}
use Rattle.jobs.specs.Alone.{Alone, begun, turns, Ends, applied}
use Rattle.jobs.specs.declared.written.Written.{Written}
use Rattle.routes.specs.declared.search.Search.{Search}
use Rattle.routes.specs.declared.search.Next.{Next}
use Rattle.routes.specs.declared.search.Next.TheVariants.{Line, Ended}
use Rattle.routes.specs.declared.reach.Nearest.{Nearest}
use Rattle.routes.specs.declared.reach.Station.{Station}
use Rattle.routes.specs.Reaches.{reached_first, marked, nearest_of}
use Rattle.routes.specs.Searches.{Searching, route_family, bad_order, ending_of, request_of, chosen, begun_at, first_next, first_search}
use Rattle.routes.specs.Routes.{Among, Route, here, onward, Right, legs_of, Searched, SearchesAreRight, EndedSearchesAreRight}
use Rattle.routes.specs.Answers.{still, length_found, Answers}
use Rattle.routes.proofs.Legs.{all_in_range}
use Rattle.routes.proofs.Relaxing.{relaxed_all}
use Rattle.routes.proofs.Choosing.{IsNearest, nearest_is}
use Rattle.routes.proofs.Flags.{is_finished, distance_at, left_set}
use Rattle.routes.proofs.Finishing.{Before, After, finish, finish_marks, no_route, least_way, goes_on, still_unfinished, begins, first_unfinished}
use Rattle.jobs.proofs.Turns.{turns_add, ended_since, ends_alike}
use Rattle.routes.proofs.Passing.{at_line, a_pass, lines_read, waits}

abbrev asks : Alone LegRow Searching → Request LegRow
asks s = route_family.request s.state

module _ (rows : List LegRow) (a b c : ℕ) where
  abbrev legs : List LegRow
  legs = legs_of rows c

  abbrev after : ℕ → Alone LegRow Searching → Alone LegRow Searching
  after k s = turns route_family rows k s

  -- from s, where a pass begins, the search asks to end within so many turns, and its answer is right
  pub record Outcome (within : ℕ) (s : Alone LegRow Searching) : Type 0 where
    pub count : ℕ
    pub soon : count ≤ within
    pub in_order : (k : ℕ) → k < count → asks (after k s) ≡ Read (k % c)
    pub ending : Ending
    pub ends : asks (after count s) ≡ End ending
    pub unwritten : (after count s).writes ≡ []
    pub right : Right legs a b ending

  at_once : (within : ℕ) (found : Option ℕ) (s : Search) → s.next ≡ Ended found → Right legs a b (ending_of found) → Outcome within (still s)
  at_once within found s e r =
      record { count = 0; soon = omega arith; in_order = λ k h. absurd (let q : ⊥ = omega arith in q); ending = ending_of found; ends = ap (λ (n : Next). request_of n) e; unwritten = refl; right = r }

  -- a pass, and then what follows
  later : (within : ℕ) (s t : Alone LegRow Searching) → ((k : ℕ) → k < c → asks (after k s) ≡ Read k) → after c s ≡ t → Outcome within t → Outcome (within + c) s
  later within s t read e o =
      let then : (k : ℕ) → after (c + k) s ≡ after k t = λ k. turns_add route_family rows c k s ∙ ap (after k) e in
      record {
        count = c + o.count;
        soon = omega (arith, o.soon);
        in_order = λ k h.
            elim (cases_lt k c) [
              | inl l ↦ read k l ∙ ap Read (sym (mod-eq_of_lt l))
              | inr l ↦
                  let i = k - c in
                  let f : c + i ≡ k = omega arith in
                  subst (λ (n : ℕ). asks (after n s) ≡ Read (n % c)) f (ap asks (then i) ∙ (o.in_order i (omega arith) ∙ ap Read (sym (add-mod_left c i))))
            ];
        ending = o.ending;
        ends = ap asks (then o.count) ∙ o.ends;
        unwritten = ap (λ (x : Alone LegRow Searching). x.writes) (then o.count) ∙ o.unwritten;
        right = o.right;
      }

  module _ (target : b < 16) (some-line : 0 < c) (enough : c ≤ length rows) where
    ranges : (leg : LegRow) → Among leg legs → InRange leg
    ranges = all_in_range (take c rows)

    -- after a pass: the search ends rightly, or goes on with one pass less to come
    module _ {m limit : ℕ} {ss : List Station} (k : After legs a m limit ss) (unfinished : is_finished ss b ≡ false)
        (again : (u : ℕ) (ts : List Station) → Before legs a m u ts → is_finished ts b ≡ false → Outcome (m * c) (still (at_line b c u 0 ts))) where
      next_pass : (best : Option Nearest) → IsNearest ss 16 best → Outcome (m * c) (still (chosen b c (record { stations = ss }) best))
      next_pass None s = at_once (m * c) None _ refl (inr (refl, refl, no_route legs a ranges k b unfinished s))
      next_pass (Some n) s =
          elim (cases_eq n.station b) [
            | inl q ↦
                let g = cond-true (eqb n.station b) _ _ (eq-eqb n.station b q) in
                subst (λ (x : Search). Outcome (m * c) (still x)) (sym g)
                (at_once (m * c) (Some n.distance) _ refl (inl (refl, least_way legs a ranges k b unfinished n s q)))
            | inr q ↦
                let g = cond-false (eqb n.station b) _ _ (ne_eqb n.station b q) in
                subst (λ (x : Search). Outcome (m * c) (still x)) (sym g)
                (again n.station (marked n.station ss) (goes_on legs a ranges k b unfinished n s) (still_unfinished legs a ranges k b unfinished n s q))
          ]

    -- by the passes to come: while the target is not finished, a station is left
    run : (m u : ℕ) (ss : List Station) → Before legs a m u ss → is_finished ss b ≡ false → Outcome (m * c) (still (at_line b c u 0 ss))
    run zero u ss p e = absurd (let q : ⊥ = omega (arith, left_set ss b (record { distance = distance_at ss b; finished = true }) refl (omega (arith, p.known.size)) e, p.left) in q)
    run (suc m) u ss p e =
        let passed = relaxed_all u legs ss in
        let k = finish legs a ranges m u ss p in
        let f : is_finished passed b ≡ false = finish_marks legs a ranges m u ss p b ∙ e in
        let o = next_pass k f (λ v ts q g. run m v ts q g) (nearest_of passed) (nearest_is passed) in
        let read : (j : ℕ) → j < c → asks (after j (still (at_line b c u 0 ss))) ≡ Read j = λ j h. ap asks (lines_read rows b c u enough ss j h).1 in
        subst (λ (n : ℕ). Outcome n (still (at_line b c u 0 ss))) (sym (suc-mul m c)) (later (m * c) _ _ read (a_pass rows b c u enough c ss refl some-line) o)

-- without legs a route stays where it is
no_legs : {a v d : ℕ} → Route [] a v d → a ≡ v
no_legs here = refl
no_legs (onward w leg i e) = absurd i

-- the first state
module _ (rows : List LegRow) (a b c : ℕ) where
  abbrev begun_with : Next → Search
  begun_with n = record { target = b; count = c; next = n; reach = record { stations = reached_first a } }

  abbrev first : Alone LegRow Searching
  first = still (begun_at a b c)

  from_itself : a ≡ b → Outcome rows a b c (15 * c) first
  from_itself q =
      at_once rows a b c (15 * c) (Some 0) (begun_at a b c) (cond-true (eqb a b) _ _ (eq-eqb a b q))
      (inl (refl, record { route = subst (λ (y : ℕ). Route (legs_of rows c) a y 0) q here; least = λ d w. omega arith }))

  -- where there is a line to read, the search begins with the first
  begins_reading : (a ≡ b → ⊥) → (c ≡ 0 → ⊥) → first_next a b c ≡ Line a 0
  begins_reading n z = cond-false (eqb a b) _ _ (ne_eqb a b n) ∙ cond-false (eqb c 0) _ _ (ne_eqb c 0 z)

  without_lines : (a ≡ b → ⊥) → c ≡ 0 → Outcome rows a b c (15 * c) first
  without_lines n z =
      at_once rows a b c (15 * c) None (begun_at a b c) (cond-false (eqb a b) _ _ (ne_eqb a b n) ∙ cond-true (eqb c 0) _ _ (eq-eqb c 0 z))
      (inr (refl, refl, λ d w. n (no_legs (subst (λ (y : ℕ). Route (legs_of rows y) a b d) z w))))

  from_first : a < 16 → b < 16 → c ≤ length rows → Outcome rows a b c (15 * c) first
  from_first inside target enough =
      elim (cases_eq a b) [
        | inl q ↦ from_itself q
        | inr n ↦
            elim (cases_eq c 0) [
              | inl z ↦ without_lines n z
              | inr z ↦
                  let legs = legs_of rows c in
                  subst (λ (x : Next). Outcome rows a b c (15 * c) (still (begun_with x))) (sym (begins_reading n z))
                  (run rows a b c target (omega arith) enough 15 a (reached_first a) (begins legs a inside) (first_unfinished legs a inside b n))
            ]
      ]

module _ (o : Order) (rows : List LegRow) (good : bad_order o ≡ false) where
  first_is : Ok (begun_at o.a o.b o.c) ≡ first_search o
  first_is = sym (cond-false (bad_order o) _ _ good)

  searched : Outcome rows o.a o.b o.c (15 * o.c) (first rows o.a o.b o.c) → Searched o rows
  searched y =
      let x = subst (λ (s : Searching). Outcome rows o.a o.b o.c (15 * o.c) (record { state = s; writes = [] })) first_is y in
      record { count = x.count; soon = x.soon; in_order = x.in_order; ending = x.ending; asks = x.ends; unwritten = x.unwritten; right = x.right }

  -- a book that lacks a line is not searched to the end, unless there is nothing to search
  never_ends : length rows < o.c → (o.a ≡ o.b → ⊥) → (k : ℕ) (ending : Ending) → asks (turns route_family rows k (begun route_family o)) ≡ End ending → ⊥
  never_ends lacking n k ending e =
      let f : first_search o ≡ Ok (begun_with rows o.a o.b o.c (Line o.a 0)) = sym first_is ∙ ap (λ (t : Next). Ok (begun_with rows o.a o.b o.c t)) (begins_reading rows o.a o.b o.c n (omega arith)) in
      let w = waits rows o.b o.c o.a lacking _ k in
      let g = ap (λ (s : Searching). turns route_family rows k (record { state = s; writes = [] })) f ∙ w.is in
      let q : ◌≡◌ {A = Request LegRow} (Read w.line) (End ending) = sym (ap asks g) ∙ e in
      let z : ◌≡◌ {A = ℕ} 0 1 = cc in
      omega arith

pub searches_are_right : SearchesAreRight
searches_are_right o rows good enough =
    let p = or_parts (ltb 0 o.kind) (ltb 15 o.a || (ltb 15 o.b || ltb 64 o.c)) good in
    let q = or_parts (ltb 15 o.a) (ltb 15 o.b || ltb 64 o.c) p.1 in
    let r = or_parts (ltb 15 o.b) (ltb 64 o.c) q.1 in
    searched o rows good
    (from_first rows o.a o.b o.c (omega (arith, ltb-false 15 o.a q.0)) (omega (arith, ltb-false 15 o.b r.0)) enough)

-- what a right answer says of the length that was found
right_found : (legs : List LegRow) (a b : ℕ) (found : Option ℕ) → Right legs a b (ending_of found) → Answers legs a b (length_found (Ended found))
right_found legs a b (Some d) (inl p) = p.1
right_found legs a b (Some d) (inr p) = absurd (let q : ⊥ = omega (arith, p.0) in q)
right_found legs a b None (inl p) = absurd (let q : ⊥ = omega (arith, p.0) in q)
right_found legs a b None (inr p) = p.2

found_right : (legs : List LegRow) (a b : ℕ) (ending : Ending) (n : Next) → request_of n ≡ End ending → Right legs a b ending → Answers legs a b (length_found n)
found_right legs a b ending (Line u l) e r = let z : ◌≡◌ {A = ℕ} 0 1 = cc in absurd (let q : ⊥ = omega arith in q)
found_right legs a b ending (Ended found) e r =
    let f : ending ≡ ending_of found = cc in
    right_found legs a b found (subst (Right legs a b) f r)

-- the state after 15 × c turns has the answer
pub answer_is_right : (rows : List LegRow) (a b c : ℕ) → a < 16 → b < 16 → c ≤ length rows → (last : Search)
    → turns route_family rows (15 * c) (still (begun_at a b c)) ≡ still last → Answers (legs_of rows c) a b (length_found last.next)
answer_is_right rows a b c inside target enough last e =
    let x = from_first rows a b c inside target enough in
    let there = turns route_family rows x.count (still (begun_at a b c)) in
    let same : turns route_family rows (15 * c) (still (begun_at a b c)) ≡ there =
    ended_since route_family rows (still (begun_at a b c)) there x.count (15 * c) x.ending x.soon refl x.ends in
    found_right (legs_of rows c) a b x.ending last.next (ap asks (sym e ∙ same) ∙ x.ends) x.right

-- what a search answers is what it answers whenever it is looked at again
alike : (o : Order) (rows : List LegRow) → Searched o rows → (ending : Ending) (after : List LegRow) → Ends route_family o rows ending after
    → Right (legs_of rows o.c) o.a o.b ending × (after ≡ rows)
alike o rows x ending after e =
    let same : turns route_family rows x.count (begun route_family o) ≡ turns route_family rows e.count (begun route_family o) =
    ends_alike route_family rows (begun route_family o) x.count e.count x.ending ending x.asks e.asks in
    let q : ◌≡◌ {A = Request LegRow} (End x.ending) (End ending) = sym x.asks ∙ (ap asks same ∙ e.asks) in
    let c : x.ending ≡ ending = cc in
    let w : (turns route_family rows e.count (begun route_family o)).writes ≡ [] = ap (λ (s : Alone LegRow Searching). s.writes) (sym same) ∙ x.unwritten in (
      subst (Right (legs_of rows o.c) o.a o.b) c x.right,
      e.leaves ∙ ap (λ (ws : List (Written LegRow)). applied ws rows) w,
    )

-- the job of a bad order
abbrev refused : Alone LegRow Searching
refused = record { state = Err (record {}); writes = [] }

-- it ends at once
ends_refused : (o : Order) (rows : List LegRow) → bad_order o ≡ true → (ending : Ending) (after : List LegRow) → Ends route_family o rows ending after
    → (ending ≡ bad_ending) × (after ≡ rows)
ends_refused o rows bad ending after e =
    let f : begun route_family o ≡ refused = ap (λ (s : Searching). record { state = s; writes = [] }) (cond-true (bad_order o) _ _ bad) in
    let g : turns route_family rows e.count (begun route_family o) ≡ refused =
    ended_since route_family rows (begun route_family o) refused 0 e.count bad_ending (omega arith) f refl in
    let q : ◌≡◌ {A = Request LegRow} (End bad_ending) (End ending) = sym (ap asks g) ∙ e.asks in
    let c : ending ≡ bad_ending = cc in
    (c, e.leaves ∙ ap (λ (s : Alone LegRow Searching). applied s.writes rows) g)

pub ended_searches_are_right : EndedSearchesAreRight
ended_searches_are_right o rows ending after e =
    elim (cases_Bool (bad_order o)) [
      | inl bad ↦
          let r = ends_refused o rows bad ending after e in
          (inl (bad, r.0), r.1)
      | inr good ↦
          let x : Searched o rows =
          elim (cases_lt (length rows) o.c) [
            | inr enough ↦ searches_are_right o rows good enough
            | inl lacking ↦
                elim (cases_eq o.a o.b) [
                  | inl q ↦ searched o rows good (from_itself rows o.a o.b o.c q)
                  | inr n ↦ absurd (never_ends o rows good lacking n e.count ending e.asks)
                ]
          ] in
          let r = alike o rows x ending after e in
          (inr (good, r.0), r.1)
    ]
