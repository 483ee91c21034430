-- A pass over the lines, as turns of the search alone.
use Rattle.std.proofs.Common.{◌≡◌, ℕ, zero, suc, ◌+◌, ◌<◌, ◌≤◌, ltb, List, map, length, get_or, take, drop, Some, None, Option, sym, refl, ap, ◌∙◌, inl, inr, add-one, arith}
use Rattle.std.specs.List.{slice_get}
use Rattle.std.proofs.lemmas.Bool.{cases_lt, lt-ltb, le-ltb, cond-true, cond-false}
use Rattle.std.proofs.lemmas.List.{drop_more}
use Rattle.std.proofs.lemmas.Option.{slice_get-get_or, slice_get_past}
use Rattle.survey.specs.declared.leg.LegRow.{LegRow}
use Rattle.survey.specs.Legs.{as_leg, leg_row}
use Rattle.jobs.specs.declared.request.Request.TheVariants.{Read}
use Rattle.jobs.specs.Alone.{Alone, turn, turns, take_in, turn_at}
use Rattle.routes.specs.declared.search.Search.{Search}
use Rattle.routes.specs.declared.search.Next.{Next}
use Rattle.routes.specs.declared.search.Next.TheVariants.{Line, Ended}
use Rattle.routes.specs.declared.reach.Station.{Station}
use Rattle.routes.specs.Reaches.{relaxed}
use Rattle.routes.specs.Searches.{Searching, route_family, request_of, after_row, choose, line_done}
use Rattle.routes.specs.Answers.{still, asked_row}
use Rattle.jobs.proofs.Turns.{turns_front}
use Rattle.routes.proofs.Relaxing.{relaxed_all}

-- a turn that reads a line, by what the list has there
module _ (rows : List LegRow) (s : Search) (l : ℕ) (asks : Read l ≡ request_of s.next) where
  reads_so : (o : Option LegRow) → slice_get rows l ≡ o → turn route_family rows (still s) ≡ take_in route_family (still s) o
  reads_so o e = ap (turn_at route_family rows (still s)) (sym asks) ∙ ap (take_in route_family (still s)) e

  pub turn_reads : (row : LegRow) → slice_get rows l ≡ Some row → turn route_family rows (still s) ≡ still (after_row s row s.next)
  turn_reads row e = reads_so (Some row) e

  pub turn_lacks : length rows ≤ l → turn route_family rows (still s) ≡ still s
  turn_lacks h = reads_so None (slice_get_past rows l h)

-- the same of the row that the search asks for
module _ (rows : List LegRow) (s : Search) where
  took : (n : Next) → s.next ≡ n → (row : LegRow) → asked_row rows n ≡ Some row → turn route_family rows (still s) ≡ still (after_row s row n)
  took (Line u l) e row f =
      let asks : Read l ≡ request_of s.next = ap request_of (sym e) in
      turn_reads rows s l asks row f ∙ ap (λ (n : Next). still (after_row s row n)) e
  took (Ended found) e row f = let z : ◌≡◌ {A = ℕ} 0 1 = cc in absurd (let q : ⊥ = omega arith in q)

  rested : (n : Next) → s.next ≡ n → asked_row rows n ≡ None → turn route_family rows (still s) ≡ still s
  rested (Line u l) e f = reads_so rows s l (ap request_of (sym e)) None f
  rested (Ended found) e f = ap (turn_at route_family rows (still s)) (ap request_of e)

  pub turn_takes : (row : LegRow) → asked_row rows s.next ≡ Some row → turn route_family rows (still s) ≡ still (after_row s row s.next)
  turn_takes row e = took s.next refl row e

  pub turn_rests : asked_row rows s.next ≡ None → turn route_family rows (still s) ≡ still s
  turn_rests e = rested s.next refl e

abbrev pub at_line : ℕ → ℕ → ℕ → ℕ → List Station → Search
at_line b c u l r = record { target = b; count = c; next = Line u l; reach = record { stations = r } }

abbrev row_at : List LegRow → ℕ → LegRow
row_at rows l = get_or rows l (leg_row 0 0 0 1)

-- the pass for station u over the lines below c
module _ (rows : List LegRow) (b c u : ℕ) where
  abbrev after_line : ℕ → List Station → List Station
  after_line l r = relaxed u (as_leg (row_at rows l)) r

  one_turn : (l : ℕ) (r : List Station) → l < length rows → turn route_family rows (still (at_line b c u l r)) ≡ still (line_done b c u l (record { stations = after_line l r }))
  one_turn l r h = turn_reads rows (at_line b c u l r) l refl (row_at rows l) (slice_get-get_or rows l (leg_row 0 0 0 1) h)

  next_line : (l : ℕ) (r : List Station) → l < length rows → l + 1 < c → turn route_family rows (still (at_line b c u l r)) ≡ still (at_line b c u (l + 1) (after_line l r))
  next_line l r h k = one_turn l r h ∙ ap still (cond-true (ltb (l + 1) c) _ _ (lt-ltb (l + 1) c k))

  last_line : (l : ℕ) (r : List Station) → l < length rows → c ≤ l + 1 → turn route_family rows (still (at_line b c u l r)) ≡ still (choose b c (record { stations = after_line l r }))
  last_line l r h k = one_turn l r h ∙ ap still (cond-false (ltb (l + 1) c) _ _ (le-ltb (l + 1) c k))

  -- the search stands before a line that the book has, or is the first that it lacks
  pub record Waits (a : Alone LegRow Searching) : Type 0 where
    pub line : ℕ
    pub stations : List Station
    pub inside : line ≤ length rows
    pub is : a ≡ still (at_line b c u line stations)

  -- where the book lacks a line, the search never comes past it
  module _ (lacking : length rows < c) where
    waits_on : (a : Alone LegRow Searching) → Waits a → Waits (turn route_family rows a)
    waits_on a w =
        let l = w.line in
        let r = w.stations in
        elim (cases_lt l (length rows)) [
          | inl h ↦ record { line = l + 1; stations = after_line l r; inside = omega arith; is = ap (turn route_family rows) w.is ∙ next_line l r h (omega arith) }
          | inr h ↦ record { line = l; stations = r; inside = w.inside; is = ap (turn route_family rows) w.is ∙ turn_lacks rows (at_line b c u l r) l refl h }
        ]

    pub waits : (r : List Station) (k : ℕ) → Waits (turns route_family rows k (still (at_line b c u 0 r)))
    waits r zero = record { line = 0; stations = r; inside = omega arith; is = refl }
    waits r (suc k) = waits_on (turns route_family rows k (still (at_line b c u 0 r))) (waits r k)

  module _ (enough : c ≤ length rows) where
    -- within a pass, each turn reads the next line
    pub lines_read : (r : List Station) (k : ℕ) → k < c → (s : List Station) × (turns route_family rows k (still (at_line b c u 0 r)) ≡ still (at_line b c u k s))
    lines_read r zero h = (r, refl)
    lines_read r (suc k) h =
        let w = lines_read r k (omega arith) in
        let s = after_line k w.0 in
        (s, ap (turn route_family rows) w.1 ∙ (next_line k w.0 (omega arith) (omega arith) ∙ ap (λ (l : ℕ). still (at_line b c u l s)) (add-one k)))

    -- from line l on, with suc k lines to come
    lines_on : (k l : ℕ) (r : List Station) → l + suc k ≡ c
        → turns route_family rows (suc k) (still (at_line b c u l r)) ≡ still (choose b c (record { stations = relaxed_all u (map as_leg (take (suc k) (drop l rows))) r }))
    lines_on zero l r e =
        let h : l < length rows = omega arith in
        last_line l r h (omega arith)
        ∙ ap (λ (ys : List LegRow). still (choose b c (record { stations = relaxed_all u (map as_leg (take 1 ys)) r }))) (sym (drop_more rows l (leg_row 0 0 0 1) h))
    lines_on (suc k) l r e =
        let h : l < length rows = omega arith in
        turns_front route_family rows (suc k) (still (at_line b c u l r))
        ∙ (ap (turns route_family rows (suc k)) (next_line l r h (omega arith))
        ∙ (lines_on k (l + 1) (after_line l r) (omega arith)
        ∙ ap (λ (ys : List LegRow). still (choose b c (record { stations = relaxed_all u (map as_leg (take (suc (suc k)) ys)) r }))) (sym (drop_more rows l (leg_row 0 0 0 1) h))))

    -- a whole pass takes all legs into account, and then the next station is chosen
    pub a_pass : (n : ℕ) (r : List Station) → n ≡ c → 0 < n → turns route_family rows n (still (at_line b c u 0 r)) ≡ still (choose b c (record { stations = relaxed_all u (map as_leg (take n rows)) r }))
    a_pass zero r e h = absurd (let q : ⊥ = omega arith in q)
    a_pass (suc k) r e h = lines_on k 0 r (omega arith)
