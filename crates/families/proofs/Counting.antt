-- What a count does alone.
use Rattle.std.proofs.Common.{◌≡◌, ℕ, zero, suc, ◌+◌, ◌<◌, ◌≤◌, true, ◌≢◌, ◌⊎◌, List, [], length, get_or, take, Ok, Err, sym, refl, ap, ◌∙◌, subst, inl, inr, add-one, arith}
use Rattle.std.proofs.lemmas.List.Sums.{sum_by_more}
use Rattle.std.proofs.lemmas.Option.{slice_get-get_or, slice_get_past}
use Rattle.std.proofs.lemmas.Bool.{cases_lt, cases_eq, eq-eqb, ne_eqb, lt-ltb, le-ltb, or_right}
use Rattle.survey.specs.declared.metres.MetresRow.{MetresRow}
use Rattle.survey.specs.Ropes.{metres_row}
use Rattle.calls.specs.declared.ending.Ending.{Ending}
use Rattle.calls.specs.declared.order.Order.{Order}
use Rattle.jobs.specs.declared.request.Request.TheVariants.{Read, End}
use Rattle.jobs.specs.Alone.{Alone, Ends, ends_with, turn, after_turns, applied}
use Rattle.jobs.specs.Doing.{NotEnding}
use Rattle.jobs.proofs.Endings.{ends_once, never_ends}
use Rattle.jobs.proofs.Steps.{reads, stuck_read, reading}
use Rattle.families.specs.declared.count.Tally.{Tally}
use Rattle.families.specs.Counts.{Counting, count, count_first, count_request, capped}
use Rattle.families.specs.Transfers.{metres_of}
use Rattle.families.specs.Laws.{total, Counted, counts, bad_count, CountsAreRight}
use Rattle.families.proofs.Totals.{metres_most, total_most}

module _ (o : Order) (values : List MetresRow) where
  abbrev at : ℕ → Alone MetresRow Counting
  at k = after_turns count values k o

  abbrev tally : ℕ → ℕ → Tally
  tally k sum = record { line = k; end = o.a; sum = sum }

  abbrev adding : ℕ → Counting
  adding k = Ok (tally k (total (take k values)))

  abbrev still : Counting → Alone MetresRow Counting
  still s = record { state = s; writes = [] }

  first_bad : (o.kind ≢ 0) ⊎ (64 < o.a) → count_first o ≡ Err (record {})
  first_bad (inl k) = rw (ne_eqb o.kind 0 k)
  first_bad (inr h) = rw (lt-ltb 64 o.a h, or_right _ true refl)

  module _ (k0 : o.kind ≡ 0) (few : o.a ≤ 64) where
    first_adds : count_first o ≡ adding 0
    first_adds = rw (eq-eqb o.kind 0 k0, le-ltb 64 o.a few)

    asks_line : (k : ℕ) → k < o.a → count_request (adding k) ≡ Read k
    asks_line k h = rw (lt-ltb k o.a h)

    added : (k : ℕ) → k < o.a → k < length values → count.after_read (adding k) (get_or values k (metres_row 0)) ≡ adding (suc k)
    added k h l =
        let row = get_or values k (metres_row 0) in
        let t = total_most k values in
        let w = metres_most row in
        let line : capped (k + 1) ≡ suc k = omega arith in
        let sum : capped (total (take k values) + metres_of row) ≡ total (take (suc k) values) =
        (let e : capped (total (take k values) + metres_of row) ≡ total (take k values) + metres_of row = omega arith in e)
        ∙ (sym (sum_by_more metres_of values k (metres_row 0) l) ∙ ap (λ n. total (take n values)) (add-one k)) in
        ap (λ n. Ok (tally n (capped (total (take k values) + metres_of row)))) line ∙ ap (λ n. Ok (tally (suc k) n)) sum

    -- the lines below k are added after k turns
    after : (k : ℕ) → k ≤ o.a → k ≤ length values → at k ≡ still (adding k)
    after zero h l = ap still first_adds
    after (suc k) h l =
        ap (turn count values) (after k (omega arith) (omega arith))
        ∙ (reads count values (adding k) [] k (get_or values k (metres_row 0)) (asks_line k (omega arith)) (slice_get-get_or values k (metres_row 0) (omega arith))
        ∙ ap still (added k (omega arith) (omega arith)))

    counted_ends : o.a ≤ length values → Ends count o values (ends_with 0 (total (take o.a values))) values
    counted_ends l =
        let e = after o.a (omega arith) l in
        let asks : count_request (adding o.a) ≡ End (ends_with 0 (total (take o.a values))) = rw (le-ltb o.a o.a (omega arith)) in
        record { count = o.a; asks = ap (λ a. count_request a.state) e ∙ asks; leaves = sym (ap (λ a. applied a.writes values) e) }

    -- a line that is not there is never read
    not_there : length values < o.a → (ending : Ending) (left : List MetresRow) → Ends count o values ending left → ⊥
    not_there l ending left x =
        let n = length values in
        let e = after n (omega arith) (omega arith) in
        let on : (k : ℕ) → k ≤ n → NotEnding count (at k) =
        λ k h. subst (NotEnding count) (sym (after k (omega arith) h)) (reading count values (adding k) [] k (asks_line k (omega arith))) in
        let stuck = stuck_read count values (adding n) [] n (asks_line n l) (slice_get_past values n (omega arith)) in
        never_ends count values o n (λ i h. on i (omega arith)) (on n (omega arith)) (ap (turn count values) e ∙ (stuck ∙ sym e)) ending left x

  does : (ending : Ending) (left : List MetresRow) → Counted o values ending left → Ends count o values ending left
  does _ _ (counts k few l) = counted_ends k few l
  does _ _ (bad_count w) = record { count = 0; asks = ap count_request (first_bad w); leaves = refl }

  did : (ending : Ending) (left : List MetresRow) → Ends count o values ending left → Counted o values ending left
  did ending left x =
      elim (cases_eq o.kind 0) [
        | inl k ↦
            elim (cases_lt 64 o.a) [
              | inl many ↦ settled _ _ (bad_count (inr many))
              | inr few ↦ elim (cases_lt (length values) o.a) [ inl l ↦ absurd (not_there k few l ending left x) | inr l ↦ settled _ _ (counts k few l) ]
            ]
        | inr k ↦ settled _ _ (bad_count (inl k))
      ]
    where
      settled : (other : Ending) (then : List MetresRow) → Counted o values other then → Counted o values ending left
      settled other then p = ends_once count values o (Counted o values) other then (does other then p) p ending left x

pub counts_are_right : CountsAreRight
counts_are_right = record { only = did; always = does }
