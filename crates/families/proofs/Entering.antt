-- What an entry does alone.
use Rattle.std.proofs.Common.{◌≡◌, ℕ, suc, ◌<◌, List, [], ◌∷◌, length, set, Some, None, Option, Ok, Err, sym, refl, ap, ◌∙◌, subst, inl, inr, arith}
use Rattle.std.specs.List.{slice_get}
use Rattle.std.proofs.lemmas.Bool.{cases_lt, cases_eq, eq-eqb, ne_eqb}
use Rattle.survey.specs.declared.fault.ValueFault.{ValueFault}
use Rattle.std.proofs.lemmas.Option.{slice_get_within}
use Rattle.survey.specs.declared.leg.LegRow.{LegRow}
use Rattle.survey.specs.Formats.{or_blank}
use Rattle.survey.specs.Legs.{leg_fault, leg_format, closed_row}
use Rattle.calls.specs.declared.ending.Ending.{Ending}
use Rattle.calls.specs.declared.order.Order.{Order}
use Rattle.jobs.specs.Alone.{Alone, Ends, ends_with, turn, after_turns, applied}
use Rattle.jobs.specs.Doing.{NotEnding}
use Rattle.jobs.proofs.Endings.{ends_once, never_ends}
use Rattle.jobs.proofs.Steps.{reads, writes, stuck_read, stuck_write, reading, writing}
use Rattle.families.specs.declared.entry.EntryRefusal.{EntryRefusal}
use Rattle.families.specs.declared.entry.EntryRefusal.TheVariants.{Impossible, BadOrder}
use Rattle.families.specs.declared.entry.EntryState.TheVariants.{Closing, Writing, Written}
use Rattle.families.specs.Entries.{Entering, entry, entry_first, entry_request, refused, asked_leg}
use Rattle.families.specs.Laws.{Entered, enters, impossible, closes, unknown, EntriesAreRight}

module _ (o : Order) (values : List LegRow) where
  abbrev at : ℕ → Alone LegRow Entering
  at k = after_turns entry values k o

  -- an entry that is refused at once
  ends_now : (refusal : EntryRefusal) → entry_first o ≡ Err refusal → Ends entry o values (refused refusal) values
  ends_now refusal e = record { count = 0; asks = ap entry_request e; leaves = refl }

  first_writes : o.kind ≡ 0 → leg_fault (asked_leg o) ≡ None → entry_first o ≡ Ok (Writing o.a (asked_leg o))
  first_writes k f = rw (eq-eqb o.kind 0 k, f)

  first_impossible : (fault : ValueFault) → o.kind ≡ 0 → leg_fault (asked_leg o) ≡ Some fault → entry_first o ≡ Err (Impossible fault)
  first_impossible fault k f = rw (eq-eqb o.kind 0 k, f)

  first_closes : o.kind ≡ 1 → entry_first o ≡ Ok (Closing o.a)
  first_closes k = rw (ne_eqb o.kind 0 (λ e. omega arith), eq-eqb o.kind 1 k)

  first_unknown : 1 < o.kind → entry_first o ≡ Err BadOrder
  first_unknown k = rw (ne_eqb o.kind 0 (λ e. omega arith), ne_eqb o.kind 1 (λ e. omega arith))

  -- an entry that is to write a row after so many turns does so in the next, and ends
  then_writes : (k : ℕ) (row : LegRow) → at k ≡ record { state = Ok (Writing o.a row); writes = [] } → o.a < length values → Ends entry o values (ends_with 0 0) (set values o.a row)
  then_writes k row e h =
      let done : turn entry values (at k) ≡ record { state = Ok Written; writes = record { line = o.a; value = row } ∷ [] } =
      ap (turn entry values) e ∙ writes entry values (Ok (Writing o.a row)) [] o.a row refl h (omega arith) in
      record { count = suc k; asks = ap (λ a. entry_request a.state) done; leaves = sym (ap (λ a. applied a.writes values) done) }

  begins : (s : Entering) → entry_first o ≡ s → at 0 ≡ record { state = s; writes = [] }
  begins s e = ap (λ t. record { state = t; writes = [] }) e

  closed_next : (row : LegRow) → o.kind ≡ 1 → slice_get values o.a ≡ Some row → at 1 ≡ record { state = Ok (Writing o.a (closed_row (or_blank leg_format row))); writes = [] }
  closed_next row k e = ap (turn entry values) (begins (Ok (Closing o.a)) (first_closes k)) ∙ reads entry values (Ok (Closing o.a)) [] o.a row refl e

  does : (ending : Ending) (after : List LegRow) → Entered o values ending after → Ends entry o values ending after
  does _ _ (enters k f h) = then_writes 0 (asked_leg o) (begins (Ok (Writing o.a (asked_leg o))) (first_writes k f)) h
  does _ _ (impossible fault k f) = ends_now (Impossible fault) (first_impossible fault k f)
  does _ _ (closes row k e) = then_writes 1 (closed_row (or_blank leg_format row)) (closed_next row k e) (slice_get_within values o.a row e)
  does _ _ (unknown k) = ends_now BadOrder (first_unknown k)

  module _ (ending : Ending) (after : List LegRow) (x : Ends entry o values ending after) where
    settled : (other : Ending) (left : List LegRow) → Entered o values other left → Entered o values ending after
    settled other left p = ends_once entry values o (Entered o values) other left (does other left p) p ending after x

    -- an entry that is stuck on its first request never ended
    never_first : (s : Entering) → entry_first o ≡ s → NotEnding entry (record { state = s; writes = [] })
        → turn entry values (record { state = s; writes = [] }) ≡ record { state = s; writes = [] } → ⊥
    never_first s e on stuck =
        let b = begins s e in
        never_ends entry values o 0 (λ i h. absurd (omega arith)) (subst (NotEnding entry) (sym b) on) (ap (turn entry values) b ∙ (stuck ∙ sym b)) ending after x

    did_enter : o.kind ≡ 0 → (f : Option ValueFault) → leg_fault (asked_leg o) ≡ f → Entered o values ending after
    did_enter k None f =
        elim (cases_lt o.a (length values)) [
          | inl h ↦ settled _ _ (enters k f h)
          | inr h ↦
              let row = asked_leg o in
              absurd (never_first (Ok (Writing o.a row)) (first_writes k f) (writing entry values (Ok (Writing o.a row)) [] o.a row refl) (stuck_write entry values (Ok (Writing o.a row)) [] o.a row refl h))
        ]
    did_enter k (Some fault) f = settled _ _ (impossible fault k f)

    did_close : o.kind ≡ 1 → (v : Option LegRow) → slice_get values o.a ≡ v → Entered o values ending after
    did_close k (Some row) e = settled _ _ (closes row k e)
    did_close k None e =
        absurd (never_first (Ok (Closing o.a)) (first_closes k) (reading entry values (Ok (Closing o.a)) [] o.a refl) (stuck_read entry values (Ok (Closing o.a)) [] o.a refl e))

    did : Entered o values ending after
    did =
        elim (cases_eq o.kind 0) [
          | inl k ↦ did_enter k (leg_fault (asked_leg o)) refl
          | inr k ↦ elim (cases_eq o.kind 1) [ inl j ↦ did_close j (slice_get values o.a) refl | inr j ↦ settled _ _ (unknown (positive k j)) ]
        ]
      where
        positive : (o.kind ≡ 0 → ⊥) → (o.kind ≡ 1 → ⊥) → 1 < o.kind
        positive k j = omega arith

pub entries_are_right : EntriesAreRight
entries_are_right = record { only = did; always = does }
