-- What a transfer does alone.
use Rattle.std.proofs.Common.{◌≡◌, ℕ, ◌+◌, ◌-◌, ◌<◌, ◌≤◌, true, ◌≢◌, ◌⊎◌, List, [], ◌∷◌, set, Some, None, Option, Ok, Err, sym, refl, ap, ◌∙◌, subst, inl, inr, arith}
use Rattle.std.specs.List.{slice_get}
use Rattle.std.proofs.lemmas.Bool.{cases_lt, cases_eq, eq-eqb, ne_eqb, lt-ltb, le-ltb, le-leb, lt-leb, or_right}
use Rattle.std.proofs.lemmas.Option.{slice_get_within}
use Rattle.survey.specs.declared.metres.MetresRow.{MetresRow}
use Rattle.survey.specs.Ropes.{metres_row}
use Rattle.calls.specs.declared.ending.Ending.{Ending}
use Rattle.calls.specs.declared.order.Order.{Order}
use Rattle.jobs.specs.Alone.{Alone, Ends, turn, after_turns, applied}
use Rattle.jobs.specs.Doing.{NotEnding}
use Rattle.jobs.proofs.Endings.{next, ends_once, never_ends}
use Rattle.jobs.proofs.Steps.{reads, writes, stuck_read, reading}
use Rattle.families.specs.declared.transfer.TransferRefusal.{TransferRefusal}
use Rattle.families.specs.declared.transfer.TransferRefusal.TheVariants.{TooFew, TooMany, BadOrder}
use Rattle.families.specs.declared.transfer.TransferState.TheVariants.{Leaving, Coming, Taking, Giving, Given}
use Rattle.families.specs.Transfers.{Moving, transfer, transfer_first, transfer_request, refused, decided, asked_move, metres_of}
use Rattle.families.specs.Laws.{total, Between, Transferred, moves, too_few, too_many, bad, TransfersAreRight}
use Rattle.families.proofs.Totals.{metres_most, metres_kept, total_set, others_stay}

module _ (o : Order) (values : List MetresRow) where
  abbrev at : ℕ → Alone MetresRow Moving
  at k = after_turns transfer values k o

  abbrev still : Moving → Alone MetresRow Moving
  still s = record { state = s; writes = [] }

  begins : (s : Moving) → transfer_first o ≡ s → at 0 ≡ still s
  begins s e = ap still e

  -- a transfer that is refused leaves the values
  ends_still : (k : ℕ) (refusal : TransferRefusal) → at k ≡ still (Err refusal) → Ends transfer o values (refused refusal) values
  ends_still k refusal e = record { count = k; asks = ap (λ a. transfer_request a.state) e; leaves = sym (ap (λ a. applied a.writes values) e) }

  first_bad : (o.kind ≢ 0) ⊎ (o.a ≡ o.b) → transfer_first o ≡ Err BadOrder
  first_bad (inl k) = rw (ne_eqb o.kind 0 k)
  first_bad (inr e) = rw (eq-eqb o.a o.b e, or_right _ true refl)

  first_leaves : o.kind ≡ 0 → o.a ≢ o.b → transfer_first o ≡ Ok (Leaving (asked_move o))
  first_leaves k e = rw (eq-eqb o.kind 0 k, ne_eqb o.a o.b e)

  module _ (held : MetresRow) (k : o.kind ≡ 0) (apart : o.a ≢ o.b) (from : slice_get values o.a ≡ Some held) where
    abbrev coming : Moving
    coming = Ok (Coming (asked_move o) (metres_of held))

    one : at 1 ≡ still coming
    one = ap (turn transfer values) (begins _ (first_leaves k apart)) ∙ reads transfer values (Ok (Leaving (asked_move o))) [] o.a held refl from

    two : (there : MetresRow) → slice_get values o.b ≡ Some there → at 2 ≡ still (decided (asked_move o) (metres_of held) (metres_of there))
    two there to = ap (turn transfer values) one ∙ reads transfer values coming [] o.b there refl to

  module _ (held there : MetresRow) (b : Between o values held there) where
    abbrev outcome : Moving
    outcome = decided (asked_move o) (metres_of held) (metres_of there)

    after_two : at 2 ≡ still outcome
    after_two = two held b.kind b.apart b.from there b.to

    module _ (enough : o.c ≤ metres_of held) where
      abbrev taken : MetresRow
      taken = metres_row (metres_of held - o.c)

      abbrev given : MetresRow
      given = metres_row (metres_of there + o.c)

      abbrev taking : Moving
      taking = Ok (Taking o.a (metres_of held - o.c) o.b (metres_of there + o.c))

      decided_moves : metres_of there + o.c ≤ 1000000 → outcome ≡ taking
      decided_moves h = rw (le-ltb (metres_of held) o.c enough, le-leb (metres_of there + o.c) 1000000 h)

      decided_many : 1000000 < metres_of there + o.c → outcome ≡ Err TooMany
      decided_many h = rw (le-ltb (metres_of held) o.c enough, lt-leb (metres_of there + o.c) 1000000 h)

      four : metres_of there + o.c ≤ 1000000 → at 4 ≡ record { state = Ok Given; writes = record { line = o.b; value = given } ∷ record { line = o.a; value = taken } ∷ [] }
      four h =
          let three : at 3 ≡ record { state = Ok (Giving o.b (metres_of there + o.c)); writes = record { line = o.a; value = taken } ∷ [] } =
          ap (turn transfer values) (after_two ∙ ap still (decided_moves h)) ∙ writes transfer values taking [] o.a taken refl (slice_get_within values o.a held b.from) (omega arith) in
          ap (turn transfer values) three
          ∙ writes transfer values (Ok (Giving o.b (metres_of there + o.c))) (record { line = o.a; value = taken } ∷ []) o.b given refl (slice_get_within values o.b there b.to) (omega arith)

    decided_few : metres_of held < o.c → outcome ≡ Err TooFew
    decided_few h = rw (lt-ltb (metres_of held) o.c h)

  pub does : (ending : Ending) (after : List MetresRow) → Transferred o values ending after → Ends transfer o values ending after
  does _ _ (moves held there b h l) =
      let e = four held there b h l in
      record { count = 4; asks = ap (λ a. transfer_request a.state) e; leaves = sym (ap (λ a. applied a.writes values) e) }
  does _ _ (too_few held there b h) = ends_still 2 TooFew (after_two held there b ∙ ap still (decided_few held there b h))
  does _ _ (too_many held there b h l) = ends_still 2 TooMany (after_two held there b ∙ ap still (decided_many held there b h l))
  does _ _ (bad w) = ends_still 0 BadOrder (begins (Err BadOrder) (first_bad w))

  module _ (ending : Ending) (after : List MetresRow) (x : Ends transfer o values ending after) where
    settled : (other : Ending) (left : List MetresRow) → Transferred o values other left → Transferred o values ending after
    settled other left p = ends_once transfer values o (Transferred o values) other left (does other left p) p ending after x

    -- both lines were read, so one of three things came of it
    did_read : (held there : MetresRow) → Between o values held there → Transferred o values ending after
    did_read held there b =
        elim (cases_lt (metres_of held) o.c) [
          | inl few ↦ settled _ _ (too_few held there b few)
          | inr enough ↦
              elim (cases_lt 1000000 (metres_of there + o.c)) [
                | inl many ↦ settled _ _ (too_many held there b enough many)
                | inr fits ↦ settled _ _ (moves held there b enough fits)
              ]
        ]

    module _ (k : o.kind ≡ 0) (apart : o.a ≢ o.b) where
      -- a transfer that is stuck at its first or second read never ended
      not_first : slice_get values o.a ≡ None → ⊥
      not_first none =
          let s = Ok (Leaving (asked_move o)) in
          let b = begins s (first_leaves k apart) in
          never_ends transfer values o 0 (λ i h. absurd (omega arith)) (subst (NotEnding transfer) (sym b) (reading transfer values s [] o.a refl))
          (ap (turn transfer values) b ∙ (stuck_read transfer values s [] o.a refl none ∙ sym b)) ending after x

      not_second : (held : MetresRow) → slice_get values o.a ≡ Some held → slice_get values o.b ≡ None → ⊥
      not_second held from none =
          let s = coming held k apart from in
          let b = begins (Ok (Leaving (asked_move o))) (first_leaves k apart) in
          let e = one held k apart from in
          let before = next transfer values o 0 (λ i h. absurd (omega arith)) (subst (NotEnding transfer) (sym b) (reading transfer values (Ok (Leaving (asked_move o))) [] o.a refl)) in
          never_ends transfer values o 1 before (subst (NotEnding transfer) (sym e) (reading transfer values s [] o.b refl))
          (ap (turn transfer values) e ∙ (stuck_read transfer values s [] o.b refl none ∙ sym e)) ending after x

      did_to : (held : MetresRow) → slice_get values o.a ≡ Some held → (v : Option MetresRow) → slice_get values o.b ≡ v → Transferred o values ending after
      did_to held from (Some there) to = did_read held there (record { kind = k; apart = apart; from = from; to = to })
      did_to held from None to = absurd (not_second held from to)

      did_from : (v : Option MetresRow) → slice_get values o.a ≡ v → Transferred o values ending after
      did_from (Some held) from = did_to held from (slice_get values o.b) refl
      did_from None from = absurd (not_first from)

    pub did : Transferred o values ending after
    did =
        elim (cases_eq o.kind 0) [
          | inl k ↦
              elim (cases_eq o.a o.b) [
                | inl same ↦ settled _ _ (bad (inr same))
                | inr apart ↦ did_from k apart (slice_get values o.a) refl
              ]
          | inr k ↦ settled _ _ (bad (inl k))
        ]

  -- what leaves one line comes to the other
  moved_total : (held there : MetresRow) → Between o values held there → o.c ≤ metres_of held → metres_of there + o.c ≤ 1000000
      → total (set (set values o.a (metres_row (metres_of held - o.c))) o.b (metres_row (metres_of there + o.c))) ≡ total values
  moved_total held there b enough fits =
      let taken = metres_row (metres_of held - o.c) in
      let given = metres_row (metres_of there + o.c) in
      let most = metres_most held in
      let t = metres_kept (metres_of held - o.c) (omega arith) in
      let g = metres_kept (metres_of there + o.c) fits in
      let first = total_set values o.a held taken b.from in
      let second = total_set (set values o.a taken) o.b there given (others_stay values o.a o.b taken there b.apart b.to) in
      omega arith

  stays_total : (ending : Ending) (after : List MetresRow) → Transferred o values ending after → total after ≡ total values
  stays_total _ _ (moves held there b enough fits) = moved_total held there b enough fits
  stays_total _ _ (too_few held there b h) = refl
  stays_total _ _ (too_many held there b h l) = refl
  stays_total _ _ (bad w) = refl

pub transfers_are_right : TransfersAreRight
transfers_are_right =
    record {
      exactly = record { only = did; always = does };
      total_stays = λ o values ending after x. stays_total o values ending after (did o values ending after x);
    }
