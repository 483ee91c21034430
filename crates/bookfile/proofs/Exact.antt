-- A file is refused exactly when a fault comes.
use Rattle.std.proofs.Common.{◌≡◌, ℕ, zero, suc, ◌+◌, ◌-◌, ◌<◌, ◌≤◌, min, Bool, true, false, not, eqb, ltb, leb, List, [], ◌∷◌, length, Some, None, Option, refl, ap, ◌∙◌, subst, arith, below_none, below_more}
use Rattle.std.specs.Option.{option_or}
use Rattle.std.proofs.lemmas.Bool.{ltb-true, ltb-false, leb-true, leb-false, eqb-true, eqb-false, not-true, not-false, lt-ltb, le-ltb, le-leb, lt-leb, eq-eqb, ne_eqb}
use Rattle.survey.specs.declared.fault.ValueFault.{ValueFault}
use Rattle.survey.specs.Formats.{Format}
use Rattle.bookfile.specs.declared.fault.FileCause.{FileCause}
use Rattle.bookfile.specs.declared.fault.FileCause.TheVariants.{Short, Lines, Pairs, Length, Line, Value}
use Rattle.bookfile.specs.Faults.{FileFault}
use Rattle.bookfile.specs.Files.{line_count, pair_count, line_place, line_of, value_place, row_of, file_size, fault_where, value_fault, first_of, pair_fault, pairs_fault, head_fault, file_fault}
use Rattle.bookfile.specs.Meanings.{RightHead, RightPair, RightBefore, RightFile, Comes, Exactly}
use Rattle.bookfile.proofs.PairFaults.{from, pairs_on, pairs_stop, pairs_done}

module _ {R : Type 0} (f : Format R) (n : ℕ) (bs : List ℕ) where
  -- what a first fault, or none, says, where P holds if there is none
  abbrev Says : Type 0 → Option FileFault → Type 0
  Says P None = P
  Says P (Some e) = Comes f n bs e.cause e.place

  head_says : (short lines pairs whole : Bool) → ltb (length bs) 4 ≡ short → not (eqb (line_count bs) n) ≡ lines → ltb 4096 (pair_count bs) ≡ pairs
      → not (eqb (length bs) (file_size f (pair_count bs))) ≡ whole
      → Says (RightHead f n bs) (first_of (fault_where short (length bs) Short ∷ fault_where lines 0 Lines ∷ fault_where pairs 2 Pairs
      ∷ fault_where whole (min (length bs) (file_size f (pair_count bs))) Length ∷ []))
  head_says true lines pairs whole s l p w = (ltb-true _ _ s, refl)
  head_says false true pairs whole s l p w = (ltb-false _ _ s, eqb-false _ _ (not-true _ l), refl)
  head_says false false true whole s l p w = (ltb-false _ _ s, eqb-true _ _ (not-false _ l), ltb-true _ _ p, refl)
  head_says false false false true s l p w = (ltb-false _ _ s, eqb-true _ _ (not-false _ l), ltb-false _ _ p, eqb-false _ _ (not-true _ w), refl)
  head_says false false false false s l p w =
      record { room = ltb-false _ _ s; lines = eqb-true _ _ (not-false _ l); pairs = ltb-false _ _ p; whole = eqb-true _ _ (not-false _ w) }

  head_sound : Says (RightHead f n bs) (head_fault f n bs)
  head_sound = head_says _ _ _ _ refl refl refl refl

  head_taken : RightHead f n bs → head_fault f n bs ≡ None
  head_taken h =
      rw (le-ltb (length bs) 4 h.room, eq-eqb (line_count bs) n h.lines, le-ltb 4096 (pair_count bs) h.pairs, eq-eqb (length bs) (file_size f (pair_count bs)) h.whole)

  abbrev m : ℕ
  m = pair_count bs

  right_next : (i : ℕ) → RightBefore f n bs i → RightPair f n bs i → RightBefore f n bs (i + 1)
  right_next i before here = below_more (RightPair f n bs) i before here

  -- one pair, then those behind it
  module _ (head : RightHead f n bs) (i : ℕ) (before : RightBefore f n bs i) (lt : i < m) (rest : Option FileFault) where
    pair_says : (line : Bool) (value : Option ValueFault) → leb n (line_of bs i) ≡ line → f.fault (row_of f m bs i) ≡ value
        → (RightPair f n bs i → Says (RightBefore f n bs m) rest)
        → Says (RightBefore f n bs m) (option_or (first_of (fault_where line (line_place i) Line ∷ value_fault (value_place f m i) value ∷ [])) rest)
    pair_says true value l v next = (head, (i, lt, before, leb-true _ _ l, refl))
    pair_says false None l v next = next (record { line = leb-false _ _ l; value = v })
    pair_says false (Some fault) l v next = (head, (i, lt, before, leb-false _ _ l, v, refl))

  pairs_sound : RightHead f n bs → (k i : ℕ) → i + k ≡ m → RightBefore f n bs i → Says (RightBefore f n bs m) (pairs_fault f n m bs i k)
  unfolding pairs_fault
  pairs_sound head zero i e before = subst (RightBefore f n bs) (omega arith) before
  pairs_sound head (suc k) i e before =
      pair_says head i before (omega arith) (pairs_fault f n m bs (i + 1) k) _ _ refl refl (λ here. pairs_sound head k (i + 1) (omega arith) (right_next i before here))

  file_says : (first : Option FileFault) → Says (RightHead f n bs) first → Says (RightFile f n bs) (option_or first (pairs_fault f n m bs 0 m))
  file_says None head = after head (pairs_fault f n m bs 0 m) (pairs_sound head m 0 (omega arith) (below_none (RightPair f n bs)))
    where
      after : RightHead f n bs → (rest : Option FileFault) → Says (RightBefore f n bs m) rest → Says (RightFile f n bs) rest
      after head None says = (head, says)
      after head (Some e) says = says
  file_says (Some e) says = says

  sound : Says (RightFile f n bs) (file_fault f n bs)
  sound = file_says (head_fault f n bs) head_sound

  -- the pairs that are right are passed over
  pair_taken : (i : ℕ) → RightPair f n bs i → pair_fault f n m bs i ≡ None
  pair_taken i here = rw (lt-leb n (line_of bs i) here.line, here.value)

  passed : (i : ℕ) → i ≤ m → RightBefore f n bs i → pairs_fault f n m bs 0 m ≡ from f n m bs i
  passed zero h before = let e : m ≡ m - 0 = omega arith in ap (pairs_fault f n m bs 0) e
  passed (suc i) h before =
      passed i (omega arith) (λ j l. before j (omega arith)) ∙ (pairs_on f n m bs i (omega arith) (pair_taken i (before i (omega arith))) ∙ ap (from f n m bs) (omega arith))

  taken : RightFile f n bs → file_fault f n bs ≡ None
  taken r = rw (head_taken r.0) (passed m (omega arith) r.1 ∙ pairs_done f n m bs m (omega arith))

  pair_refused : (head : RightHead f n bs) (i : ℕ) → i < m → RightBefore f n bs i → (e : FileFault) → pair_fault f n m bs i ≡ Some e → file_fault f n bs ≡ Some e
  pair_refused head i h before e p = rw (head_taken head) (passed i (omega arith) before ∙ pairs_stop f n m bs i e h p)

  refused : (place : ℕ) (cause : FileCause) → Comes f n bs cause place → file_fault f n bs ≡ Some (record { place = place; cause = cause })
  refused place Short c = rw (lt-ltb (length bs) 4 c.0, c.1)
  refused place Lines c = rw (le-ltb (length bs) 4 c.0, ne_eqb (line_count bs) n c.1, c.2)
  refused place Pairs c = rw (le-ltb (length bs) 4 c.0, eq-eqb (line_count bs) n c.1, lt-ltb 4096 m c.2, c.3)
  refused place Length c =
      rw (le-ltb (length bs) 4 c.0, eq-eqb (line_count bs) n c.1, le-ltb 4096 m c.2, ne_eqb (length bs) (file_size f m) c.3, c.4)
  refused place Line c =
      let at = c.1 in
      pair_refused c.0 at.0 at.1 at.2 (record { place = place; cause = Line }) (rw (le-leb n (line_of bs at.0) at.3, at.4))
  refused place (Value fault) c =
      let at = c.1 in
      pair_refused c.0 at.0 at.1 at.2 (record { place = place; cause = Value fault }) (rw (lt-leb n (line_of bs at.0) at.3, at.4, at.5))

  pub exactly : Exactly f n bs
  exactly =
      record {
        right = λ e. subst (Says (RightFile f n bs)) e sound;
        taken = taken;
        comes = λ fault e. subst (Says (RightFile f n bs)) e sound;
        refused = λ fault c. refused fault.place fault.cause c;
      }
