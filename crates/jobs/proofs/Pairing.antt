-- A job of a pair goes as the job of its own family does.
use Rattle.std.proofs.Common.{◌≡◌, ℕ, zero, suc, Bool, true, false, ◌&&◌, eqb, ltb, List, [], length, Some, None, Option, sym, refl, ap, ◌∙◌, arith}
use Rattle.std.specs.Option.{option_or}
use Rattle.std.specs.List.{slice_get}
use Rattle.std.proofs.lemmas.Bool.{cond-true, cond-false, eq-eqb, ne_eqb}
use Rattle.either.specs.declared.Either.TheVariants.{Left, Right}
use Rattle.calls.specs.declared.ending.Ending.{Ending}
use Rattle.calls.specs.declared.order.Order.{Order}
use Rattle.jobs.specs.declared.request.Request.{Request}
use Rattle.jobs.specs.declared.request.Request.TheVariants.{Read, Write, End}
use Rattle.jobs.specs.Meanings.{Meaning}
use Rattle.jobs.specs.Alone.{Alone, Ends, begun, take_in, join, turn, turn_at, turns, newest, applied}
use Rattle.jobs.specs.Pairs.{beside, lowered, EndsAsItsOwn}

-- a family whose states are states of another, in which they ask for and do the same
module _ {V S T : Type 0} (m : Meaning V S) (n : Meaning V T) (f : S → T) (asks : (s : S) → n.request (f s) ≡ m.request s)
    (reads : (s : S) (v : V) → n.after_read (f s) v ≡ f (m.after_read s v)) (writes : (s : S) → n.after_write (f s) ≡ f (m.after_write s)) where
  abbrev lifted : Alone V S → Alone V T
  lifted a = record { state = f a.state; writes = a.writes }

  taken : (a : Alone V S) (o : Option V) → take_in n (lifted a) o ≡ lifted (take_in m a o)
  taken a None = refl
  taken a (Some v) = ap (λ (t : T). record { state = t; writes = a.writes }) (reads a.state v)

  joined : (a : Alone V S) (l : ℕ) (v : V) (b : Bool) → join n (lifted a) l v b ≡ lifted (join m a l v b)
  joined a l v true = ap (λ (t : T). record { state = t; writes = (join m a l v true).writes }) (writes a.state)
  joined a l v false = refl

  turned_at : (values : List V) (a : Alone V S) (q : Request V) → turn_at n values (lifted a) q ≡ lifted (turn_at m values a q)
  turned_at values a (Read l) = taken a (option_or (newest a.writes l) (slice_get values l))
  turned_at values a (Write l v) = joined a l v (ltb l (length values) && ltb (length a.writes) 16)
  turned_at values a (End ending) = refl

  turned : (values : List V) (k : ℕ) (a : Alone V S) → turns n values k (lifted a) ≡ lifted (turns m values k a)
  turned values zero a = refl
  turned values (suc k) a =
      let b = turns m values k a in
      ap (turn n values) (turned values k a) ∙ (ap (turn_at n values (lifted b)) (asks b.state) ∙ turned_at values b (m.request b.state))

  pub ends_so : (o p : Order) (values : List V) (ending : Ending) (after : List V) → n.first o ≡ f (m.first p) → Ends n o values ending after → Ends m p values ending after
  ends_so o p values ending after e x =
      let k = x.count in
      let g : turns n values k (begun n o) ≡ lifted (turns m values k (begun m p)) =
      ap (λ (t : T). turns n values k (record { state = t; writes = [] })) e ∙ turned values k (begun m p) in
      record {
        count = k;
        asks = sym (ap (λ (y : Alone V T). n.request y.state) g ∙ asks (turns m values k (begun m p)).state) ∙ x.asks;
        leaves = x.leaves ∙ ap (λ (y : Alone V T). applied y.writes values) g;
      }

pub ends_as_its_own : {V S T : Type 0} (m : Meaning V S) (n : Meaning V T) → EndsAsItsOwn m n
ends_as_its_own m n =
    record {
      of_first = λ o values ending after e. ends_so m (beside m n) Left (λ s. refl) (λ s v. refl) (λ s. refl) o o values ending after (cond-true (eqb o.kind 0) _ _ (eq-eqb o.kind 0 e));
      of_second = λ o values ending after h. ends_so n (beside m n) Right (λ s. refl) (λ s v. refl) (λ s. refl) o (lowered o) values ending after (cond-false (eqb o.kind 0) _ _ (ne_eqb o.kind 0 (λ e. omega arith)));
    }
