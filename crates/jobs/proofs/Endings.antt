-- A job that asks to end, or is stuck, stays as it is; so it ends in one way, or never.
use Rattle.std.proofs.Common.{◌≡◌, ℕ, suc, ◌<◌, List, sym, refl, ap, ◌∙◌, subst, inl, inr, arith}
use Rattle.std.proofs.lemmas.Bool.{cases_lt}
use Rattle.calls.specs.declared.ending.Ending.{Ending}
use Rattle.calls.specs.declared.order.Order.{Order}
use Rattle.jobs.specs.declared.request.Request.{Request}
use Rattle.jobs.specs.declared.request.Request.TheVariants.{End}
use Rattle.jobs.specs.Alone.{Alone, Ends, begun, turn, after_turns, applied}
use Rattle.jobs.specs.Doing.{NotEnding}
use Rattle.jobs.specs.Meanings.{Meaning}
use Rattle.jobs.proofs.Turns.{stands_since, ends_alike}

module _ {V S : Type 0} (m : Meaning V S) (values : List V) (o : Order) where
  abbrev pub at : ℕ → Alone V S
  at k = after_turns m values k o

  abbrev pub Before : ℕ → Type 0
  Before j = (i : ℕ) → i < j → NotEnding m (at i)

  pub next : (j : ℕ) → Before j → NotEnding m (at j) → Before (suc j)
  next j before here i h =
      elim (cases_lt i j) [ inl l ↦ before i l | inr g ↦ subst (λ k. NotEnding m (at k)) (let e : j ≡ i = omega arith in e) here ]

  pub never : (j : ℕ) → Before j → NotEnding m (at j) → turn m values (at j) ≡ at j → (k : ℕ) → NotEnding m (at k)
  never j before here e k =
      elim (cases_lt k j) [ inl l ↦ before k l | inr g ↦ subst (NotEnding m) (sym (stands_since m values (begun m o) (at j) j k g refl e)) here ]

  -- what is known of one ending is known of every ending
  pub ends_once : (P : Ending → List V → Type 0) (ending : Ending) (after : List V) → Ends m o values ending after → P ending after
      → (other : Ending) (left : List V) → Ends m o values other left → P other left
  ends_once P ending after x p other left y =
      let same : at x.count ≡ at y.count = ends_alike m values (begun m o) x.count y.count ending other x.asks y.asks in
      let asks : ◌≡◌ {A = Request V} (End ending) (End other) = sym x.asks ∙ (ap (λ a. m.request a.state) same ∙ y.asks) in
      let endings : ending ≡ other = cc in
      let values_left : after ≡ left = x.leaves ∙ (ap (λ a. applied a.writes values) same ∙ sym y.leaves) in
      subst (P other) values_left (subst (λ e. P e after) endings p)

  -- a stuck job never ends
  pub never_ends : (j : ℕ) → Before j → NotEnding m (at j) → turn m values (at j) ≡ at j → (ending : Ending) (left : List V) → Ends m o values ending left → ⊥
  never_ends j before here stuck ending left x = never j before here stuck x.count ending x.asks
