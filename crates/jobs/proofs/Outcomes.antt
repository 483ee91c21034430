-- What comes of a job, turn by turn, and what that says of its order.
use Rattle.std.proofs.Common.{◌≡◌, ℕ, zero, suc, ◌+◌, ◌-◌, ◌<◌, Bool, true, false, cond, ◌&&◌, ltb, List, length, Some, None, Option, Ok, Err, sym, refl, ap, ◌∙◌, subst, arith}
use Rattle.std.specs.Option.{option_or}
use Rattle.std.specs.List.{slice_get}
use Rattle.calls.specs.declared.order.Order.{Order}
use Rattle.calls.specs.declared.refusal.Refusal.TheVariants.{NoLine, TooManyWrites}
use Rattle.jobs.specs.declared.request.Request.{Request}
use Rattle.jobs.specs.declared.request.Request.TheVariants.{Read, Write, End}
use Rattle.jobs.specs.declared.error.JobError.TheVariants.{Stuck, NoMemory}
use Rattle.jobs.specs.Alone.{Alone, begun, turn, turn_at, applied, newest, take_in, join}
use Rattle.jobs.specs.Doing.{Turn, Outcome, answer, answer_at, left, left_at, went_if, Done, go_on, done, NotEnding, Means, Does}
use Rattle.jobs.specs.Meanings.{Meaning}
use Rattle.jobs.proofs.Endings.{at, Before, next, never}
use Rattle.jobs.proofs.Steps.{reading, writing}

module _ {V S : Type 0} (m : Meaning V S) (values : List V) where
  -- a turn that went on left the values as they were
  left_by : (a : Alone V S) (q : Request V) → answer_at m values a q ≡ Ok None → left_at m values a q ≡ values
  left_by a (Read l) e = refl
  left_by a (Write l v) e = refl
  left_by a (End ending) e = let z : ◌≡◌ {A = ℕ} 0 1 = cc in absurd (omega arith)

  went_leaves : (a : Alone V S) → answer m values a ≡ Ok None → left m values a ≡ values
  went_leaves a e = left_by a (m.request a.state) e

-- a job a is given turn i of so many, on a book as it was; the turn answers t and leaves other values
module _ {V S : Type 0} (m : Meaning V S) (values : List V) (budget i : ℕ) (h : i < budget) (a : Alone V S) (now : List V) (same : now ≡ values) (t : Turn)
    (said : t ≡ answer m now a) (after : List V) (leaves : after ≡ left m now a) where
  answered : t ≡ answer m values a
  answered = said ∙ ap (λ v. answer m v a) same

  left_so : after ≡ left m values a
  left_so = leaves ∙ ap (λ v. left m v a) same

  -- so the turns from i on come to what t says, or to what the rest of the turns do
  pub turned : (all : Done V) → done m values (budget - i) a ≡ all → go_on m t after (done m values (budget - (i + 1)) (turn m values a)) ≡ all
  turned all e =
      let n : budget - i ≡ suc (budget - (i + 1)) = omega arith in
      let rest = done m values (budget - (i + 1)) (turn m values a) in
      ap (λ r. go_on m r after rest) answered ∙ (ap (λ v. go_on m (answer m values a) v rest) left_so ∙ (sym (ap (λ k. done m values k a) n) ∙ e))

  pub still : t ≡ Ok None → after ≡ values
  still e = left_so ∙ went_leaves m values a (sym answered ∙ e)

module _ {V S : Type 0} (m : Meaning V S) (values : List V) (a : Alone V S) where
  -- what a turn's answer t says, where it leaves the job b and the values after
  abbrev Sort : Alone V S → List V → Turn → Type 0
  Sort b after (Ok None) = NotEnding m a
  Sort b after (Err r) = NotEnding m a × (b ≡ a) × (after ≡ values)
  Sort b after (Ok (Some ending)) = (m.request a.state ≡ End ending) × (after ≡ applied a.writes values)

  sort_read : NotEnding m a → (o : Option V) → Sort (take_in m a o) values (went_if o)
  sort_read on None = (on, refl, refl)
  sort_read on (Some v) = on

  sort_write : NotEnding m a → (l : ℕ) (v : V) (there room : Bool) → Sort (join m a l v (there && room)) values (cond there (cond room (Ok None) (Err TooManyWrites)) (Err NoLine))
  sort_write on l v true true = on
  sort_write on l v true false = (on, refl, refl)
  sort_write on l v false room = (on, refl, refl)

  sort_at : (q : Request V) → m.request a.state ≡ q → Sort (turn_at m values a q) (left_at m values a q) (answer_at m values a q)
  sort_at (Read l) e = sort_read (reading m values a.state a.writes l e) (option_or (newest a.writes l) (slice_get values l))
  sort_at (Write l v) e = sort_write (writing m values a.state a.writes l v e) l v (ltb l (length values)) (ltb (length a.writes) 16)
  sort_at (End ending) e = (e, refl)

  sorted : Sort (turn m values a) (left m values a) (answer m values a)
  sorted = sort_at (m.request a.state) refl

module _ {V S : Type 0} (m : Meaning V S) (values : List V) (o : Order) where
  abbrev Right : ℕ → Done V → Type 0
  Right budget d = Means m o values budget d.outcome d.values

  -- from turn j on, with k turns more
  means_turn : (k j : ℕ) → Before m values o j → (Before m values o (suc j) → Right (suc j + k) (done m values k (at m values o (suc j)))) → (t : Turn)
      → Sort m values (at m values o j) (at m values o (suc j)) (left m values (at m values o j)) t → Right (j + suc k) (go_on m t (left m values (at m values o j)) (done m values k (at m values o (suc j))))
  means_turn k j before rest (Ok None) s =
      let n : suc j + k ≡ j + suc k = omega arith in
      subst (λ b. Right b (done m values k (at m values o (suc j)))) n (rest (next m values o j before s))
  means_turn k j before rest (Err r) s = (never m values o j before s.0 s.1, s.2)
  means_turn k j before rest (Ok (Some ending)) s = (record { count = j; asks = s.0; leaves = s.1 }, let h : j < j + suc k = omega arith in h)

  means_from : (k j : ℕ) → Before m values o j → Right (j + k) (done m values k (at m values o j))
  means_from zero j before = (λ i h. before i (omega arith), refl)
  means_from (suc k) j before = means_turn k j before (means_from k (suc j)) (answer m values (at m values o j)) (sorted m values (at m values o j))

  means : (budget : ℕ) → Right budget (done m values budget (begun m o))
  means budget = subst (λ b. Right b (done m values budget (begun m o))) (let e : 0 + budget ≡ budget = omega arith in e) (means_from budget 0 (λ i h. absurd (omega arith)))

  -- an outcome of the turns of the order's job, and the values after it
  module _ (budget : ℕ) (came : Outcome) (after : List V) (e : ◌≡◌ {A = Done V} (record { outcome = came; values = after }) (done m values budget (begun m o))) where
    pub means_so : Means m o values budget came after
    means_so = subst (Right budget) (sym e) (means budget)

  pub does_so : (budget : ℕ) (came : Outcome) (after : List V) → ◌≡◌ {A = Done V} (record { outcome = came; values = after }) (done m values budget (begun m o))
      → Does m o budget values after came
  does_so budget (Ok ended) after e = e
  does_so budget (Err (Stuck refusal)) after e = e
  does_so budget (Err NoMemory) after e = means_so budget (Err NoMemory) after e
