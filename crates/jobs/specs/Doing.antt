-- What each turn of a job alone answers, and what comes of the job.
use Rattle.std.specs.Prelude.{◌≡◌, ℕ, zero, suc, ◌<◌, cond, List, length, Some, None, Ok, Err, Option, Result, ◌≢◌, nat_lt}
use Rattle.std.specs.Option.{option_or}
use Rattle.std.specs.List.{slice_get}
use Rattle.calls.specs.declared.ending.Ending.{Ending}
use Rattle.calls.specs.declared.order.Order.{Order}
use Rattle.calls.specs.declared.refusal.Refusal.{Refusal}
use Rattle.calls.specs.declared.refusal.Refusal.TheVariants.{NoLine, TooManyWrites}
use Rattle.jobs.specs.declared.error.JobError.{JobError}
use Rattle.jobs.specs.declared.error.JobError.TheVariants.{Stuck, NoMemory}
use Rattle.jobs.specs.declared.request.Request.{Request}
use Rattle.jobs.specs.declared.request.Request.TheVariants.{Read, Write, End}
use Rattle.jobs.specs.Alone.{Alone, Ends, newest, applied, begun, turn, after_turns}
use Rattle.jobs.specs.Meanings.{Meaning}

-- what a turn answers: that the job went on, how it ended, or by which refusal it is stuck
abbrev pub Turn : Type 0
Turn = Result (Option Ending) Refusal

abbrev pub went_if : {V : Type 0} → Option V → Turn
went_if (Some v) = Ok None
went_if None = Err NoLine

module _ {V S : Type 0} (m : Meaning V S) where
  -- a request to a line that is not there, or for a seventeenth write, is stuck
  abbrev pub answer_at : List V → Alone V S → Request V → Turn
  answer_at values a (Read l) = went_if (option_or (newest a.writes l) (slice_get values l))
  answer_at values a (Write l v) = cond (nat_lt l (length values)) (cond (nat_lt (length a.writes) 16) (Ok None) (Err TooManyWrites)) (Err NoLine)
  answer_at values a (End ending) = Ok (Some ending)

  abbrev pub answer : List V → Alone V S → Turn
  answer values a = answer_at values a (m.request a.state)

  -- the values change only when the job ends
  abbrev pub left_at : List V → Alone V S → Request V → List V
  left_at values a (Read l) = values
  left_at values a (Write l v) = values
  left_at values a (End ending) = applied a.writes values

  abbrev pub left : List V → Alone V S → List V
  left values a = left_at values a (m.request a.state)

-- what came of a job: how it ended, none where its turns are spent, or why it never ends
abbrev pub Outcome : Type 0
Outcome = Result (Option Ending) JobError

-- what came of a job, and the values that it left
pub record Done (V : Type 0) : Type 0 where
  pub outcome : Outcome
  pub values : List V

module _ {V S : Type 0} (m : Meaning V S) where
  abbrev pub go_on : Turn → List V → Done V → Done V
  go_on (Ok None) ended rest = rest
  go_on (Ok (Some ending)) ended rest = record { outcome = Ok (Some ending); values = ended }
  go_on (Err refusal) ended rest = record { outcome = Err (Stuck refusal); values = ended }

  -- the job is given so many turns; one that is stuck can never go on
  abbrev pub done : List V → ℕ → Alone V S → Done V
  done values zero a = record { outcome = Ok None; values = values }
  done values (suc k) a = go_on (answer m values a) (left m values a) (done values k (turn m values a))

  -- it asks for something else than to end
  abbrev pub NotEnding : Alone V S → Type 0
  NotEnding a = (ending : Ending) → m.request a.state ≢ End ending

  -- what an outcome within so many turns says of the order: how it ends; or that it does not in these turns; or that it never does; or nothing where there is no memory
  abbrev pub Means : Order → List V → ℕ → Outcome → List V → Type 0
  Means o values budget (Ok (Some ending)) after = (e : Ends m o values ending after) × (e.count < budget)
  Means o values budget (Ok None) after = ((k : ℕ) → k < budget → NotEnding (after_turns m values k o)) × (after ≡ values)
  Means o values budget (Err (Stuck refusal)) after = ((k : ℕ) → NotEnding (after_turns m values k o)) × (after ≡ values)
  Means o values budget (Err NoMemory) after = after ≡ values

  -- what comes of the order in so many turns, and the values after it; nothing where there is no memory
  abbrev pub Does : Order → ℕ → List V → List V → Outcome → Type 0
  Does o budget before after (Ok ended) = record { outcome = Ok ended; values = after } ≡ done before budget (begun m o)
  Does o budget before after (Err (Stuck refusal)) = record { outcome = Err (Stuck refusal); values = after } ≡ done before budget (begun m o)
  Does o budget before after (Err NoMemory) = after ≡ before
