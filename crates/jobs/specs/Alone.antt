-- A job done alone on a list of values, and jobs done singly. Lists of writes and of jobs have the newest first.
use Rattle.std.specs.Prelude.{◌≡◌, ℕ, zero, suc, Bool, true, false, cond, ◌&&◌, List, [], ◌∷◌, length, Some, None, Option, ◌==◌, nat_lt, slice_set}
use Rattle.std.specs.Option.{option_or}
use Rattle.std.specs.List.{slice_get}
use Rattle.calls.specs.declared.ending.Ending.{Ending}
use Rattle.calls.specs.declared.order.Order.{Order}
use Rattle.jobs.specs.declared.written.Written.{Written}
use Rattle.jobs.specs.declared.request.Request.{Request}
use Rattle.jobs.specs.declared.request.Request.TheVariants.{Read, Write, End}
use Rattle.jobs.specs.Meanings.{Meaning}

-- what an order answers: a code and a number
abbrev pub ends_with : ℕ → ℕ → Ending
ends_with code number = record { code = code; number = number }

module _ {V : Type 0} where
  -- the value of the newest write to a line
  abbrev pub newest : List (Written V) → ℕ → Option V
  newest [] l = None
  newest (w ∷ ws) l = cond (w.line == l) (Some w.value) (newest ws l)

  -- the values once the writes are put into them, the oldest first
  abbrev pub applied : List (Written V) → List V → List V
  applied [] values = values
  applied (w ∷ ws) values = slice_set (applied ws values) w.line w.value

-- a job done alone: its state and its writes
pub record Alone (V S : Type 0) : Type 0 where
  pub state : S
  pub writes : List (Written V)

module _ {V S : Type 0} (m : Meaning V S) where
  abbrev pub begun : Order → Alone V S
  begun o = record { state = m.first o; writes = [] }

  abbrev pub take_in : Alone V S → Option V → Alone V S
  take_in a None = a
  take_in a (Some v) = record { state = m.after_read a.state v; writes = a.writes }

  abbrev pub join : Alone V S → ℕ → V → Bool → Alone V S
  join a l v true = record { state = m.after_write a.state; writes = record { line = l; value = v } ∷ a.writes }
  join a l v false = a

  -- a read gets the newest own write to the line, else the list's value; a line that the list lacks, or a seventeenth write, changes nothing
  abbrev pub turn_at : List V → Alone V S → Request V → Alone V S
  turn_at values a (Read l) = take_in a (option_or (newest a.writes l) (slice_get values l))
  turn_at values a (Write l v) = join a l v (nat_lt l (length values) && nat_lt (length a.writes) 16)
  turn_at values a (End ending) = a

  -- one turn does the state's request
  abbrev pub turn : List V → Alone V S → Alone V S
  turn values a = turn_at values a (m.request a.state)

  abbrev pub turns : List V → ℕ → Alone V S → Alone V S
  turns values zero a = a
  turns values (suc k) a = turn values (turns values k a)

  -- the job after so many turns from its beginning
  abbrev pub after_turns : List V → ℕ → Order → Alone V S
  after_turns values k o = turns values k (begun o)

  -- done alone on the values until it ends, the order answers this ending, and its writes give the values after it
  pub record Ends (o : Order) (values : List V) (ending : Ending) (after : List V) : Type 0 where
    pub count : ℕ
    pub asks : m.request (after_turns values count o).state ≡ End ending
    pub leaves : after ≡ applied (after_turns values count o).writes values

-- a job that has ended, and what it answered
pub record Ended : Type 0 where
  pub order : Order
  pub ending : Ending

-- the jobs, done alone one after the other, each on the values that the one before it left, answer so and lead from the first values to the last
pub data Singly {V S : Type 0} (m : Meaning V S) (opened : List V) : List Ended → List V → Type 0 where
  none_yet : Singly m opened [] opened
  one_more : {js : List Ended} {j : Ended} {before after : List V} → Singly m opened js before → Ends m j.order before j.ending after → Singly m opened (j ∷ js) after
