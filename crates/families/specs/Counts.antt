-- Counting rope.
use Rattle.std.specs.Prelude.{ℕ, ◌+◌, min, cond, not, ◌||◌, Ok, Err, Result, ◌==◌, nat_lt}
use Rattle.survey.specs.declared.metres.MetresRow.{MetresRow}
use Rattle.calls.specs.Endings.{bad_ending}
use Rattle.calls.specs.declared.order.BadOrder.{BadOrder}
use Rattle.calls.specs.declared.order.Order.{Order}
use Rattle.jobs.specs.declared.request.Request.{Request}
use Rattle.jobs.specs.declared.request.Request.TheVariants as request
use Rattle.jobs.specs.Alone.{ends_with}
use Rattle.jobs.specs.Meanings.{Meaning}
use Rattle.families.specs.declared.count.Tally.{Tally}
use Rattle.families.specs.Transfers.{metres_of}

-- what a count goes on with, or that its order is bad
abbrev pub Counting : Type 0
Counting = Result Tally BadOrder

abbrev pub count_first : Order → Counting
count_first o = cond (not (o.kind == 0) || nat_lt 64 o.a) (Err (record {})) (Ok (record { line = 0; end = o.a; sum = 0 }))

abbrev pub count_request : Counting → Request MetresRow
count_request (Ok tally) = cond (nat_lt tally.line tally.end) (request.Read tally.line) (request.End (ends_with 0 tally.sum))
count_request (Err bad) = request.End bad_ending

-- numbers stay within 32 bits; sixty-four lines never come near that
abbrev pub capped : ℕ → ℕ
capped n = min n 4294967295

abbrev pub count_read : Counting → MetresRow → Counting
count_read (Ok tally) row = Ok (record { line = capped (tally.line + 1); end = tally.end; sum = capped (tally.sum + metres_of row) })
count_read (Err bad) row = Err bad

abbrev pub count : Meaning MetresRow Counting
count = record { first = count_first; request = count_request; after_read = count_read; after_write = λ s. s }
