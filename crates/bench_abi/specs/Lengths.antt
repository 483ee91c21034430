-- What the benchmark asks of a route job done alone.
use Rattle.std.specs.Prelude.{◌≡◌, ℕ, ◌+◌, ◌^◌, List, Some, None, Ok, Err, Option, Result}
use Rattle.survey.specs.declared.leg.LegRow.{LegRow}
use Rattle.calls.specs.declared.order.Order.{Order}
use Rattle.routes.specs.declared.refusal.SearchRefusal.{SearchRefusal}
use Rattle.routes.specs.Refusals.{number}
use Rattle.routes.specs.Answers.{Answered}

-- the length, or above all lengths what else was answered
abbrev pub answer_number : Result (Option ℕ) SearchRefusal → ℕ
answer_number (Ok (Some d)) = d
answer_number (Ok None) = 2 ^ 32
answer_number (Err e) = 2 ^ 32 + number e

-- n is the number of what the order is answered on the rows
abbrev pub AnswersAs : List LegRow → Order → ℕ → Type 0
AnswersAs rows o n = (x : Result (Option ℕ) SearchRefusal) × Answered rows o x × (n ≡ answer_number x)
