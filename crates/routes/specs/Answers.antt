-- What a search of a book alone answers.
use Rattle.std.specs.Prelude.{◌≡◌, ℕ, ◌<◌, ◌≤◌, true, false, List, [], length, Some, None, Ok, Err, Option, Result}
use Rattle.std.specs.List.{slice_get}
use Rattle.survey.specs.declared.leg.LegRow.{LegRow}
use Rattle.calls.specs.declared.order.Order.{Order}
use Rattle.jobs.specs.Alone.{Alone}
use Rattle.routes.specs.declared.search.Search.{Search}
use Rattle.routes.specs.declared.search.Next.{Next}
use Rattle.routes.specs.declared.search.Next.TheVariants.{Line, Ended}
use Rattle.routes.specs.declared.refusal.SearchRefusal.{SearchRefusal}
use Rattle.routes.specs.declared.refusal.SearchRefusal.TheVariants.{BadOrder, NoLine}
use Rattle.routes.specs.Searches.{Searching, bad_order}
use Rattle.routes.specs.Routes.{Least, NoRoute, legs_of}

-- a search as a job that has written nothing
abbrev pub still : Search → Alone LegRow Searching
still s = record { state = Ok s; writes = [] }

-- the row that a search asks for, where the list has it
abbrev pub asked_row : List LegRow → Next → Option LegRow
asked_row rows (Line u l) = slice_get rows l
asked_row rows (Ended found) = None

-- the length that a search ended with, if it found a route
abbrev pub length_found : Next → Option ℕ
length_found (Line u l) = None
length_found (Ended found) = found

-- the order of a search
abbrev pub route_order : ℕ → ℕ → ℕ → Order
route_order from to count = record { kind = 0; a = from; b = to; c = count; d = 0 }

-- the least length, or nothing where there is no route
abbrev pub Answers : List LegRow → ℕ → ℕ → Option ℕ → Type 0
Answers legs a b (Some d) = Least legs a b d
Answers legs a b None = NoRoute legs a b

-- A bad order is refused first, then a list that lacks one of the lines; any other search is answered.
abbrev pub Answered : List LegRow → Order → Result (Option ℕ) SearchRefusal → Type 0
Answered rows o (Ok answer) = (bad_order o ≡ false) × (o.c ≤ length rows) × Answers (legs_of rows o.c) o.a o.b answer
Answered rows o (Err BadOrder) = bad_order o ≡ true
Answered rows o (Err NoLine) = (bad_order o ≡ false) × (length rows < o.c)
