-- Routes of a survey, and what a search alone answers, with no word of how it searches.
use Rattle.std.specs.Prelude.{◌≡◌, ℕ, ◌+◌, ◌*◌, ◌%◌, ◌<◌, ◌≤◌, true, false, ◌⊎◌, List, [], ◌∷◌, map, length, take}
use Rattle.survey.specs.declared.leg.LegRow.{LegRow}
use Rattle.survey.specs.Legs.{as_leg, leads}
use Rattle.calls.specs.declared.ending.Ending.{Ending}
use Rattle.calls.specs.declared.order.Order.{Order}
use Rattle.calls.specs.Endings.{bad_ending}
use Rattle.jobs.specs.declared.request.Request.TheVariants.{Read, End}
use Rattle.jobs.specs.Alone.{after_turns, Ends}
use Rattle.routes.specs.Searches.{route_family, bad_order}

abbrev pub Among : {X : Type 0} → X → List X → Type 0
Among x [] = ⊥
Among x (y ∷ ys) = (x ≡ y) ⊎ Among x ys

-- a route from station a by the legs given, to a station and of a length: the empty one stays at a, and a route goes onward by a leg that leads from where it is
pub data Route (legs : List LegRow) (a : ℕ) : ℕ → ℕ → Type 0 where
  here : Route legs a a 0
  onward : {u v d : ℕ} → Route legs a u d → (leg : LegRow) → Among leg legs → leads leg u v ≡ true → Route legs a v (d + leg.length)

-- d is the least length of a route from a to b
pub record Least (legs : List LegRow) (a b d : ℕ) : Type 0 where
  pub route : Route legs a b d
  pub least : (e : ℕ) → Route legs a b e → d ≤ e

abbrev pub NoRoute : List LegRow → ℕ → ℕ → Type 0
NoRoute legs a b = (d : ℕ) → Route legs a b d → ⊥

-- the legs of the lines below c, rows outside the ranges as the blank
abbrev pub legs_of : List LegRow → ℕ → List LegRow
legs_of rows c = map as_leg (take c rows)

-- what code and number say: 0 with the least length, or 1 with 0 where there is no route
abbrev pub Right : List LegRow → ℕ → ℕ → Ending → Type 0
Right legs a b e = ((e.code ≡ 0) × Least legs a b e.number) ⊎ ((e.code ≡ 1) × (e.number ≡ 0) × NoRoute legs a b)

-- Done alone on the rows, the search reads the lines below c in order, over and over, and asks to end after at most 15 × c turns; it has written nothing, and its answer is right.
pub record Searched (o : Order) (rows : List LegRow) : Type 0 where
  pub count : ℕ
  pub soon : count ≤ 15 * o.c
  pub in_order : (k : ℕ) → k < count → route_family.request (after_turns route_family rows k o).state ≡ Read (k % o.c)
  pub ending : Ending
  pub asks : route_family.request (after_turns route_family rows count o).state ≡ End ending
  pub unwritten : (after_turns route_family rows count o).writes ≡ []
  pub right : Right (legs_of rows o.c) o.a o.b ending

-- every order that is not bad is searched so, on every list that has its lines
abbrev pub SearchesAreRight : Type 0
SearchesAreRight = (o : Order) (rows : List LegRow) → bad_order o ≡ false → o.c ≤ length rows → Searched o rows

-- what an order that ended says of the rows: it is bad and is answered 9 and 0, or its answer is right
abbrev pub Says : Order → List LegRow → Ending → Type 0
Says o rows ending = ((bad_order o ≡ true) × (ending ≡ bad_ending)) ⊎ ((bad_order o ≡ false) × Right (legs_of rows o.c) o.a o.b ending)

-- whatever rows a search alone ended on, its answer is right for them, and it left them as they were
abbrev pub EndedSearchesAreRight : Type 0
EndedSearchesAreRight = (o : Order) (rows : List LegRow) (ending : Ending) (after : List LegRow) → Ends route_family o rows ending after → Says o rows ending × (after ≡ rows)
