-- The four functions of the route family.
use Rattle.std.specs.Prelude.{ℕ, ◌+◌, Bool, cond, ◌||◌, Some, None, Ok, Err, Option, Result, ◌==◌, nat_lt}
use Rattle.survey.specs.declared.leg.LegRow.{LegRow}
use Rattle.survey.specs.Legs.{as_leg}
use Rattle.calls.specs.declared.ending.Ending.{Ending}
use Rattle.calls.specs.declared.order.Order.{Order}
use Rattle.calls.specs.declared.order.BadOrder.{BadOrder}
use Rattle.calls.specs.Endings.{bad_ending}
use Rattle.jobs.specs.declared.request.Request.{Request}
use Rattle.jobs.specs.declared.request.Request.TheVariants.{Read, End}
use Rattle.jobs.specs.Meanings.{Meaning}
use Rattle.routes.specs.declared.search.Search.{Search}
use Rattle.routes.specs.declared.search.Next.{Next}
use Rattle.routes.specs.declared.search.Next.TheVariants.{Line, Ended}
use Rattle.routes.specs.declared.reach.Nearest.{Nearest}
use Rattle.routes.specs.declared.reach.Reach.{Reach}
use Rattle.routes.specs.Reaches.{all_unknown, reached_first, relaxed, marked, nearest_of}

-- an order that no search can be made of: another kind, a station above 15, more than 64 lines
abbrev pub bad_order : Order → Bool
bad_order o = nat_lt 0 o.kind || (nat_lt 15 o.a || (nat_lt 15 o.b || nat_lt 64 o.c))

-- the station a is the first to be finished, unless it is the target, or there is no line to read
abbrev pub first_next : ℕ → ℕ → ℕ → Next
first_next a b c = cond (a == b) (Ended (Some 0)) (cond (c == 0) (Ended None) (Line a 0))

-- before the first station is finished
abbrev pub not_begun : ℕ → ℕ → ℕ → Search
not_begun a b c = record { target = b; count = c; next = first_next a b c; reach = record { stations = all_unknown } }

abbrev pub begun_at : ℕ → ℕ → ℕ → Search
begun_at a b c = record { target = b; count = c; next = first_next a b c; reach = record { stations = reached_first a } }

-- what a search goes on with, or that its order is bad
abbrev pub Searching : Type 0
Searching = Result Search BadOrder

abbrev pub first_search : Order → Searching
first_search o = cond (bad_order o) (Err (record {})) (Ok (begun_at o.a o.b o.c))

-- 0 with the least length, or 1 with 0 where there is no route
abbrev pub ending_of : Option ℕ → Ending
ending_of (Some d) = record { code = 0; number = d }
ending_of None = record { code = 1; number = 0 }

abbrev pub request_of : Next → Request LegRow
request_of (Line u l) = Read l
request_of (Ended found) = End (ending_of found)

abbrev pub search_request : Searching → Request LegRow
search_request (Ok s) = request_of s.next
search_request (Err bad) = End bad_ending

-- on to the nearest unfinished station, unless that is the target, or none is reached
abbrev pub chosen : ℕ → ℕ → Reach → Option Nearest → Search
chosen t c r None = record { target = t; count = c; next = Ended None; reach = r }
chosen t c r (Some n) =
    cond (n.station == t) (record { target = t; count = c; next = Ended (Some n.distance); reach = r })
    (record { target = t; count = c; next = Line n.station 0; reach = record { stations = marked n.station r.stations } })

abbrev pub choose : ℕ → ℕ → Reach → Search
choose t c r = chosen t c r (nearest_of r.stations)

-- after line l, with what it left of the stations: the next line, or after the last one the next station
abbrev pub line_done : ℕ → ℕ → ℕ → ℕ → Reach → Search
line_done t c u l r = cond (nat_lt (l + 1) c) (record { target = t; count = c; next = Line u (l + 1); reach = r }) (choose t c r)

abbrev pub after_row : Search → LegRow → Next → Search
after_row s row (Line u l) = line_done s.target s.count u l (record { stations = relaxed u (as_leg row) s.reach.stations })
after_row s row (Ended found) = s

abbrev pub search_read : Searching → LegRow → Searching
search_read (Ok s) row = Ok (after_row s row s.next)
search_read (Err bad) row = Err bad

abbrev pub route_family : Meaning LegRow Searching
route_family =
    record {
      first = first_search;
      request = search_request;
      after_read = search_read;
      after_write = λ s. s;
    }
