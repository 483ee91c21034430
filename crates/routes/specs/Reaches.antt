-- What a search knows of the stations: one leg taken into account, and the nearest unfinished station.
use Rattle.std.specs.Prelude.{ℕ, zero, suc, ◌+◌, ◌<◌, min, Bool, true, false, cond, List, Some, None, Option, nat_lt, replicate, slice_index_or, slice_set, unwrap_or}
use Rattle.survey.specs.declared.leg.LegRow.{LegRow}
use Rattle.survey.specs.Legs.{leads}
use Rattle.routes.specs.declared.reach.Nearest.{Nearest}
use Rattle.routes.specs.declared.reach.Station.{Station}

-- a station to which no route was found
abbrev pub unknown : Station
unknown = record { distance = None; finished = false }

abbrev pub all_unknown : List Station
all_unknown = replicate 16 unknown

-- the first station alone is reached, and it is the first to be finished
abbrev pub reached_first : ℕ → List Station
reached_first u = slice_set all_unknown u (record { distance = Some 0; finished = true })

abbrev pub station_at : List Station → ℕ → Station
station_at ss u = slice_index_or ss u unknown

-- whether a route of length d is shorter than the shortest that was found, if one was
abbrev pub is_shorter : ℕ → Option ℕ → Bool
is_shorter d None = true
is_shorter d (Some e) = nat_lt d e

-- whether a route of length d is noted: it is shorter than the shortest that was found, if one was; 4294967295 is the length of no route
abbrev pub is_noted : ℕ → Option ℕ → Bool
is_noted d o = nat_lt d (unwrap_or o 4294967295)

-- the stations, where a route of length d to station v was found
abbrev pub improved : ℕ → ℕ → List Station → List Station
improved v d ss =
    cond (is_noted d (station_at ss v).distance) (slice_set ss v (record { distance = Some d; finished = (station_at ss v).finished })) ss

-- the same, if the leg leads to it from station u
abbrev pub improved_by : LegRow → ℕ → ℕ → ℕ → List Station → List Station
improved_by leg u v d ss = cond (leads leg u v) (improved v d ss) ss

-- both ends of a leg, which is walked from station u to a length of d in all
abbrev pub relaxed_by : ℕ → ℕ → LegRow → List Station → List Station
relaxed_by u d leg ss = improved_by leg u leg.from d (improved_by leg u leg.to d ss)

-- a leg from station u, which is reached at the distance, if at any
abbrev pub relaxed_from : Option ℕ → ℕ → LegRow → List Station → List Station
relaxed_from None u leg ss = ss
relaxed_from (Some d) u leg ss = relaxed_by u (min (d + leg.length) 4294967295) leg ss

-- the stations, with a leg from station u taken into account
abbrev pub relaxed : ℕ → LegRow → List Station → List Station
relaxed u leg ss = relaxed_from (station_at ss u).distance u leg ss

-- the stations, with station u finished
abbrev pub marked : ℕ → List Station → List Station
marked u ss = slice_set ss u (record { distance = (station_at ss u).distance; finished = true })

abbrev pub distance_of : Option Nearest → Option ℕ
distance_of None = None
distance_of (Some n) = Some n.distance

-- the nearer of the best and station i, if that is reached
abbrev pub nearer : Option ℕ → ℕ → Option Nearest → Option Nearest
nearer None i best = best
nearer (Some d) i best = cond (is_shorter d (distance_of best)) (Some (record { station = i; distance = d })) best

-- the same, unless the station is finished
abbrev pub with_station : Station → ℕ → Option Nearest → Option Nearest
with_station s i best = cond s.finished best (nearer s.distance i best)

-- the nearest unfinished station below the i-th, the lowest among equals, if one is reached
abbrev pub nearest_below : List Station → ℕ → Option Nearest
nearest_below ss zero = None
nearest_below ss (suc i) = with_station (station_at ss i) i (nearest_below ss i)

-- the nearest unfinished station, if one is reached
unfoldable pub nearest_of : List Station → Option Nearest
nearest_of ss = nearest_below ss 16

-- there is such a station
abbrev pub Inside : Option Nearest → Type 0
Inside None = Unit {0}
Inside (Some n) = n.station < 16
