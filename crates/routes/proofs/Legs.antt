-- Each leg of a book is in its ranges, whatever its rows are.
use Rattle.std.proofs.Common.{List, [], ◌∷◌, map, sym, subst, inl, inr}
use Rattle.survey.specs.declared.leg.LegRow.{LegRow}
use Rattle.survey.specs.Legs.{as_leg}
use Rattle.survey.proofs.Ranges.{InRange, in_range}
use Rattle.routes.specs.Routes.{Among}

pub all_in_range : (rows : List LegRow) (leg : LegRow) → Among leg (map as_leg rows) → InRange leg
all_in_range [] leg i = absurd i
all_in_range (r ∷ rows) leg (inl e) = subst InRange (sym e) (in_range r)
all_in_range (r ∷ rows) leg (inr i) = all_in_range rows leg i
