-- The numbers of the refusals of a search.
use Rattle.std.specs.Prelude.{ℕ}
use Rattle.routes.specs.declared.refusal.SearchRefusal.{SearchRefusal}
use Rattle.routes.specs.declared.refusal.SearchRefusal.TheVariants.{BadOrder, NoLine}

abbrev pub number : SearchRefusal → ℕ
number BadOrder = 9
number NoLine = 4
