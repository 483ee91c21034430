-- Which orders a search is made of.
use Rattle.std.specs.Prelude.{◌≡◌, true, false, Ok, Err, Result}
use Rattle.calls.specs.declared.order.Order.{Order}
use Rattle.calls.specs.declared.order.BadOrder.{BadOrder}
use Rattle.routes.specs.declared.errand.Errand.{Errand}
use Rattle.routes.specs.Searches.{bad_order}

-- a bad order is refused, and the errand of any other has its numbers
abbrev pub Accepts : Order → Result Errand BadOrder → Type 0
Accepts o (Ok e) = (bad_order o ≡ false) × (e.from ≡ o.a) × (e.to ≡ o.b) × (e.count ≡ o.c)
Accepts o (Err bad) = bad_order o ≡ true
