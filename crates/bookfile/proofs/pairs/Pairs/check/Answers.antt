use Rattle.std.proofs.Common.{sym, ap, ◌∙◌}
use Rattle.std.proofs.lemmas.Result.{err_from_is_err_and}
use Rattle.bookfile.proofs.Walk.{first_fault, all_checked, fault_on, fault_stops}
use Rattle.bookfile.proofs.pairs.Pairs.check.Goals as goal

pub loop-pair-init : goal.loop-pair-init
loop-pair-init g c =
    let f = g.R.Row.format in
    let pairs = c.args.self.now in
    rw c.into_iter-pair-iterator.ensures.into_iter_gives (ap (first_fault f c.args.lines) c.iter-pair-items.ensures ∙ all_checked f pairs.count pairs.bytes.now c.args.lines)

pub loop-pair-preserved : goal.loop-pair-preserved
loop-pair-preserved g c = fault_on g.R.Row.format _ _ c.in-Some.pair c.in-Some.ensures.steps c.args.lines c.in_ok-check.ensures ∙ c.loop-pair.invariant

pub returns-in_err-check : goal.returns-in_err-check
returns-in_err-check g c =
    let p = err_from_is_err_and c.from_residual.result c.from_residual.ensures.1 in
    rw (p.1, p.2) (sym c.loop-pair.invariant ∙ fault_stops g.R.Row.format _ _ c.in-Some.pair c.in-Some.ensures.steps c.args.lines _ c.in_err-check.ensures)

pub returns : goal.returns
returns g c = sym c.loop-pair.invariant ∙ ap (first_fault g.R.Row.format c.args.lines) c.in-None.ensures.steps.0
