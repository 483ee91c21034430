use Rattle.std.proofs.Common.{arith, ap, ◌∙◌, sym}
use Rattle.std.specs.List.{flat_map}
use Rattle.survey.specs.Bytes.{pasted}
use Rattle.survey.proofs.Pastes.{paste_nothing}
use Rattle.book.specs.Rows.{rows_left}
use Rattle.bookfile.specs.Saves.{value_bytes}
use Rattle.bookfile.proofs.Saving.{values_left, values_put}
use Rattle.bookfile.proofs.save.put_values.Goals as goal

pub loop-row-preserved : goal.loop-row-preserved
loop-row-preserved g c =
    let f = g.R.Row.format in
    let sound = g.met.R.Row.sound in
    let on = c.in-Some.ensures.steps in
    let now = c.loop-row.invariant in
    let p = c.loop-row.place in
    let next = c.put_value-place.ensures.place in
    record {
      fills = values_left f sound (rows_left c.loop-row.row-iterator) (rows_left c.next.new.self) c.in-Some.row on p c.put_value-place.result next ∙ now.fills;
      whole = values_put f sound (rows_left c.loop-row.row-iterator) (rows_left c.next.new.self) c.in-Some.row on p c.put_value-place.result next c.loop-row.out c.put_value-place.new.out (omega arith) c.put_value-place.ensures.out ∙ now.whole;
    }

pub returns : goal.returns
returns g c =
    let out = c.loop-row.out in
    let p = c.loop-row.place in
    sym (paste_nothing out p) ∙ (ap (λ l. pasted out p (flat_map (value_bytes g.R.Row.format) l)) (sym c.in-None.ensures.steps.0) ∙ c.loop-row.invariant.whole)
