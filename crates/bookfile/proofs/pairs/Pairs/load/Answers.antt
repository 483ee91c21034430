use Rattle.std.proofs.Common.{sym, ap, ◌∙◌}
use Rattle.book.proofs.Writing.{writes_set}
use Rattle.bookfile.proofs.Walk.{written, all_written, pair_written}
use Rattle.bookfile.proofs.pairs.Pairs.load.Goals as goal

pub loop-pair-init : goal.loop-pair-init
loop-pair-init g c =
    let f = g.R.Row.format in
    let pairs = c.args.self.now in
    let before = g.B.Book.lines c.args.book.now in
    rw c.into_iter-pair-iterator.ensures.into_iter_gives (ap (λ left. written f left before) c.iter-pair-items.ensures ∙ all_written f pairs.count pairs.bytes.now before)

pub loop-pair-preserved : goal.loop-pair-preserved
loop-pair-preserved g c =
    let before = g.B.Book.lines c.loop-pair.book in
    let after = g.B.Book.lines c.write.new.self in
    pair_written g.R.Row.format _ _ c.in-Some.pair c.in-Some.ensures.steps before after (writes_set before c.in-Some.pair.line c.in-Some.pair.row after c.write.result c.write.ensures) ∙ c.loop-pair.invariant

pub returns : goal.returns
returns g c = sym (ap (λ left. written g.R.Row.format left (g.B.Book.lines c.loop-pair.book)) c.in-None.ensures.steps.0) ∙ c.loop-pair.invariant
