use Rattle.std.proofs.Common.{◌+◌, ◌-◌, Ok, Err, Some, None, refl, sym, ap, ◌∙◌}
use Rattle.std.proofs.lemmas.Result.{err_from_is_err_and}
use Rattle.jobs.specs.Alone.{turn}
use Rattle.jobs.specs.Doing.{done}
use Rattle.jobs.proofs.Outcomes.{turned, still}
use Rattle.jobs.proofs.alone.run.Goals as goal

pub returns-in_err-ending : goal.returns-in_err-ending
returns-in_err-ending g c =
    let l = c.loop-turn in
    let before = g.B.Book.lines l.book in
    let stuck = Err c.in_err-ending.field-0.0 in
    let p = err_from_is_err_and c.from_residual.result c.from_residual.ensures.1 in
    rw (p.1, p.2)
    (turned (g.F.Family.meaning c.args.family.now) (g.B.Book.lines c.args.book.now) c.args.turns l._turn c.loop-turn-test.true l.job before l.invariant.same stuck c.in_err-ending.ensures.answer (g.B.Book.lines c.turn.new.book) c.turn.ensures.left _ l.invariant.rest)

pub returns-in-Some : goal.returns-in-Some
returns-in-Some g c =
    let l = c.loop-turn in
    let before = g.B.Book.lines l.book in
    let ended = Ok (Some c.in-Some.ending) in
    let said = ap (λ o. Ok o) (sym c.in-Some.is) ∙ c.in_ok-ending.ensures.answer in
    turned (g.F.Family.meaning c.args.family.now) (g.B.Book.lines c.args.book.now) c.args.turns l._turn c.loop-turn-test.true l.job before l.invariant.same ended said (g.B.Book.lines c.turn.new.book) c.turn.ensures.left _ l.invariant.rest

pub loop-turn-preserved : goal.loop-turn-preserved
loop-turn-preserved g c =
    let l = c.loop-turn in
    let m = g.F.Family.meaning c.args.family.now in
    let values = g.B.Book.lines c.args.book.now in
    let before = g.B.Book.lines l.book in
    let after = g.B.Book.lines c.turn.new.book in
    let said = ap (λ o. Ok o) (sym c.in_default.is) ∙ c.in_ok-ending.ensures.answer in
    let job = c.turn.ensures.after ∙ ap (λ v. turn m v l.job) l.invariant.same in
    record {
      same = still m values c.args.turns l._turn c.loop-turn-test.true l.job before l.invariant.same (Ok None) said after c.turn.ensures.left refl;
      rest = ap (done m values (c.args.turns - (l._turn + 1))) job
          ∙ turned m values c.args.turns l._turn c.loop-turn-test.true l.job before l.invariant.same (Ok None) said after c.turn.ensures.left _ l.invariant.rest;
    }
