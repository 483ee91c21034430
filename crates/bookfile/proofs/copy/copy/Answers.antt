use Rattle.std.proofs.Common.{◌<◌, length, Ok, Err, refl, subst, arith}
use Rattle.std.proofs.lemmas.Result.{err_from_is_err_and}
use Rattle.bookfile.proofs.Kept.{loads_saved}
use Rattle.bookfile.proofs.Saving.{file_length}
use Rattle.bookfile.proofs.copy.copy.Goals as goal

pub returns-in_err-size : goal.returns-in_err-size
returns-in_err-size g c =
    let p = err_from_is_err_and c.from_residual.result c.from_residual.ensures.1 in
    let s = c.in_err-size.ensures.saves in
    let long = file_length g.R.Row.format g.met.R.Row.sound (g.B.Book.lines c.args.from.now) in
    rw (p.1, p.2) (subst (λ n. length c.args.file.now < n) long s.1, s.0, refl)

pub returns-in_err-load : goal.returns-in_err-load
returns-in_err-load g c =
    let p = err_from_is_err_and c.from_residual-in_err-load.result c.from_residual-in_err-load.ensures.1 in
    let s = c.in_ok-size.ensures.saves in
    let lines = g.B.Book.lines c.args.from.now in
    rw (p.1, p.2) (loads_saved g.R.Row.format g.met.R.Row.sound lines c.save.ensures.few c.in_ok-size.size _ c.args.file.now c.save.new.out (g.C.Book.lines c.args.to.now) (g.C.Book.lines c.load.new.book) (Err c.in_err-load.field-0.0) s.0 (omega arith) s.2 c.in_err-load.ensures.loads)

pub returns : goal.returns
returns g c =
    let s = c.in_ok-size.ensures.saves in
    let lines = g.B.Book.lines c.args.from.now in
    loads_saved g.R.Row.format g.met.R.Row.sound lines c.save.ensures.few c.in_ok-size.size _ c.args.file.now c.save.new.out (g.C.Book.lines c.args.to.now) (g.C.Book.lines c.load.new.book) (Ok tt) s.0 (omega arith) s.2 c.in_ok-load.ensures.loads
