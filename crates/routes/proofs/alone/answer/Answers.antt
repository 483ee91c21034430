use Rattle.std.proofs.Common.{ℕ, ◌*◌, sym, ap, ◌∙◌, subst, arith}
use Rattle.jobs.specs.Alone.{turns}
use Rattle.routes.specs.declared.search.Search.{Search}
use Rattle.routes.specs.Searches.{route_family}
use Rattle.routes.specs.Routes.{legs_of}
use Rattle.routes.specs.Answers.{still, Answers}
use Rattle.routes.proofs.Searching.{answer_is_right}
use Rattle.routes.proofs.alone.answer.Goals as goal

pub returns : goal.returns
returns g c =
    let o = c.args.errand in
    let rows = g.B.Book.lines c.args.book.now in
    let e = ap (λ (s : Search). turns route_family rows (15 * o.count) (still s)) (sym c.begin.ensures)
    ∙ (ap (λ (n : ℕ). turns route_family rows (15 * n) (still c.begin.new.self)) (sym c.from.ensures) ∙ c.take_turns.ensures) in
    subst (Answers (legs_of rows o.count) o.from o.to) (sym c.length_found.ensures)
    (answer_is_right rows o.from o.to o.count (omega arith) (omega arith) c.requires c.take_turns.new.search e)
