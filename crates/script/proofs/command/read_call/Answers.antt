use Rattle.std.proofs.Common.{◌∙◌}
use Rattle.std.proofs.lemmas.Result.{err_from_is_err_and}
use Rattle.script.proofs.Opening.{no_letter, enough, says_call, miscounted}
use Rattle.script.proofs.command.read_call.Goals as goal

pub returns-in_err-letter : goal.returns-in_err-letter
returns-in_err-letter c =
    let p = err_from_is_err_and c.from_residual.result c.from_residual.ensures.1 in
    rw (p.1, p.2) (no_letter c.args.line.now c.new-words.result c.new-words.ensures.place c.new-words.ensures.words c.first_letter.new.words _ c.in_err-letter.ensures)

pub returns-in_err-check_count : goal.returns-in_err-check_count
returns-in_err-check_count c =
    let p = err_from_is_err_and c.from_residual-in_err-check_count.result c.from_residual-in_err-check_count.ensures.1 in
    rw (p.1, p.2)
    (miscounted c.args.line.now c.new-words.result c.new-words.ensures.place c.new-words.ensures.words c.first_letter.new.words c.in_ok-letter.letter c.in_ok-letter.ensures c.check_count.result c.check_count.ensures _ c.in_err-check_count.was)

pub call_of-requires : goal.call_of-requires
call_of-requires c =
    enough c.args.line.now c.new-words.result c.new-words.ensures.place c.new-words.ensures.words c.first_letter.new.words c.in_ok-letter.letter c.in_ok-letter.ensures c.check_count.result c.check_count.ensures c.in_ok-check_count.was

pub returns : goal.returns
returns c =
    c.call_of.ensures
    ∙ says_call c.args.line.now c.new-words.result c.new-words.ensures.place c.new-words.ensures.words c.first_letter.new.words c.in_ok-letter.letter c.in_ok-letter.ensures c.check_count.result c.check_count.ensures c.in_ok-check_count.was
