use Rattle.script.proofs.Joins.{words_of_line}
use Rattle.script.proofs.Told.{reads_back, told}
use Rattle.script.proofs.command.call_in.Goals as goal

pub returns-clause-told : goal.returns-clause-told
returns-clause-told c = told c.args.line.now c.read_call.result c.read_call.ensures

pub returns-clause-reads_back : goal.returns-clause-reads_back
returns-clause-reads_back c = reads_back

pub returns-clause-words : goal.returns-clause-words
returns-clause-words c = words_of_line c.args.line.now
