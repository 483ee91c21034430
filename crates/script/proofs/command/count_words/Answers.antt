use Rattle.std.proofs.Common.{arith}
use Rattle.script.proofs.Counts.{length_words}
use Rattle.script.proofs.command.count_words.Goals as goal

pub returns : goal.returns
returns c = omega (arith, length_words c.args.line.now, c.count_spaces.ensures)
