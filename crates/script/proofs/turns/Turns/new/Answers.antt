use Rattle.std.proofs.Common.{length, ap, arith}
use Rattle.script.proofs.Joins.{lines_of_bytes}
use Rattle.script.proofs.Parts.{line_count}
use Rattle.script.proofs.turns.Turns.new.Goals as goal

pub invariant_of-result : goal.invariant_of-result
invariant_of-result c = record { counted = omega (arith, line_count c.args.bytes.now, ap length c.new-lines.ensures.lines) }

pub returns-clause-lines : goal.returns-clause-lines
returns-clause-lines c = lines_of_bytes c.args.bytes.now
