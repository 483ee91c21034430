use Rattle.script.proofs.Going.{Going}
use Rattle.script.proofs.command.numbers.Given as goal

abbrev pub invariant-loop-number : goal.invariant-loop-number
invariant-loop-number g l = Going l.initial.words l.words g.row.N l.number-index l.number-items
