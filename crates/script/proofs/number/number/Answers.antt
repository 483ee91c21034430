use Rattle.script.proofs.Decimals.{is_writing}
use Rattle.script.proofs.number.number.Goals as goal

pub returns-clause-writing : goal.returns-clause-writing
returns-clause-writing c = is_writing _ _ c.checked_value.ensures
