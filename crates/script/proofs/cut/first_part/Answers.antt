use Rattle.script.proofs.Parts.{first_part}
use Rattle.script.proofs.cut.first_part.Goals as goal

pub returns : goal.returns
returns c = first_part c.args.separator c.args.bytes.now c.unwrap_or-end.result c.place_of.result c.get.result c.place_of.ensures c.unwrap_or-end.ensures c.get.ensures.lookup
