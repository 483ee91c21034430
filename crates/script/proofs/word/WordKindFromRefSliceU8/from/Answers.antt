use Rattle.script.proofs.Letters.{letter_is_no_number}
use Rattle.script.proofs.word.WordKindFromRefSliceU8.from.Goals as goal

pub returns-in-Ok : goal.returns-in-Ok
returns-in-Ok c = (c.in-Ok.ensures, letter_is_no_number c.args.bytes.now c.in-Ok.letter c.in-Ok.ensures)
