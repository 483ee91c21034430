use Rattle.std.proofs.Common.{take, ap, ◌∙◌}
use Rattle.std.proofs.lemmas.List.{take_min}
use Rattle.book.proofs.flat.line_places.Goals as goal

pub returns-clause-value : goal.returns-clause-value
returns-clause-value g c = ap (λ n. take n c.args.memory.now) c.line_count.ensures ∙ take_min 1024 c.args.memory.now
