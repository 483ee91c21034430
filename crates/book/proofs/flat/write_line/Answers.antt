use Rattle.book.proofs.Parts.{lines_written, places_written}
use Rattle.book.proofs.flat.write_line.Goals as goal

pub returns-clause-lines : goal.returns-clause-lines
returns-clause-lines g c = lines_written 1024 c.line_count-lines.result c.args.memory.now c.put.new.memory c.args.line c.args.value c.line_count-lines.ensures c.put.result c.put.ensures

pub returns-clause-places : goal.returns-clause-places
returns-clause-places g c = places_written 1024 c.line_count-lines.result c.args.memory.now c.put.new.memory c.args.line c.args.value c.line_count-lines.ensures c.put.result c.put.ensures
