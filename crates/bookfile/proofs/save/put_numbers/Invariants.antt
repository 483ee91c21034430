use Rattle.std.proofs.Common.{◌≡◌, ◌+◌, ◌*◌}
use Rattle.survey.specs.Bytes.{pasted}
use Rattle.bookfile.specs.Saves.{numbers}
use Rattle.bookfile.proofs.save.put_numbers.Given as goal

abbrev pub invariant-loop-line : goal.invariant-loop-line
invariant-loop-line l =
    record {
      behind : l.place ≡ l.initial.place + 2 * l.line;
      so_far : l.out ≡ pasted l.initial.out l.initial.place (numbers l.line);
    }
