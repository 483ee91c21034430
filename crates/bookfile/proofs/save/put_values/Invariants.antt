use Rattle.std.proofs.Common.{◌≡◌, ◌+◌, ◌*◌, length}
use Rattle.std.specs.List.{flat_map}
use Rattle.survey.specs.Bytes.{pasted}
use Rattle.book.specs.Rows.{rows_left}
use Rattle.bookfile.specs.Saves.{value_bytes}
use Rattle.bookfile.proofs.save.put_values.Given as goal

-- the values that are left fill the rest and complete the whole
abbrev pub invariant-loop-row : goal.invariant-loop-row
invariant-loop-row g l =
    record {
      fills : l.place + g.R.Row.format.width * length (rows_left l.row-iterator) ≡ l.initial.place + g.R.Row.format.width * length (g.B.Book.lines l.book);
      whole : pasted l.out l.place (flat_map (value_bytes g.R.Row.format) (rows_left l.row-iterator))
          ≡ pasted l.initial.out l.initial.place (flat_map (value_bytes g.R.Row.format) (g.B.Book.lines l.book));
    }
