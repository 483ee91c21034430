use Rattle.std.proofs.Common.{sym, ap, ◌∙◌, arith}
use Rattle.bookfile.specs.Files.{file_size}
use Rattle.bookfile.proofs.Saving.{file_length}
use Rattle.bookfile.proofs.save.saved_size.Goals as goal

pub returns : goal.returns
returns g c =
    let f = g.R.Row.format in
    let stated = c.file_size.ensures ∙ ap (file_size f) c.size.ensures.value in
    record { value = stated ∙ sym (file_length f g.met.R.Row.sound (g.B.Book.lines c.args.book.now)); stated = stated; few = omega arith }
