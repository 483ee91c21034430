use Rattle.std.proofs.Common.{ap, ◌∙◌, subst}
use Rattle.std.specs.Option.{ok_or}
use Rattle.book.specs.declared.refusal.BookRefusal.TheVariants.{NoLine}
use Rattle.book.specs.Books.{Reads}
use Rattle.book.proofs.Parts.{reads_looked_up}
use Rattle.book.proofs.flat.FlatBookBook.read.Goals as goal

pub returns : goal.returns
returns g c =
    let found = reads_looked_up c.line_places.result.now c.args.line c.get.result c.ok_or.result c.get.ensures.lookup (c.ok_or.ensures.value ∙ ap (λ o. ok_or o NoLine) c.copied.ensures) in
    subst (λ l. Reads l c.args.line c.ok_or.result) c.line_places.ensures.value found
