use Rattle.std.proofs.Common.{◌≡◌, ◌≤◌, ◌++◌, length, take, drop, sym, ap, ◌∙◌, subst, arith}
use Rattle.std.proofs.lemmas.List.{take_at}
use Rattle.bookfile.specs.Saves.{file_of, KeepsLines}
use Rattle.bookfile.proofs.Kept.{keeps_lines}
use Rattle.bookfile.proofs.Saving.{file_written}
use Rattle.bookfile.proofs.save.put_file.Goals as goal

pub returns : goal.returns
returns g c =
    let f = g.R.Row.format in
    let sound = g.met.R.Row.sound in
    let lines = g.B.Book.lines c.args.book.now in
    let out = c.args.out.now in
    let few : length lines ≤ 1024 = omega arith in
    let after : c.put_values.new.out ≡ file_of f lines ++ drop (length (file_of f lines)) out =
    file_written f sound lines c.size-lines.result c.put_head-place.result c.put_numbers-place.result out c.put_head-place.new.out c.put_numbers-place.new.out c.put_values.new.out
    c.size-lines.ensures.value c.put_head-place.ensures.place c.put_numbers-place.ensures.place c.requires c.put_head-place.ensures.out c.put_numbers-place.ensures.out c.put_values.ensures in
    record {
      put = after;
      keeps = λ size e.
          let front : take size c.put_values.new.out ≡ file_of f lines = ap (take size) after ∙ take_at (file_of f lines) (drop (length (file_of f lines)) out) size (sym e) in
          subst (KeepsLines f lines) (sym front) (keeps_lines f sound lines few);
    }
