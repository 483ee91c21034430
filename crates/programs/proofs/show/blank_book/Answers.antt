use Rattle.std.proofs.Common.{◌≡◌, ◌≤◌, length, take, replicate, ap, ◌∙◌, arith}
use Rattle.std.proofs.lemmas.List.{take_all, length-replicate}
use Rattle.std.proofs.lemmas.Result.{IfOk-weaker}
use Rattle.bookfile.specs.Files.{stated_lines}
use Rattle.programs.proofs.show.blank_book.Goals as goal

pub returns : goal.returns
returns g c =
    let blank = g.R.Row.format.blank in
    let n = c.stated_lines.result in
    let few : length (replicate n blank) ≤ 1024 = omega (arith, length-replicate n blank) in
    IfOk-weaker c.blank_lines.result (λ rows. rows.items ≡ replicate n blank) (λ rows. take 1024 rows.items ≡ replicate (stated_lines c.args.file.now) blank) (λ rows e.
    ap (take 1024) e ∙ (take_all 1024 (replicate n blank) few ∙ ap (λ k. replicate k blank) c.stated_lines.ensures.value)) c.blank_lines.ensures
