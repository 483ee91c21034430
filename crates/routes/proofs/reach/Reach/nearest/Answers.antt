use Rattle.std.proofs.Common.{◌≡◌, None, refl, sym, ◌∙◌, subst, rules}
use Rattle.std.specs.List.{fold, range_with_len, zip}
use Rattle.std.proofs.lemmas.Iterator.{YieldsList-from_slice, YieldsList-from_range, YieldsList-from_zip}
use Rattle.std.proofs.lemmas.Iterator.Consumers.{fold_from_yields_List}
use Rattle.routes.specs.Reaches.{nearest_of, Inside}
use Rattle.routes.proofs.Choosing.{better, fold-better, nearest_inside}
use Rattle.routes.proofs.reach.Reach.nearest.Goals as goal

pub returns : goal.returns
returns c =
    let ss = c.args.self.now.stations in
    let e : c.fold.result ≡ fold better None (zip ss (range_with_len 0 16)) =
    fold_from_yields_List _ better None c.fold.result c.fold.ensures.ran
    (YieldsList-from_zip {s = c.zip.result} (YieldsList-from_slice ss cc) (YieldsList-from_range 0 16 16 c.zip.ensures.second refl)) (λ a x b q k. search rules) in
    let f : c.fold.result ≡ nearest_of ss = e ∙ fold-better ss (search rules) in
    record { value = f; inside = subst Inside (sym f) (nearest_inside ss) }
