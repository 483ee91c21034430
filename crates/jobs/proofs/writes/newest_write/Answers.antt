use Rattle.std.proofs.Common.{rules, tests, ◌≡◌, ◌==◌, reverse, ap, ◌∙◌}
use Rattle.std.specs.Option.{option_map}
use Rattle.std.specs.List.{find}
use Rattle.std.proofs.lemmas.Iterator.Adapters.{YieldsList-from_rev_slice}
use Rattle.std.proofs.lemmas.Iterator.Search.{find_from_yields_List}
use Rattle.jobs.proofs.Newest.{first_to_line}
use Rattle.jobs.proofs.writes.newest_write.Goals as goal

pub returns : goal.returns
returns g c =
    let writes = c.args.writes.now in
    let found : option_map (λ w. w.now) c.find.result ≡ find (λ w. w.line == c.args.line) (reverse writes) =
    find_from_yields_List (λ w. w.line == c.args.line) _ _ c.find.result c.find.ensures.ran (YieldsList-from_rev_slice writes cc) (λ x b q k. search (rules, tests)) in
    let value : c.map.result ≡ option_map (λ w. w.value) (option_map (λ w. w.now) c.find.result) = search rules in
    value ∙ (ap (option_map (λ w. w.value)) found ∙ first_to_line (reverse writes) c.args.line)
