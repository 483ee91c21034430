-- The metres of many lines together.
use Rattle.std.proofs.Common.{◌≡◌, ℕ, ◌+◌, ◌*◌, ◌≤◌, Bool, true, false, cond, leb, ◌≢◌, List, take, get_or, set, Some, None, sym, refl, ap, subst, ◌∙◌, arith}
use Rattle.std.specs.List.{slice_get}
use Rattle.std.proofs.lemmas.Bool.{leb-true, le-leb}
use Rattle.std.proofs.lemmas.List.{length-set, length-take, get_or-set_other}
use Rattle.std.proofs.lemmas.List.Elements.{All-from_get_or}
use Rattle.std.proofs.lemmas.List.Sums.{sum_by-set, sum_by-le}
use Rattle.std.proofs.lemmas.Option.{slice_get_within, slice_get-get_or, get_or_from_slice_get}
use Rattle.survey.specs.declared.fault.ValueFault.TheVariants.{Metres}
use Rattle.survey.specs.declared.metres.MetresRow.{MetresRow}
use Rattle.survey.specs.Formats.{unless}
use Rattle.survey.specs.Ropes.{metres_row}
use Rattle.families.specs.Transfers.{metres_of}
use Rattle.families.specs.Laws.{total}

most_at : (row : MetresRow) (b : Bool) → leb row.count 1000000 ≡ b → (unless (cond b None (Some Metres)) row (metres_row 0)).count ≤ 1000000
most_at row true e = leb-true row.count 1000000 e
most_at row false e = omega arith

pub metres_most : (row : MetresRow) → metres_of row ≤ 1000000
metres_most row = most_at row (leb row.count 1000000) refl

pub metres_kept : (n : ℕ) → n ≤ 1000000 → metres_of (metres_row n) ≡ n
metres_kept n h = subst (λ (b : Bool). (unless (cond b None (Some Metres)) (metres_row n) (metres_row 0)).count ≡ n) (sym (le-leb n 1000000 h)) refl

-- one line is written
pub total_set : (values : List MetresRow) (i : ℕ) (old new : MetresRow) → slice_get values i ≡ Some old → total (set values i new) + metres_of old ≡ total values + metres_of new
total_set values i old new e =
    let s = sum_by-set metres_of values i new old (slice_get_within values i old e) in
    let same = ap metres_of (get_or_from_slice_get values i old old e) in
    omega arith

-- and the others are as they were
pub others_stay : {V : Type 0} (values : List V) (i j : ℕ) (new v : V) → i ≢ j → slice_get values j ≡ Some v → slice_get (set values i new) j ≡ Some v
others_stay values i j new v h e =
    let within = slice_get_within values j v e in
    let n = length-set values i new in
    let first = slice_get-get_or (set values i new) j v (omega arith) in
    first ∙ ap (λ x. Some x) (get_or-set_other values i j new v (λ e. h (sym e)) ∙ get_or_from_slice_get values j v v e)

pub total_most : (k : ℕ) (rows : List MetresRow) → total (take k rows) ≤ 1000000 * k
total_most k rows =
    let most = sum_by-le metres_of 1000000 (take k rows) (All-from_get_or (λ row. metres_of row ≤ 1000000) (take k rows) (metres_row 0) (λ i h. metres_most (get_or (take k rows) i (metres_row 0)))) in
    let n = length-take k rows in
    omega arith
