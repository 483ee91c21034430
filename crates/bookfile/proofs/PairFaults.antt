-- The fault of the pairs, one pair at a time.
use Rattle.std.proofs.Common.{◌≡◌, ℕ, suc, ◌+◌, ◌-◌, ◌<◌, ◌≤◌, List, Some, None, Option, ap, ◌∙◌, arith}
use Rattle.std.specs.Option.{option_or}
use Rattle.survey.specs.Formats.{Format}
use Rattle.bookfile.specs.Faults.{FileFault}
use Rattle.bookfile.specs.Files.{pair_fault, pairs_fault}

module _ {R : Type 0} (f : Format R) (n m : ℕ) (bs : List ℕ) where
  -- the fault of the pairs from pair i on
  abbrev pub from : ℕ → Option FileFault
  from i = pairs_fault f n m bs i (m - i)

  pub pairs_step : (i : ℕ) → i < m → from i ≡ option_or (pair_fault f n m bs i) (from (i + 1))
  unfolding pairs_fault
  pairs_step i h =
      let e : m - i ≡ suc (m - (i + 1)) = omega arith in
      ap (λ k. pairs_fault f n m bs i k) e

  pub pairs_done : (i : ℕ) → m ≤ i → from i ≡ None
  unfolding pairs_fault
  pairs_done i h =
      let e : m - i ≡ 0 = omega arith in
      ap (λ k. pairs_fault f n m bs i k) e

  pub pairs_on : (i : ℕ) → i < m → pair_fault f n m bs i ≡ None → from i ≡ from (i + 1)
  pairs_on i h e = pairs_step i h ∙ ap (λ o. option_or o (from (i + 1))) e

  pub pairs_stop : (i : ℕ) (e : FileFault) → i < m → pair_fault f n m bs i ≡ Some e → from i ≡ Some e
  pairs_stop i e h p = pairs_step i h ∙ ap (λ o. option_or o (from (i + 1))) p
