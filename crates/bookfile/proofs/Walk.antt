-- The pairs of a file, one by one: which comes next, and what the others still decide or write.
use Rattle.std.proofs.Common.{◌≡◌, ℕ, zero, suc, ◌+◌, ◌-◌, ◌*◌, ◌<◌, ◌≤◌, List, [], ◌∷◌, drop, set, Some, None, Option, sym, refl, ap, ◌∙◌, subst, arith}
use Rattle.std.specs.Borrow.{Bor}
use Rattle.std.specs.Option.{option_or}
use Rattle.survey.specs.Formats.{Format, Decodes}
use Rattle.bookfile.specs.declared.pair.Pair.{Pair}
use Rattle.bookfile.specs.Faults.{FileFault}
use Rattle.bookfile.specs.Files.{line_of, row_of, pair_of, pairs_from, pairs_between, fault_of, pair_fault, pairs_fault}
use Rattle.bookfile.specs.Loads.{loaded}

module _ {R : Type 0} (f : Format R) where
  -- the first fault of some pairs
  abbrev pub first_fault : ℕ → List (Pair R) → Option FileFault
  first_fault n [] = None
  first_fault n (pair ∷ pairs) = option_or (fault_of f n pair) (first_fault n pairs)

  -- the lines after some pairs were written
  abbrev pub written : List (Pair R) → List R → List R
  written [] lines = lines
  written (pair ∷ pairs) lines = written pairs (set lines pair.line pair.row)

  pub row_decoded : (place : ℕ) (bs : List ℕ) (values : Bor (List ℕ)) (o : Option (R × Bor (List ℕ))) (found : R × Bor (List ℕ)) → values.now ≡ drop place bs
      → Decodes f values.now o → o ≡ Some found → found.0 ≡ f.decoded (drop place bs)
  row_decoded place bs values o found back d e = (subst (Decodes f values.now) e d).1 ∙ ap f.decoded back

  module _ (m : ℕ) (bs : List ℕ) where
    pub none_left : (i e : ℕ) → e ≤ i → pairs_between f m bs i e ≡ []
    unfolding pairs_from
    none_left i e h = let k : e - i ≡ 0 = omega arith in ap (pairs_from f m bs i) k

    pub one_left : (i e : ℕ) → i < e → pairs_between f m bs i e ≡ pair_of f m bs i ∷ pairs_between f m bs (i + 1) e
    unfolding pairs_from
    one_left i e h = let k : e - i ≡ suc (e - (i + 1)) = omega arith in ap (pairs_from f m bs i) k

    pub pair_given : (i e next end at width line : ℕ) (row : R) → i < e → at ≡ i → next ≡ i + 1 → end ≡ e → width ≡ f.width → line ≡ line_of bs at → row ≡ f.decoded (drop (4 + 2 * m + width * at) bs)
        → pairs_between f m bs i e ≡ record { line_place = 4 + 2 * at; value_place = 4 + 2 * m + width * at; line = line; row = row } ∷ pairs_between f m bs next end
    pair_given i e next end at width line row h same on stays w l r = rw (r, l, w, on, stays, same) (one_left i e h)

    first_fault_is : (n k i : ℕ) → pairs_fault f n m bs i k ≡ first_fault n (pairs_from f m bs i k)
    unfolding pairs_fault pairs_from
    first_fault_is n zero i = refl
    first_fault_is n (suc k) i = ap (option_or (pair_fault f n m bs i)) (first_fault_is n k (i + 1))

    written_is : (k i : ℕ) (lines : List R) → loaded f m bs i k lines ≡ written (pairs_from f m bs i k) lines
    unfolding loaded pairs_from
    written_is zero i lines = refl
    written_is (suc k) i lines = written_is k (i + 1) (set lines (line_of bs i) (row_of f m bs i))

    pub all_checked : (n : ℕ) → first_fault n (pairs_between f m bs 0 m) ≡ pairs_fault f n m bs 0 m
    all_checked n = let k : m - 0 ≡ m = omega arith in ap (λ k. first_fault n (pairs_from f m bs 0 k)) k ∙ sym (first_fault_is n m 0)

    pub all_written : (lines : List R) → written (pairs_between f m bs 0 m) lines ≡ loaded f m bs 0 m lines
    all_written lines = let k : m - 0 ≡ m = omega arith in ap (λ k. written (pairs_from f m bs 0 k) lines) k ∙ sym (written_is m 0 lines)

  module _ (left rest : List (Pair R)) (pair : Pair R) (on : left ≡ pair ∷ rest) where
    pub fault_on : (n : ℕ) → fault_of f n pair ≡ None → first_fault n rest ≡ first_fault n left
    fault_on n e = sym (ap (first_fault n) on ∙ ap (λ o. option_or o (first_fault n rest)) e)

    pub fault_stops : (n : ℕ) (fault : FileFault) → fault_of f n pair ≡ Some fault → first_fault n left ≡ Some fault
    fault_stops n fault e = ap (first_fault n) on ∙ ap (λ o. option_or o (first_fault n rest)) e

    pub pair_written : (before after : List R) → after ≡ set before pair.line pair.row → written rest after ≡ written left before
    pair_written before after e = ap (written rest) e ∙ sym (ap (λ l. written l before) on)
