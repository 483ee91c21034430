-- Turns of any job alone, one after the other.
use Rattle.std.proofs.Common.{◌≡◌, ℕ, zero, suc, ◌+◌, ◌-◌, ◌≤◌, List, sym, refl, ap, ◌∙◌, inl, inr, add-zero, arith}
use Rattle.std.proofs.lemmas.Bool.{cases_lt}
use Rattle.calls.specs.declared.ending.Ending.{Ending}
use Rattle.jobs.specs.declared.request.Request.TheVariants.{End}
use Rattle.jobs.specs.Meanings.{Meaning}
use Rattle.jobs.specs.Alone.{Alone, turn, turns, turn_at}

module _ {V S : Type 0} (m : Meaning V S) (values : List V) where
  pub turns_front : (k : ℕ) (a : Alone V S) → turns m values (suc k) a ≡ turns m values k (turn m values a)
  turns_front zero a = refl
  turns_front (suc k) a = ap (turn m values) (turns_front k a)

  pub turns_add : (j k : ℕ) (a : Alone V S) → turns m values (j + k) a ≡ turns m values k (turns m values j a)
  turns_add j zero a = ap (λ (n : ℕ). turns m values n a) (add-zero j)
  turns_add j (suc k) a = let e : j + suc k ≡ suc (j + k) = omega arith in ap (λ (n : ℕ). turns m values n a) e ∙ ap (turn m values) (turns_add j k a)

  -- a job that a turn leaves as it is stays so
  stands : (a : Alone V S) → turn m values a ≡ a → (k : ℕ) → turns m values k a ≡ a
  stands a e zero = refl
  stands a e (suc k) = ap (turn m values) (stands a e k) ∙ e

  pub stands_since : (a b : Alone V S) (j k : ℕ) → j ≤ k → turns m values j a ≡ b → turn m values b ≡ b → turns m values k a ≡ b
  stands_since a b j k h e f =
      let s : j + (k - j) ≡ k = omega arith in
      ap (λ (n : ℕ). turns m values n a) (sym s) ∙ (turns_add j (k - j) a ∙ (ap (turns m values (k - j)) e ∙ stands b f (k - j)))

  -- a job that asks to end stays as it is
  pub ended_since : (a b : Alone V S) (j k : ℕ) (ending : Ending) → j ≤ k → turns m values j a ≡ b → m.request b.state ≡ End ending → turns m values k a ≡ b
  ended_since a b j k ending h e f = stands_since a b j k h e (ap (turn_at m values b) f)

  -- two turns at which it asks to end are alike
  pub ends_alike : (a : Alone V S) (j k : ℕ) (x y : Ending) → m.request (turns m values j a).state ≡ End x → m.request (turns m values k a).state ≡ End y
      → turns m values j a ≡ turns m values k a
  ends_alike a j k x y p q =
      elim (cases_lt j k) [
        | inl h ↦ sym (ended_since a (turns m values j a) j k x (omega arith) refl p)
        | inr h ↦ ended_since a (turns m values k a) k j y h refl q
      ]
