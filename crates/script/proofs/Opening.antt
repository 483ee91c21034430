-- A line from its letter on. Assumes nothing.
use Rattle.std.proofs.Common.{◌≡◌, ℕ, ◌+◌, Bool, true, false, cond, eqb, List, length, Ok, Err, Result, sym, refl, ap, ◌∙◌, arith}
use Rattle.std.proofs.lemmas.Bool.{cond-true, cond-false, eqb-true, eqb-false, eq-eqb, ne_eqb}
use Rattle.script.specs.declared.letter.Letter.{Letter}
use Rattle.script.specs.declared.fault.LineCause.TheVariants.{WordCount}
use Rattle.script.specs.declared.words.Words.{Words}
use Rattle.script.specs.Commands.{counted, called, from_letter, line_says}
use Rattle.script.specs.Cuts.{words}
use Rattle.script.specs.Faults.{fault_at, LineFault}
use Rattle.script.specs.Letters.{numbers_after}
use Rattle.script.specs.Parts.{words_left}
use Rattle.script.specs.Reading.{numbers_left, FirstLetter}

-- what a test that refuses tells
passed : (t : Bool) (g : LineFault) (o : Result (Unit {0}) LineFault) → o ≡ cond t (Ok tt) (Err g) → o ≡ Ok tt → t ≡ true
passed true g o weighed fine = refl
passed false g o weighed fine = absurd (cc)

refused : (t : Bool) (g f : LineFault) (o : Result (Unit {0}) LineFault) → o ≡ cond t (Ok tt) (Err g) → o ≡ Err f → (t ≡ false) × (f ≡ g)
refused true g f o weighed wrong = absurd (cc)
refused false g f o weighed wrong = (refl, (cc))

-- at the start of a line
module _ (line : List ℕ) (r : Words) (start : r.reader.place ≡ 0) (all_words : words_left r ≡ words line) where
  from_here : line_says line ≡ from_letter (length line) r.reader.place (words_left r)
  unfolding line_says
  from_here = sym (ap (λ p. from_letter (length line) p (words_left r)) start ∙ ap (from_letter (length line) 0) all_words)

  pub no_letter : (s : Words) (f : LineFault) → FirstLetter r s (Err f) → Err f ≡ line_says line
  no_letter s f none = sym (from_here ∙ none (length line))

  module _ (s : Words) (l : Letter) (first : FirstLetter r s (Ok l)) (o : Result (Unit {0}) LineFault) (weighed : o ≡ counted line l) where
    counts : length (words line) ≡ length (words_left s) + 1
    counts = sym (ap length all_words) ∙ first.1

    pub enough : o ≡ Ok tt → length (words_left s) ≡ numbers_after l
    enough fine = omega (arith, eqb-true (length (words line)) (numbers_after l + 1) (passed _ _ o weighed fine), counts)

    pub says_call : o ≡ Ok tt → called l (numbers_left s) ≡ line_says line
    says_call fine = sym (from_here ∙ first.0 (length line) ∙ cond-true _ _ _ (eq-eqb _ _ (enough fine)))

    pub miscounted : (f : LineFault) → o ≡ Err f → Err f ≡ line_says line
    miscounted f wrong =
        let test = refused (eqb (length (words line)) (numbers_after l + 1)) (fault_at (length line) WordCount) f o weighed wrong in
        let apart : length (words_left s) ≡ numbers_after l → ⊥ = λ e. eqb-false (length (words line)) (numbers_after l + 1) test.0 (omega (arith, counts)) in
        ap Err test.1 ∙ sym (from_here ∙ first.0 (length line) ∙ cond-false _ _ _ (ne_eqb _ _ apart))
