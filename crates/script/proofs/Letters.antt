-- Which words are letters. Assumes nothing.
use Rattle.std.proofs.Common.{◌≡◌, ℕ, cond, eqb, List, [], ◌∷◌, Some, None, Option, sym, refl, ap, ◌∙◌, ⊎_elim}
use Rattle.std.proofs.lemmas.Bool.{eqb-true, cases_Bool}
use Rattle.script.specs.declared.letter.Letter.{Letter}
use Rattle.script.specs.declared.letter.Letter.TheVariants.{Start, Step, Withdraw, Look}
use Rattle.script.specs.Letters.{letter_byte, letter_named, letter_of}
use Rattle.script.specs.Numbers.{number_of, spelt}

-- one choice of several: either here, or in the rest
choice : (b n : ℕ) (here l : Letter) (rest : Option Letter) → letter_byte here ≡ n → cond (eqb b n) (Some here) rest ≡ Some l → (rest ≡ Some l → b ≡ letter_byte l) → b ≡ letter_byte l
choice b n here l rest is e others =
    ⊎_elim
    (λ t. let same : here ≡ l = cc (rw t at e) in eqb-true b n t ∙ sym is ∙ ap letter_byte same)
    (λ f. others (rw f at e))
    (cases_Bool (eqb b n))

named_is : (b : ℕ) (l : Letter) → letter_named b ≡ Some l → b ≡ letter_byte l
named_is b l e =
    choice b 83 Start l _ refl e
    (λ e₁. choice b 84 Step l _ refl e₁ (λ e₂. choice b 87 Withdraw l _ refl e₂ (λ e₃. choice b 76 Look l _ refl e₃ (λ e₄. absurd (cc)))))

-- a letter is all of its word
pub letter_is : (w : List ℕ) (l : Letter) → letter_of w ≡ Some l → w ≡ letter_byte l ∷ []
letter_is [] l e = absurd (cc)
letter_is (b ∷ []) l e = ap (λ c. c ∷ []) (named_is b l e)
letter_is (b ∷ c ∷ bs) l e = absurd (cc)

pub letter_of_byte : (l : Letter) → letter_of (letter_byte l ∷ []) ≡ Some l
letter_of_byte Start = refl
letter_of_byte Step = refl
letter_of_byte Withdraw = refl
letter_of_byte Look = refl

byte_is_no_number : (l : Letter) → number_of (letter_byte l ∷ []) ≡ None
unfolding spelt
byte_is_no_number Start = refl
byte_is_no_number Step = refl
byte_is_no_number Withdraw = refl
byte_is_no_number Look = refl

pub letter_is_no_number : (w : List ℕ) (l : Letter) → letter_of w ≡ Some l → number_of w ≡ None
letter_is_no_number w l e = ap number_of (letter_is w l e) ∙ byte_is_no_number l
