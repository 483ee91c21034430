-- Lines that are calls are what the calls show, and other lines are wrong as they are told. Assumes nothing.
use Rattle.std.proofs.Common.{◌≡◌, ℕ, ◌+◌, ◌^◌, ◌<◌, true, eqb, List, [], ◌∷◌, ◌++◌, map, length, get_or, Some, None, Ok, Err, decimal, Option, Result, sym, refl, ap, ◌∙◌, subst, ⊎_elim, arith, length-append}
use lib.ListN.{length-map}
use Rattle.std.proofs.lemmas.Bool.{cond-true, cond-false, cases_Bool, eqb-true, eqb-false, eq-eqb, ne_eqb, not_from_false, and_from}
use Rattle.std.proofs.lemmas.Fmt.{decimal_is_IsNumeral}
use Rattle.std.proofs.lemmas.Str.Parse.{digit_from_value}
use Rattle.std.specs.Str.Parse.{AllDigits}
use Rattle.calls.specs.declared.call.Call.{Call}
use Rattle.calls.specs.declared.call.Call.TheVariants as call
use Rattle.script.specs.declared.letter.Letter.{Letter}
use Rattle.script.specs.declared.letter.Letter.TheVariants as letter
use Rattle.script.specs.declared.fault.LineCause.{LineCause}
use Rattle.script.specs.declared.fault.LineCause.TheVariants.{UnknownLetter, NotNumber, WordCount}
use Rattle.script.specs.Commands.{in_front, first_number, numbers_in, call_of, called, after_letter, from_letter, line_says}
use Rattle.script.specs.Cuts.{words, joined_by, ended_by, free, all_free}
use Rattle.script.specs.Faults.{fault_at, LineFault}
use Rattle.script.specs.Letters.{letter_of, numbers_after}
use Rattle.script.specs.Numbers.{number_of}
use Rattle.script.specs.Shown.{call_bytes, call_numbers, Small, letter_word, FirstNoNumber, Wrong, Told, ReadsBack}
use Rattle.script.proofs.Decimals.{number_of_decimal, number_is_decimal, is_writing}
use Rattle.script.proofs.Joins.{words_of_line, words_joined}
use Rattle.script.proofs.Letters.{letter_is, letter_of_byte}

-- Numbers: words that are read as numbers are their decimal writings, and the other way round

front_ok : (n : ℕ) (r : Result (List ℕ) LineFault) (ns : List ℕ) → in_front n r ≡ Ok ns → (ms : List ℕ) × (r ≡ Ok ms) × (ns ≡ n ∷ ms)
front_ok n (Ok ms) ns e = (ms, refl, (cc))
front_ok n (Err f) ns e = absurd (cc)

front_err : (n : ℕ) (r : Result (List ℕ) LineFault) (f : LineFault) → in_front n r ≡ Err f → r ≡ Err f
front_err n (Ok ms) f e = absurd (cc)
front_err n (Err g) f e = e

module _ (w : List ℕ) (ws : List (List ℕ)) (others : Result (List ℕ) LineFault) (more : (ms : List ℕ) → others ≡ Ok ms → Small ms × (ws ≡ map decimal ms)) where
  reads_one : (p : ℕ) (ns : List ℕ) (o : Option ℕ) → number_of w ≡ o → first_number p o others ≡ Ok ns → Small ns × (w ∷ ws ≡ map decimal ns)
  reads_one p ns None is e = absurd (cc)
  reads_one p ns (Some n) is e =
      let front = front_ok n others ns e in
      let here = number_is_decimal w n is in
      let rest = more front.0 front.1 in
      subst (λ l. Small l × (w ∷ ws ≡ map decimal l)) (sym front.2) ((here.0, rest.0), (ap (λ v. v ∷ ws) here.1 ∙ ap (λ l. decimal n ∷ l) rest.1))

reads_only : (p : ℕ) (ws : List (List ℕ)) (ns : List ℕ) → numbers_in p ws ≡ Ok ns → Small ns × (ws ≡ map decimal ns)
reads_only p [] ns e = let none : [] ≡ ns = cc in subst (λ l. Small l × ([] ≡ map decimal l)) none (tt, refl)
reads_only p (w ∷ ws) ns e = reads_one w ws (numbers_in (p + length w + 1) ws) (λ ms. reads_only (p + length w + 1) ws ms) p ns (number_of w) refl e

reads_all : (p : ℕ) (ns : List ℕ) → Small ns → numbers_in p (map decimal ns) ≡ Ok ns
reads_all p [] h = refl
reads_all p (n ∷ ns) h =
    ap (λ o. first_number p o (numbers_in (p + length (decimal n) + 1) (map decimal ns))) (number_of_decimal n h.0)
    ∙ ap (in_front n) (reads_all (p + length (decimal n) + 1) ns h.1)

-- the first word that is no number
record Stops (p : ℕ) (ws : List (List ℕ)) (f : LineFault) : Type 0 where
  before : List ℕ
  word : List ℕ
  after : List (List ℕ)
  cut_so : ws ≡ map decimal before ++ (word ∷ after)
  small : Small before
  no_number : number_of word ≡ None
  at : f.place ≡ p + length (ended_by 32 (map decimal before))
  cause : f.cause ≡ NotNumber

module _ (w : List ℕ) (ws : List (List ℕ)) (p : ℕ) (f : LineFault) (others : Result (List ℕ) LineFault) (more : others ≡ Err f → Stops (p + length w + 1) ws f) where
  stops_one : (o : Option ℕ) → number_of w ≡ o → first_number p o others ≡ Err f → Stops p (w ∷ ws) f
  unfolding ended_by
  stops_one None is e =
      let same : fault_at p NotNumber ≡ f = cc in
      record { before = []; word = w; after = ws; cut_so = refl; small = tt; no_number = is; at = ap (λ g. g.place) (sym same) ∙ omega arith; cause = ap (λ g. g.cause) (sym same) }
  stops_one (Some n) is e =
      let here = number_is_decimal w n is in
      let rest = more (front_err n others f e) in
      let long : length (decimal n ++ (32 ∷ ended_by 32 (map decimal rest.before))) ≡ length (decimal n) + (1 + length (ended_by 32 (map decimal rest.before))) = length-append (decimal n) _ ∙ omega arith in
      record {
        before = n ∷ rest.before;
        word = rest.word;
        after = rest.after;
        cut_so = ap (λ v. v ∷ ws) here.1 ∙ ap (λ l. decimal n ∷ l) rest.cut_so;
        small = (here.0, rest.small);
        no_number = rest.no_number;
        at = omega (arith, rest.at, long, ap length here.1);
        cause = rest.cause;
      }

stops : (p : ℕ) (ws : List (List ℕ)) (f : LineFault) → numbers_in p ws ≡ Err f → Stops p ws f
stops p [] f e = absurd (cc)
stops p (w ∷ ws) f e = stops_one w ws p f (numbers_in (p + length w + 1) ws) (λ k. stops (p + length w + 1) ws f k) (number_of w) refl e

-- Calls: the words that a call shows

call_letter : Call → Letter
call_letter (call.Start seat o) = letter.Start
call_letter (call.Step seat) = letter.Step
call_letter (call.Withdraw seat) = letter.Withdraw
call_letter (call.Look line) = letter.Look

call_words : Call → List (List ℕ)
call_words c = letter_word (call_letter c) ∷ map decimal (call_numbers c)

shown_words : (c : Call) → call_bytes c ≡ joined_by 32 (call_words c)
unfolding joined_by call_words call_letter
shown_words (call.Start seat o) = refl
shown_words (call.Step seat) = refl
shown_words (call.Withdraw seat) = refl
shown_words (call.Look line) = refl

call_again : (c : Call) → call_of (call_letter c) (call_numbers c) ≡ c
unfolding call_letter
call_again (call.Start seat o) = refl
call_again (call.Step seat) = refl
call_again (call.Withdraw seat) = refl
call_again (call.Look line) = refl

call_count : (c : Call) → length (map decimal (call_numbers c)) ≡ numbers_after (call_letter c)
unfolding call_letter
call_count (call.Start seat o) = refl
call_count (call.Step seat) = refl
call_count (call.Withdraw seat) = refl
call_count (call.Look line) = refl

letter_again : (l : Letter) (ns : List ℕ) → call_letter (call_of l ns) ≡ l
unfolding call_letter
letter_again letter.Start ns = refl
letter_again letter.Step ns = refl
letter_again letter.Withdraw ns = refl
letter_again letter.Look ns = refl

one : (ns : List ℕ) → length ns ≡ 1 → get_or ns 0 0 ∷ [] ≡ ns
one [] h = absurd (omega arith)
one (x ∷ []) h = refl
one (x ∷ y ∷ ns) h = absurd (omega arith)

six : (ns : List ℕ) → length ns ≡ 6 → get_or ns 0 0 ∷ get_or ns 1 0 ∷ get_or ns 2 0 ∷ get_or ns 3 0 ∷ get_or ns 4 0 ∷ get_or ns 5 0 ∷ [] ≡ ns
six [] h = absurd (omega arith)
six (a ∷ []) h = absurd (omega arith)
six (a ∷ b ∷ []) h = absurd (omega arith)
six (a ∷ b ∷ c ∷ []) h = absurd (omega arith)
six (a ∷ b ∷ c ∷ d ∷ []) h = absurd (omega arith)
six (a ∷ b ∷ c ∷ d ∷ e ∷ []) h = absurd (omega arith)
six (a ∷ b ∷ c ∷ d ∷ e ∷ f ∷ []) h = refl
six (a ∷ b ∷ c ∷ d ∷ e ∷ f ∷ g ∷ ns) h = absurd (omega arith)

numbers_again : (l : Letter) (ns : List ℕ) → length ns ≡ numbers_after l → call_numbers (call_of l ns) ≡ ns
numbers_again letter.Start ns h = six ns h
numbers_again letter.Step ns h = one ns h
numbers_again letter.Withdraw ns h = one ns h
numbers_again letter.Look ns h = one ns h

-- no space in a decimal writing
free_digits : (w : List ℕ) → AllDigits 10 w → free 32 w ≡ true
unfolding free
free_digits [] h = refl
free_digits (b ∷ bs) h =
    let range = digit_from_value b h.0 in
    let apart : b ≡ 32 → ⊥ = λ e. omega (arith, range.0) in
    and_from _ _ (not_from_false _ (ne_eqb b 32 apart)) (free_digits bs h.1)

free_decimals : (ns : List ℕ) → Small ns → all_free 32 (map decimal ns) ≡ true
unfolding all_free
free_decimals [] h = refl
free_decimals (n ∷ ns) h =
    let wide : n < 2 ^ 64 = omega (arith, h.0) in
    and_from _ _ (free_digits (decimal n) (decimal_is_IsNumeral n wide).0.1) (free_decimals ns h.1)

free_letter : (l : Letter) → free 32 (letter_word l) ≡ true
unfolding free
free_letter letter.Start = refl
free_letter letter.Step = refl
free_letter letter.Withdraw = refl
free_letter letter.Look = refl

words_shown : (c : Call) → Small (call_numbers c) → words (call_bytes c) ≡ call_words c
unfolding call_words all_free
words_shown c small =
    ap words (shown_words c)
    ∙ words_joined 32 (letter_word (call_letter c)) (map decimal (call_numbers c)) (and_from _ _ (free_letter (call_letter c)) (free_decimals (call_numbers c) small))

pub reads_back : ReadsBack
unfolding line_says call_words
reads_back c small =
    let l = call_letter c in
    let ws = map decimal (call_numbers c) in
    let n = length (call_bytes c) in
    ap (from_letter n 0) (words_shown c small)
    ∙ ap (λ o. after_letter n o (0 + length (letter_word l) + 1) ws) (letter_of_byte l)
    ∙ cond-true _ _ _ (eq-eqb _ _ (call_count c))
    ∙ ap (called l) (reads_all (0 + length (letter_word l) + 1) (call_numbers c) small)
    ∙ ap Ok (call_again c)

-- Lines: each result is as told

called_ok : (l : Letter) (r : Result (List ℕ) LineFault) (c : Call) → called l r ≡ Ok c → (ns : List ℕ) × (r ≡ Ok ns) × (call_of l ns ≡ c)
called_ok l (Ok ns) c e = (ns, refl, (cc))
called_ok l (Err f) c e = absurd (cc)

called_err : (l : Letter) (r : Result (List ℕ) LineFault) (f : LineFault) → called l r ≡ Err f → r ≡ Err f
called_err l (Ok ns) f e = absurd (cc)
called_err l (Err g) f e = let same : g ≡ f = cc in ap Err same

wrong_so : (line : List ℕ) (c : LineCause) (p : ℕ) (f : LineFault) → fault_at p c ≡ f → Wrong line c p → Wrong line f.cause f.place
wrong_so line c p f same h = subst (λ g. Wrong line g.cause g.place) same h

-- a line with no word that is a letter in front
no_letter_in_front : (line w : List ℕ) (ws : List (List ℕ)) → words line ≡ w ∷ ws → letter_of w ≡ None → (l : Letter) (vs : List (List ℕ)) → words line ≡ letter_word l ∷ vs → ⊥
no_letter_in_front line w ws is none l vs so =
    let same : w ≡ letter_word l = cc in
    let z : ◌≡◌ {A = ℕ} 0 1 = cc (ap letter_of same, letter_of_byte l) in
    omega arith

-- a line with a letter in front
module _ (line w : List ℕ) (ws : List (List ℕ)) (l : Letter) (is : words line ≡ w ∷ ws) (known : letter_of w ≡ Some l) where
  lettered : words line ≡ letter_word l ∷ ws
  lettered = is ∙ ap (λ v. v ∷ ws) (letter_is w l known)

  module _ (p : ℕ) (two : p ≡ 2) (count : length ws ≡ numbers_after l) where
    told_call : (c : Call) → called l (numbers_in p ws) ≡ Ok c → Told line (Ok c)
    unfolding call_words
    told_call c e =
        let read = called_ok l (numbers_in p ws) c e in
        let ns = read.0 in
        let all = reads_only p ws ns read.1 in
        let long : length ns ≡ numbers_after l = sym (length-map ns decimal) ∙ sym (ap length all.1) ∙ count in
        let again : call_numbers c ≡ ns = ap call_numbers (sym read.2) ∙ numbers_again l ns long in
        let same_letter : call_letter c ≡ l = ap call_letter (sym read.2) ∙ letter_again l ns in
        let shows : call_words c ≡ words line = ap (λ k. letter_word k ∷ map decimal (call_numbers c)) same_letter ∙ ap (λ ms. letter_word l ∷ map decimal ms) again ∙ ap (λ vs. letter_word l ∷ vs) (sym all.1) ∙ sym lettered in
        (subst Small (sym again) all.0, (sym (words_of_line line).together ∙ ap (joined_by 32) (sym shows) ∙ sym (shown_words c)))

    told_no_number : (f : LineFault) → called l (numbers_in p ws) ≡ Err f → Told line (Err f)
    unfolding ended_by
    told_no_number f e =
        let stop = stops p ws f (called_err l (numbers_in p ws) f e) in
        let found : FirstNoNumber line f.place =
        record {
          letter = l;
          before = stop.before;
          word = stop.word;
          after = stop.after;
          cut_so = lettered ∙ ap (λ vs. letter_word l ∷ vs) stop.cut_so;
          count = sym (ap length stop.cut_so) ∙ count;
          small = stop.small;
          no_number = is_writing stop.word None (sym stop.no_number);
          at = omega (arith, stop.at, two);
        } in
        subst (λ c. Wrong line c f.place) (sym stop.cause) found

    told_counted : (r : Result Call LineFault) → called l (numbers_in p ws) ≡ r → Told line r
    told_counted (Ok c) e = told_call c e
    told_counted (Err f) e = told_no_number f e

  told_miscounted : (length ws ≡ numbers_after l → ⊥) → (r : Result Call LineFault) → Err (fault_at (length line) WordCount) ≡ r → Told line r
  told_miscounted apart (Ok c) e = absurd (cc)
  told_miscounted apart (Err f) e =
      let same : fault_at (length line) WordCount ≡ f = cc in
      wrong_so line WordCount (length line) f same (refl, (l, (ws, (lettered, apart))))

  told_lettered : (p : ℕ) → p ≡ 2 → (r : Result Call LineFault) → after_letter (length line) (Some l) p ws ≡ r → Told line r
  told_lettered p two r e =
      ⊎_elim
      (λ t. told_counted p two (eqb-true _ _ t) r (sym (cond-true _ _ _ t) ∙ e))
      (λ t. told_miscounted (eqb-false _ _ t) r (sym (cond-false _ _ _ t) ∙ e))
      (cases_Bool (eqb (length ws) (numbers_after l)))

told_unknown : (line : List ℕ) → ((l : Letter) (ws : List (List ℕ)) → words line ≡ letter_word l ∷ ws → ⊥) → (r : Result Call LineFault) → Err (fault_at 0 UnknownLetter) ≡ r → Told line r
told_unknown line none (Ok c) e = absurd (cc)
told_unknown line none (Err f) e =
    let same : fault_at 0 UnknownLetter ≡ f = cc in
    wrong_so line UnknownLetter 0 f same (refl, none)

told_word : (line w : List ℕ) (ws : List (List ℕ)) (o : Option Letter) → words line ≡ w ∷ ws → letter_of w ≡ o → (r : Result Call LineFault) → after_letter (length line) o (0 + length w + 1) ws ≡ r → Told line r
told_word line w ws None is known r e = told_unknown line (no_letter_in_front line w ws is known) r e
told_word line w ws (Some l) is known r e =
    told_lettered line w ws l is known (0 + length w + 1) (omega (arith, ap length (letter_is w l known))) r e

told_words : (line : List ℕ) (ws : List (List ℕ)) → words line ≡ ws → (r : Result Call LineFault) → from_letter (length line) 0 ws ≡ r → Told line r
told_words line [] is r e = told_unknown line (λ l vs so. absurd (cc)) r e
told_words line (w ∷ ws) is r e = told_word line w ws (letter_of w) is refl r e

pub told : (line : List ℕ) (r : Result Call LineFault) → r ≡ line_says line → Told line r
unfolding line_says
told line r e = told_words line (words line) refl r (sym e)
