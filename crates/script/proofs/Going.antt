-- What reading numbers one by one keeps. Assumes nothing.
use Rattle.std.proofs.Common.{◌≡◌, ℕ, ◌+◌, ◌<◌, ◌≤◌, List, [], ◌∷◌, ◌++◌, length, take, set, replicate, Ok, Err, Result, sym, refl, ap, ◌∙◌, arith}
use Rattle.std.proofs.lemmas.List.{take_more_set, take_all, append-nil, append_assoc, length-set, length-replicate, nil_from_length}
use Rattle.script.specs.declared.words.Words.{Words}
use Rattle.script.specs.Commands.{in_front, numbers_in}
use Rattle.script.specs.Parts.{words_left}
use Rattle.script.specs.Reading.{numbers_left, OneLess}
use Rattle.script.specs.Faults.{LineFault}

-- numbers that were read, in front of those to come
abbrev pub ahead : List ℕ → Result (List ℕ) LineFault → Result (List ℕ) LineFault
ahead ms (Ok ns) = Ok (ms ++ ns)
ahead ms (Err f) = Err f

ahead_more : (ms : List ℕ) (n : ℕ) (r : Result (List ℕ) LineFault) → ahead (ms ++ (n ∷ [])) r ≡ ahead ms (in_front n r)
ahead_more ms n (Ok ns) = ap Ok (append_assoc ms (n ∷ []) ns)
ahead_more ms n (Err f) = refl

ahead_none : (r : Result (List ℕ) LineFault) → ahead [] r ≡ r
ahead_none (Ok ns) = refl
ahead_none (Err f) = refl

-- from `begin` to `now`, i of N numbers are read
pub record Going (begin now : Words) (N i : ℕ) (all : List ℕ) : Type 0 where
  pub left : length (words_left now) + i ≡ N
  pub long : length all ≡ N
  pub whole : ahead (take i all) (numbers_left now) ≡ numbers_left begin

pub begun : (r : Words) (N : ℕ) → length (words_left r) ≡ N → Going r r N 0 (replicate N 0)
begun r N some = record { left = omega arith; long = length-replicate N 0; whole = ahead_none (numbers_left r) }

module _ {begin now : Words} {N i : ℕ} {all : List ℕ} (go : Going begin now N i all) where
  pub onward : (next : Words) (n : ℕ) → i < N → numbers_left now ≡ in_front n (numbers_left next) → OneLess now next → Going begin next N (i + 1) (set all i n)
  onward next n more is less =
      let room : i < length all = omega (arith, go.long) in
      record {
        left = omega (arith, go.left, less);
        long = length-set all i n ∙ go.long;
        whole = ap (λ ms. ahead ms (numbers_left next)) (take_more_set all i n room) ∙ ahead_more (take i all) n (numbers_left next) ∙ ap (ahead (take i all)) (sym is) ∙ go.whole;
      }

  pub stopped : (f : LineFault) → numbers_left now ≡ Err f → numbers_left begin ≡ Err f
  stopped f is = sym go.whole ∙ ap (ahead (take i all)) is

  pub ended : N ≤ i → Ok all ≡ numbers_left begin
  ended past =
      let none : words_left now ≡ [] = nil_from_length (words_left now) (omega (arith, go.left)) in
      ap Ok (sym (append-nil (take i all) ∙ take_all i all (omega (arith, go.long)))) ∙ sym (ap (λ ws. ahead (take i all) (numbers_in now.reader.place ws)) none) ∙ go.whole
