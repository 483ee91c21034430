-- The parts of a saved file, one line at a time.
use Rattle.std.proofs.Common.{◌≡◌, ℕ, zero, suc, ◌+◌, ◌*◌, ◌≤◌, List, [], ◌∷◌, ◌++◌, length, drop, sym, refl, ap, ◌∙◌, zero-add, mul-suc, add-one, arith}
use Rattle.std.specs.List.{flat_map}
use Rattle.std.proofs.lemmas.List.{length-append, append_assoc}
use Rattle.survey.specs.Bytes.{pasted, two_bytes}
use Rattle.survey.specs.Formats.{Format, Sound, or_blank}
use Rattle.survey.proofs.Pastes.{paste_nothing, paste_more}
use Rattle.bookfile.specs.Files.{file_size}
use Rattle.bookfile.specs.Saves.{numbers, value_bytes, file_of}

pub numbers_size : (n : ℕ) → length (numbers n) ≡ 2 * n
unfolding numbers
numbers_size zero = refl
numbers_size (suc n) = let e = numbers_size n in length-append (numbers n) (two_bytes n) ∙ omega arith

module _ (old : List ℕ) (p : ℕ) where
  pub numbers_begin : old ≡ pasted old p (numbers 0)
  unfolding numbers
  numbers_begin = sym (paste_nothing old p)

  pub numbers_more : (i q : ℕ) (out next : List ℕ) → p ≤ length old → q ≡ p + 2 * i → out ≡ pasted old p (numbers i) → next ≡ pasted out q (two_bytes i)
      → next ≡ pasted old p (numbers (i + 1))
  unfolding numbers
  numbers_more i q out next h at inv e =
      let size = numbers_size i in
      e ∙ (ap (λ l. pasted l q (two_bytes i)) inv ∙ (paste_more old p q (numbers i) (two_bytes i) h (omega arith) ∙ ap (λ n. pasted old p (numbers n)) (sym (add-one i))))

module _ {R : Type 0} (f : Format R) (sound : Sound f) where
  pub values_size : (rows : List R) → length (flat_map (value_bytes f) rows) ≡ f.width * length rows
  values_size [] = sym (omega arith)
  values_size (row ∷ rows) =
      let e = values_size rows in
      let w = sound.wide (or_blank f row) in
      length-append (value_bytes f row) (flat_map (value_bytes f) rows) ∙ omega (arith, mul-suc f.width (length rows))

  -- the first of the values that are left, and then the others
  module _ (left rest : List R) (row : R) (on : left ≡ row ∷ rest) (p q : ℕ) (next_place : q ≡ p + f.width) where
    pub values_left : q + f.width * length rest ≡ p + f.width * length left
    values_left = rw on (omega (arith, mul-suc f.width (length rest)))

    pub values_put : (out next : List ℕ) → p ≤ length out → next ≡ pasted out p (value_bytes f row)
        → pasted next q (flat_map (value_bytes f) rest) ≡ pasted out p (flat_map (value_bytes f) left)
    values_put out next fits e =
        let behind : q ≡ p + length (value_bytes f row) = next_place ∙ ap (λ w. p + w) (sym (sound.wide (or_blank f row))) in
        ap (λ l. pasted l q (flat_map (value_bytes f) rest)) e
        ∙ (paste_more out p q (value_bytes f row) (flat_map (value_bytes f) rest) fits behind ∙ ap (λ l. pasted out p (flat_map (value_bytes f) l)) (sym on))

  pub file_length : (rows : List R) → length (file_of f rows) ≡ file_size f (length rows)
  unfolding file_of
  file_length rows =
      let n = length rows in
      let v = values_size rows in
      let k = numbers_size n in
      length-append (two_bytes n ++ two_bytes n) (numbers n ++ flat_map (value_bytes f) rows)
      ∙ (ap (λ z. 4 + z) (length-append (numbers n) (flat_map (value_bytes f) rows)) ∙ omega arith)

  -- the three parts, each behind the one before, are the file
  pub file_put : (rows : List R) (old : List ℕ) → file_size f (length rows) ≤ length old
      → pasted (pasted (pasted old 0 (two_bytes (length rows) ++ two_bytes (length rows))) 4 (numbers (length rows))) (4 + 2 * length rows) (flat_map (value_bytes f) rows)
      ≡ file_of f rows ++ drop (file_size f (length rows)) old
  unfolding file_of
  file_put rows old h =
      let n = length rows in
      let head = two_bytes n ++ two_bytes n in
      let values = flat_map (value_bytes f) rows in
      let k = numbers_size n in
      let start : 4 + 2 * n ≡ 0 + length (head ++ numbers n) = sym (ap (λ z. 0 + z) (length-append head (numbers n)) ∙ omega arith) in
      ap (λ l. pasted l (4 + 2 * n) values) (paste_more old 0 4 head (numbers n) (omega arith) refl)
      ∙ (paste_more old 0 (4 + 2 * n) (head ++ numbers n) values (omega arith) start
      ∙ (ap (pasted old 0) (append_assoc head (numbers n) values)
      ∙ ap (λ z. (head ++ (numbers n ++ values)) ++ drop z old) (zero-add (length (file_of f rows)) ∙ file_length rows)))

  -- the same, part by part
  pub file_written : (rows : List R) (n p q : ℕ) (old head ones out : List ℕ) → n ≡ length rows → p ≡ 4 → q ≡ p + 2 * n → file_size f (length rows) ≤ length old
      → head ≡ pasted old 0 (two_bytes n ++ two_bytes n) → ones ≡ pasted head p (numbers n) → out ≡ pasted ones q (flat_map (value_bytes f) rows)
      → out ≡ file_of f rows ++ drop (length (file_of f rows)) old
  file_written rows n p q old head ones out many at behind fits h o v =
      let after : q ≡ 4 + 2 * length rows = omega arith in
      rw (v, o, h, after, at, many) (file_put rows old fits ∙ ap (λ k. file_of f rows ++ drop k old) (sym (file_length rows)))
