-- The lines of a book, one by one.
use Rattle.std.proofs.Common.{◌≡◌, ℕ, ◌+◌, List, [], ◌∷◌, ◌++◌, sym, ap, ◌∙◌}
use Rattle.std.proofs.lemmas.List.{append_assoc, append-nil}
use Rattle.survey.specs.Formats.{Format, or_blank}
use Rattle.script.specs.Listing.{look_line}
use Rattle.programs.specs.Shows.{book_lines}

module _ {R : Type 0} (f : Format R) where
  -- the first of the rows that are left was pushed as line i, and the others are to come
  pub line_pushed : (i next : ℕ) (row : R) (left rest : List R) (before after whole : List ℕ) → left ≡ row ∷ rest → next ≡ i + 1
      → after ≡ before ++ look_line i (f.text (or_blank f row)) → before ++ book_lines f i left ≡ whole → after ++ book_lines f next rest ≡ whole
  unfolding book_lines
  line_pushed i next row left rest before after whole on up a inv =
      let one = look_line i (f.text (or_blank f row)) in
      ap (λ k. after ++ book_lines f k rest) up
      ∙ (ap (λ l. l ++ book_lines f (i + 1) rest) a
      ∙ (append_assoc before one (book_lines f (i + 1) rest) ∙ (ap (λ l. before ++ book_lines f i l) (sym on) ∙ inv)))

  pub lines_done : (i : ℕ) (left : List R) (out whole : List ℕ) → left ≡ [] → out ++ book_lines f i left ≡ whole → out ≡ whole
  unfolding book_lines
  lines_done i left out whole none inv = sym (append-nil out) ∙ (ap (λ l. out ++ book_lines f i l) (sym none) ∙ inv)
