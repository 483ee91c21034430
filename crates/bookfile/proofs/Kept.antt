-- A saved book, loaded again, has the same lines.
use Rattle.std.proofs.Common.{◌≡◌, ℕ, zero, suc, ◌+◌, ◌*◌, ◌<◌, ◌≤◌, ◌≢◌, List, [], ◌∷◌, ◌++◌, map, length, get_or, take, drop, set, Some, None, Ok, Err, Option, Result, sym, refl, ap, ◌∙◌, subst, inl, inr, mul-zero, mul-suc, arith}
use Rattle.std.specs.List.{flat_map}
use Rattle.std.proofs.lemmas.List.{append_assoc, append-nil, drop-drop, drop_at, drop_all, drop_more, set_at, map-append, length-map, take_more, length-take-le, take_all, take_at}
use Rattle.std.proofs.lemmas.Bool.{cases_lt}
use Rattle.survey.specs.declared.fault.ValueFault.{ValueFault}
use Rattle.survey.specs.Bytes.{two, two_bytes}
use Rattle.survey.specs.Formats.{Format, Sound, unless, or_blank}
use Rattle.bookfile.specs.declared.fault.FileCause.TheVariants.{Lines}
use Rattle.bookfile.specs.Faults.{FileFault}
use Rattle.bookfile.specs.Files.{line_of, row_of, pair_count, line_count, file_size, file_fault, value_place}
use Rattle.bookfile.specs.Loads.{loaded, Loads}
use Rattle.bookfile.specs.Meanings.{RightHead, RightPair}
use Rattle.bookfile.specs.Saves.{numbers, value_bytes, file_of, PutsFront, KeepsLines}
use Rattle.bookfile.proofs.Exact.{exactly}
use Rattle.bookfile.proofs.Saving.{numbers_size, file_length}

-- line number i stands at place 2 * i of the line numbers
number_at : (n i : ℕ) (rest : List ℕ) → i < n → (more : List ℕ) × (drop (2 * i) (numbers n ++ rest) ≡ two_bytes i ++ more)
unfolding numbers
number_at zero i rest h = absurd (omega arith)
number_at (suc n) i rest h =
    let whole : drop (2 * i) (numbers (suc n) ++ rest) ≡ drop (2 * i) (numbers n ++ (two_bytes n ++ rest)) = ap (drop (2 * i)) (append_assoc (numbers n) (two_bytes n) rest) in
    elim (cases_lt i n) [
      | inl below ↦ let at = number_at n i (two_bytes n ++ rest) below in (at.0, whole ∙ at.1)
      | inr above ↦
          let last : n ≡ i = omega arith in
          (rest, whole ∙ (drop_at (numbers n) (two_bytes n ++ rest) (2 * i) (numbers_size n ∙ omega arith) ∙ ap (λ k. two_bytes k ++ rest) last))
    ]

module _ {R : Type 0} (f : Format R) (sound : Sound f) where
  is_value : (row : R) (o : Option ValueFault) → f.fault row ≡ o → f.fault (unless o row f.blank) ≡ None
  is_value row None e = e
  is_value row (Some fault) e = sound.blank_is_value

  -- value i stands at place width * i of the values
  value_at : (rows : List R) (i : ℕ) → i < length rows
      → (more : List ℕ) × (drop (f.width * i) (flat_map (value_bytes f) rows) ≡ value_bytes f (get_or rows i f.blank) ++ more)
  value_at [] i h = absurd (omega arith)
  value_at (row ∷ rows) zero h = (flat_map (value_bytes f) rows, ap (λ k. drop k (flat_map (value_bytes f) (row ∷ rows))) (mul-zero f.width))
  value_at (row ∷ rows) (suc i) h =
      let at = value_at rows i (omega arith) in
      let all = flat_map (value_bytes f) (row ∷ rows) in
      let next : f.width * suc i ≡ f.width + f.width * i = omega (arith, mul-suc f.width i) in (
        at.0,
        ap (λ k. drop k all) next ∙ (sym (drop-drop (f.width * i) f.width all)
            ∙ (ap (drop (f.width * i)) (drop_at (value_bytes f row) (flat_map (value_bytes f) rows) f.width (sound.wide (or_blank f row))) ∙ at.1)),
      )

  module _ (rows : List R) (few : length rows ≤ 1024) where
    abbrev n : ℕ
    n = length rows

    abbrev bs : List ℕ
    bs = file_of f rows

    abbrev values : List ℕ
    values = flat_map (value_bytes f) rows

    lines_are : line_count bs ≡ n
    unfolding file_of
    lines_are = omega arith

    pairs_are : pair_count bs ≡ n
    unfolding file_of
    pairs_are = omega arith

    head_right : RightHead f n bs
    head_right =
        let size = file_length f sound rows in
        record { room = omega arith; lines = lines_are; pairs = omega (arith, pairs_are); whole = size ∙ ap (file_size f) (sym pairs_are) }

    line_is : (i : ℕ) → i < n → line_of bs i ≡ i
    unfolding file_of
    line_is i h =
        let at = number_at n i values h in
        let there : drop (4 + 2 * i) bs ≡ two_bytes i ++ at.0 = sym (drop-drop (2 * i) 4 bs) ∙ at.1 in
        ap two there ∙ omega arith

    values_behind : drop (4 + 2 * n) bs ≡ values
    unfolding file_of
    values_behind = sym (drop-drop (2 * n) 4 bs) ∙ drop_at (numbers n) values (2 * n) (numbers_size n)

    row_is : (i : ℕ) → i < n → row_of f n bs i ≡ or_blank f (get_or rows i f.blank)
    row_is i h =
        let at = value_at rows i h in
        let row = get_or rows i f.blank in
        let there : drop (value_place f n i) bs ≡ value_bytes f row ++ at.0 = sym (drop-drop (f.width * i) (4 + 2 * n) bs) ∙ (ap (drop (f.width * i)) values_behind ∙ at.1) in
        ap f.decoded there ∙ sound.reads_back (or_blank f row) at.0 (is_value row (f.fault row) refl)

    pair_right : (i : ℕ) → i < pair_count bs → RightPair f n bs i
    pair_right i h =
        let below : i < n = omega (arith, pairs_are) in
        let row = get_or rows i f.blank in
        record {
          line = omega (arith, line_is i below);
          value = ap (λ m. f.fault (row_of f m bs i)) pairs_are ∙ (ap f.fault (row_is i below) ∙ is_value row (f.fault row) refl);
        }

    module _ (book : List R) (same : length book ≡ n) where
      -- the book once the first i lines are loaded
      abbrev so_far : ℕ → List R
      so_far i = map (or_blank f) (take i rows) ++ drop i book

      one_more : (i : ℕ) → i < n → set (so_far i) i (or_blank f (get_or rows i f.blank)) ≡ so_far (i + 1)
      one_more i h =
          let row = get_or rows i f.blank in
          let front = map (or_blank f) (take i rows) in
          let rest = drop (i + 1) book in
          let size : length front ≡ i = length-map (take i rows) (or_blank f) ∙ length-take-le i rows (omega arith) in
          ap (λ l. set (front ++ l) i (or_blank f row)) (drop_more book i f.blank (omega arith))
          ∙ (set_at front (get_or book i f.blank) rest (or_blank f row) i size
          ∙ (sym (append_assoc front (or_blank f row ∷ []) rest)
          ∙ ap (λ l. l ++ rest) (sym (ap (map (or_blank f)) (take_more rows i f.blank h) ∙ map-append (or_blank f) (take i rows) (row ∷ [])))))

      load_from : (k i : ℕ) → i + k ≡ n → loaded f n bs i k (so_far i) ≡ map (or_blank f) rows
      unfolding loaded
      load_from zero i e =
          ap (λ l. map (or_blank f) (take i rows) ++ l) (drop_all i book (omega arith))
          ∙ (append-nil (map (or_blank f) (take i rows)) ∙ ap (map (or_blank f)) (take_all i rows (omega arith)))
      load_from (suc k) i e =
          let below : i < n = omega arith in
          ap (loaded f n bs (i + 1) k) (ap (λ l. set (so_far i) l (row_of f n bs i)) (line_is i below) ∙ (ap (set (so_far i) i) (row_is i below) ∙ one_more i below))
          ∙ load_from k (i + 1) (omega arith)

      all_loaded : map (or_blank f) rows ≡ loaded f (pair_count bs) bs 0 (pair_count bs) book
      all_loaded = sym (ap (λ m. loaded f m bs 0 m book) pairs_are ∙ load_from n 0 (omega arith))

    pub keeps_lines : KeepsLines f rows bs
    keeps_lines book same =
        (ap (λ k. file_fault f k bs) same ∙ (exactly f n bs).taken (head_right, pair_right), all_loaded book same)

    -- what loading the file of these lines into some book answers and leaves
    abbrev LoadedCopy : List R → List R → Result (Unit {0}) FileFault → Type 0
    LoadedCopy before after (Ok x) = (length before ≡ n) × (after ≡ map (or_blank f) rows)
    LoadedCopy before after (Err e) = (length before ≢ n) × (e ≡ record { place = 0; cause = Lines }) × (after ≡ before)

    pub loads_copy : (before after : List R) (r : Result (Unit {0}) FileFault) → Loads f bs before after r → LoadedCopy before after r
    loads_copy before after (Ok x) h =
        let same : length before ≡ n = sym ((exactly f (length before) bs).right h.0).0.lines ∙ lines_are in
        (same, h.1 ∙ sym (all_loaded before same))
    loads_copy before after (Err e) h =
        let other : length before ≢ n = λ same. let z : ◌≡◌ {A = Option FileFault} None (Some e) = sym (keeps_lines before same).0 ∙ h.0 in never z in
        let apart : line_count bs ≢ length before = λ q. other (sym q ∙ lines_are) in
        let wrong = (exactly f (length before) bs).refused (record { place = 0; cause = Lines }) (head_right.room, apart, refl) in
        (other, same_some (sym h.0 ∙ wrong), h.1)
      where
        never : {e : FileFault} → ◌≡◌ {A = Option FileFault} None (Some e) → ⊥
        never z = let q : ◌≡◌ {A = ℕ} 0 1 = cc in omega arith

        same_some : {a b : FileFault} → ◌≡◌ {A = Option FileFault} (Some a) (Some b) → a ≡ b
        same_some z = cc

    -- the same of the front of an output into which these lines were saved
    pub loads_saved : (size k : ℕ) (old out : List ℕ) (before after : List R) (r : Result (Unit {0}) FileFault) → size ≡ length bs → k ≡ size → PutsFront bs old out
        → Loads f (take k out) before after r → LoadedCopy before after r
    loads_saved size k old out before after r e j o h =
        let front : take k out ≡ bs = ap (take k) o ∙ take_at bs (drop (length bs) old) k (sym (j ∙ e)) in
        loads_copy before after r (subst (λ l. Loads f l before after r) front h)
