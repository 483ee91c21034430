-- Parts of a list: their elements, and what a write to one leaves of the whole.
use Rattle.std.proofs.Common.{◌≡◌, ℕ, zero, suc, ◌+◌, ◌-◌, ◌<◌, ◌≤◌, min, List, [], ◌∷◌, ◌++◌, length, take, drop, set, Some, None, Ok, Err, Option, Result, sym, refl, ap, ◌∙◌, subst, suc-add, zero-add, arith}
use Rattle.std.specs.Borrow.{Bor}
use Rattle.std.specs.List.{slice_get}
use Rattle.std.specs.Option.{ok_or, option_copied, MatchOption}
use Rattle.std.specs.Result.{result_ok}
use Rattle.std.specs.Slice.{IsItemAt}
use Rattle.std.proofs.lemmas.List.{length-take, length-drop, drop-set-add, take_min, take-append-drop, set-append_left, drop_more}
use Rattle.std.proofs.lemmas.Option.{slice_get_read, get_or_from_slice_get}
use Rattle.book.specs.declared.refusal.BookRefusal.{BookRefusal}
use Rattle.book.specs.declared.refusal.BookRefusal.TheVariants.{NoLine}
use Rattle.book.specs.Books.{Reads, Writes}
use Rattle.book.specs.Chapters.{part, IsLine, WrittenBelow}

pub nth_take : {V : Type 0} (n : ℕ) (xs : List V) (i : ℕ) → i < n → slice_get (take n xs) i ≡ slice_get xs i
nth_take zero xs i h = absurd (omega arith)
nth_take (suc n) [] i h = refl
nth_take (suc n) (x ∷ xs) zero h = refl
nth_take (suc n) (x ∷ xs) (suc i) h = nth_take n xs i (omega arith)

pub nth_drop : {V : Type 0} (a : ℕ) (xs : List V) (i : ℕ) → slice_get (drop a xs) i ≡ slice_get xs (a + i)
nth_drop zero xs i = ap (slice_get xs) (sym (zero-add i))
nth_drop (suc a) [] i = refl
nth_drop (suc a) (x ∷ xs) i = nth_drop a xs i ∙ ap (slice_get (x ∷ xs)) (sym (suc-add a i))

pub take-set-any : {V : Type 0} (n : ℕ) (xs : List V) (i : ℕ) (v : V) → take n (set xs i v) ≡ set (take n xs) i v
take-set-any zero xs i v = refl
take-set-any (suc n) [] i v = refl
take-set-any (suc n) (x ∷ xs) zero v = refl
take-set-any (suc n) (x ∷ xs) (suc i) v = ap (λ t. x ∷ t) (take-set-any n xs i v)

-- the first n elements are written as the whole is
module _ {V : Type 0} (n : ℕ) (xs : List V) where
  pub front_size : min (length xs) n ≡ length (take n xs)
  front_size = simp length-take (omega arith)

  pub front_within : (i : ℕ) → i < length (take n xs) → (i < n) × (i < length xs)
  front_within i h = let e = front_size in (omega arith, omega arith)

module _ {V : Type 0} (a c : ℕ) (xs : List V) where
  pub part_size : length (part a c xs) ≡ min c (length xs - min a (length xs))
  part_size = simp (length-take, length-drop) (omega arith)

  pub part_within : (i : ℕ) → i < length (part a c xs) → (i < c) × (a + i < length xs)
  part_within i h = let e = part_size in (omega arith, omega arith)

  pub part_line : (i : ℕ) → i < length (part a c xs) → slice_get (part a c xs) i ≡ slice_get xs (a + i)
  part_line i h = nth_take c (drop a xs) i (part_within i h).0 ∙ nth_drop a xs i

  pub part-set : (i : ℕ) (v : V) → part a c (set xs (a + i) v) ≡ set (part a c xs) i v
  part-set i v = ap (take c) (drop-set-add a xs i v) ∙ take-set-any c (drop a xs) i v

  -- a part that has a line begins where it was asked to
  module _ (start i : ℕ) (s : start ≡ min a (length xs)) (h : i < length (part a c xs)) where
    pub begins : start + i ≡ a + i
    begins = let w = part_within i h in omega arith

    pub part_reads : (r : Result V BookRefusal) → Reads xs (start + i) r → Reads (part a c xs) i r
    part_reads (Ok v) q = (h, part_line i h ∙ (ap (slice_get xs) (sym begins) ∙ q.1))
    part_reads (Err e) q = let w = part_within i h in let b = begins in let past = q.0 in absurd (omega arith)

    pub part_writes : (v : V) (ys : List V) (r : Result (Unit {0}) BookRefusal) → Writes xs (start + i) v ys r
        → Writes (part a c xs) i v (part a c ys) r × WrittenBelow a xs i v ys r
    part_writes v ys (Ok u) q =
        let w : ys ≡ set xs (a + i) v = q.1 ∙ ap (λ k. set xs k v) begins in
        ((h, ap (part a c) w ∙ part-set i v), w)
    part_writes v ys (Err e) q = let w = part_within i h in let b = begins in let past = q.0 in absurd (omega arith)

  pub is_line : (start i : ℕ) → start ≡ min a (length xs) → i < length (part a c xs) → IsLine a c xs i (start + i)
  is_line start i s h =
      record {
        within = h;
        reads = part_reads start i s h;
        writes = λ v ys r q. (part_writes start i s h v ys r q).0;
        below = λ v ys r q. (part_writes start i s h v ys r q).1;
      }

-- lists of one length with the same elements are equal
pub same_lines : {V : Type 0} (xs ys : List V) → length xs ≡ length ys → ((i : ℕ) → i < length xs → slice_get xs i ≡ slice_get ys i) → xs ≡ ys
same_lines [] [] e h = refl
same_lines [] (y ∷ ys) e h = absurd (omega arith)
same_lines (x ∷ xs) [] e h = absurd (omega arith)
same_lines {V} (x ∷ xs) (y ∷ ys) e h =
    let first : ◌≡◌ {A = Option V} (Some x) (Some y) = h 0 (omega arith) in
    let head : x ≡ y = cc in
    let tail : xs ≡ ys = same_lines xs ys (omega arith) (λ i l. h (suc i) (omega arith)) in
    cc

fits_whole : (k m n start size : ℕ) → m ≤ n → start + n ≤ size → min (min k (n - m)) (size - min (start + m) size) ≡ min k (n - m)
fits_whole k m n start size h l = omega arith

-- a part of a part is a part of the whole: it begins m lines behind the outer start and has min k (n - m) lines
module _ {V : Type 0} (a c f k start n m : ℕ) (xs : List V) (s : start ≡ min a (length xs)) (e : n ≡ length (part a c xs)) (o : m ≡ min f n) where
  outer_fits : start + n ≤ length xs
  outer_fits = let z = part_size a c xs in omega arith

  narrowed_size : length (part (start + m) (min k (n - m)) xs) ≡ length (part f k (part a c xs))
  narrowed_size =
      let inner : length (part f k (part a c xs)) ≡ min k (n - m) = part_size f k (part a c xs) ∙ (rw (← e, ← o)) in
      part_size (start + m) (min k (n - m)) xs ∙ (fits_whole k m n start (length xs) (omega arith) outer_fits ∙ sym inner)

  pub part_of_part : part (start + m) (min k (n - m)) xs ≡ part f k (part a c xs)
  part_of_part =
      same_lines (part (start + m) (min k (n - m)) xs) (part f k (part a c xs)) narrowed_size (λ i h.
      let v : i < length (part f k (part a c xs)) = subst (λ (z : ℕ). i < z) narrowed_size h in
      let w = part_within f k (part a c xs) i v in
      let u = part_within a c xs (f + i) w.1 in
      part_line (start + m) (min k (n - m)) xs i h
      ∙ (ap (slice_get xs) (omega arith) ∙ (sym (part_line a c xs (f + i) w.1) ∙ sym (part_line f k (part a c xs) i v))))

-- what a look-up, copied out, answers of the lines
pub reads_looked_up : {V : Type 0} (xs : List V) (i : ℕ) (o : Option (Bor V)) (r : Result V BookRefusal) → IsItemAt xs i o → r ≡ ok_or (option_copied o) NoLine → Reads xs i r
reads_looked_up xs i None r h e = subst (Reads xs i) (sym e) (h.3, refl)
reads_looked_up xs i (Some x) r h e = subst (Reads xs i) (sym e) (h.3.0, slice_get_read xs (length xs) i x.now refl h.3.0 h.1)

-- a write to the first n places, seen on all of them
module _ {V : Type 0} (n k : ℕ) (xs ys : List V) (i : ℕ) (v : V) (short : k ≡ min n (length xs)) where
  front : take k xs ≡ take n xs
  front = ap (λ m. take m xs) short ∙ take_min n xs

  written : i < length (take k xs) → ys ≡ set (take k xs) i v → ys ++ drop k xs ≡ set xs i v
  written h e =
      ap (λ l. l ++ drop k xs) e
      ∙ (sym (set-append_left (take k xs) (drop k xs) i v h) ∙ ap (λ l. set l i v) (take-append-drop k xs))

  pub places_written : (r : Result (Unit {0}) BookRefusal) → Writes (take k xs) i v ys r → WrittenBelow 0 xs i v (ys ++ drop k xs) r
  places_written (Ok u) w = written w.0 w.1 ∙ ap (λ j. set xs j v) (sym (zero-add i))
  places_written (Err e) w = ap (λ l. l ++ drop k xs) w.2 ∙ take-append-drop k xs

  pub lines_written : (r : Result (Unit {0}) BookRefusal) → Writes (take k xs) i v ys r → Writes (take n xs) i v (take n (ys ++ drop k xs)) r
  lines_written (Ok u) w =
      (subst (λ l. i < length l) front w.0, ap (take n) (written w.0 w.1) ∙ take-set-any n xs i v)
  lines_written (Err e) w = (subst (λ l. length l ≤ i) front w.0, w.1, ap (take n) (places_written (Err e) w))

-- the next of the lines that an iterator has left
pub row_given : {V : Type 0} (xs : List V) (i k next : ℕ) (r : Result V BookRefusal) (o : Option V) → i < length xs → k ≡ i → next ≡ i + 1 → Reads xs k r → o ≡ result_ok r
    → MatchOption o ((drop i xs ≡ []) × (drop next xs ≡ [])) (λ x. drop i xs ≡ x ∷ drop next xs)
row_given xs i k next (Ok v) o h same on q e =
    rw (e, on, ← same) (drop_more xs k v q.0 ∙ ap (λ x. x ∷ drop (k + 1) xs) (get_or_from_slice_get xs k v v q.1))
row_given xs i k next (Err e) o h same on q a = let past = q.0 in absurd (omega arith)
