-- What a write leaves, whatever it answers.
use Rattle.std.proofs.Common.{◌≡◌, ℕ, List, set, Ok, Err, Result, sym, ◌∙◌}
use Rattle.std.proofs.lemmas.List.{set_past}
use Rattle.book.specs.declared.refusal.BookRefusal.{BookRefusal}
use Rattle.book.specs.Books.{Writes}

-- a refused write is one past the end, which changes nothing either
pub writes_set : {V : Type 0} (before : List V) (l : ℕ) (v : V) (after : List V) (r : Result (Unit {0}) BookRefusal) → Writes before l v after r → after ≡ set before l v
writes_set before l v after (Ok x) w = w.1
writes_set before l v after (Err e) w = w.2 ∙ sym (set_past before l v w.0)
