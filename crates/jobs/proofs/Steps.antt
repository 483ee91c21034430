-- One turn of a job alone, by what it asks for.
use Rattle.std.proofs.Common.{◌≡◌, ℕ, ◌<◌, ◌≤◌, ltb, List, ◌∷◌, length, Some, None, ap, ◌∙◌, arith}
use Rattle.std.specs.Option.{option_or}
use Rattle.std.specs.List.{slice_get}
use Rattle.std.proofs.lemmas.Bool.{lt-ltb, le-ltb, and_from, and_left}
use Rattle.jobs.specs.declared.request.Request.TheVariants.{Read, Write}
use Rattle.jobs.specs.declared.written.Written.{Written}
use Rattle.jobs.specs.Alone.{Alone, turn, turn_at, take_in, join, newest}
use Rattle.jobs.specs.Doing.{NotEnding}
use Rattle.jobs.specs.Meanings.{Meaning}

module _ {V S : Type 0} (m : Meaning V S) (values : List V) (s : S) (ws : List (Written V)) where
  abbrev pub job : Alone V S
  job = record { state = s; writes = ws }

  pub reads : (l : ℕ) (v : V) → m.request s ≡ Read l → option_or (newest ws l) (slice_get values l) ≡ Some v → turn m values job ≡ record { state = m.after_read s v; writes = ws }
  reads l v e f = ap (turn_at m values job) e ∙ ap (take_in m job) f

  pub writes : (l : ℕ) (v : V) → m.request s ≡ Write l v → l < length values → length ws < 16
      → turn m values job ≡ record { state = m.after_write s; writes = record { line = l; value = v } ∷ ws }
  writes l v e h r =
      ap (turn_at m values job) e ∙ ap (join m job l v) (and_from (ltb l (length values)) (ltb (length ws) 16) (lt-ltb l (length values) h) (lt-ltb (length ws) 16 r))

  pub stuck_read : (l : ℕ) → m.request s ≡ Read l → option_or (newest ws l) (slice_get values l) ≡ None → turn m values job ≡ job
  stuck_read l e f = ap (turn_at m values job) e ∙ ap (take_in m job) f

  pub stuck_write : (l : ℕ) (v : V) → m.request s ≡ Write l v → length values ≤ l → turn m values job ≡ job
  stuck_write l v e h = ap (turn_at m values job) e ∙ ap (join m job l v) (and_left (ltb l (length values)) (ltb (length ws) 16) (le-ltb l (length values) h))

  pub reading : (l : ℕ) → m.request s ≡ Read l → NotEnding m job
  reading l e ending f = let z : ◌≡◌ {A = ℕ} 0 1 = cc in omega arith

  pub writing : (l : ℕ) (v : V) → m.request s ≡ Write l v → NotEnding m job
  writing l v e ending f = let z : ◌≡◌ {A = ℕ} 0 1 = cc in omega arith
