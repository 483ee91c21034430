-- The numbers of passages.
use Rattle.std.specs.Prelude.{◌≡◌, ℕ, ◌<◌, Ok, Err, Result}
use Rattle.survey.specs.declared.fault.ValueFault.{ValueFault}
use Rattle.survey.specs.declared.fault.ValueFault.TheVariants as fault
use Rattle.survey.specs.declared.passage.Passage.{Passage}
use Rattle.survey.specs.declared.passage.Passage.TheVariants.{Closed, Open}

abbrev pub passage_number : Passage → ℕ
passage_number Closed = 0
passage_number Open = 1

-- the passage that a number stands for, or the fault of one that stands for none
abbrev pub ReadsPassage : ℕ → Result Passage ValueFault → Type 0
ReadsPassage n (Ok passage) = n ≡ passage_number passage
ReadsPassage n (Err e) = (1 < n) × (e ≡ fault.Passage)
