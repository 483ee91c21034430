-- The numbers of the faults of a value.
use Rattle.std.specs.Prelude.{ℕ}
use Rattle.survey.specs.declared.fault.ValueFault.{ValueFault}
use Rattle.survey.specs.declared.fault.ValueFault.TheVariants.{Station, Length, Passage, Metres}

abbrev pub number : ValueFault → ℕ
number Station = 11
number Length = 12
number Passage = 13
number Metres = 15
