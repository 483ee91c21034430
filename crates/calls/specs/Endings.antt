-- How a bad order is answered. Assumes nothing.
use Rattle.calls.specs.declared.ending.Ending.{Ending}

-- by code 9, and number 0
abbrev pub bad_ending : Ending
bad_ending = record { code = 9; number = 0 }
