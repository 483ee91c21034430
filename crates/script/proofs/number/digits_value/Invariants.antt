use Rattle.std.proofs.Common.{◌≡◌, ◌^◌, ◌<◌, drop}
use Rattle.script.specs.Numbers.{spelt}
use Rattle.script.proofs.number.digits_value.Given as goal

-- what is left gives the whole, and the digits so far are no more than the turns
abbrev pub invariant-loop-byte : goal.invariant-loop-byte
invariant-loop-byte l = (spelt l.number (drop l.byte-index l.word) ≡ spelt 0 l.word) × (l.number < 10 ^ l.byte-index)
