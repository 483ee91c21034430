use Rattle.std.proofs.Common.{◌+◌, ◌*◌, drop, sym, ap, ◌∙◌, arith}
use Rattle.script.specs.Numbers.{spelt}
use Rattle.script.proofs.Numbers.{digit_more, spelt_digit, spelt_other, spelt_end}
use Rattle.script.proofs.number.digits_value.Goals as goal

pub returns-then-not-is_ascii_digit : goal.returns-then-not-is_ascii_digit
returns-then-not-is_ascii_digit c =
    sym (spelt_other c.args.word.now c.loop-byte.number c.loop-byte.byte-index (omega arith) (sym c.is_ascii_digit.ensures.value ∙ c.if-not-is_ascii_digit.true))
    ∙ c.loop-byte.invariant.0

pub loop-byte-preserved : goal.loop-byte-preserved
loop-byte-preserved c =
    let word = c.args.word.now in
    let number = c.loop-byte.number in
    let i = c.loop-byte.byte-index in (
      ap (λ d. spelt (number * 10 + d) (drop (i + 1) word)) c.from.ensures
          ∙ spelt_digit word number i (omega arith) (sym c.is_ascii_digit.ensures.value ∙ c.if-not-is_ascii_digit.false)
          ∙ c.loop-byte.invariant.0,
      digit_more number c.from.result i c.loop-byte.invariant.1 (omega (arith, c.if-not-is_ascii_digit.ensures.cases)),
    )

pub returns : goal.returns
returns c = sym (spelt_end c.args.word.now c.loop-byte.number c.loop-byte.byte-index (omega arith)) ∙ c.loop-byte.invariant.0
