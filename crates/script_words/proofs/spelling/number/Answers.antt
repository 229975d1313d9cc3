use Rattle.std.proofs.Common.{sym, arith, ◌∙◌}
use Rattle.script_words.proofs.Digits.{stops, overflows, goes_on, is_done}
use Rattle.script_words.proofs.spelling.number.Goals as goal

pub returns-then-not-is_digit : goal.returns-then-not-is_digit
returns-then-not-is_digit c = stops c.args.word.now c.loop-byte.byte-index c.loop-byte.value c.loop-byte-test.true c.loop-byte.invariant (sym c.if-not-is_digit.ensures)

pub returns-in_err-checked_mul : goal.returns-in_err-checked_mul
returns-in_err-checked_mul c = c.from_residual.ensures ∙ overflows c.args.word.now c.loop-byte.byte-index c.loop-byte.value c.loop-byte-test.true c.loop-byte.invariant (omega (arith, c.in_err-checked_mul.ensures))

pub returns-in_err-value : goal.returns-in_err-value
returns-in_err-value c = c.from_residual-in_err-value.ensures ∙ overflows c.args.word.now c.loop-byte.byte-index c.loop-byte.value c.loop-byte-test.true c.loop-byte.invariant (omega (arith, c.in_err-value.ensures, c.in_ok-checked_mul.ensures, c.from.ensures))

pub loop-byte-preserved : goal.loop-byte-preserved
loop-byte-preserved c = goes_on c.args.word.now c.loop-byte.byte-index c.loop-byte.value c.in_ok-value.value c.loop-byte-test.true c.loop-byte.invariant (sym c.if-not-is_digit.ensures) (omega (arith, c.in_ok-value.ensures, c.in_ok-checked_mul.ensures, c.from.ensures)) (omega (arith, c.in_ok-value.ensures))

pub returns : goal.returns
returns c = is_done c.args.word.now c.loop-byte.byte-index c.loop-byte.value c.loop-byte-test.false (sym c.if-is_empty.ensures) c.if-word-gt1.either c.loop-byte.invariant
