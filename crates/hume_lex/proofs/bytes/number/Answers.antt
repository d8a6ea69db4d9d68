use Rattle.std.proofs.Common.{arith}
use Rattle.hume_lex.proofs.Values.{value_large}
use Rattle.hume_lex.proofs.bytes.number.Goals as goal

pub returns-in_err-checked_mul-clause-value : goal.returns-in_err-checked_mul-clause-value
returns-in_err-checked_mul-clause-value c =
    rw c.from_residual.ensures (grind (arith, value_large c.loop-digit.n c.loop-digit.digit-index c.args.digits.now _ c.loop-digit-test.true c.loop-digit.invariant.value))

pub returns-in_err-n-clause-value : goal.returns-in_err-n-clause-value
returns-in_err-n-clause-value c =
    rw c.from_residual-in_err-n.ensures (grind (arith, value_large c.loop-digit.n c.loop-digit.digit-index c.args.digits.now _ c.loop-digit-test.true c.loop-digit.invariant.value))
