use Rattle.std.proofs.Common.{◌∙◌, ◌==◌, ◌&&◌, sym, ap}
use Rattle.hume_exceptions.proofs.Bits.{bits_one, and_true}
use Rattle.hume_exceptions.proofs.exn_set.ExnSet.only_if.Goals as goal

pub returns-then-number-lt-MAX_EXCEPTIONS : goal.returns-then-number-lt-MAX_EXCEPTIONS
returns-then-number-lt-MAX_EXCEPTIONS c exn low =
    bits_one c.args.number exn c.if-number-lt-MAX_EXCEPTIONS.true ∙ sym (ap (λ b. (exn == c.args.number) && b) c.if-passed.true ∙ and_true (exn == c.args.number))
