use Rattle.std.proofs.Common.{◌==◌, ap, sym, ◌∙◌, arith}
use Rattle.std.proofs.lemmas.Bool.{le-ltb}
use Rattle.std.proofs.lemmas.Nat.Bits.{bit_at_above}
use Rattle.box_machine.proofs.outputs.has_output.Goals as goal

pub returns-else-number-lt32 : goal.returns-else-number-lt32
returns-else-number-lt32 c =
    let no = c.if-number-lt32.false in
    le-ltb c.args.number 32 (omega (arith, no))
    ∙ sym (ap (λ bit. bit == 1) (bit_at_above c.args.mask 32 c.args.number (omega (arith, c.ranges.mask.fits)) (omega (arith, no))))
