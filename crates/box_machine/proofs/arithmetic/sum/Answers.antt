use Rattle.std.proofs.Common.{◌+ℤ◌, ap, sym, arith}
use Rattle.hume_base.specs.declared.types.Value.{Word}
use Rattle.hume_model.specs.declared.outcome.Outcome.TheVariants.{Gives}
use Rattle.hume_model.specs.Operations.{number_at}
use Rattle.box_machine.specs.inner.Layers.{layer_of}
use Rattle.box_machine.proofs.Wrapping.{low_sum}
use Rattle.box_machine.proofs.arithmetic.sum.Goals as goal

pub returns : goal.returns
returns c =
    let ty = layer_of c.args.ty in
    let small = low_sum c.args.ty c.args.left c.args.right (omega (arith, c.ranges.left.fits)) (omega (arith, c.ranges.right.fits)) in
    ap (λ w. Gives (Word w)) (sym (c.wrapped.ensures (number_at ty c.args.left +ℤ number_at ty c.args.right) small))
