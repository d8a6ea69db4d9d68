use Rattle.std.proofs.Common.{neg_ℤ, ap, sym, arith}
use Rattle.hume_base.specs.declared.types.Value.{Word}
use Rattle.hume_model.specs.declared.outcome.Outcome.TheVariants.{Gives}
use Rattle.hume_model.specs.Operations.{number_at}
use Rattle.box_machine.specs.inner.Layers.{layer_of}
use Rattle.box_machine.proofs.Wrapping.{low_negated}
use Rattle.box_machine.proofs.arithmetic.negated.Goals as goal

pub returns : goal.returns
returns c =
    ap (λ w. Gives (Word w)) (sym (c.wrapped.ensures (neg_ℤ (number_at (layer_of c.args.ty) c.args.word)) (low_negated c.args.ty c.args.word (omega
    (arith, c.ranges.word.fits)))))
