-- What a core with a sound frame says of its types and its wires.
use Rattle.std.proofs.Common.{◌≡◌, ℕ, ◌^◌, ◌≤◌, length, ap, sym, subst, ◌∙◌, arith, lit≤}
use Rattle.hume_base.specs.declared.limits.TheConstants.{MAX_CONSTRUCTORS, MAX_TYPE_WORDS}
use Rattle.hume_base.specs.declared.types.Ty.{fold-roll-Ty}
use Rattle.hume_base.specs.declared.types.Ty.TheOpen.{Ty-F}
use Rattle.hume_base.specs.declared.types.Ty.TheVariants as shape
use Rattle.hume_base.specs.declared.types.Types.{Types}
use Rattle.hume_base.specs.Sizes.{size_of, size_with, size_step, named_size, written_size}
use Rattle.hume_model.specs.declared.core_tree.Core.{Core}
use Rattle.hume_model.specs.Reading.{HaveReadableSizes}
use Rattle.hume_model.specs.Limits.{IsSmallData}
use Rattle.hume_model.specs.WellFormed.{HasSoundFrame}

data_size : (types : Types) (number : ℕ) → size_of types (shape.Named number) ≡ named_size types (length types.sums) number
data_size types number =
    let named = named_size types (length types.sums) in
    ap (size_with named) (sym (shape.rolls-Named number)) ∙ fold-roll-Ty ℕ (size_step named) (Ty-F.Named number)

pub readable : (core : Core) → HasSoundFrame core → HaveReadableSizes core.types
readable core frame number sum found =
    let small : IsSmallData core number sum = frame.limits.each_data_type number sum found in
    let words : named_size core.types (length core.types.sums) number ≤ MAX_TYPE_WORDS = subst (λ n. n ≤ MAX_TYPE_WORDS)
    (data_size core.types number) small.words in
    let many : MAX_CONSTRUCTORS ≤ 2 ^ 32 = lit≤ tt in
    record {
      words = omega (arith, words);
      constructors = omega (arith, small.constructors, many);
    }

-- a size that is small is written as it is
pub size_as_written : (size written : ℕ) → size ≤ MAX_TYPE_WORDS → written ≡ written_size size → written ≡ size
size_as_written size written small is = omega (arith, small, is)
