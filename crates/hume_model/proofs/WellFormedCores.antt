-- What else a well-formed core is.
use Rattle.std.proofs.Common.{◌≡◌, ℕ, ◌^◌, ◌≤◌, length, ap, sym, subst, ◌∙◌, arith, lit≤}
use Rattle.std.proofs.lemmas.List.Elements.{All-weaker}
use Rattle.hume_base.specs.declared.limits.TheConstants.{MAX_CONSTRUCTORS, MAX_TYPE_WORDS}
use Rattle.hume_base.specs.declared.types.Ty.{fold-roll-Ty}
use Rattle.hume_base.specs.declared.types.Ty.TheOpen.{Ty-F}
use Rattle.hume_base.specs.declared.types.Ty.TheVariants as shape
use Rattle.hume_base.specs.declared.types.Types.{Types}
use Rattle.hume_base.specs.Sizes.{size_of, size_with, size_step, named_size}
use Rattle.hume_model.specs.declared.core_tree.NodeC.{NodeC}
use Rattle.hume_model.specs.declared.core_tree.NodeC.TheVariants.{Rules, From, To}
use Rattle.hume_model.specs.declared.core_tree.Core.{Core}
use Rattle.hume_model.specs.Reading.{HaveReadableSizes}
use Rattle.hume_model.specs.Limits.{IsSmallData, IsSmallNode}
use Rattle.hume_model.specs.WellFormed.{HasFewRules, HasSmallBoxes, HasSoundParts, IsWellFormed}

data_size : (types : Types) (number : ℕ) → size_of types (shape.Named number) ≡ named_size types (length types.sums) number
data_size types number =
    let named = named_size types (length types.sums) in
    ap (size_with named) (sym (shape.rolls-Named number)) ∙ fold-roll-Ty ℕ (size_step named) (Ty-F.Named number)

pub readable_sizes : (core : Core) → IsWellFormed core → HaveReadableSizes core.types
readable_sizes core formed number sum found =
    let small : IsSmallData core number sum = formed.frame.limits.each_data_type number sum found in
    let words : named_size core.types (length core.types.sums) number ≤ MAX_TYPE_WORDS = subst (λ n. n ≤ MAX_TYPE_WORDS) (data_size core.types number) small.words in
    let many : MAX_CONSTRUCTORS ≤ 2 ^ 32 = lit≤ tt in
    record {
      words = omega (arith, words);
      constructors = omega (arith, small.constructors, many);
    }

pub sound_parts : (core : Core) → IsWellFormed core → HasSoundParts core
sound_parts core formed =
    record { holds = formed.frame.holds; exceptions = formed.frame.exceptions; calls = formed.calls; functions = formed.functions }

few_rules : (types : Types) (node : NodeC) → IsSmallNode types node → HasFewRules node
few_rules types (Rules b) small = small.rules
few_rules types (From stream) small = tt
few_rules types (To stream) small = tt

pub small_boxes : (core : Core) → IsWellFormed core → HasSmallBoxes core
small_boxes core formed = record { rules = All-weaker (IsSmallNode core.types) HasFewRules (few_rules core.types) core.nodes formed.frame.limits.each_node }
