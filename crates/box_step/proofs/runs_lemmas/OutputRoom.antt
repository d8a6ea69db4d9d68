-- There is room for the flat words of the outputs.
use Rattle.std.proofs.Common.{◌≡◌, ◌∷◌, true, List, [], map, length, Option, Some, None, sym, ◌∙◌}
use Rattle.std.proofs.lemmas.Bool.{and_parts}
use Rattle.hume_base.specs.declared.types.Ty.{Ty}
use Rattle.hume_base.specs.declared.types.Types.{Types}
use Rattle.hume_base.specs.declared.types.Value.{Value}
use Rattle.hume_base.specs.Sizes.{size_of}
use Rattle.hume_model.specs.ResultTyping.{are_outputs}
use Rattle.hume_base.proofs.FlatLengths.{flat_long}
use Rattle.box_heap.specs.Outputs.{OutputView}
use Rattle.box_machine.specs.Running.{HaveRoom}
use Rattle.code_laws.specs.Ending.{flat_outputs}
use Rattle.box_step.specs.inner.Buffers.{sizes_in}

pub outputs_fit : (types : Types) (tys : List Ty) (outputs : List OutputView) (outs : List (Option Value)) → sizes_in outputs ≡ map (size_of types) tys
    → are_outputs types tys outs ≡ true → length outs ≡ length tys → HaveRoom outputs (flat_outputs types tys outs)
outputs_fit types [] [] outs sized are long = record {}
outputs_fit types [] (output ∷ outputs) outs sized are long = cc
outputs_fit types (ty ∷ tys) [] outs sized are long = cc
outputs_fit types (ty ∷ tys) (output ∷ outputs) [] sized are long = cc
outputs_fit types (ty ∷ tys) (output ∷ outputs) (None ∷ outs) sized are long =
    let others : sizes_in outputs ≡ map (size_of types) tys = cc in
    outputs_fit types tys outputs outs others are cc
outputs_fit types (ty ∷ tys) (output ∷ outputs) (Some value ∷ outs) sized are long =
    let first : output.size ≡ size_of types ty = cc in
    let others : sizes_in outputs ≡ map (size_of types) tys = cc in
    let both = and_parts _ _ are in
    (flat_long types ty value both.0 ∙ sym first, outputs_fit types tys outputs outs others both.1 cc)
