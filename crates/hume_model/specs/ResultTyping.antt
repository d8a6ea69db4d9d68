-- Which results of rules and handlers give outputs of which types, by the types of their variables.
use Rattle.std.specs.Prelude.{◌≡◌, ℕ, ◌&&◌, Bool, true, List, [], ◌∷◌, ◌++◌, Option, Some, None, slice_get}
use Rattle.hume_base.specs.declared.types.Ty.{Ty}
use Rattle.hume_base.specs.declared.types.Ty.TheVariants as shape
use Rattle.hume_base.specs.declared.types.Types.{Types}
use Rattle.hume_base.specs.declared.types.Value.{Value}
use Rattle.hume_base.specs.Values.{is_value}
use Rattle.hume_model.specs.declared.core_tree.Forms.{Forms}
use Rattle.hume_model.specs.declared.core_tree.PatC.{PatC}
use Rattle.hume_model.specs.declared.core_tree.Expr.{Expr}
use Rattle.hume_model.specs.declared.core_tree.Res.{Res}
use Rattle.hume_model.specs.declared.core_tree.Res.TheVariants as res
use Rattle.hume_model.specs.declared.core_tree.ExnDef.{ExnDef}
use Rattle.hume_model.specs.declared.core_tree.Core.{Core}
use Rattle.hume_model.specs.declared.outcome.Outputs.{Outputs}
use Rattle.hume_model.specs.declared.outcome.Outputs.TheVariants.{Asserts, Throws}
use Rattle.hume_model.specs.Forms.{forms_of}
use Rattle.hume_model.specs.Typing.{IsPattern, HasType, is_raised}

-- an output for each type: an expression of the type, or none
pub data OutsHave (core : Core) (vars : List Ty) : List (Option Expr) → List Ty → Type 0 where
  none : OutsHave core vars [] []
  star : {ty : Ty} {outs : List (Option Expr)} {tys : List Ty} → OutsHave core vars outs tys → OutsHave core vars (None ∷ outs) (ty ∷ tys)
  value : {e : Expr} {ty : Ty} {outs : List (Option Expr)} {tys : List Ty} → HasType core vars e ty → OutsHave core vars outs tys
      → OutsHave core vars (Some e ∷ outs) (ty ∷ tys)

mutual
  -- the result gives outputs of the types where its variables have the types
  pub data GivesOutputs (core : Core) (tys : List Ty) : List Ty → Res → Type 0 where
    outputs : {vars : List Ty} {outs : List (Option Expr)} → OutsHave core vars outs tys → GivesOutputs core tys vars (res.Outs outs)
    choice : {vars : List Ty} {test : Expr} {when_true when_false : Res} → HasType core vars test shape.Bool
        → GivesOutputs core tys vars when_true → GivesOutputs core tys vars when_false → GivesOutputs core tys vars (res.If test when_true when_false)
    alternatives : {vars : List Ty} (of : Ty) {part : Expr} {forms : Forms} {arms : List (PatC × Res)} → HasType core vars part of
        → forms ≡ forms_of of → ArmsGiveOutputs core tys vars of arms → GivesOutputs core tys vars (res.Case part forms arms)
    binding : {vars : List Ty} (of : Ty) {part : Expr} {body : Res} → HasType core vars part of → GivesOutputs core tys (vars ++ of ∷ []) body
        → GivesOutputs core tys vars (res.Let part body)
    raise_alone : {vars : List Ty} (number : ℕ) (exn : ExnDef) → slice_get core.exns number ≡ Some exn → exn.carries ≡ None
        → GivesOutputs core tys vars (res.Raise number None)
    raise_with : {vars : List Ty} (number : ℕ) (exn : ExnDef) (carried : Ty) {part : Expr} → slice_get core.exns number ≡ Some exn
        → exn.carries ≡ Some carried → HasType core vars part carried → GivesOutputs core tys vars (res.Raise number (Some part))

  -- each alternative has a pattern for values of the one type and a result that gives the outputs
  pub data ArmsGiveOutputs (core : Core) (tys : List Ty) : List Ty → Ty → List (PatC × Res) → Type 0 where
    no_arm : {vars : List Ty} {of : Ty} → ArmsGiveOutputs core tys vars of []
    one_arm : {vars bound : List Ty} {of : Ty} {p : PatC} {r : Res} {arms : List (PatC × Res)} → IsPattern core.types of p bound
        → GivesOutputs core tys (vars ++ bound) r → ArmsGiveOutputs core tys vars of arms → ArmsGiveOutputs core tys vars of ((p, r) ∷ arms)

-- each output that is there is of the type in its place
abbrev pub are_outputs : Types → List Ty → List (Option Value) → Bool
are_outputs types tys [] = true
are_outputs types [] (out ∷ outs) = true
are_outputs types (ty ∷ tys) (None ∷ outs) = are_outputs types tys outs
are_outputs types (ty ∷ tys) (Some v ∷ outs) = is_value types ty v && are_outputs types tys outs

-- outputs of the types, or an exception of the core with a value of what it carries
abbrev pub is_result : Core → List Ty → Outputs → Bool
is_result core tys (Asserts outs) = are_outputs core.types tys outs
is_result core tys (Throws exn carried) = is_raised core.types (slice_get core.exns exn) carried
