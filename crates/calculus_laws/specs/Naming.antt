-- Name: the output of a rule becomes the body of a new last function of the rule's variables, and the rule calls it.
use Rattle.std.specs.Prelude.{ℕ, nat_lt, not, ◌&&◌, Bool, List, [], ◌∷◌, ◌++◌, length, map, replicate, Option, Some, None, if◌then◌else◌, slice_get, slice_set}
use Rattle.std.specs.List.{range_with_len}
use Rattle.std.specs.Option.{option_and_then, option_map}
use Rattle.hume_base.specs.declared.limits.TheConstants.{MAX_FUNCTIONS, MAX_PARAMETERS}
use Rattle.hume_base.specs.declared.types.Ty.{Ty}
use Rattle.hume_base.specs.declared.types.Types.{Types}
use Rattle.hume_model.specs.declared.core_tree.PatC.TheVariants as pat
use Rattle.hume_model.specs.declared.core_tree.Expr.{Expr}
use Rattle.hume_model.specs.declared.core_tree.Expr.TheVariants as expr
use Rattle.hume_model.specs.declared.core_tree.Res.{Res, out-Res}
use Rattle.hume_model.specs.declared.core_tree.Res.TheOpen.{Res-F}
use Rattle.hume_model.specs.declared.core_tree.Res.TheVariants as res
use Rattle.hume_model.specs.declared.core_tree.FunC.{FunC}
use Rattle.hume_model.specs.declared.core_tree.PortC.{PortC}
use Rattle.hume_model.specs.declared.core_tree.RuleC.{RuleC}
use Rattle.hume_model.specs.declared.core_tree.BoxC.{BoxC}
use Rattle.hume_model.specs.declared.core_tree.Core.{Core}
use Rattle.hume_model.specs.BoxTyping.{port_types}
use Rattle.hume_model.specs.TypeLimits.{is_between}
use Rattle.calculus_laws.specs.declared.step.CalcError.{CalcError}
use Rattle.calculus_laws.specs.declared.step.CalcError.TheVariants.{CannotName}
use Rattle.calculus_laws.specs.Boxes.{with_box}
use Rattle.calculus_laws.specs.Names.{is_function_name, is_taken}
use Rattle.calculus_laws.specs.VariableTypes.{rule_binds}

-- a rule that gives a value to its box's only output
pub record OnlyOutput : Type 0 where
  pub rule : RuleC
  pub body : Expr
  pub gives : Ty

-- the expression of the only output, if it is there
abbrev pub only_body : List (Option Expr) → Option Expr
only_body (out ∷ []) = out
only_body _ = None

-- the expression of a result that is one output, if it is there
abbrev pub body_of : Res-F Res → Option Expr
body_of (Res-F.Outs outs) = only_body outs
body_of _ = None

-- the result gives its expression to an output of the type
abbrev pub only_output : List PortC → RuleC → Option OnlyOutput
only_output (port ∷ []) rule = option_map (λ body. record { rule = rule; body = body; gives = port.ty }) (body_of (out-Res rule.result))
only_output _ rule = None

-- the rule of the box, if it is such a rule
abbrev pub output_at : BoxC → ℕ → Option OnlyOutput
output_at b rule = option_and_then (only_output b.outs) (slice_get b.rules rule)

-- the types of the rule's variables
abbrev pub variables : Types → BoxC → RuleC → List Ty
variables types b rule = rule_binds types rule.pats (port_types b.ins)

-- the function of the rule's variables with the body, at the box's line
abbrev pub named_function : Types → BoxC → List ℕ → OnlyOutput → FunC
named_function types b name output =
    let params = variables types b output.rule in
    record {
      name = name;
      line = b.line;
      params = params;
      gives = output.gives;
      equations = record { pats = replicate (length params) pat.Var; body = output.body } ∷ [];
    }

-- the rule that calls the function of the number on so many variables
abbrev pub calling_rule : ℕ → ℕ → RuleC → RuleC
calling_rule function count rule =
    record rule { result = res.Outs (Some (expr.Call function (map expr.Var (range_with_len 0 count))) ∷ []) }

-- the box whose rule calls the function of the number
abbrev pub calling_box : Types → ℕ → ℕ → OnlyOutput → BoxC → BoxC
calling_box types function rule output b =
    record b { rules = slice_set b.rules rule (calling_rule function (length (variables types b output.rule)) output.rule) }

-- the core with the new function, which the rule calls
abbrev pub named_output : Core → ℕ → ℕ → List ℕ → BoxC → Option OnlyOutput → Core
named_output core node rule name b None = core
named_output core node rule name b (Some output) =
    record (with_box core node (calling_box core.types (length core.funs) rule output b)) {
      funs = core.funs ++ named_function core.types b name output ∷ [];
    }

-- there is room for a function of so many parameters and the name
abbrev pub may_be_named : List FunC → List ℕ → ℕ → Bool
may_be_named funs name count =
    is_between 1 MAX_PARAMETERS count && (nat_lt (length funs) MAX_FUNCTIONS && (is_function_name name && not (is_taken funs name)))

-- why the output of a rule may not become a function
abbrev pub output_refusal : Types → List FunC → List ℕ → BoxC → Option OnlyOutput → Option CalcError
output_refusal types funs name b None = Some CannotName
output_refusal types funs name b (Some output) =
    if may_be_named funs name (length (variables types b output.rule)) then None else Some CannotName
