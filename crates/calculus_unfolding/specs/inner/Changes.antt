-- What becomes of an expression, a result or a list of parts, if anything does.
use Rattle.std.specs.Prelude.{ℕ, ◌+◌, Bool, true, false, List, [], ◌∷◌, Option, Some, None}
use Rattle.std.specs.Option.{option_and_then, option_map, option_or}
use Rattle.hume_model.specs.declared.core_tree.PatC.{PatC}
use Rattle.hume_model.specs.declared.core_tree.Expr.{Expr}
use Rattle.hume_model.specs.declared.core_tree.Res.{Res}
use Rattle.hume_model.specs.declared.core_tree.FunC.{FunC}
use Rattle.hume_model.specs.declared.core_tree.Core.{Core}
use Rattle.calculus_laws.specs.Unfolding.{looked, looked_result, variables_in}

-- a core of these functions and nothing else
abbrev pub alone : List FunC → Core
alone funs = record {
  types = record { sums = [] };
  exns = [];
  funs = funs;
  nodes = [];
  wires = [];
}

-- the new one, if it was found
abbrev pub if_found : {X : Type 0} → Bool → X → Option X
if_found true new = Some new
if_found false new = None

-- a pair, of which the first part that can be changed is
abbrev pub two_changed : {X Y : Type 0} → (X → Option X) → (Y → Option Y) → X × Y → Option (X × Y)
two_changed first second pair = option_or (option_map (λ x. (x, pair.1)) (first pair.0)) (option_map (λ y. (pair.0, y)) (second pair.1))

-- an expression with a call unfolded, where so many variables are in scope
abbrev pub expression_changed : Core → ℕ → Expr → Option Expr
expression_changed core scope e = (looked core e).unfolded scope

-- a part that may be there
abbrev pub part_changed : Core → ℕ → Option Expr → Option (Option Expr)
part_changed core scope part = option_map Some (option_and_then (expression_changed core scope) part)

-- a result
abbrev pub result_changed : Core → ℕ → Res → Option Res
result_changed core scope result = (looked_result core result).unfolded scope

-- an alternative, in whose branch the variables of its pattern are in scope
abbrev pub arm_changed : {X : Type 0} → (ℕ → X → Option X) → ℕ → PatC × X → Option (PatC × X)
arm_changed change scope arm = option_map (λ branch. (arm.0, branch)) (change (scope + variables_in arm.0) arm.1)

-- a list, in which the first element that can be changed is
abbrev pub first_changed : {X : Type 0} → (X → Option X) → List X → Option (List X)
first_changed change [] = None
first_changed change (x ∷ xs) = option_or (option_map (λ new. new ∷ xs) (change x)) (option_map (λ news. x ∷ news) (first_changed change xs))
