-- Which types a program tells, in the order in which they are taken in: those of its ports and wires, of what exceptions carry, of its
-- functions, and those that the trees of functions and boxes name.
use Rattle.std.specs.Prelude.{Option, None, Some, List, [], ◌∷◌, ◌++◌, map}
use Rattle.std.specs.List.{flat_map}
use Rattle.hume_base.specs.declared.types.Ty.{Ty}
use Rattle.hume_model.specs.declared.core_tree.PatC.{PatC}
use Rattle.hume_model.specs.declared.core_tree.PortC.{PortC}
use Rattle.hume_model.specs.declared.core_tree.FunC.{FunC}
use Rattle.hume_model.specs.declared.core_tree.NodeC.{NodeC}
use Rattle.hume_model.specs.declared.core_tree.NodeC.TheVariants as node
use Rattle.hume_model.specs.declared.core_tree.Core.{Core}
use Rattle.typed_core.specs.declared.typed_tree.TypedExpr.{TypedExpr, fold-TypedExpr}
use Rattle.typed_core.specs.declared.typed_tree.TypedExpr.TheOpen.{TypedExpr-F}
use Rattle.typed_core.specs.declared.typed_tree.TypedResult.{TypedResult, fold-TypedResult}
use Rattle.typed_core.specs.declared.typed_tree.TypedResult.TheOpen.{TypedResult-F}
use Rattle.typed_core.specs.declared.typed_tree.TypedEquation.{TypedEquation}
use Rattle.typed_core.specs.declared.trees.BoxTrees.{BoxTrees}
use Rattle.c_names.specs.declared.names.Names.{Names}
use Rattle.c_types.specs.Gathered.{Gathered, gathered_of, with_added}

abbrev pub joined : List (List Ty) → List Ty
joined = flat_map (λ tys. tys)

abbrev pub given : Option (List Ty) → List Ty
given None = []
given (Some tys) = tys

abbrev pub arm_tells : (PatC × List Ty) → List Ty
arm_tells arm = arm.1

-- one level of an expression, with the types that its parts tell
abbrev pub expression_step : TypedExpr-F (List Ty) → List Ty
expression_step (TypedExpr-F.Word word) = []
expression_step (TypedExpr-F.Var number) = []
expression_step (TypedExpr-F.Con place parts) = joined parts
expression_step (TypedExpr-F.Tuple parts) = joined parts
expression_step (TypedExpr-F.Vect parts) = joined parts
expression_step (TypedExpr-F.Prim op of parts) = joined parts
expression_step (TypedExpr-F.Convert from to part) = part
expression_step (TypedExpr-F.Index of places vector place) = of ∷ (vector ++ place)
expression_step (TypedExpr-F.Update of places vector place item) = of ∷ (vector ++ (place ++ item))
expression_step (TypedExpr-F.If test first second) = test ++ (first ++ second)
expression_step (TypedExpr-F.Case of part arms) = of ∷ (part ++ flat_map arm_tells arms)
expression_step (TypedExpr-F.Let of part body) = of ∷ (part ++ body)
expression_step (TypedExpr-F.Call function parts) = joined parts
expression_step (TypedExpr-F.Raise exn part) = given part

abbrev pub expression_tells : TypedExpr → List Ty
expression_tells = fold-TypedExpr (List Ty) expression_step

abbrev pub output_tells : Option TypedExpr → List Ty
output_tells None = []
output_tells (Some e) = expression_tells e

-- one level of a result, with the types that its parts tell
abbrev pub result_step : TypedResult-F (List Ty) → List Ty
result_step (TypedResult-F.Outs outs) = flat_map output_tells outs
result_step (TypedResult-F.If test first second) = expression_tells test ++ (first ++ second)
result_step (TypedResult-F.Case of part arms) = of ∷ (expression_tells part ++ flat_map arm_tells arms)
result_step (TypedResult-F.Let of part body) = of ∷ (expression_tells part ++ body)
result_step (TypedResult-F.Raise exn part) = output_tells part

abbrev pub result_tells : TypedResult → List Ty
result_tells = fold-TypedResult (List Ty) result_step

abbrev pub port_types : List PortC → List Ty
port_types ports = map (λ port. port.ty) ports

-- the types of the ports of a box; streams have none of their own
abbrev pub node_tells : NodeC → List Ty
node_tells (node.Rules b) = port_types b.ins ++ port_types b.outs
node_tells (node.From stream) = []
node_tells (node.To stream) = []

abbrev pub carried : Option Ty → List Ty
carried None = []
carried (Some ty) = ty ∷ []

-- the types of a function's parameters and of what it gives
abbrev pub signature_tells : FunC → List Ty
signature_tells function = function.params ++ function.gives ∷ []

-- what the core names, without its trees
abbrev pub core_tells : Core → List Ty
core_tells core = flat_map node_tells core.nodes ++ (map (λ wire. wire.ty) core.wires
    ++ (flat_map (λ exn. carried exn.carries) core.exns ++ flat_map signature_tells core.funs))

abbrev pub equations_tell : List TypedEquation → List Ty
equations_tell equations = flat_map (λ equation. expression_tells equation.body) equations

abbrev pub box_tells : BoxTrees → List Ty
box_tells trees = flat_map (λ rule. result_tells rule.result) trees.rules ++ flat_map (λ handler. result_tells handler.result) trees.handlers

-- all types that a program tells
abbrev pub program_tells : Core → List (List TypedEquation) → List BoxTrees → List Ty
program_tells core functions boxes = core_tells core ++ (flat_map equations_tell functions ++ flat_map box_tells boxes)

-- with each of the types taken in
abbrev pub with_all : Gathered → List Ty → Gathered
with_all all [] = all
with_all all (ty ∷ tys) = with_all (with_added all ty) tys

-- the types of a program's file
abbrev pub types_of : Core → Names → List (List TypedEquation) → List BoxTrees → Gathered
types_of core names functions boxes = with_all (gathered_of core.types names) (program_tells core functions boxes)
