-- What moves up by nothing is copied.
use Rattle.std.proofs.Common.{◌≡◌, List, [], ◌∷◌, map, refl}
use Rattle.std.proofs.lemmas.Grind.{common_steps}
use Rattle.hume_base.specs.declared.types.SumDef.{SumDef}
use Rattle.hume_model.specs.declared.core_tree.ExnDef.{ExnDef}
use Rattle.hume_model.specs.declared.core_tree.FunC.{FunC}
use Rattle.hume_model.specs.declared.core_tree.NodeC.{NodeC}
use Rattle.hume_model.specs.declared.core_tree.WireC.{WireC}
use Rattle.union_laws.specs.Moving.{moved_data, moved_exception, moved_function, moved_node, moved_wire}
use Rattle.union_laws.proofs.Unmoved.{data_same, exception_same, function_same, node_same, unmoved, wire_same}

same_list : {X : Type 0} (f : X → X) → ((x : X) → f x ≡ x) → (xs : List X) → map f xs ≡ xs
same_list f same [] = refl
same_list f same (x ∷ xs) = λ i. same x i ∷ same_list f same xs i

pub sums_same : (sums : List SumDef) → map (moved_data unmoved) sums ≡ sums
sums_same = same_list (moved_data unmoved) data_same

pub exceptions_same : (exns : List ExnDef) → map (moved_exception unmoved) exns ≡ exns
exceptions_same = same_list (moved_exception unmoved) exception_same

pub functions_same : (funs : List FunC) → map (moved_function unmoved) funs ≡ funs
functions_same = same_list (moved_function unmoved) function_same

pub nodes_same : (nodes : List NodeC) → map (moved_node unmoved) nodes ≡ nodes
nodes_same = same_list (moved_node unmoved) node_same

pub wires_same : (wires : List WireC) → map (moved_wire unmoved) wires ≡ wires
wires_same = same_list (moved_wire unmoved) wire_same

pub ruleset unmoved_steps = (common_steps, sums_same, exceptions_same, functions_same, nodes_same, wires_same)
