-- The union of all programs of a list is the first with the others behind it.
use Rattle.std.proofs.Common.{◌≡◌, List, [], ◌∷◌, ◌++◌, map, length, drop, refl, ap, sym, ◌∙◌}
use Rattle.std.proofs.lemmas.List.{take-append-drop}
use Rattle.hume_model.specs.declared.core_tree.Core.{Core}
use Rattle.hume_model.specs.OwnExceptions.{HasOwnExceptions, own_exceptions}
use Rattle.union_laws.specs.Moving.{moved_data, moved_exception, moved_function, moved_node, moved_wire}
use Rattle.union_laws.specs.Union.{followed_by, no_program, united, united_all}
use Rattle.union_laws.proofs.Unmoved.{data_same, exception_same, function_same, node_same, unmoved, wire_same}

each_same : {X : Type 0} (f : X → X) → ((x : X) → f x ≡ x) → (xs : List X) → map f xs ≡ xs
each_same f same [] = refl
each_same f same (x ∷ xs) = λ i. same x i ∷ each_same f same xs i

-- a program behind nothing
behind_nothing : (core : Core) → HasOwnExceptions core → united no_program core ≡ core
behind_nothing core own =
    let exceptions = ap (λ exns. own_exceptions ++ exns) (each_same (moved_exception unmoved) exception_same (drop (length own_exceptions) core.exns))
    ∙ ap (λ exns. exns ++ drop (length own_exceptions) core.exns) (sym own)
    ∙ take-append-drop (length own_exceptions) core.exns in
    λ i. record {
      types = record { sums = each_same (moved_data unmoved) data_same core.types.sums i };
      exns = exceptions i;
      funs = each_same (moved_function unmoved) function_same core.funs i;
      nodes = each_same (moved_node unmoved) node_same core.nodes i;
      wires = each_same (moved_wire unmoved) wire_same core.wires i;
    }

pub first_program : (first : Core) (others : List Core) → HasOwnExceptions first → united_all (first ∷ others) ≡ followed_by first others
first_program first others own = ap (λ core. followed_by core others) (behind_nothing first own)
