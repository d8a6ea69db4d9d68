-- The ends of wires that are found.
use Rattle.std.specs.Prelude.{ℕ, List, Option, Some}
use Rattle.hume_model.specs.declared.core_tree.NodeC.{NodeC}
use Rattle.check_typing.specs.Partial.{given}
use Rattle.check_typing.specs.Signatures.{first_named}
use Rattle.check_rules.specs.CoreOf.{node_name}
use Rattle.check_wires.specs.declared.cores.ends.End.{End}

-- a node with its number, and the place of an output or an input of it
pub record FoundEnd : Type 0 where
  pub node : NodeC
  pub number : ℕ
  pub place : ℕ

-- what is found, without where it lies
abbrev pub seen : End → FoundEnd
seen end = record { node = end.node.now; number = end.number; place = end.place }

abbrev pub end_of : (Option (List ℕ) → NodeC → Option ℕ) → List NodeC → List ℕ × Option (List ℕ) → Option FoundEnd
end_of place_in nodes end =
    given (first_named node_name end.0 nodes) (λ found.
    given (place_in end.1 found.1) (λ at. Some (record { node = found.1; number = found.0; place = at })))
