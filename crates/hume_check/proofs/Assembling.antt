-- A core of its parts.
use Rattle.std.proofs.Common.{◌≡◌, ℕ, List, refl, sym, subst}
use Rattle.hume_ast.specs.declared.tree.Program.{Program}
use Rattle.check_typing.specs.Declarations.{InPlaces}
use Rattle.check_typing.specs.declared.signatures.Signatures.{Signatures}
use Rattle.check_rules.specs.Declared.{function_of, in_order}
use Rattle.check_rules.specs.SignaturesOf.{AreSignatures}
use Rattle.check_rules.specs.CoreOf.{IsFunctionOf, IsCoreOf}
use Rattle.hume_check.specs.inner.Parts.{AreParts}
use Rattle.hume_check.specs.declared.assembly.Parts.{Parts}

pub assembled : (text : List ℕ) (program : Program) (signatures : Signatures) (order : List ℕ) (parts : Parts)
    → (are : AreSignatures program.decls signatures) → are.funs.order ≡ order → AreParts text program.decls order signatures parts
    → IsCoreOf text program (record { types = signatures.types; exns = signatures.exns; funs = parts.funs; nodes = parts.nodes; wires = parts.wires })
assembled text program s order parts are same h = record {
  signatures = s;
  are = are;
  types = refl;
  exns = refl;
  funs = subst (λ o. InPlaces (IsFunctionOf text s) (in_order function_of o program.decls) parts.funs) (sym same) h.funs;
  nodes = h.nodes;
  wires = h.wires;
}
