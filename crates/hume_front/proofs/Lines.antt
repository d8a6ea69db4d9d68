-- The lines of a core's nodes and wires are those of their declarations.
use Rattle.std.proofs.Common.{◌≡◌, ℕ, List, Option, Some, true, false, slice_get, ap, sym, ◌∙◌}
use Rattle.hume_base.specs.Places.{line_at}
use Rattle.hume_ast.specs.declared.tree.Decl.{Decl}
use Rattle.hume_ast.specs.declared.tree.Decl.TheVariants.{BoxD, Stream}
use Rattle.hume_ast.specs.declared.tree.Program.{Program}
use Rattle.hume_model.specs.declared.core_tree.NodeC.{NodeC}
use Rattle.hume_model.specs.declared.core_tree.Core.{Core}
use Rattle.hume_model.specs.Declarations.{declaration_of, line_of, StandsAt, node, wire}
use Rattle.check_typing.specs.declared.signatures.Signatures.{Signatures}
use Rattle.check_rules.specs.Declared.{Numbered, nodes_in, wires_in}
use Rattle.check_rules.specs.CoreOf.{IsNodeOf, IsWireOf, IsCoreOf}
use Rattle.check_rules.proofs.Stands.{from_right, node_stands}
use Rattle.check_rules.proofs.WiresJoin.{wire_stands}
use Rattle.hume_check.specs.Refused.{place_of, line_of_declaration}

node_line : (text : List ℕ) (s : Signatures) (d : Numbered) (decl : Decl) (n : NodeC) → IsNodeOf text s d decl n
    → (declaration_of n ≡ d.number) × (line_of n ≡ line_at text d.place)
node_line text s d (BoxD name ins outs fair rules handlers) n h =
    (ap declaration_of h.1 ∙ h.2.declaration, ap line_of h.1 ∙ h.2.line)
node_line text s d (Stream name true port) n h = (ap declaration_of h, ap line_of h)
node_line text s d (Stream name false port) n h = (ap declaration_of h, ap line_of h)
node_line text s d _ n h = absurd h

module _ (text : List ℕ) (program : Program) (core : Core) (is : IsCoreOf text program core) where
  at_place : (number place : ℕ) (decl : Decl) → slice_get program.decls number ≡ Some (place, decl)
      → line_at text place ≡ line_of_declaration text program.decls number
  at_place number place decl e = ap (λ (found : Option (ℕ × Decl)). line_at text (place_of found)) (sym e)

  pub line_is : (number line : ℕ) → StandsAt core number line → line ≡ line_of_declaration text program.decls number
  line_is _ _ (node n found there) =
      let c = from_right (λ (d : Numbered) x. IsNodeOf text is.signatures d d.decl x) (nodes_in program.decls) core.nodes is.nodes n found there in
      let l = node_line text is.signatures c.0 c.0.decl found c.2 in
      l.1 ∙ at_place c.0.number c.0.place c.0.decl (node_stands program.decls n c.0 c.1)
      ∙ ap (line_of_declaration text program.decls) (sym l.0)
  line_is _ _ (wire w found there) =
      let c = from_right (IsWireOf text is.signatures core.nodes) (wires_in program.decls) core.wires is.wires w found there in
      c.2.line ∙ at_place c.0.number c.0.place _ (wire_stands program.decls w c.0 c.1)
      ∙ ap (line_of_declaration text program.decls) (sym c.2.declaration)
