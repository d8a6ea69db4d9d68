-- A wire of a core has its ends.
use Rattle.std.proofs.Common.{◌≡◌, ℕ, List, Option, Some, None, slice_get, sym, subst, ◌∙◌, Bool, ◌&&◌, true, false}
use Rattle.hume_base.specs.declared.types.Ty.{Ty}
use Rattle.hume_base.specs.declared.types.Value.{Value}
use Rattle.hume_base.specs.Values.{is_value}
use Rattle.hume_ast.specs.declared.tree.Exp.{Exp}
use Rattle.hume_ast.specs.declared.tree.Program.{Program}
use Rattle.hume_ast.specs.Fits.{IsFit}
use Rattle.hume_model.specs.declared.core_tree.WireC.{WireC}
use Rattle.hume_model.specs.declared.core_tree.Core.{Core}
use Rattle.hume_model.specs.TypeLimits.{is_type}
use Rattle.hume_model.specs.WireEnds.{HasEnds, is_stream}
use Rattle.check_typing.specs.declared.signatures.Signatures.{Signatures}
use Rattle.check_typing.proofs.Maybe.{not_some}
use Rattle.check_rules.specs.Declared.{wires_in}
use Rattle.check_rules.specs.CheckRules.{IsFine}
use Rattle.check_rules.specs.Constants.{constant}
use Rattle.check_rules.specs.CoreOf.{InitialBetween, IsWireOf, IsCoreOf}
use Rattle.check_rules.proofs.Stands.{from_right}
use Rattle.check_rules.proofs.TypesOrdered.{hold_smaller}
use Rattle.check_rules.proofs.PortsWritten.{wire_written, ends}
use Rattle.check_rules.proofs.DataWritten.{fields_are_types}
use Rattle.check_rules.proofs.FirstValues.{constant_value}

-- a first value is one that is written
initial_written : (between : Bool) (s : Signatures) (ty : Ty) (e : Option Exp) (value : Option Value) (v : Value)
    → InitialBetween between s ty e value → value ≡ Some v
    → (e : Exp) × (constant s e ty ≡ Some v)
initial_written true s ty e value v h q = absurd (not_some v (sym h ∙ q))
initial_written false s ty None value v h q = absurd (not_some v (sym h ∙ q))
initial_written false s ty (Some e) value v h q = (e, h.1 ∙ sym h.2 ∙ q)

module _ (text : List ℕ) (program : Program) (core : Core) (fine : IsFine program.decls) (fit : IsFit program) (p : IsCoreOf text program core) where
  initial_value : (n : ℕ) (wire : WireC) → slice_get core.wires n ≡ Some wire → (v : Value) → wire.initial ≡ Some v
      → is_value core.types wire.ty v ≡ true
  initial_value n wire there v q =
      let c = from_right (IsWireOf text p.signatures core.nodes) (wires_in program.decls) core.wires p.wires n wire there in
      let e = initial_written (is_stream c.2.from.node && is_stream c.2.to.node) p.signatures wire.ty c.0.initial wire.initial v c.2.initial q in
      let is : is_type p.signatures.types wire.ty ≡ true =
      subst (λ types. is_type types wire.ty ≡ true) p.types (wire_written text program core fine fit p n wire there).parts in
      subst (λ types. is_value types wire.ty v ≡ true) (sym p.types)
      (constant_value p.signatures (hold_smaller program.decls p.signatures.types p.are.types) (fields_are_types text program core fine fit p) e.0 wire.ty v is e.1)

  pub wire_ends : (n : ℕ) (wire : WireC) → slice_get core.wires n ≡ Some wire → HasEnds core wire
  wire_ends n wire there = ends text program core fine fit p n wire there (initial_value n wire there)
