-- The core after a swap is well formed.
use Rattle.std.proofs.Common.{◌≡◌, ◌⊎◌, inl, inr, ℕ, List, Some, slice_get, slice_set, refl, ap, sym, ◌∙◌, subst, arith}
use Rattle.std.proofs.lemmas.List.Elements.{All-set}
use Rattle.hume_base.specs.declared.finding.Finding.{Finding}
use Rattle.hume_model.specs.declared.core_tree.BoxC.{BoxC}
use Rattle.hume_model.specs.declared.core_tree.NodeC.{NodeC}
use Rattle.hume_model.specs.declared.core_tree.NodeC.TheVariants.{Rules}
use Rattle.hume_model.specs.declared.core_tree.Core.{Core}
use Rattle.hume_base.specs.declared.types.Types.{Types}
use Rattle.hume_model.specs.BoxTyping.{BoxHasFrame, BoxIsTyped}
use Rattle.hume_model.specs.HandlerRules.{BreaksHandlers, LeavesUnhandled, OfBox, RaisesAgain}
use Rattle.hume_model.specs.Limits.{IsSmallBox, IsSmallNode}
use Rattle.hume_model.specs.PartLimits.{is_written_rule}
use Rattle.hume_model.specs.WellFormed.{IsWellFormed}
use Rattle.hume_model.specs.WireRules.{BreaksWires}
use Rattle.calculus_laws.specs.Boxes.{box_at, with_box}
use Rattle.calculus_laws.specs.Swapping.{swapped_box}
use Rattle.calculus_laws.proofs.ChangedBox.{BothAt, box_there, in_set, length-set_node, node_small, related_at}
use Rattle.calculus_laws.proofs.Exchanged.{length-exchanged, list_all-exchanged, was_before}
use Rattle.calculus_laws.proofs.Frames.{SamePorts, formed_kept, same_ports, wires_kept}
use Rattle.calculus_laws.proofs.KeptRaising.{again_kept, unhandled_kept}
use Rattle.calculus_laws.proofs.Typed.{box_frame, box_typed, equations_typed}

small_box : (types : Types) (rule : ℕ) (b : BoxC) → IsSmallBox types b → IsSmallBox types (swapped_box rule b)
small_box types rule b small =
    let many = length-exchanged rule b.rules in
    let some = small.some_rules in
    let few = small.rules in
    record {
      name = small.name;
      some_inputs = small.some_inputs;
      inputs = small.inputs;
      each_input = small.each_input;
      some_outputs = small.some_outputs;
      outputs = small.outputs;
      each_output = small.each_output;
      some_rules = omega (arith, some, many);
      rules = omega (arith, few, many);
      each_rule = list_all-exchanged (is_written_rule types) rule b.rules ∙ small.each_rule;
      each_handler = small.each_handler;
    }

swapped_ports : (rule : ℕ) (b : BoxC) → SamePorts (Rules b) (Rules (swapped_box rule b))
swapped_ports rule b = record { inputs = refl; outputs = refl; input = λ place. refl; output = λ place. refl; stream = refl; declaration = refl }

swapped_frame : (core : Core) (rule : ℕ) (b : BoxC) → BoxHasFrame core b → BoxHasFrame core (swapped_box rule b)
swapped_frame core rule b frame = record {
  positions = λ number r at.
      let before = was_before rule b.rules number r at in
      let have = frame.positions before.0 r before.1 in
      record { vars = have.vars; have = have.have };
  handlers = frame.handlers;
  apart = frame.apart;
}

swapped_typed : (core : Core) (rule : ℕ) (b : BoxC) → BoxIsTyped core b → BoxIsTyped core (swapped_box rule b)
swapped_typed core rule b is = record {
  rules = λ number r at.
      let before = was_before rule b.rules number r at in
      let have = is.rules before.0 r before.1 in
      record { positions = record { vars = have.positions.vars; have = have.positions.have }; outputs = have.outputs };
  handlers = λ number handler at.
      let have = is.handlers number handler at in
      record { is = have.is; outputs = have.outputs };
}

module _ (core : Core) (n rule : ℕ) (b : BoxC) (there : box_at core n ≡ Some b) where
  abbrev other : BoxC
  other = swapped_box rule b

  abbrev nodes : List NodeC
  nodes = slice_set core.nodes n (Rules other)

  at : slice_get core.nodes n ≡ Some (Rules b)
  at = box_there core n b there

  ports : (m : ℕ) → BothAt SamePorts (slice_get core.nodes m) (slice_get nodes m)
  ports = related_at SamePorts core.nodes (λ m node is. same_ports node) n (Rules b) (Rules other) at (swapped_ports rule b)

  module _ (formed : IsWellFormed core) where
    box_formed : (m : ℕ) (c : BoxC) → (Rules c ≡ Rules other) ⊎ (slice_get core.nodes m ≡ Some (Rules c)) → BoxHasFrame core c × BoxIsTyped core c
    box_formed m c (inl is) =
        let same : c ≡ other = cc in (
          subst (BoxHasFrame core) (sym same) (swapped_frame core rule b (formed.frame.boxes n b at)),
          subst (BoxIsTyped core) (sym same) (swapped_typed core rule b (formed.boxes n b at)),
        )
    box_formed m c (inr was) = (formed.frame.boxes m c was, formed.boxes m c was)

    pub swapped_formed : IsWellFormed (with_box core n other)
    swapped_formed = formed_kept core core.funs nodes (length-set_node core.nodes n (Rules other)) ports formed
        formed.frame.limits.functions
        formed.frame.limits.each_function
        (All-set (IsSmallNode core.types) core.nodes n (Rules other)
        (small_box core.types rule b (node_small (IsSmallNode core.types) core.nodes n (Rules b) at formed.frame.limits.each_node)) formed.frame.limits.each_node)
        formed.calls
        (λ number function found. equations_typed core core.funs nodes (λ f g is. is) function (formed.functions number function found))
        (λ m c found.
        let have = box_formed m c (in_set core.nodes n (Rules other) m (Rules c) found) in
        (box_frame core core.funs nodes (λ f g is. is) c have.0, box_typed core core.funs nodes (λ f g is. is) c have.1))

  pub swapped_wires : (finding : Finding) → BreaksWires (with_box core n other) finding → BreaksWires core finding
  swapped_wires = wires_kept core core.funs nodes (length-set_node core.nodes n (Rules other)) ports

  -- rules on handlers

  unhandled_before : LeavesUnhandled core other → LeavesUnhandled core b
  unhandled_before leaves =
      let before = was_before rule b.rules leaves.number leaves.rule leaves.there in
      record {
        number = before.0;
        rule = leaves.rule;
        there = before.1;
        exn = leaves.exn;
        known = leaves.known;
        raises = leaves.raises;
        unhandled = leaves.unhandled;
      }

  again_before : RaisesAgain core other → RaisesAgain core b
  again_before again = record {
    number = again.number;
    handler = again.handler;
    there = again.there;
    exn = again.exn;
    known = again.known;
    raises = again.raises;
  }

  module _ (P : Core → BoxC → Type 0) (before : P core other → P core b) (kept : (c : BoxC) → P (with_box core n other) c → P core c) (declaration : ℕ) where
    box_was : (m : ℕ) (c : BoxC) → (Rules c ≡ Rules other) ⊎ (slice_get core.nodes m ≡ Some (Rules c)) → c.declaration ≡ declaration → P core c
        → OfBox core P declaration
    box_was m c (inl is) declared holds =
        let same : c ≡ other = cc in
        record {
          n = n;
          b = b;
          there = at;
          declared = ap (λ (d : BoxC). d.declaration) (sym same) ∙ declared;
          holds = before (subst (P core) same holds);
        }
    box_was m c (inr was) declared holds = record { n = m; b = c; there = was; declared = declared; holds = holds }

    of_box : OfBox (with_box core n other) P declaration → OfBox core P declaration
    of_box of = box_was of.n of.b (in_set core.nodes n (Rules other) of.n (Rules of.b) of.there) of.declared (kept of.b of.holds)

  pub swapped_handlers : (finding : Finding) → BreaksHandlers (with_box core n other) finding → BreaksHandlers core finding
  swapped_handlers finding (inl (broken, of)) = inl (broken, of_box LeavesUnhandled unhandled_before (unhandled_kept core nodes) finding.declaration of)
  swapped_handlers finding (inr (broken, of)) = inr (broken, of_box RaisesAgain again_before (again_kept core nodes) finding.declaration of)
