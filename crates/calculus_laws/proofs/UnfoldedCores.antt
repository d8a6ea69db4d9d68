-- The core with an unfolded rule is well formed, and its wires and handlers break no rule.
use Rattle.std.proofs.Common.{◌≡◌, ◌⊎◌, inl, inr, ℕ, true, List, length, Some, slice_get, slice_set, refl, ap, sym, ◌∙◌, subst, arith}
use Rattle.std.specs.List.{list_all}
use Rattle.std.proofs.lemmas.Bool.{and_parts}
use Rattle.std.proofs.lemmas.Option.{get_or_from_slice_get, slice_get_within}
use Rattle.std.proofs.lemmas.List.Elements.{All-set}
use Rattle.hume_base.specs.declared.finding.Finding.{Finding}
use Rattle.hume_base.specs.declared.types.Ty.{Ty}
use Rattle.hume_model.specs.declared.core_tree.FunC.{FunC}
use Rattle.hume_model.specs.declared.core_tree.RuleC.{RuleC}
use Rattle.hume_model.specs.declared.core_tree.BoxC.{BoxC}
use Rattle.hume_model.specs.declared.core_tree.NodeC.{NodeC}
use Rattle.hume_model.specs.declared.core_tree.NodeC.TheVariants.{Rules}
use Rattle.hume_model.specs.declared.core_tree.Core.{Core}
use Rattle.hume_model.specs.BoxTyping.{BoxHasFrame, BoxIsTyped, PositionsAreTyped, PositionsHave, RuleIsTyped, port_types}
use Rattle.hume_model.specs.HandlerRules.{BreaksHandlers, LeavesUnhandled, OfBox, RaisesAgain}
use Rattle.hume_model.specs.Raising.{result_may_raise}
use Rattle.hume_model.specs.Limits.{IsSmallBox, IsSmallFunction, IsSmallNode}
use Rattle.hume_model.specs.PartLimits.{is_written_equation, is_written_rule}
use Rattle.hume_model.specs.ResultTyping.{GivesOutputs}
use Rattle.hume_model.specs.WellFormed.{IsWellFormed}
use Rattle.hume_model.specs.WireRules.{BreaksWires}
use Rattle.calculus_laws.specs.Boxes.{box_at, with_box}
use Rattle.calculus_laws.specs.Naming.{variables}
use Rattle.calculus_laws.specs.Unfolding.{result_unfolded, with_rule}
use Rattle.calculus_laws.proofs.Bindings.{rule_types}
use Rattle.calculus_laws.proofs.CallsKnown.{both}
use Rattle.calculus_laws.proofs.ChangedBox.{BothAt, box_there, in_set, length-set_node, node_small, related_at}
use Rattle.calculus_laws.proofs.Frames.{SamePorts, formed_kept, same_ports, wires_kept}
use Rattle.calculus_laws.proofs.KeptRaising.{again_kept, unhandled_kept}
use Rattle.calculus_laws.proofs.NamedCores.{list_all_at, list_all_set}
use Rattle.calculus_laws.proofs.Typed.{box_frame, box_typed, equations_typed}
use Rattle.calculus_laws.proofs.UnfoldedRaising.{unfolded_raises}
use Rattle.calculus_laws.proofs.UnfoldedResultTypes.{GivesTypes, unfolded_typed}
use Rattle.calculus_laws.proofs.UnfoldedRuns.{IsUnfolded, becomes_some}
use Rattle.calculus_laws.proofs.UnfoldedWritten.{ResultStays, unfolded_written}

module _ (core : Core) (formed : IsWellFormed core) (n number : ℕ) (b : BoxC) (there : box_at core n ≡ Some b) (new_rule : RuleC)
    (is : IsUnfolded core b number new_rule) where
  abbrev other : BoxC
  other = with_rule number new_rule b

  abbrev nodes : List NodeC
  nodes = slice_set core.nodes n (Rules other)

  abbrev new : Core
  new = with_box core n other

  abbrev vars : List Ty
  vars = variables core.types b is.rule

  at : slice_get core.nodes n ≡ Some (Rules b)
  at = box_there core n b there

  small : IsSmallBox core.types b
  small = node_small (IsSmallNode core.types) core.nodes n (Rules b) at formed.frame.limits.each_node

  own : RuleIsTyped core b is.rule
  own = (formed.boxes n b at).rules number is.rule is.there

  functions_written : (f : ℕ) (function : FunC) → slice_get core.funs f ≡ Some function → list_all (is_written_equation core.types) function.equations ≡ true
  functions_written f function found =
      let one : IsSmallFunction core.types function =
      subst (IsSmallFunction core.types) (get_or_from_slice_get core.funs f function function found)
      (formed.frame.limits.each_function f function (slice_get_within core.funs f function found)) in
      one.each_equation

  written_rule : is_written_rule core.types is.rule ≡ true
  written_rule = list_all_at (is_written_rule core.types) b.rules number is.rule small.each_rule is.there

  new_written : is_written_rule core.types new_rule ≡ true
  new_written =
      let parts = and_parts _ _ written_rule in
      ap (is_written_rule core.types) is.is
      ∙ both _ _ parts.0
      (becomes_some (ResultStays core.types core functions_written is.rule.result) (result_unfolded core (length vars) is.rule.result) is.result is.unfolded
      (unfolded_written core.types core functions_written is.rule.result (length vars)) parts.1)

  small_other : IsSmallBox core.types other
  small_other =
      let many = length-set_node b.rules number new_rule in
      let some = small.some_rules in
      let few = small.rules in
      record {
        name = small.name;
        some_inputs = small.some_inputs;
        inputs = small.inputs;
        each_input = small.each_input;
        some_outputs = small.some_outputs;
        outputs = small.outputs;
        each_output = small.each_output;
        some_rules = omega (arith, some, many);
        rules = omega (arith, few, many);
        each_rule = list_all_set (is_written_rule core.types) b.rules number new_rule small.each_rule new_written;
        each_handler = small.each_handler;
      }

  same_pats : new_rule.pats ≡ is.rule.pats
  same_pats = ap (λ (r : RuleC). r.pats) is.is

  new_gives : GivesOutputs core (port_types b.outs) own.positions.vars new_rule.result
  new_gives =
      let count : length own.positions.vars ≡ length vars = ap length (sym (rule_types core.types own.positions.have)) in
      subst (GivesOutputs core (port_types b.outs) own.positions.vars) (ap (λ (r : RuleC). r.result) (sym is.is))
      (becomes_some (GivesTypes core (port_types b.outs) (length vars) is.rule.result) (result_unfolded core (length vars) is.rule.result) is.result is.unfolded
      (unfolded_typed core (port_types b.outs) formed.functions is.rule.result (length vars)) own.positions.vars count own.outputs)

  new_typed : RuleIsTyped core other new_rule
  new_typed = record {
    positions = record {
      vars = own.positions.vars;
      have = subst (λ pats. PositionsHave core.types (port_types b.ins) pats own.positions.vars) (sym same_pats) own.positions.have;
    };
    outputs = new_gives;
  }

  rule_typed : (m : ℕ) (r : RuleC) → (r ≡ new_rule) ⊎ (slice_get b.rules m ≡ Some r) → RuleIsTyped core other r
  rule_typed m r (inl same) = subst (RuleIsTyped core other) (sym same) new_typed
  rule_typed m r (inr was) =
      let before : RuleIsTyped core b r = (formed.boxes n b at).rules m r was in
      record { positions = record { vars = before.positions.vars; have = before.positions.have }; outputs = before.outputs }

  other_typed : BoxIsTyped core other
  other_typed = record {
    rules = λ m r found. rule_typed m r (in_set b.rules number new_rule m r found);
    handlers = λ m handler found.
        let before = (formed.boxes n b at).handlers m handler found in
        record { is = before.is; outputs = before.outputs };
  }

  position_framed : (m : ℕ) (r : RuleC) → (r ≡ new_rule) ⊎ (slice_get b.rules m ≡ Some r) → PositionsAreTyped core.types other r
  position_framed m r (inl same) =
      subst (PositionsAreTyped core.types other) (sym same) (record { vars = new_typed.positions.vars; have = new_typed.positions.have })
  position_framed m r (inr was) =
      let before = (formed.frame.boxes n b at).positions m r was in
      record { vars = before.vars; have = before.have }

  other_framed : BoxHasFrame core other
  other_framed =
      let frame = formed.frame.boxes n b at in
      record { positions = λ m r found. position_framed m r (in_set b.rules number new_rule m r found); handlers = frame.handlers; apart = frame.apart }

  ports : (m : ℕ) → BothAt SamePorts (slice_get core.nodes m) (slice_get nodes m)
  ports = related_at SamePorts core.nodes (λ m node found. same_ports node) n (Rules b) (Rules other) at
      (record { inputs = refl; outputs = refl; input = λ place. refl; output = λ place. refl; stream = refl; declaration = refl })

  box_formed : (m : ℕ) (c : BoxC) → (Rules c ≡ Rules other) ⊎ (slice_get core.nodes m ≡ Some (Rules c)) → BoxHasFrame core c × BoxIsTyped core c
  box_formed m c (inl same) =
      let it : c ≡ other = cc in
      (subst (BoxHasFrame core) (sym it) other_framed, subst (BoxIsTyped core) (sym it) other_typed)
  box_formed m c (inr was) = (formed.frame.boxes m c was, formed.boxes m c was)

  pub unfolded_formed : IsWellFormed new
  unfolded_formed = formed_kept core core.funs nodes (length-set_node core.nodes n (Rules other)) ports formed
      formed.frame.limits.functions
      formed.frame.limits.each_function
      (All-set (IsSmallNode core.types) core.nodes n (Rules other) small_other formed.frame.limits.each_node)
      formed.calls
      (λ m function found. equations_typed core core.funs nodes (λ f g it. it) function (formed.functions m function found))
      (λ m c found.
      let have = box_formed m c (in_set core.nodes n (Rules other) m (Rules c) found) in
      (box_frame core core.funs nodes (λ f g it. it) c have.0, box_typed core core.funs nodes (λ f g it. it) c have.1))

  pub unfolded_wires : (finding : Finding) → BreaksWires new finding → BreaksWires core finding
  unfolded_wires = wires_kept core core.funs nodes (length-set_node core.nodes n (Rules other)) ports

  -- rules on handlers

  raised_before : (exn : ℕ) → result_may_raise core exn new_rule.result ≡ true → result_may_raise core exn is.rule.result ≡ true
  raised_before exn raises =
      becomes_some (λ r. result_may_raise core exn r ≡ true → result_may_raise core exn is.rule.result ≡ true) (result_unfolded core (length vars) is.rule.result) is.result is.unfolded
      (unfolded_raises core formed.calls exn is.rule.result (length vars)) (ap (λ (r : RuleC). result_may_raise core exn r.result) (sym is.is) ∙ raises)

  unhandled_by : (leaves : LeavesUnhandled core other) → (leaves.rule ≡ new_rule) ⊎ (slice_get b.rules leaves.number ≡ Some leaves.rule) → LeavesUnhandled core b
  unhandled_by leaves (inl same) = record {
    number = number;
    rule = is.rule;
    there = is.there;
    exn = leaves.exn;
    known = leaves.known;
    raises = raised_before leaves.exn (ap (λ (r : RuleC). result_may_raise core leaves.exn r.result) (sym same) ∙ leaves.raises);
    unhandled = leaves.unhandled;
  }
  unhandled_by leaves (inr was) = record {
    number = leaves.number;
    rule = leaves.rule;
    there = was;
    exn = leaves.exn;
    known = leaves.known;
    raises = leaves.raises;
    unhandled = leaves.unhandled;
  }

  unhandled_before : LeavesUnhandled core other → LeavesUnhandled core b
  unhandled_before leaves = unhandled_by leaves (in_set b.rules number new_rule leaves.number leaves.rule leaves.there)

  again_before : RaisesAgain core other → RaisesAgain core b
  again_before again = record {
    number = again.number;
    handler = again.handler;
    there = again.there;
    exn = again.exn;
    known = again.known;
    raises = again.raises;
  }

  module _ (P : Core → BoxC → Type 0) (before : P core other → P core b) (kept : (c : BoxC) → P new c → P core c) (declaration : ℕ) where
    box_was : (m : ℕ) (c : BoxC) → (Rules c ≡ Rules other) ⊎ (slice_get core.nodes m ≡ Some (Rules c)) → c.declaration ≡ declaration → P core c
        → OfBox core P declaration
    box_was m c (inl found) declared holds =
        let same : c ≡ other = cc in
        record {
          n = n;
          b = b;
          there = at;
          declared = ap (λ (d : BoxC). d.declaration) (sym same) ∙ declared;
          holds = before (subst (P core) same holds);
        }
    box_was m c (inr was) declared holds = record { n = m; b = c; there = was; declared = declared; holds = holds }

    of_box : OfBox new P declaration → OfBox core P declaration
    of_box of = box_was of.n of.b (in_set core.nodes n (Rules other) of.n (Rules of.b) of.there) of.declared (kept of.b of.holds)

  pub unfolded_handlers : (finding : Finding) → BreaksHandlers new finding → BreaksHandlers core finding
  unfolded_handlers finding (inl (broken, of)) = inl (broken, of_box LeavesUnhandled unhandled_before (unhandled_kept core nodes) finding.declaration of)
  unfolded_handlers finding (inr (broken, of)) = inr (broken, of_box RaisesAgain again_before (again_kept core nodes) finding.declaration of)
