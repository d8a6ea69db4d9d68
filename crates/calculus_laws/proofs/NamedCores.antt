-- The core with the new function is well formed, and its wires break no rule.
use Rattle.std.proofs.Common.{◌≡◌, ◌⊎◌, inl, inr, ℕ, zero, suc, ◌+◌, ◌<◌, ◌≤◌, All, Bool, true, false, List, [], ◌∷◌, ◌++◌, length, map, replicate, Option, Some, None, slice_get, slice_set, refl, ap, sym, ◌∙◌, subst, arith, if◌then◌else◌}
use Rattle.std.specs.List.{list_all, range_with_len}
use Rattle.std.proofs.lemmas.Bool.{and_parts, leb-true, ltb-true}
use Rattle.std.proofs.lemmas.List.{length-append}
use Rattle.std.proofs.lemmas.List.Elements.{All-append, All-cons, All-map, All-nil, All-set, All-weaker}
use Rattle.hume_base.specs.declared.finding.Finding.{Finding}
use Rattle.hume_base.specs.declared.limits.TheConstants.{MAX_FUNCTIONS, MAX_PARAMETERS}
use Rattle.hume_base.specs.declared.types.Ty.{Ty}
use Rattle.hume_base.specs.declared.types.Types.{Types}
use Rattle.hume_model.specs.declared.core_tree.PatC.{fold-roll-PatC}
use Rattle.hume_model.specs.declared.core_tree.PatC.TheOpen.{PatC-F}
use Rattle.hume_model.specs.declared.core_tree.PatC.TheVariants as pat
use Rattle.hume_model.specs.declared.core_tree.Expr.{Expr, fold-roll-Expr}
use Rattle.hume_model.specs.declared.core_tree.Expr.TheOpen.{Expr-F}
use Rattle.hume_model.specs.declared.core_tree.Expr.TheVariants as expr
use Rattle.hume_model.specs.declared.core_tree.Res.{fold-roll-Res}
use Rattle.hume_model.specs.declared.core_tree.Res.TheOpen.{Res-F}
use Rattle.hume_model.specs.declared.core_tree.Res.TheVariants as res
use Rattle.hume_model.specs.declared.core_tree.FunC.{FunC}
use Rattle.hume_model.specs.declared.core_tree.PortC.{PortC}
use Rattle.hume_model.specs.declared.core_tree.RuleC.{RuleC}
use Rattle.hume_model.specs.declared.core_tree.BoxC.{BoxC}
use Rattle.hume_model.specs.declared.core_tree.NodeC.{NodeC}
use Rattle.hume_model.specs.declared.core_tree.NodeC.TheVariants.{Rules}
use Rattle.hume_model.specs.declared.core_tree.Core.{Core}
use Rattle.hume_model.specs.BoxTyping.{BoxHasFrame, BoxIsTyped, PositionsAreTyped, PositionsHave, RuleIsTyped, port_types}
use Rattle.hume_model.specs.Calls.{all_true}
use Rattle.hume_model.specs.HandlerRules.{BreaksHandlers, LeavesUnhandled, OfBox, RaisesAgain}
use Rattle.hume_model.specs.Limits.{IsName, IsSmallBox, IsSmallBoxPort, IsSmallFunction, IsSmallNode}
use Rattle.hume_model.specs.PartLimits.{expression_step, is_written, is_written_if_there, is_written_pattern, is_written_result, is_written_rule, pattern_step, result_step}
use Rattle.hume_model.specs.Raising.{may_raise, result_may_raise}
use Rattle.hume_model.specs.ResultTyping.{GivesOutputs, OutsHave}
use Rattle.hume_model.specs.TypeLimits.{IsWrittenType}
use Rattle.hume_model.specs.Typing.{HasType}
use Rattle.hume_model.specs.WellFormed.{IsWellFormed}
use Rattle.hume_model.specs.WireRules.{BreaksWires}
use Rattle.calculus_laws.specs.Boxes.{box_at}
use Rattle.calculus_laws.specs.Names.{has_form}
use Rattle.calculus_laws.specs.Naming.{OnlyOutput, calling_box, calling_rule, may_be_named, named_function, named_output, output_refusal, variables}
use Rattle.calculus_laws.proofs.Bindings.{rule_types}
use Rattle.calculus_laws.proofs.CallsKnown.{both}
use Rattle.calculus_laws.proofs.ChangedBox.{BothAt, box_there, in_set, length-set_node, node_small, related_at}
use Rattle.calculus_laws.proofs.Frames.{SamePorts, formed_kept, same_ports, wires_kept}
use Rattle.calculus_laws.proofs.NamedCalls.{still_there}
use Rattle.calculus_laws.proofs.NamedRaising.{calling_same, raising_same, result_same}
use Rattle.calculus_laws.proofs.NamedRuns.{IsOnlyOutput}
use Rattle.calculus_laws.proofs.NamedTypes.{calls_go_down, functions_typed, only_typed, outputs_have, variables_have}
use Rattle.calculus_laws.proofs.Typed.{box_frame, box_typed}
use Rattle.calculus_laws.proofs.WrittenTypes.{rule_written}

pub list_all_at : {X : Type 0} (test : X → Bool) (xs : List X) (n : ℕ) (x : X) → list_all test xs ≡ true → slice_get xs n ≡ Some x → test x ≡ true
list_all_at test [] n x all at = cc
list_all_at test (y ∷ xs) zero x all at = (let same : y ≡ x = cc in ap test (sym same) ∙ (and_parts _ _ all).0)
list_all_at test (y ∷ xs) (suc n) x all at = list_all_at test xs n x (and_parts _ _ all).1 at

pub list_all_set : {X : Type 0} (test : X → Bool) (xs : List X) (n : ℕ) (x : X) → list_all test xs ≡ true → test x ≡ true → list_all test (slice_set xs n x) ≡ true
list_all_set test [] n x all is = all
list_all_set test (y ∷ xs) zero x all is = both _ _ is (and_parts _ _ all).1
list_all_set test (y ∷ xs) (suc n) x all is = both _ _ (and_parts _ _ all).0 (list_all_set test xs n x (and_parts _ _ all).1 is)

-- what a source may write

variable_written : is_written_pattern pat.Var ≡ true
variable_written = ap is_written_pattern (sym pat.rolls-Var) ∙ fold-roll-PatC Bool pattern_step PatC-F.Var

variables_written : (count : ℕ) → list_all is_written_pattern (replicate count pat.Var) ≡ true
variables_written zero = refl
variables_written (suc count) = both _ _ variable_written (variables_written count)

module _ (types : Types) where
  outs_written : (outs : List (Option Expr)) → is_written_result types (res.Outs outs) ≡ list_all (is_written_if_there types) outs
  outs_written outs = ap (is_written_result types) (sym (res.rolls-Outs outs)) ∙ fold-roll-Res Bool (result_step types) (Res-F.Outs outs)

  one_written : (n : ℕ) → is_written types (expr.Var n) ≡ true
  one_written n = ap (is_written types) (sym (expr.rolls-Var n)) ∙ fold-roll-Expr Bool (expression_step types) (Expr-F.Var n)

  arguments_written : (a count : ℕ) → all_true (map (is_written types) (map expr.Var (range_with_len a count))) ≡ true
  arguments_written a zero = refl
  arguments_written a (suc count) = both _ _ (one_written a) (arguments_written (a + 1) count)

  call_written : (function count : ℕ) → is_written types (expr.Call function (map expr.Var (range_with_len 0 count))) ≡ true
  call_written function count =
      ap (is_written types) (sym (expr.rolls-Call function (map expr.Var (range_with_len 0 count))))
      ∙ fold-roll-Expr Bool (expression_step types) (Expr-F.Call function (map expr.Var (range_with_len 0 count)))
      ∙ arguments_written 0 count

some_byte : (name : List ℕ) → has_form name ≡ true → 1 ≤ length name
some_byte [] form = cc
some_byte (first ∷ later) form = omega arith

chosen : {X : Type 0} (b : Bool) (x : X) → (if b then None else Some x) ≡ None → b ≡ true
chosen true x none = refl
chosen false x none = cc

-- what is known of a function that isn't refused
record MayBeNamed (core : Core) (name : List ℕ) (count : ℕ) : Type 0 where
  pub some : 1 ≤ count
  pub few : count ≤ MAX_PARAMETERS
  pub room : length core.funs < MAX_FUNCTIONS
  pub named : IsName name

may_name : (core : Core) (name : List ℕ) (count : ℕ) → may_be_named core.funs name count ≡ true → MayBeNamed core name count
may_name core name count may =
    let counted = and_parts _ _ may in
    let between = and_parts _ _ counted.0 in
    let rest = and_parts _ _ counted.1 in
    let named = and_parts _ _ rest.1 in
    let formed = and_parts _ _ named.0 in
    let short = and_parts _ _ formed.1 in
    record {
      some = leb-true _ _ between.0;
      few = leb-true _ _ between.1;
      room = ltb-true _ _ rest.0;
      named = record { some = some_byte name formed.0; bytes = leb-true _ _ short.0 };
    }

module _ (core : Core) (formed : IsWellFormed core) (n rule : ℕ) (name : List ℕ) (b : BoxC) (there : box_at core n ≡ Some b)
    (output : OnlyOutput) (is : IsOnlyOutput b rule output)
    (allowed : output_refusal core.types core.funs name b (Some output) ≡ None) where
  abbrev last : FunC
  last = named_function core.types b name output

  abbrev params : List Ty
  params = variables core.types b output.rule

  abbrev other : BoxC
  other = calling_box core.types (length core.funs) rule output b

  abbrev funs : List FunC
  funs = core.funs ++ last ∷ []

  abbrev nodes : List NodeC
  nodes = slice_set core.nodes n (Rules other)

  abbrev new : Core
  new = record core { funs = funs; nodes = nodes }

  at : slice_get core.nodes n ≡ Some (Rules b)
  at = box_there core n b there

  may : MayBeNamed core name (length params)
  may = may_name core name (length params) (chosen _ _ allowed)

  small : IsSmallBox core.types b
  small = node_small (IsSmallNode core.types) core.nodes n (Rules b) at formed.frame.limits.each_node

  typed_rule : RuleIsTyped core b output.rule
  typed_rule = (formed.boxes n b at).rules rule output.rule is.there

  have : PositionsHave core.types (port_types b.ins) output.rule.pats params
  have = subst (PositionsHave core.types (port_types b.ins) output.rule.pats) (sym (rule_types core.types typed_rule.positions.have)) typed_rule.positions.have

  out_types : port_types b.outs ≡ output.gives ∷ []
  out_types = ap port_types is.outs ∙ ap (λ t. t ∷ []) (sym is.gives)

  body_typed : HasType core params output.body output.gives
  body_typed =
      subst (λ vars. HasType core vars output.body output.gives) (sym (rule_types core.types typed_rule.positions.have))
      (only_typed core _ output.body output.gives
      (subst (OutsHave core _ (Some output.body ∷ [])) out_types (outputs_have core (port_types b.outs) typed_rule.outputs (Some output.body ∷ []) is.result)))

  written_rule : is_written_rule core.types output.rule ≡ true
  written_rule = list_all_at (is_written_rule core.types) b.rules rule output.rule small.each_rule is.there

  written_body : is_written core.types output.body ≡ true
  written_body =
      (and_parts _ true (sym (outs_written core.types (Some output.body ∷ [])) ∙ ap (is_written_result core.types) (sym is.result) ∙ (and_parts _ _ written_rule).1)).0

  small_last : IsSmallFunction core.types last
  small_last = record {
    name = may.named;
    some_params = may.some;
    params = may.few;
    each_param = rule_written core formed.frame.limits have
        (All-map (IsWrittenType core.types) (λ (port : PortC). port.ty) b.ins
        (All-weaker (IsSmallBoxPort core.types) (λ port. IsWrittenType core.types port.ty) (λ port one. one.ty) b.ins small.each_input));
    gives = subst (IsWrittenType core.types) (sym is.gives) (subst (λ outs. All (IsSmallBoxPort core.types) outs) is.outs small.each_output 0 is.port (omega arith)).ty;
    equations = omega arith;
    each_equation = both _ true (both _ _ (variables_written (length params)) written_body) refl;
  }

  small_other : IsSmallBox core.types other
  small_other =
      let many = length-set_node b.rules rule (calling_rule (length core.funs) (length params) output.rule) in
      let some = small.some_rules in
      let few = small.rules in
      record {
        name = small.name;
        some_inputs = small.some_inputs;
        inputs = small.inputs;
        each_input = small.each_input;
        some_outputs = small.some_outputs;
        outputs = small.outputs;
        each_output = small.each_output;
        some_rules = omega (arith, some, many);
        rules = omega (arith, few, many);
        each_rule = list_all_set (is_written_rule core.types) b.rules rule _ small.each_rule
            (both _ _ (and_parts _ _ written_rule).0 (outs_written core.types _ ∙ both _ true (call_written core.types (length core.funs) (length params)) refl));
        each_handler = small.each_handler;
      }

  slice_end : {X : Type 0} (xs : List X) (x : X) → slice_get (xs ++ x ∷ []) (length xs) ≡ Some x
  slice_end [] x = refl
  slice_end (y ∷ xs) x = slice_end xs x

  call_typed : HasType new params (expr.Call (length core.funs) (map expr.Var (range_with_len 0 (length params)))) output.gives
  call_typed = HasType.call (length core.funs) last (slice_end core.funs last) (variables_have new params)

  kept : (f : ℕ) (function : FunC) → slice_get core.funs f ≡ Some function → slice_get funs f ≡ Some function
  kept = still_there core.funs last

  abbrev calling : RuleC
  calling = calling_rule (length core.funs) (length params) output.rule

  calling_typed : RuleIsTyped new other calling
  calling_typed = record {
    positions = record { vars = params; have = have };
    outputs = subst (λ tys. GivesOutputs new tys params calling.result) (sym out_types) (GivesOutputs.outputs (OutsHave.value call_typed OutsHave.none));
  }

  rule_typed : (number : ℕ) (r : RuleC) → (r ≡ calling) ⊎ (slice_get b.rules number ≡ Some r) → BoxIsTyped new b → RuleIsTyped new other r
  rule_typed number r (inl same) own = subst (RuleIsTyped new other) (sym same) calling_typed
  rule_typed number r (inr was) own =
      let before : RuleIsTyped new b r = own.rules number r was in
      record { positions = record { vars = before.positions.vars; have = before.positions.have }; outputs = before.outputs }

  other_typed : BoxIsTyped new other
  other_typed =
      let own : BoxIsTyped new b = box_typed core funs nodes kept b (formed.boxes n b at) in
      record {
        rules = λ number r found. rule_typed number r (in_set b.rules rule calling number r found) own;
        handlers = λ number handler found.
            let before = own.handlers number handler found in
            record { is = before.is; outputs = before.outputs };
      }

  position_framed : (number : ℕ) (r : RuleC) → (r ≡ calling) ⊎ (slice_get b.rules number ≡ Some r) → PositionsAreTyped core.types other r
  position_framed number r (inl same) = subst (PositionsAreTyped core.types other) (sym same) (record { vars = params; have = have })
  position_framed number r (inr was) =
      let before = (formed.frame.boxes n b at).positions number r was in
      record { vars = before.vars; have = before.have }

  other_framed : BoxHasFrame new other
  other_framed =
      let own : BoxHasFrame new b = box_frame core funs nodes kept b (formed.frame.boxes n b at) in
      record {
        positions = λ number r found. position_framed number r (in_set b.rules rule calling number r found);
        handlers = own.handlers;
        apart = own.apart;
      }

  named_ports : (m : ℕ) → BothAt SamePorts (slice_get core.nodes m) (slice_get nodes m)
  named_ports = related_at SamePorts core.nodes (λ m node found. same_ports node) n (Rules b) (Rules other) at
      (record { inputs = refl; outputs = refl; input = λ place. refl; output = λ place. refl; stream = refl; declaration = refl })

  box_formed : (m : ℕ) (c : BoxC) → (Rules c ≡ Rules other) ⊎ (slice_get core.nodes m ≡ Some (Rules c)) → BoxHasFrame new c × BoxIsTyped new c
  box_formed m c (inl same) =
      let it : c ≡ other = cc in
      (subst (BoxHasFrame new) (sym it) other_framed, subst (BoxIsTyped new) (sym it) other_typed)
  box_formed m c (inr was) = (box_frame core funs nodes kept c (formed.frame.boxes m c was), box_typed core funs nodes kept c (formed.boxes m c was))

  pub named_formed : IsWellFormed (named_output core n rule name b (Some output))
  named_formed =
      let many = length-append core.funs (last ∷ []) in
      let room = may.room in
      formed_kept core funs nodes (length-set_node core.nodes n (Rules other)) named_ports formed
      (omega (arith, many, room))
      (All-append (IsSmallFunction core.types) core.funs (last ∷ []) formed.frame.limits.each_function
      (All-cons (IsSmallFunction core.types) last [] small_last (All-nil (IsSmallFunction core.types))))
      (All-set (IsSmallNode core.types) core.nodes n (Rules other) small_other formed.frame.limits.each_node)
      (calls_go_down core nodes last output.body refl body_typed formed.calls)
      (functions_typed core nodes last output.body refl body_typed formed.functions)
      (λ m c found. box_formed m c (in_set core.nodes n (Rules other) m (Rules c) found))

  pub named_wires : (finding : Finding) → BreaksWires (named_output core n rule name b (Some output)) finding → BreaksWires core finding
  named_wires = wires_kept core funs nodes (length-set_node core.nodes n (Rules other)) named_ports

  -- rules on handlers

  rule_raises : (exn : ℕ) (number : ℕ) (r : RuleC) → slice_get b.rules number ≡ Some r → result_may_raise new exn r.result ≡ result_may_raise core exn r.result
  rule_raises exn number r found =
      result_same core exn (may_raise new exn) (may_raise core exn) (raising_same core nodes last exn) (port_types b.outs) ((formed.boxes n b at).rules number r found).outputs

  own_unhandled : (c : BoxC) → BoxIsTyped core c → LeavesUnhandled new c → LeavesUnhandled core c
  own_unhandled c own leaves = record {
    number = leaves.number;
    rule = leaves.rule;
    there = leaves.there;
    exn = leaves.exn;
    known = leaves.known;
    raises =
        sym (result_same core leaves.exn (may_raise new leaves.exn) (may_raise core leaves.exn) (raising_same core nodes last leaves.exn) (port_types c.outs)
        (own.rules leaves.number leaves.rule leaves.there).outputs) ∙ leaves.raises;
    unhandled = leaves.unhandled;
  }

  own_again : (c : BoxC) → BoxIsTyped core c → RaisesAgain new c → RaisesAgain core c
  own_again c own again = record {
    number = again.number;
    handler = again.handler;
    there = again.there;
    exn = again.exn;
    known = again.known;
    raises =
        sym (result_same core again.exn (may_raise new again.exn) (may_raise core again.exn) (raising_same core nodes last again.exn) (port_types c.outs)
        (own.handlers again.number again.handler again.there).outputs) ∙ again.raises;
  }

  unhandled_by : (leaves : LeavesUnhandled new other) → (leaves.rule ≡ calling) ⊎ (slice_get b.rules leaves.number ≡ Some leaves.rule) → LeavesUnhandled core b
  unhandled_by leaves (inl same) = record {
    number = rule;
    rule = output.rule;
    there = is.there;
    exn = leaves.exn;
    known = leaves.known;
    raises =
        ap (result_may_raise core leaves.exn) is.result
        ∙ sym (calling_same core nodes last leaves.exn output.body (length params) refl)
        ∙ ap (λ (r : RuleC). result_may_raise new leaves.exn r.result) (sym same)
        ∙ leaves.raises;
    unhandled = leaves.unhandled;
  }
  unhandled_by leaves (inr was) = record {
    number = leaves.number;
    rule = leaves.rule;
    there = was;
    exn = leaves.exn;
    known = leaves.known;
    raises = sym (rule_raises leaves.exn leaves.number leaves.rule was) ∙ leaves.raises;
    unhandled = leaves.unhandled;
  }

  unhandled_before : LeavesUnhandled new other → LeavesUnhandled core b
  unhandled_before leaves = unhandled_by leaves (in_set b.rules rule calling leaves.number leaves.rule leaves.there)

  again_before : RaisesAgain new other → RaisesAgain core b
  again_before again = record {
    number = again.number;
    handler = again.handler;
    there = again.there;
    exn = again.exn;
    known = again.known;
    raises =
        sym (result_same core again.exn (may_raise new again.exn) (may_raise core again.exn) (raising_same core nodes last again.exn) (port_types b.outs)
        ((formed.boxes n b at).handlers again.number again.handler again.there).outputs) ∙ again.raises;
  }

  module _ (P : Core → BoxC → Type 0) (before : P new other → P core b) (own : (c : BoxC) → BoxIsTyped core c → P new c → P core c) (declaration : ℕ) where
    box_was : (m : ℕ) (c : BoxC) → (Rules c ≡ Rules other) ⊎ (slice_get core.nodes m ≡ Some (Rules c)) → c.declaration ≡ declaration → P new c → OfBox core P declaration
    box_was m c (inl found) declared holds =
        let same : c ≡ other = cc in
        record { n = n; b = b; there = at; declared = ap (λ (d : BoxC). d.declaration) (sym same) ∙ declared; holds = before (subst (P new) same holds) }
    box_was m c (inr was) declared holds = record { n = m; b = c; there = was; declared = declared; holds = own c (formed.boxes m c was) holds }

    of_box : OfBox new P declaration → OfBox core P declaration
    of_box of = box_was of.n of.b (in_set core.nodes n (Rules other) of.n (Rules of.b) of.there) of.declared of.holds

  pub named_handlers : (finding : Finding) → BreaksHandlers (named_output core n rule name b (Some output)) finding → BreaksHandlers core finding
  named_handlers finding (inl (broken, of)) = inl (broken, of_box LeavesUnhandled unhandled_before own_unhandled finding.declaration of)
  named_handlers finding (inr (broken, of)) = inr (broken, of_box RaisesAgain again_before own_again finding.declaration of)
