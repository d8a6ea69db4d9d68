-- The least rule of wires, exceptions, heap, stack and work that a core breaks, or none, can be found out.
use Rattle.std.proofs.Common.{◌≡◌, ℕ, zero, suc, ◌+◌, ◌<◌, inl, inr, Bool, true, false, List, [], ◌∷◌, Option, Some, None, length, slice_get, refl, sym, ap, subst, ◌∙◌, arith}
use Rattle.std.proofs.lemmas.Bool.{cases_eq}
use Rattle.hume_base.specs.declared.limits.TheConstants.{MAX_HEAP_WORDS, MAX_STACK_WORDS, MAX_SPACE_WORDS, MAX_WORK}
use Rattle.hume_base.specs.declared.types.Ty.{Ty}
use Rattle.hume_base.specs.declared.rule.Rule.{Rule}
use Rattle.hume_base.specs.declared.rule.Rule.TheVariants.{C50, C51, C52, C53, C54, C60, C61, C75, C76, C78, C79}
use Rattle.hume_base.specs.Least.{OfRule}
use Rattle.hume_model.specs.declared.core_tree.RuleC.{RuleC}
use Rattle.hume_model.specs.declared.core_tree.HandC.{HandC}
use Rattle.hume_model.specs.declared.core_tree.BoxC.{BoxC}
use Rattle.hume_model.specs.declared.core_tree.NodeC.{NodeC}
use Rattle.hume_model.specs.declared.core_tree.NodeC.TheVariants.{Rules, From, To}
use Rattle.hume_model.specs.declared.core_tree.WireC.{WireC}
use Rattle.hume_model.specs.declared.core_tree.Core.{Core}
use Rattle.hume_model.specs.Declarations.{declaration_of}
use Rattle.hume_model.specs.Wiring.{inputs_of, outputs_of, leads_to, comes_from}
use Rattle.hume_model.specs.WireEnds.{output_type, input_type}
use Rattle.hume_model.specs.WireRules.{BreaksWires, LacksInput, LacksOutput, NoWire, ComesAfter, RepeatsInput, RepeatsOutput, Differ, JoinsOthers}
use Rattle.hume_model.specs.Raising.{result_may_raise}
use Rattle.hume_model.specs.HandlerRules.{BreaksHandlers, OfBox, LeavesUnhandled, RaisesAgain, has_handler}
use Rattle.box_costs.specs.CostRules.{BreaksCosts, OfNode, HeapPasses, StackPasses, SpacePasses, WorkPasses, node_bound, space_before, space_of}
use Rattle.wiring_check.proofs.SameTypes.{type_known}
use Rattle.hume_check.proofs.fine_lemmas.Decided.{Decided, decided_true, decided_false, decided_as, decided_both, decided_not, decided_le, decided_lt, decided_below, decided_some, HasLeast, least_of_rule, least_of_two}

-- a bound above what is measured of each element
above_all : {A : Type 0} (measure : A → ℕ) (xs : List A) → (bound : ℕ) × ((i : ℕ) (x : A) → slice_get xs i ≡ Some x → measure x < bound)
above_all measure [] = (0, λ i x at. cc)
above_all {A} measure (x ∷ xs) = let rest = above_all measure xs in (suc (measure x + rest.0), by rest.0 rest.1)
  where
    by : (bound : ℕ) → ((i : ℕ) (y : A) → slice_get xs i ≡ Some y → measure y < bound) → (i : ℕ) (y : A) → slice_get (x ∷ xs) i ≡ Some y → measure y < suc (measure x + bound)
    by bound each zero y at = let same : x ≡ y = cc in subst (λ z. measure z < suc (measure x + bound)) same (omega arith)
    by bound each (suc i) y at = omega (arith, each i y at)

-- what a place of a list holds, if anything
at_place : {A : Type 0} (P : A → Type 0) (o : Option A) → ((x : A) → Decided (P x)) → Decided ((x : A) × (o ≡ Some x) × P x)
at_place P None d = inr (λ h. let there = h.1 in cc)
at_place {A} P (Some x) d = decided_as (λ p. (x, refl, p)) (λ h. by h.0 h.1 h.2) (d x)
  where
    by : (y : A) → Some x ≡ Some y → P y → P x
    by y same p = let e : y ≡ x = cc in subst P e p

module _ (core : Core) where
  nodes_below : (bound : ℕ) × ((n : ℕ) (node : NodeC) → slice_get core.nodes n ≡ Some node → declaration_of node < bound)
  nodes_below = above_all declaration_of core.nodes

  wires_below : (bound : ℕ) × ((w : ℕ) (wire : WireC) → slice_get core.wires w ≡ Some wire → wire.declaration < bound)
  wires_below = above_all (λ (wire : WireC). wire.declaration) core.wires

  -- a rule that nodes break, and one that wires break
  node_rule : (rule : Rule) (Broken : ℕ → Type 0) (P : ℕ → NodeC → Type 0) → ((n : ℕ) (node : NodeC) → Decided (P n node))
      → ((d n : ℕ) (node : NodeC) → slice_get core.nodes n ≡ Some node → declaration_of node ≡ d → P n node → Broken d)
      → ((d : ℕ) → Broken d → (n : ℕ) × (node : NodeC) × (slice_get core.nodes n ≡ Some node) × ((declaration_of node ≡ d) × P n node)) → HasLeast (OfRule rule Broken)
  node_rule rule Broken P decided to from = least_of_rule rule Broken nodes_below.0
      (λ d. decided_as (λ h. to d h.0 h.1 h.2 h.3.0 h.3.1) (from d)
      (decided_some (λ n node. (declaration_of node ≡ d) × P n node) core.nodes (λ n node. decided_both (cases_eq (declaration_of node) d) (decided n node))))
      (λ d h. (let f = from d h in subst (λ k. k < nodes_below.0) f.3.0 (nodes_below.1 f.0 f.1 f.2)))

  wire_rule : (rule : Rule) (Broken : ℕ → Type 0) (P : ℕ → WireC → Type 0) → ((w : ℕ) (wire : WireC) → Decided (P w wire))
      → ((d w : ℕ) (wire : WireC) → slice_get core.wires w ≡ Some wire → wire.declaration ≡ d → P w wire → Broken d)
      → ((d : ℕ) → Broken d → (w : ℕ) × (wire : WireC) × (slice_get core.wires w ≡ Some wire) × ((wire.declaration ≡ d) × P w wire)) → HasLeast (OfRule rule Broken)
  wire_rule rule Broken P decided to from = least_of_rule rule Broken wires_below.0
      (λ d. decided_as (λ h. to d h.0 h.1 h.2 h.3.0 h.3.1) (from d)
      (decided_some (λ w (wire : WireC). (wire.declaration ≡ d) × P w wire) core.wires (λ w wire. decided_both (cases_eq wire.declaration d) (decided w wire))))
      (λ d h. (let f = from d h in subst (λ k. k < wires_below.0) f.3.0 (wires_below.1 f.0 f.1 f.2)))

  -- wires

  no_wire : (test : WireC → Bool) → Decided (NoWire test core.wires)
  no_wire test = decided_as (λ none w wire at passes. none (w, wire, at, passes)) (λ none h. none h.0 h.1 h.2 h.3)
      (decided_not (decided_some (λ w wire. test wire ≡ true) core.wires (λ w wire. decided_true (test wire))))

  comes_after : (test : WireC → Bool) (w : ℕ) → Decided (ComesAfter test core.wires w)
  comes_after test w = decided_as (λ h. record { x = h.0; earlier = h.1; there = h.2; before = h.3.0; passes = h.3.1 }) (λ h. (h.x, h.earlier, h.there, (h.before, h.passes)))
      (decided_some (λ x wire. (x < w) × (test wire ≡ true)) core.wires (λ x wire. decided_both (decided_lt x w) (decided_true (test wire))))

  differ : (first second : Option Ty) → Decided (Differ first second)
  differ None None = inl tt
  differ None (Some u) = inr (λ h. h)
  differ (Some t) None = inr (λ h. h)
  differ (Some t) (Some u) = decided_not (type_known t u)

  lacks_input : HasLeast (OfRule C50 (LacksInput core))
  lacks_input = node_rule C50 (LacksInput core) (λ n node. (input : ℕ) × (input < inputs_of node) × NoWire (leads_to n input) core.wires)
      (λ n node. decided_below (λ input. NoWire (leads_to n input) core.wires) (λ input. no_wire (leads_to n input)) (inputs_of node))
      (λ d n node at is h. record { n = n; node = node; there = at; declared = is; input = h.0; within = h.1; none = h.2 })
      (λ d h. (h.n, h.node, h.there, (h.declared, (h.input, h.within, h.none))))

  lacks_output : HasLeast (OfRule C52 (LacksOutput core))
  lacks_output = node_rule C52 (LacksOutput core) (λ n node. (output : ℕ) × (output < outputs_of node) × NoWire (comes_from n output) core.wires)
      (λ n node. decided_below (λ output. NoWire (comes_from n output) core.wires) (λ output. no_wire (comes_from n output)) (outputs_of node))
      (λ d n node at is h. record { n = n; node = node; there = at; declared = is; output = h.0; within = h.1; none = h.2 })
      (λ d h. (h.n, h.node, h.there, (h.declared, (h.output, h.within, h.none))))

  repeats_input : HasLeast (OfRule C51 (RepeatsInput core))
  repeats_input = wire_rule C51 (RepeatsInput core) (λ w (wire : WireC). ComesAfter (leads_to wire.to wire.to_port) core.wires w)
      (λ w wire. comes_after (leads_to wire.to wire.to_port) w)
      (λ d w wire at is h. record { w = w; wire = wire; there = at; declared = is; after = h }) (λ d h. (h.w, h.wire, h.there, (h.declared, h.after)))

  repeats_output : HasLeast (OfRule C53 (RepeatsOutput core))
  repeats_output = wire_rule C53 (RepeatsOutput core) (λ w (wire : WireC). ComesAfter (comes_from wire.from wire.from_port) core.wires w)
      (λ w wire. comes_after (comes_from wire.from wire.from_port) w)
      (λ d w wire at is h. record { w = w; wire = wire; there = at; declared = is; after = h }) (λ d h. (h.w, h.wire, h.there, (h.declared, h.after)))

  joins_others : HasLeast (OfRule C54 (JoinsOthers core))
  joins_others = wire_rule C54 (JoinsOthers core)
      (λ w (wire : WireC). (producer : NodeC) × (slice_get core.nodes wire.from ≡ Some producer)
      × ((consumer : NodeC) × (slice_get core.nodes wire.to ≡ Some consumer) × Differ (output_type producer wire.from_port) (input_type consumer wire.to_port)))
      (λ w wire. at_place _ (slice_get core.nodes wire.from) (λ producer. at_place _ (slice_get core.nodes wire.to)
      (λ consumer. differ (output_type producer wire.from_port) (input_type consumer wire.to_port))))
      (λ d w wire at is h. record { w = w; wire = wire; there = at; declared = is; producer = h.0; from = h.1; consumer = h.2.0; to = h.2.1; differ = h.2.2 })
      (λ d h. (h.w, h.wire, h.there, (h.declared, (h.producer, h.from, (h.consumer, h.to, h.differ)))))

  pub least_wire : HasLeast (BreaksWires core)
  least_wire = least_of_two lacks_input (least_of_two repeats_input (least_of_two lacks_output (least_of_two repeats_output joins_others)))

  -- exceptions

  is_box : (P : BoxC → Type 0) → ((b : BoxC) → Decided (P b)) → (node : NodeC) → Decided ((b : BoxC) × (node ≡ Rules b) × P b)
  is_box P d (From stream) = inr (λ h. let is = h.1 in cc)
  is_box P d (To stream) = inr (λ h. let is = h.1 in cc)
  is_box P d (Rules b) = decided_as (λ p. (b, refl, p)) (λ h. (let is = h.1 in let same : h.0 ≡ b = cc in subst P same h.2)) (d b)

  box_rule : (rule : Rule) (P : Core → BoxC → Type 0) → ((b : BoxC) → Decided (P core b)) → HasLeast (OfRule rule (OfBox core P))
  box_rule rule P d = node_rule rule (OfBox core P) (λ n node. (b : BoxC) × (node ≡ Rules b) × P core b) (λ n node. is_box (P core) d node)
      (λ e n node at is h. record { n = n; b = h.0; there = at ∙ ap (λ x. Some x) h.1; declared = ap declaration_of (sym h.1) ∙ is; holds = h.2 })
      (λ e h. (h.n, Rules h.b, h.there, (h.declared, (h.b, refl, h.holds))))

  leaves_unhandled : (b : BoxC) → Decided (LeavesUnhandled core b)
  leaves_unhandled b = decided_as
      (λ h. record { number = h.0; rule = h.1; there = h.2; exn = h.3.0; known = h.3.1; raises = h.3.2.0; unhandled = h.3.2.1 })
      (λ h. (h.number, h.rule, h.there, (h.exn, h.known, (h.raises, h.unhandled))))
      (decided_some (λ number (rule : RuleC). (exn : ℕ) × (exn < length core.exns) × ((result_may_raise core exn rule.result ≡ true) × (has_handler b.handlers exn ≡ false))) b.rules
      (λ number rule. decided_below (λ exn. (result_may_raise core exn rule.result ≡ true) × (has_handler b.handlers exn ≡ false))
      (λ exn. decided_both (decided_true (result_may_raise core exn rule.result)) (decided_false (has_handler b.handlers exn))) (length core.exns)))

  raises_again : (b : BoxC) → Decided (RaisesAgain core b)
  raises_again b = decided_as
      (λ h. record { number = h.0; handler = h.1; there = h.2; exn = h.3.0; known = h.3.1; raises = h.3.2 })
      (λ h. (h.number, h.handler, h.there, (h.exn, h.known, h.raises)))
      (decided_some (λ number (handler : HandC). (exn : ℕ) × (exn < length core.exns) × (result_may_raise core exn handler.result ≡ true)) b.handlers
      (λ number handler. decided_below (λ exn. result_may_raise core exn handler.result ≡ true) (λ exn. decided_true (result_may_raise core exn handler.result)) (length core.exns)))

  pub least_handler : HasLeast (BreaksHandlers core)
  least_handler = least_of_two (box_rule C60 LeavesUnhandled leaves_unhandled) (box_rule C61 RaisesAgain raises_again)

  -- heap, stack and work

  bound_rule : (rule : Rule) (P : Core → ℕ → NodeC → Type 0) → ((n : ℕ) (node : NodeC) → Decided (P core n node)) → HasLeast (OfRule rule (OfNode core P))
  bound_rule rule P d = node_rule rule (OfNode core P) (P core) d
      (λ e n node at is h. record { n = n; node = node; there = at; declared = is; holds = h }) (λ e h. (h.n, h.node, h.there, (h.declared, h.holds)))

  space_passes : (n : ℕ) (node : NodeC) → Decided (SpacePasses core n node)
  space_passes n node = decided_as (λ h. record { before = h.0; through = h.1 }) (λ h. (h.before, h.through))
      (decided_both (decided_le (space_before core n) MAX_SPACE_WORDS) (decided_lt MAX_SPACE_WORDS (space_before core n + space_of (node_bound core node))))

  pub least_cost : HasLeast (BreaksCosts core)
  least_cost = least_of_two (bound_rule C75 HeapPasses (λ n node. decided_lt MAX_HEAP_WORDS (node_bound core node).heap))
      (least_of_two (bound_rule C76 StackPasses (λ n node. decided_lt MAX_STACK_WORDS (node_bound core node).stack))
      (least_of_two (bound_rule C78 SpacePasses space_passes) (bound_rule C79 WorkPasses (λ n node. decided_lt MAX_WORK (node_bound core node).work))))
