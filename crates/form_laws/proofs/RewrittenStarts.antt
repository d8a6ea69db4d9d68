-- The net of the core that a script makes starts as that of the first core.
use Rattle.std.proofs.Common.{◌≡◌, ℕ, zero, suc, ◌+◌, ◌||◌, nat_lt, Bool, true, false, List, [], ◌∷◌, map, length, Option, Some, None, Result, Ok, Err, slice_get, slice_set, refl, ap, sym, ◌∙◌, if◌then◌else◌}
use Rattle.std.specs.List.{range_with_len}
use Rattle.std.specs.Option.{option_to_list}
use Rattle.std.proofs.lemmas.List.{length-map}
use Rattle.hume_base.specs.declared.types.Value.{Value}
use Rattle.hume_model.specs.declared.core_tree.BoxC.{BoxC}
use Rattle.hume_model.specs.declared.core_tree.NodeC.{NodeC}
use Rattle.hume_model.specs.declared.core_tree.NodeC.TheVariants.{Rules}
use Rattle.hume_model.specs.declared.core_tree.RuleC.{RuleC}
use Rattle.hume_model.specs.declared.core_tree.Core.{Core}
use Rattle.hume_net.specs.Sides.{numbered}
use Rattle.hume_net.specs.Start.{start, written_order}
use Rattle.calculus_laws.specs.declared.step.CalcError.{CalcError}
use Rattle.calculus_laws.specs.declared.step.Step.{Step}
use Rattle.calculus_laws.specs.declared.step.Step.TheVariants.{Name, Swap, Unfold}
use Rattle.calculus_laws.specs.Boxes.{box_at, without_rules}
use Rattle.calculus_laws.specs.Naming.{OnlyOutput, named_output, output_at}
use Rattle.calculus_laws.specs.Steps.{node_of, refusal, rewritten, rewritten_at, rewritten_box}
use Rattle.calculus_laws.specs.Unfolding.{unfolded_at, unfolded_core}
use Rattle.calculus_laws.proofs.ChangedBox.{box_there, length-set_node}
use Rattle.calculus_laws.proofs.Exchanged.{length-exchanged}
use Rattle.box_calculus.specs.declared.scripts.ScriptError.{ScriptError}
use Rattle.box_calculus.specs.declared.scripts.ScriptError.TheVariants.{Bad, Refused}
use Rattle.box_calculus.specs.declared.scripts.TheConstants.{MAX_SCRIPT_LINES, MAX_SCRIPT_LINE_BYTES}
use Rattle.box_calculus.specs.Kept.{HasSameNet}
use Rattle.box_calculus.specs.Lines.{step_of}
use Rattle.box_calculus.specs.Scripts.{line_made, line_scripted, lines_scripted, made_unless, script_lines, scripted, then_lines}

-- each box has as many rules in the one core as in the other
abbrev pub SameOrders : Core → Core → Type 0
SameOrders core new = map written_order new.nodes ≡ map written_order core.nodes

-- steps

same_set : (nodes : List NodeC) (n : ℕ) (old new : NodeC) → slice_get nodes n ≡ Some old → written_order new ≡ written_order old
    → map written_order (slice_set nodes n new) ≡ map written_order nodes
same_set [] n old new at same = refl
same_set (node ∷ nodes) zero old new at same =
    (let is : node ≡ old = cc in ap (λ order. order ∷ map written_order nodes) (same ∙ ap written_order (sym is)))
same_set (node ∷ nodes) (suc n) old new at same = ap (λ orders. written_order node ∷ orders) (same_set nodes n old new at same)

-- a box gets other rules, as many as it has
changed : (core : Core) (n : ℕ) (b : BoxC) (rules : List RuleC) → box_at core n ≡ Some b → length rules ≡ length b.rules
    → map written_order (slice_set core.nodes n (Rules (record b { rules = rules }))) ≡ map written_order core.nodes
changed core n b rules there count = same_set core.nodes n (Rules b) _ (box_there core n b there) (ap (range_with_len 0) count)

unfolded_orders : (core : Core) (node rule : ℕ) (b : BoxC) → box_at core node ≡ Some b → (o : Option RuleC)
    → SameOrders core (unfolded_core core node rule b o)
unfolded_orders core node rule b there None = refl
unfolded_orders core node rule b there (Some new) = changed core node b _ there (length-set_node b.rules rule new)

named_orders : (core : Core) (node rule : ℕ) (name : List ℕ) (b : BoxC) → box_at core node ≡ Some b → (o : Option OnlyOutput)
    → SameOrders core (named_output core node rule name b o)
named_orders core node rule name b there None = refl
named_orders core node rule name b there (Some output) = changed core node b _ there (length-set_node b.rules rule _)

box_orders : (core : Core) (step : Step) (b : BoxC) → box_at core (node_of step) ≡ Some b → SameOrders core (rewritten_box core step b)
box_orders core (Unfold node rule) b there = unfolded_orders core node rule b there (unfolded_at core b rule)
box_orders core (Swap node rule) b there = changed core node b _ there (length-exchanged rule b.rules)
box_orders core (Name node rule name) b there = named_orders core node rule name b there (output_at b rule)

at_orders : (core : Core) (step : Step) (o : Option BoxC) → box_at core (node_of step) ≡ o → SameOrders core (rewritten_at core step o)
at_orders core step None there = refl
at_orders core step (Some b) there = box_orders core step b there

step_orders : (core : Core) (step : Step) → SameOrders core (rewritten core step)
step_orders core step = at_orders core step (box_at core (node_of step)) refl

-- scripts

ok_same : {X E : Type 0} (x y : X) → ◌≡◌ {A = Result X E} (Ok x) (Ok y) → x ≡ y
ok_same x y is = (let same : x ≡ y = cc in same)

no_ok : {X E : Type 0} (e : E) (x : X) → ◌≡◌ {A = Result X E} (Err e) (Ok x) → ⊥
no_ok e x is = cc

made_orders : (number : ℕ) (core new : Core) (step : Step) (cause : Option CalcError) → made_unless number core step cause ≡ Ok new → SameOrders core new
made_orders number core new step None made =
    ap (λ (c : Core). map written_order c.nodes) (sym (ok_same (rewritten core step) new made)) ∙ step_orders core step
made_orders number core new step (Some cause) made = absurd (no_ok (Refused cause number) new made)

asked_orders : (number : ℕ) (core new : Core) (asked : Option Step) → line_made number core asked ≡ Ok new → SameOrders core new
asked_orders number core new None made = absurd (no_ok (Bad number) new made)
asked_orders number core new (Some step) made = made_orders number core new step (refusal core step) made

line_orders : (number : ℕ) (core new : Core) (line : List ℕ) → line_scripted number core line ≡ Ok new → SameOrders core new
line_orders number core new line made = by (nat_lt MAX_SCRIPT_LINES number || nat_lt MAX_SCRIPT_LINE_BYTES (length line)) made
  where
    by : (bad : Bool) → (if bad then Err (Bad number) else line_made number core (step_of core line)) ≡ Ok new → SameOrders core new
    by true made = absurd (no_ok (Bad number) new made)
    by false made = asked_orders number core new (step_of core line) made

first_orders : (core new : Core) (o : Result Core ScriptError) (next : Core → Result Core ScriptError) → ((mid : Core) → o ≡ Ok mid → SameOrders core mid)
    → ((mid : Core) → next mid ≡ Ok new → SameOrders mid new) → then_lines o next ≡ Ok new → SameOrders core new
first_orders core new (Err error) next first others made = absurd (no_ok error new made)
first_orders core new (Ok mid) next first others made = others mid made ∙ first mid refl

lines_orders : (number : ℕ) (core new : Core) (lines : List (List ℕ)) → lines_scripted number core lines ≡ Ok new → SameOrders core new
lines_orders number core new [] made = ap (λ (c : Core). map written_order c.nodes) (sym (ok_same core new made))
lines_orders number core new (line ∷ lines) made =
    first_orders core new (line_scripted number core line) (λ mid. lines_scripted (number + 1) mid lines) (λ mid is. line_orders number core mid line is)
    (λ mid is. lines_orders (number + 1) mid new lines is) made

pub script_orders : (core new : Core) (script : List ℕ) → scripted core script ≡ Ok new → SameOrders core new
script_orders core new script made = lines_orders 1 core new (script_lines script) made

-- starts

pub same_count : (core new : Core) → HasSameNet core new → length new.nodes ≡ length core.nodes
same_count core new net = sym (length-map new.nodes without_rules) ∙ ap length net.nodes ∙ length-map core.nodes without_rules

pub same_start : (core new : Core) → HasSameNet core new → SameOrders core new → (coming : List (List Value)) → start new coming ≡ start core coming
same_start core new net orders coming =
    let count : length new.nodes ≡ length core.nodes = same_count core new net in
    λ i. record {
      wires = map (λ wire. option_to_list wire.initial) (net.wires i);
      pending = numbered (count i) (λ node. None);
      orders = orders i;
      coming = coming;
      taken = numbered (count i) (λ node. []);
    }
