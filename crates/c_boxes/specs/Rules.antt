-- The rules of a box: when they fit, what they do, and what they take.
use Rattle.std.specs.Prelude.{ℕ, ◌+◌, Bool, false, List, [], ◌∷◌, ◌++◌, map, Option, Some, None, slice_get, if◌then◌else◌}
use Rattle.hume_base.specs.declared.limits.TheConstants.{MAX_EXCEPTIONS}
use Rattle.hume_model.specs.declared.core_tree.BoxC.{BoxC}
use Rattle.hume_model.specs.declared.core_tree.PortC.{PortC}
use Rattle.hume_model.specs.declared.core_tree.RuleC.{RuleC}
use Rattle.hume_model.specs.declared.core_tree.Core.{Core}
use Rattle.hume_model.specs.declared.core_tree.InPat.{InPat}
use Rattle.hume_model.specs.declared.core_tree.InPat.TheVariants as position
use Rattle.hume_model.specs.declared.core_tree.PatC.{PatC}
use Rattle.hume_model.specs.Raising.{result_may_raise}
use Rattle.typed_core.specs.declared.typed_tree.TypedRule.{TypedRule}
use Rattle.c_tree.specs.declared.tree.Width.TheVariants.{W8}
use Rattle.c_tree.specs.declared.tree.CType.TheVariants as type
use Rattle.c_tree.specs.declared.tree.CExp.TheVariants as exp
use Rattle.c_names.specs.Names.{rule_name}
use Rattle.c_functions.specs.Raising.{some_below}
use Rattle.c_nets.specs.declared.inlets.Inlet.{Inlet}
use Rattle.c_nets.specs.Inlets.{is_there, oldest}
use Rattle.c_nets.specs.Nets.{input_at}
use Rattle.c_nets.specs.Taking.{handled, taken_from}
use Rattle.c_expressions.specs.declared.arms.Way.{Way}
use Rattle.c_expressions.specs.declared.made.Made.{Made}
use Rattle.c_expressions.specs.Expressions.{Scope, arm_built}
use Rattle.c_expressions.specs.Made.{code, defined, ended, made, nothing}
use Rattle.c_expressions.specs.Patterns.{Match, both, matched, matching}
use Rattle.c_analysis.specs.Targets.{Target}
use Rattle.c_boxes.specs.Results.{result_made}

-- whether a rule may raise an exception
abbrev pub rule_raises : Core → RuleC → Bool
rule_raises core rule = some_below MAX_EXCEPTIONS (λ exn. result_may_raise core exn rule.result)

abbrev pub rules_raise : Core → BoxC → List Bool
rules_raise core b = map (rule_raises core) b.rules

-- a box of the net: the number of its node, and which of its rules may raise
pub record Shown : Type 0 where
  pub number : ℕ
  pub core : BoxC
  pub raising : List Bool

abbrev pub node_of : Core → ℕ → BoxC → Shown
node_of core number b = record { number = number; core = b; raising = rules_raise core b }

-- ---- whether a rule fits

abbrev pub pattern_match : Target → PatC → Option PortC → Inlet → Match
pattern_match t pattern None inlet = matching [] []
pattern_match t pattern (Some port) inlet = matched t pattern port.ty (oldest inlet)

-- a position asks for a value on its wire, and its pattern for one that matches
abbrev pub position_match : Target → InPat → Option PortC → Inlet → Match
position_match t position.Star port inlet = matching [] []
position_match t position.AnyStar port inlet = matching [] []
position_match t position.Any port inlet = matching (is_there inlet ∷ []) []
position_match t (position.Built pattern) port inlet = both (matching (is_there inlet ∷ []) []) (pattern_match t pattern port inlet)

abbrev pub position_at : Target → InPat → Option PortC → Option Inlet → Match
position_at t it port None = matching [] []
position_at t it port (Some inlet) = position_match t it port inlet

-- the positions from a place on
abbrev pub positions_match : Target → Shown → ℕ → List InPat → Match
positions_match t node place [] = matching [] []
positions_match t node place (it ∷ others) =
    both (position_at t it (slice_get node.core.ins place) (input_at t.core t.file.names node.number node.core place))
    (positions_match t node (place + 1) others)

-- ---- what a rule does

-- the rule is a function of its own, whose exception is handled
abbrev pub called : Target → Shown → ℕ → ℕ → Made
called t node place next =
    let status = defined (type.Unsigned W8) (code [] (exp.Call (rule_name t.file.names (place + 1) node.core.name) []) next) in
    ended status.statements (handled t.file.names node.core status.exp) status.next

abbrev pub may_raise_at : Option Bool → Bool
may_raise_at None = false
may_raise_at (Some raises) = raises

abbrev pub raises_at : Shown → ℕ → Bool
raises_at node place = may_raise_at (slice_get node.raising place)

abbrev pub done : Target → Shown → Scope → ℕ → TypedRule → ℕ → Made
done t node scope place rule next = if raises_at node place then called t node place next else result_made t rule.result node.core scope next

-- what the rule takes leaves its wires behind what it does
abbrev pub fired : Target → Shown → Scope → ℕ → TypedRule → ℕ → Made
fired t node scope place rule next =
    let all = done t node scope place rule next in
    made (all.statements ++ taken_from t.core t.file.names node.number node.core 0 rule.pats) all.next

-- the tests of a rule, and what it does where all of them hold
abbrev pub rule_way : Target → Shown → ℕ → TypedRule → ℕ → Way
rule_way t node place rule next =
    let found = positions_match t node 0 rule.pats in
    record { tests = found.tests; made = fired t node found.objects place rule next }

-- the first rule that fits fires, of those from a place on
abbrev pub rules_made : Target → Shown → ℕ → List TypedRule → ℕ → Made
rules_made t node place [] next = nothing next
rules_made t node place (rule ∷ others) next =
    let way = rule_way t node place rule next in
    arm_built way.tests false way.made (rules_made t node (place + 1) others way.made.next)
