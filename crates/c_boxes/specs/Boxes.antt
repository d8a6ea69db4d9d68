-- The functions of a box: of its rules that may raise, of its handlers, of its execute step and of its super step.
use Rattle.std.specs.Prelude.{ℕ, ◌+◌, Bool, true, false, List, [], ◌∷◌, ◌++◌, codes, length, Option, Some, None, slice_get, if◌then◌else◌}
use Rattle.std.specs.List.{list_any}
use Rattle.hume_model.specs.declared.core_tree.BoxC.{BoxC}
use Rattle.hume_model.specs.declared.core_tree.ExnDef.{ExnDef}
use Rattle.typed_core.specs.declared.typed_tree.TypedRule.{TypedRule}
use Rattle.typed_core.specs.declared.typed_tree.TypedHandler.{TypedHandler}
use Rattle.c_tree.specs.declared.tree.Width.TheVariants.{W8}
use Rattle.c_tree.specs.declared.tree.Linkage.TheVariants.{Static}
use Rattle.c_tree.specs.declared.tree.Passing.TheVariants as passing
use Rattle.c_tree.specs.declared.tree.CType.{CType}
use Rattle.c_tree.specs.declared.tree.CType.TheVariants as type
use Rattle.c_tree.specs.declared.tree.CExp.{CExp}
use Rattle.c_tree.specs.declared.tree.CExp.TheVariants as exp
use Rattle.c_tree.specs.declared.tree.CStm.{CStm}
use Rattle.c_tree.specs.declared.tree.CStm.TheVariants as stm
use Rattle.c_tree.specs.declared.tree.CParameter.{CParameter}
use Rattle.c_tree.specs.declared.tree.CItem.{CItem}
use Rattle.c_tree.specs.declared.tree.CItem.TheVariants as item
use Rattle.c_names.specs.declared.names.Names.{Names}
use Rattle.c_names.specs.Names.{inner, rule_name}
use Rattle.c_forms.specs.Statements.{one_if, variable}
use Rattle.c_nets.specs.Inlets.{byte, number}
use Rattle.c_nets.specs.FairRules.{counted, i, moved_last, ordered}
use Rattle.c_nets.specs.GivenOutputs.{all_are_given}
use Rattle.c_nets.specs.Objects.{is_fair}
use Rattle.c_nets.specs.SuperSteps.{plain_function, super_function}
use Rattle.c_nets.specs.Taking.{wait}
use Rattle.c_expressions.specs.declared.arms.Way.{Way}
use Rattle.c_expressions.specs.declared.made.Made.{Made}
use Rattle.c_expressions.specs.Expressions.{Scope}
use Rattle.c_expressions.specs.Made.{made}
use Rattle.c_expressions.specs.Patterns.{conjunction}
use Rattle.c_analysis.specs.Targets.{Target}
use Rattle.c_boxes.specs.Results.{result_made}
use Rattle.c_boxes.specs.Rules.{Shown, positions_match, raises_at, rule_way, rules_made}

-- cases of a `switch`, and the first number that no name of the function has then
pub record Cases : Type 0 where
  pub cases : List (CExp × List CStm)
  pub next : ℕ

abbrev pub with_case : CExp → Made → Cases → Cases
with_case label body others = record { cases = (label, body.statements) ∷ others.cases; next = others.next }

abbrev pub no_case : ℕ → Cases
no_case next = record { cases = []; next = next }

-- ---- fair boxes

abbrev pub fired_set : CStm
fired_set = stm.Assign (exp.Name (codes "fired")) (exp.Truth true)

abbrev pub if_tests : List CExp → List CStm → List CStm
if_tests [] body = body
if_tests (test ∷ tests) body = one_if (conjunction (test ∷ tests)) body ∷ []

-- where the tests hold, the statements are made, and this is noted
abbrev pub noted : Way → Made
noted way = made (if_tests way.tests (way.made.statements ++ fired_set ∷ [])) way.made.next

-- a rule that fits fires, and this is noted
abbrev pub rule_tried : Target → Shown → ℕ → TypedRule → ℕ → Made
rule_tried t node place rule next = noted (rule_way t node place rule next)

-- the rules from a place on, each by its number
abbrev pub rule_cases : Target → Shown → ℕ → List TypedRule → ℕ → Cases
rule_cases t node place [] next = no_case next
rule_cases t node place (rule ∷ others) next =
    let body = rule_tried t node place rule next in
    with_case (number place) body (rule_cases t node (place + 1) others body.next)

-- the rule at the place `i` of the order
abbrev pub rule_defined : Target → Shown → CStm
rule_defined t node = stm.Define (variable true byte (codes "rule")) (ordered t.file.names node.core i)

-- no rule has fired yet
abbrev pub fired_defined : CStm
fired_defined = stm.Define (variable false type.Bool (codes "fired")) (exp.Truth false)

-- the rule goes behind the others if it has fired
abbrev pub moved_if_fired : Target → Shown → CStm
moved_if_fired t node = one_if (exp.Name (codes "fired")) (moved_last t.file.names node.core)

-- what is done for a place of the order
abbrev pub fair_body : Target → Shown → List (CExp × List CStm) → List CStm
fair_body t node cases =
    rule_defined t node ∷ fired_defined ∷ stm.Switch (exp.Name (codes "rule")) cases [] ∷ moved_if_fired t node ∷ []

-- of the order's rules, one after the other, the first that fits fires and goes behind the others
abbrev pub fair_rules : Target → Shown → List TypedRule → ℕ → Made
fair_rules t node rules next =
    let all = rule_cases t node 0 rules next in
    made (stm.For (counted (codes "i") (length rules)) (fair_body t node all.cases) ∷ []) all.next

-- ---- the execute step

abbrev pub first_rule : Target → Shown → List TypedRule → Made
first_rule t node rules = if is_fair node.core then fair_rules t node rules 1 else rules_made t node 0 rules 1

-- the function of the execute step: a rule fires, unless outputs wait for room
abbrev pub execute_function : Target → Shown → List TypedRule → CItem
execute_function t node rules = plain_function (inner t.file.names (codes "execute_") node.core.name)
    (wait t.file.names node.core ∷ (first_rule t node rules).statements)

-- ---- rules that may raise

abbrev pub static_function : Option CType → List ℕ → List CParameter → List CStm → CItem
static_function result name parameters body = item.Function (record {
  comment = None;
  head = record { linkage = Static; result = result; name = name; parameters = parameters };
  body = body;
})

-- the function of a rule: it returns 0, or the number of an exception
abbrev pub rule_body : Target → Shown → TypedRule → List CStm
rule_body t node rule =
    (result_made t rule.result node.core (positions_match t node 0 rule.pats).objects 1).statements ++ stm.Return (Some (number 0)) ∷ []

abbrev pub rule_function : Target → Shown → ℕ → TypedRule → CItem
rule_function t node place rule =
    static_function (Some (type.Unsigned W8)) (rule_name t.file.names (place + 1) node.core.name) [] (rule_body t node rule)

abbrev pub function_if : Bool → CItem → List CItem
function_if true it = it ∷ []
function_if false it = []

-- the functions of those rules from a place on that may raise
abbrev pub rule_functions : Target → Shown → ℕ → List TypedRule → List CItem
rule_functions t node place [] = []
rule_functions t node place (rule ∷ others) =
    function_if (raises_at node place) (rule_function t node place rule) ++ rule_functions t node (place + 1) others

-- ---- handlers

-- what an exception carries is the handler's variable, if it has one
abbrev pub carried_by : Names → ExnDef → Bool → Scope
carried_by names exn true = exp.Name (inner names (codes "raised_") exn.name) ∷ []
carried_by names exn false = []

abbrev pub handler_scope : Names → Option ExnDef → Bool → Scope
handler_scope names None bound = []
handler_scope names (Some exn) bound = carried_by names exn bound

abbrev pub handler_label : Names → Option ExnDef → CExp
handler_label names None = exp.Truth false
handler_label names (Some exn) = exp.Name (inner names (codes "RAISES_") exn.name)

-- what is done where the exception is the handler's
abbrev pub handler_body : Target → BoxC → TypedHandler → Option ExnDef → ℕ → Made
handler_body t b handler exn next = result_made t handler.result b (handler_scope t.file.names exn handler.bound) next

abbrev pub handler_cases : Target → BoxC → List TypedHandler → ℕ → Cases
handler_cases t b [] next = no_case next
handler_cases t b (handler ∷ others) next =
    let exn = slice_get t.core.exns handler.exn in
    let body = handler_body t b handler exn next in
    with_case (handler_label t.file.names exn) body (handler_cases t b others body.next)

abbrev pub exn_parameter : CParameter
exn_parameter = record { ty = type.Unsigned W8; passing = passing.Value; name = codes "exn" }

-- the function that handles what the rules raise
abbrev pub handler_function : Target → BoxC → List TypedHandler → CItem
handler_function t b handlers = static_function None (inner t.file.names (codes "handle_") b.name) (exn_parameter ∷ [])
    (stm.Switch (exp.Name (codes "exn")) (handler_cases t b handlers 1).cases [] ∷ [])

-- ---- all functions

-- the function that handles what the rules raise, if one of them may
abbrev pub handler_functions : Target → Shown → List TypedHandler → List CItem
handler_functions t node handlers = function_if (list_any (λ raises. raises) node.raising) (handler_function t node.core handlers)

-- the functions of its two steps
abbrev pub step_functions : Target → Shown → List TypedRule → List TypedHandler → List CItem
step_functions t node rules handlers =
    execute_function t node rules
    ∷ super_function t.core t.file.names node.number node.core (all_are_given rules handlers) ∷ []

-- the functions of a box
abbrev pub box_functions : Target → Shown → List TypedRule → List TypedHandler → List CItem
box_functions t node rules handlers =
    handler_functions t node handlers ++ (rule_functions t node 0 rules ++ step_functions t node rules handlers)
