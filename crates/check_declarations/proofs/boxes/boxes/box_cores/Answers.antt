use Rattle.std.proofs.Common.{◌≡◌, ◌||◌, Bool, List, [], false, Some, sym, ap, ◌∙◌}
use Rattle.std.proofs.lemmas.Result.{err_from_is_err_and}
use Rattle.typed_core.specs.declared.typed_tree.TypedRule.{TypedRule}
use Rattle.typed_core.specs.declared.typed_tree.TypedHandler.{TypedHandler}
use Rattle.check_tasks.specs.results.ResultStates.{ResultState}
use Rattle.check_declarations.specs.boxes.inner.Rules.{together}
use Rattle.check_declarations.specs.boxes.inner.Handlers.{handlers_at}
use Rattle.check_declarations.proofs.boxes_lemmas.BoxLaws.{box_told, rules_untyped, handlers_untyped}
use Rattle.check_declarations.proofs.boxes.boxes.box_cores.Goals as goal
use Rattle.check_declarations.proofs.boxes.boxes.box_cores.Goals.{then-wide_in_rules, else-wide_in_rules}

pub returns-in_err-rules-clause-none : goal.returns-in_err-rules-clause-none
returns-in_err-rules-clause-none c =
    let p = err_from_is_err_and c.from_residual-in_err-rules.result c.from_residual-in_err-rules.ensures.1 in
    rw (p.1, p.2) (λ t. rules_untyped c.args.at.now c.enter_ports.new.at c.args.inputs.now c.args.outputs.now c.in_ok-enter_ports.ensures.ok
    c.in_ok-enter_ports.ensures.scope c.args.rules.now c.args.handlers.now (c.in_err-rules.ensures.none t))

pub returns-in_err-handlers-clause-none : goal.returns-in_err-handlers-clause-none
returns-in_err-handlers-clause-none c =
    let p = err_from_is_err_and c.from_residual-in_err-handlers.result c.from_residual-in_err-handlers.ensures.1 in
    rw (p.1, p.2) (λ t. handlers_untyped c.args.at.now c.enter_ports.new.at c.args.inputs.now c.args.outputs.now c.in_ok-enter_ports.ensures.ok
    c.in_ok-enter_ports.ensures.scope c.args.rules.now c.args.handlers.now
    (ap (λ (s : ResultState). together ([], false) (handlers_at s c.args.handlers.now)) (sym c.in_ok-rules.ensures.keeps) ∙ c.in_err-handlers.ensures.none t))

pub returns-clause-ok : goal.returns-clause-ok
returns-clause-ok c =
    let rules : List TypedRule × Bool = (c.in_ok-rules.rules, c.in_ok-rules.wide_in_rules) in
    let handlers : List TypedHandler × Bool = (c.in_ok-handlers.handlers, c.in_ok-handlers.wide_in_handlers) in
    let found = ap (λ (s : ResultState). together ([], false) (handlers_at s c.args.handlers.now)) (sym c.in_ok-rules.ensures.keeps) ∙ c.in_ok-handlers.ensures.ok in
    let too_wide : c.in_ok-rules.wide_in_rules || c.in_ok-handlers.wide_in_handlers ≡ c.if-wide_in_rules.result =
    elim c.if-wide_in_rules.branch [
      | then-wide_in_rules w ↦ ap (λ b. b || c.in_ok-handlers.wide_in_handlers) w.if-wide_in_rules.true ∙ sym (w.result-is ∙ w.if-wide_in_rules.true)
      | else-wide_in_rules w ↦ ap (λ b. b || c.in_ok-handlers.wide_in_handlers) w.if-wide_in_rules.false ∙ sym w.result-is
    ] in
    box_told c.args.at.now c.enter_ports.new.at c.args.inputs.now c.args.outputs.now c.in_ok-enter_ports.ensures.ok
    c.in_ok-enter_ports.ensures.scope c.args.rules.now c.args.handlers.now rules handlers c.in_ok-rules.ensures.ok found
    ∙ (λ i. Some (c.in_ok-rules.rules, c.in_ok-handlers.handlers, too_wide i))
