use Rattle.std.proofs.Common.{sym, ap, ◌∙◌}
use Rattle.check_tasks.specs.States.{State}
use Rattle.check_declarations.specs.functions.inner.Functions.{with_signature}
use Rattle.check_declarations.proofs.functions_lemmas.SignatureLaws.{signature_pushed, parameters_missing, given_type_missing}
use Rattle.check_declarations.proofs.functions.signature.push_signature.Goals as goal

pub returns-then-not-branch-clause-none : goal.returns-then-not-branch-clause-none
returns-then-not-branch-clause-none c =
    let cores = c.at.inside.builder in
    let state : State = (c.at.inside.environment, cores.0, cores.1, cores.2) in
    λ t. ap (with_signature c.args.types.now) (sym c.at.view_is)
    ∙ parameters_missing state c.args.types.now c.in-Some.params.now c.in-Some.gives.now c.in-Some.ensures.cases.0
    (c.in_ok-push_written_tuple.ensures.none c.if-not-branch.true)

pub returns-then-not-branch-2-clause-none : goal.returns-then-not-branch-2-clause-none
returns-then-not-branch-2-clause-none c =
    let cores = c.at.inside.builder in
    let state : State = (c.at.inside.environment, cores.0, cores.1, cores.2) in
    λ t. ap (with_signature c.args.types.now) (sym c.at.view_is)
    ∙ given_type_missing state c.args.types.now c.in-Some.params.now c.in-Some.gives.now c.in-Some.ensures.cases.0
    c.push_written_tuple.new.self (c.in_ok-push_written_tuple.ensures.pushed c.if-not-branch.false)
    (c.in_ok-push_written.ensures.none c.if-not-branch-2.true)

pub returns-clause-ok : goal.returns-clause-ok
returns-clause-ok c =
    let cores = c.at.inside.builder in
    let state : State = (c.at.inside.environment, cores.0, cores.1, cores.2) in
    ap (with_signature c.args.types.now) (sym c.at.view_is)
    ∙ signature_pushed state c.args.types.now c.in-Some.params.now c.in-Some.gives.now c.in-Some.ensures.cases.0
    c.push_written_tuple.new.self c.push_written.new.self (c.in_ok-push_written_tuple.ensures.pushed c.if-not-branch.false)
    (c.in_ok-push_written.ensures.pushed c.if-not-branch-2.false)
