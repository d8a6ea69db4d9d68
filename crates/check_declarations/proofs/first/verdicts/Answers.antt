use Rattle.std.proofs.Common.{[], ap, subst, ◌∙◌}
use Rattle.std.specs.Prelude.{IfOk}
use Rattle.check_typing.specs.declared.signatures.Signatures.{Signatures}
use Rattle.check_tasks.specs.results.ResultStates.{ResultState}
use Rattle.check_declarations.specs.inner.Verdicts.{AreVerdicts}
use Rattle.check_declarations.proofs.first.verdicts.Goals as goal

pub returns : goal.returns
returns c =
    let state = c.new-at.ensures ∙ (λ i. (c.in_ok-plain.ensures i, [], [], [])) in
    subst (λ (signatures : Signatures). IfOk c.verdicts_by-found.result (AreVerdicts signatures c.args.decls.now))
    (ap (λ (state : ResultState). state.0.0.2) state) c.verdicts_by-found.ensures
