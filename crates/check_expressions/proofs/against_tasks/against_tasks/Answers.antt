use Rattle.std.proofs.Common.{◌≡◌, ◌∷◌, ap, sym, ◌∙◌, OnOk, IfErr}
use Rattle.std.proofs.lemmas.Result.{on_ok_weaker}
use Rattle.check_scopes.specs.types.Contexts.{top}
use Rattle.check_typing.specs.Partial.{given}
use Rattle.check_typing.specs.inner.Walk.{Walk, walk, case_walk}
use Rattle.check_tasks.specs.Tasks.{run, against_of, walks, arm_walks}
use Rattle.check_expressions.proofs.Opening.{case_level}
use Rattle.check_expressions.proofs.against_tasks.against_tasks.Goals as goal

pub returns-in-Case-clause-ok : goal.returns-in-Case-clause-ok
returns-in-Case-clause-ok c =
    let s = c.args.at.now.0.2 in
    let same : case_walk s (walk s c.deref-in-Case.result.now) (arm_walks s c.as_slice.result.now) ≡ walk s c.args.e.now =
    (λ i. case_walk s (walk s (c.deref-in-Case.ensures i)) (arm_walks s (c.as_slice.ensures i)))
    ∙ sym (case_level s c.in-Case.a c.in-Case.arms) ∙ ap (walk s) (sym c.in-Case.is) in
    on_ok_weaker c.case_against.result (λ h. h c.args.at.now ∙ ap (λ (w : Walk). given (against_of (w.against c.args.at.now.0.0 (top c.args.at.now.0.1)) c.args.at.now) (run c.args.tasks.now)) same) c.case_against.ensures.ok
