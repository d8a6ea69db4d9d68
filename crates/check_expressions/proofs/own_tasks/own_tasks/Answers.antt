use Rattle.std.proofs.Common.{◌≡◌, ◌≤◌, ◌∷◌, List, length, None, ap, sym, subst, ◌∙◌, OnOk, IfErr}
use Rattle.std.proofs.lemmas.Result.{on_ok_weaker}
use Rattle.check_typing.specs.Partial.{given}
use Rattle.check_typing.specs.inner.Walk.{Walk, walk, case_walk, app_walk}
use Rattle.check_tasks.specs.Tasks.{run, own_of, walks, arm_walks}
use Rattle.hume_ast.specs.declared.tree.Exp.{Exp}
use Rattle.check_expressions.specs.declared.stop.Stop.TheVariants.{NoType}
use Rattle.check_expressions.proofs.Forms.{other_reason}
use Rattle.check_expressions.proofs.Found.{nonempty}
use Rattle.check_expressions.proofs.Opening.{case_level, app_level}
use Rattle.check_expressions.proofs.own_tasks.own_tasks.Goals as goal

pub returns-in-Case-clause-ok : goal.returns-in-Case-clause-ok
returns-in-Case-clause-ok c =
    let s = c.args.at.now.0.2 in
    let same : case_walk s (walk s c.deref-in-Case.result.now) (arm_walks s c.as_slice.result.now) ≡ walk s c.args.e.now =
    (λ i. case_walk s (walk s (c.deref-in-Case.ensures i)) (arm_walks s (c.as_slice.ensures i)))
    ∙ sym (case_level s c.in-Case.a c.in-Case.arms) ∙ ap (walk s) (sym c.in-Case.is) in
    on_ok_weaker c.case_own.result (λ h. h c.args.at.now ∙ ap (λ (w : Walk). given (own_of (w.own c.args.at.now.0.0) c.args.at.now) (run c.args.tasks.now)) same) c.case_own.ensures.ok

pub returns-in-len1-up-clause-ok : goal.returns-in-len1-up-clause-ok
returns-in-len1-up-clause-ok c =
    let s = c.args.at.now.0.2 in
    let parts = c.as_slice-in-len1-up.result.now in
    let some = nonempty parts (subst (λ (xs : List Exp). 1 ≤ length xs) (c.as_slice-in-App.ensures ∙ sym c.as_slice-in-len1-up.ensures) c.in-len1-up.len_at_least) in
    let same : app_walk s c.in-App.name (walks s parts) ≡ walk s c.args.e.now =
    (λ i. app_walk s c.in-App.name (walks s (c.as_slice-in-len1-up.ensures i)))
    ∙ sym (app_level s c.in-App.name c.in-App.parts) ∙ ap (walk s) (sym c.in-App.is) in
    on_ok_weaker c.call_own.result (λ h. h ∙ ap (λ (w : Walk). given (own_of (w.own c.args.at.now.0.0) c.args.at.now) (run c.args.tasks.now)) same)
    (c.call_own.ensures.ok some.first some.rest some.is)

pub returns-in-len1-up-clause-none : goal.returns-in-len1-up-clause-none
returns-in-len1-up-clause-none c =
    let s = c.args.at.now.0.2 in
    let parts = c.as_slice-in-len1-up.result.now in
    let some = nonempty parts (subst (λ (xs : List Exp). 1 ≤ length xs) (c.as_slice-in-App.ensures ∙ sym c.as_slice-in-len1-up.ensures) c.in-len1-up.len_at_least) in
    let same : app_walk s c.in-App.name (walks s parts) ≡ walk s c.args.e.now =
    (λ i. app_walk s c.in-App.name (walks s (c.as_slice-in-len1-up.ensures i)))
    ∙ sym (app_level s c.in-App.name c.in-App.parts) ∙ ap (walk s) (sym c.in-App.is) in
    other_reason c.call_own.result (λ stop. stop ≡ NoType → (app_walk s c.in-App.name (walks s parts)).own c.args.at.now.0.0 ≡ None)
    (λ stop. stop ≡ NoType → (walk s c.args.e.now).own c.args.at.now.0.0 ≡ None)
    (λ stop h eq. ap (λ (w : Walk). w.own c.args.at.now.0.0) (sym same) ∙ h eq) (c.call_own.ensures.none some.first some.rest some.is)
