use Rattle.std.proofs.Common.{◌≡◌, ◌∙◌, ap, map}
use Rattle.hume_model.specs.Outcomes.{then_outputs}
use Rattle.hume_model.specs.Results.{result_of, first_result, meaning_in}
use Rattle.hume_model.specs.inner.Arms.{result_arm_with}
use Rattle.hume_model.proofs.Evaluation.{result-case}
use Rattle.hume_model.proofs.results.+outputs.Goals as goal

pub outputs_of-returns-in-Case : goal.outputs_of-returns-in-Case
outputs_of-returns-in-Case t c =
    let core = c.args.core.now in
    let whole : result_of core c.args.env.now c.args.res.now ≡ then_outputs (meaning_in core c.in-Case.part c.args.env.now) (λ v. first_result (map (result_arm_with (λ res env. result_of core env res)) c.in-Case.arms) v c.args.env.now) =
    ap (λ x. result_of core c.args.env.now x) c.in-Case.is ∙ result-case core c.in-Case.part c.in-Case.field-1 c.in-Case.arms c.args.env.now in
    rw (whole, ← c.as_slice-in-Case.ensures) c.case_outputs.ensures
