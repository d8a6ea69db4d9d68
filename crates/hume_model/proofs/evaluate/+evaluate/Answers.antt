use Rattle.std.proofs.Common.{◌≡◌, ◌∙◌, ◌+◌, ◌<◌, Some, slice_get, ap, map, arith, rules}
use Rattle.hume_model.specs.Outcomes.{and_then}
use Rattle.hume_model.specs.Meaning.{eval_with, call_below, first_arm}
use Rattle.hume_model.specs.inner.Arms.{arm_with}
use Rattle.hume_model.proofs.Ranks.{rank, equations_size, rank-falls}
use Rattle.hume_model.proofs.Evaluation.{eval-case}
use Rattle.hume_model.proofs.evaluate.+evaluate.Goals as goal

pub call-eval_equations-requires : goal.call-eval_equations-requires
call-eval_equations-requires t c =
    let found : slice_get c.args.core.now.funs c.args.function ≡ Some c.in-Some.function.now = search rules in
    let falls : rank c.args.core.now c.args.function + equations_size c.in-Some.function.now.equations + 1 < rank c.args.core.now c.args.bound = rank-falls _ _ _ _ found (omega arith) in
    (rw c.as_slice.ensures (omega arith), tt)

pub eval_below-returns-in-Case : goal.eval_below-returns-in-Case
eval_below-returns-in-Case t c =
    let meaning = eval_with (call_below c.args.core.now c.args.bound) in
    let whole : meaning c.args.e.now c.args.env.now ≡ and_then (meaning c.in-Case.part c.args.env.now) (λ v. first_arm (map (arm_with meaning) c.in-Case.arms) v c.args.env.now) =
    ap (λ x. meaning x c.args.env.now) c.in-Case.is ∙ eval-case (call_below c.args.core.now c.args.bound) c.in-Case.part c.in-Case.field-1 c.in-Case.arms c.args.env.now in
    rw (whole, ← c.deref-in-Case.ensures, ← c.as_slice-in-Case.ensures) c.eval_case.ensures
