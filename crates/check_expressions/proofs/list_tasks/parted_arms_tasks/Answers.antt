use Rattle.std.proofs.Common.{◌≡◌, length, refl, ap, ◌∙◌}
use Rattle.check_tasks.specs.States.{State}
use Rattle.check_tasks.specs.Tasks.{run}
use Rattle.check_tasks.proofs.WholeLaws.{own_arms_split}
use Rattle.check_expressions.proofs.Forms.{comes_to}
use Rattle.check_expressions.proofs.PlanLists.{arms_split_plan}
use Rattle.check_expressions.proofs.list_tasks.parted_arms_tasks.Goals as goal

pub returns-clause-ok : goal.returns-clause-ok
returns-clause-ok c =
    let st : State = c.args.at.now in
    let place = length c.args.front.now in
    let count : c.variables-count.result ≡ length st.0.0 = c.variables-count.ensures ∙ ap (λ (s : State). length s.0.0) c.at.view_is in
    comes_to c.first.result c.first.new.tasks (arms_split_plan c.args.pattern c.args.body c.variables-count.result c.args.front place c.args.behind)
    c.args.tasks.now st _
    (ap (λ n. run (arms_split_plan c.args.pattern c.args.body n c.args.front place c.args.behind) st) count
    ∙ own_arms_split st c.args.arms c.args.front c.args.behind c.args.pattern c.args.body place c.requires.whole refl c.requires.all_open c.requires.is_closed)
    c.first.ensures.ok
