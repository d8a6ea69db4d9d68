use Rattle.std.proofs.Common.{rules, ◌≡◌, ◌∙◌, IfOk}
use Rattle.std.proofs.lemmas.Result.{IfOk-weaker}
use Rattle.net_union.proofs.Unmoved.{nodes_same}
use Rattle.net_union.proofs.joining.join_nodes.Goals as goal

pub returns : goal.returns
returns c =
    let copied : IfOk c.move_nodes.result (λ copy. copy ≡ c.args.first.now) =
    IfOk-weaker c.move_nodes.result _ _ (λ copy is. is ∙ nodes_same c.args.first.now) c.move_nodes.ensures in
    search rules
