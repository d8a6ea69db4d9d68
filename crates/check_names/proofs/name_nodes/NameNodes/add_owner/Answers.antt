use Rattle.std.proofs.Common.{ℕ, List, sym, ◌∙◌}
use Rattle.std.proofs.lemmas.Result.{on_ok_weaker}
use Rattle.check_names.proofs.NodeSteps.{node_found, node_added}
use Rattle.check_names.proofs.name_nodes.NameNodes.add_owner.Goals as goal

pub returns-in-Some : goal.returns-in-Some
returns-in-Some c =
    let owner : List ℕ × ℕ = (c.get-number.result.0.now, c.get-number.result.1) in
    let found =
    node_found c.args.first c.args.owners.now c.args.at c.args.self.now owner c.get-number.ensures c.requires.nodes c.in-Some.node c.push_at.new.self in
    on_ok_weaker c.push_at.result (found (sym c.find.ensures ∙ c.in-Some.is)) c.push_at.ensures.ok

pub returns-in-None : goal.returns-in-None
returns-in-None c =
    let owner : List ℕ × ℕ = (c.get-number.result.0.now, c.get-number.result.1) in
    let added =
    node_added c.args.first c.args.owners.now c.args.at c.args.self.now owner c.get-number.ensures c.requires.nodes c.add_name.new.self in
    on_ok_weaker c.add_name.result (added (sym c.find.ensures ∙ c.in-None.is)) c.add_name.ensures
