use Rattle.std.proofs.Common.{subst}
use Rattle.std.proofs.lemmas.Result.{IfOk-weaker}
use Rattle.check_names.specs.inner.NameNodes.{IsByNames}
use Rattle.check_names.proofs.NodePaths.{first_by_names}
use Rattle.check_names.proofs.leading.first_by_names.Goals as goal

pub returns : goal.returns
returns c =
    let by_names =
    subst (λ owners. IsByNames c.args.kind c.args.decls.now owners c.in_ok-graph.graph) c.requires.owners c.in_ok-graph.ensures.by_names in
    IfOk-weaker c.first_in_cycle.result _ _ (first_by_names c.args.kind c.args.decls.now c.in_ok-graph.graph by_names) c.first_in_cycle.ensures
