use Rattle.std.proofs.Common.{ap, ◌∙◌}
use Rattle.std.proofs.lemmas.Result.{IfOk-weaker}
use Rattle.check_wires.specs.cores.inner.FoundWires.{cores_of}
use Rattle.check_wires.proofs.cores_lemmas.Cores.{found_are_wires, one_has_none}
use Rattle.check_wires.proofs.cores.wire_cores.wires.Goals as goal

pub returns-clause-wires : goal.returns-clause-wires
returns-clause-wires c =
    let text = c.args.lines.now in
    let signatures = c.args.table.now in
    let decls = c.args.decls.now in
    IfOk-weaker c.declared_wires.result _ _
    (λ found h. found_are_wires text signatures c.args.nodes.now decls found (h ∙ ap (λ nodes. cores_of text signatures nodes decls) c.in_ok-nodes.ensures))
    c.declared_wires.ensures

pub returns-clause-none : goal.returns-clause-none
returns-clause-none c =
    let text = c.args.lines.now in
    let signatures = c.args.table.now in
    let decls = c.args.decls.now in
    IfOk-weaker c.declared_wires.result _ _
    (λ found h. one_has_none text signatures c.args.nodes.now decls found (h ∙ ap (λ nodes. cores_of text signatures nodes decls) c.in_ok-nodes.ensures))
    c.declared_wires.ensures
