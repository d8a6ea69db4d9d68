use Rattle.std.proofs.Common.{Some, sym, subst}
use Rattle.hume_ast.specs.declared.tree.Decl.TheVariants.{Stream}
use Rattle.hume_model.specs.declared.core_tree.NodeC.{NodeC}
use Rattle.hume_check.specs.nodes.inner.Parts.{numbered, IsNodeIfOne}
use Rattle.hume_check.proofs.nodes_lemmas.NodeLaws.{stream_node}
use Rattle.hume_check.proofs.nodes.node_cores.node_core.Goals as goal

pub returns-in_ok-core-in-Stream : goal.returns-in_ok-core-in-Stream
returns-in_ok-core-in-Stream c =
    subst (λ (node : NodeC). IsNodeIfOne c.args.lines.now c.args.table.now (numbered c.args.number c.args.d.now) (Some node)) (sym c.stream_node.ensures)
    (stream_node c.args.lines.now c.args.table.now c.args.number c.args.d.now c.in-Stream.name c.in-Stream.port c.in-Stream.comes_in
    c.in_ok-core-in-Stream.core c.in-Stream.is (c.in_ok-core-in-Stream.ensures (Stream c.in-Stream.name c.in-Stream.comes_in c.in-Stream.port)))
