use Rattle.std.proofs.Common.{◌+◌, sym, subst, ◌∙◌}
use Rattle.hume_check.specs.nodes.inner.Parts.{numbered, IsNodeIfOne}
use Rattle.hume_check.proofs.nodes_lemmas.NodeLaws.{AreMade, all_made, other_passed, node_added}
use Rattle.hume_check.proofs.nodes_lemmas.TreeLaws.{tree_at, tree_within}
use Rattle.hume_check.proofs.nodes.node_cores.nodes.Goals as goal
use Rattle.hume_check.proofs.nodes.node_cores.nodes.Goals.{in-Some+in_ok-push, in_default}

pub bounds-trees-i : goal.bounds-trees-i
bounds-trees-i c =
    tree_within c.args.table.now c.args.decls.now c.loop-i.i c.index-decls-i.result c.loop-i-test.true c.index-decls-i.is c.args.trees.now
    c.requires.trees

pub node_core-requires : goal.node_core-requires
node_core-requires c =
    tree_at c.args.table.now c.args.decls.now c.loop-i.i c.index-decls-i.result c.loop-i-test.true c.index-decls-i.is c.args.trees.now c.requires.trees
    c.index-trees-i.result c.index-trees-i.is

pub loop-i-preserved : goal.loop-i-preserved
loop-i-preserved c = elim c.match-branch-2.branch [
  | in-Some+in_ok-push w ↦
      node_added c.args.lines.now c.args.table.now c.args.decls.now c.loop-i.i c.index-decls-i.result c.loop-i-test.true c.index-decls-i.is
      c.loop-i.nodes c.loop-i.invariant w.in-Some.node c.match-branch-2.nodes
      (subst (IsNodeIfOne c.args.lines.now c.args.table.now (numbered c.loop-i.i c.index-decls-i.result)) w.in-Some.is c.in_ok-node.ensures)
      (w.nodes-is ∙ w.in_ok-push.ensures.ok)
  | in_default w ↦
      subst (AreMade c.args.lines.now c.args.table.now c.args.decls.now (c.loop-i.i + 1)) (sym w.nodes-is)
      (other_passed c.args.lines.now c.args.table.now c.args.decls.now c.loop-i.i c.index-decls-i.result c.loop-i-test.true c.index-decls-i.is
      c.loop-i.nodes c.loop-i.invariant
      (subst (IsNodeIfOne c.args.lines.now c.args.table.now (numbered c.loop-i.i c.index-decls-i.result)) w.in_default.is c.in_ok-node.ensures))
]

pub returns : goal.returns
returns c = all_made c.args.lines.now c.args.table.now c.args.decls.now c.loop-i.i c.loop-i.nodes c.loop-i-test.false c.loop-i.invariant
