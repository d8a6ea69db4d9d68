use Rattle.std.proofs.Common.{◌≡◌, List, Some, length, slice_get, ap, sym, subst, ◌∙◌, arith}
use Rattle.hume_base.specs.declared.types.Ty.{Ty}
use Rattle.check_scopes.specs.types.Nodes.{ty_of, types_of, IsWithin, Grows}
use Rattle.check_scopes.proofs.types_lemmas.Trees.{is_there, tree_added}
use Rattle.check_scopes.proofs.types.tree_table.add_tree.Goals as goal

pub returns-clause-first : goal.returns-clause-first
returns-clause-first c =
    let nodes = c.args.nodes.now in
    let trees = c.args.trees.now.items in
    let node = c.in-Some.node.now in
    let long = c.len.ensures in
    let fits = c.args.trees.now.ok in
    let at : c.len.result ≡ length trees = omega arith in
    let read = is_there nodes c.len.result node c.in-Some.ensures.lookup.0 c.in-Some.ensures.lookup.1 in
    let there = subst (λ n. slice_get nodes n ≡ Some node) at read in
    let is = c.in_ok-tree.ensures.is ∙ ap (λ (ts : List Ty). ty_of ts node) c.as_slice.ensures.value in
    let within = subst (λ (ts : List Ty). IsWithin (length ts) node) c.as_slice.ensures.value c.in_ok-tree.ensures.within in
    subst (λ (after : List Ty). Grows after (types_of nodes)) (sym c.in_ok-push.ensures.items)
    (tree_added nodes trees node c.in_ok-tree.tree c.requires.table c.requires.first there is within)
