use Rattle.std.proofs.Common.{arith}
use Rattle.hume_check.proofs.nodes_lemmas.TreeLaws.{function_parts, tree_within, tree_at}
use Rattle.hume_check.proofs.nodes.declared.function_declared.Goals as goal

pub returns-in_err-trees : goal.returns-in_err-trees
returns-in_err-trees c = λ s have.
    let at = c.in_ok-d.ensures.lookup in
    let within = tree_within s c.args.decls.now c.args.number c.in_ok-d.d.now at.3.0 at.1 c.args.trees.now have in
    let past = c.in_err-trees.ensures.lookup.3 in
    absurd (omega arith)

pub returns : goal.returns
returns c = λ s have.
    let at = c.in_ok-d.ensures.lookup in
    let tree = tree_at s c.args.decls.now c.args.number c.in_ok-d.d.now at.3.0 at.1 c.args.trees.now have c.in_ok-trees.trees.now
    c.in_ok-trees.ensures.lookup.1 in
    function_parts s c.args.decls.now c.args.number c.in_ok-d.d.now at.3.0 at.1 c.function_parts.result (c.function_parts.ensures s tree)
