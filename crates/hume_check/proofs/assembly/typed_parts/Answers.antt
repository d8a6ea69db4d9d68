use Rattle.std.proofs.Common.{subst}
use Rattle.check_names.specs.declared.mention_list.NameKind.TheVariants.{Function}
use Rattle.check_names.specs.Leading.{graph_of}
use Rattle.hume_check.specs.inner.CoreTrees.{HasNoneTwice}
use Rattle.hume_check.proofs.Slots.{none_twice}
use Rattle.hume_check.proofs.assembly.typed_parts.Goals as goal

pub core_trees-requires : goal.core_trees-requires
core_trees-requires c =
    let are = c.requires.are.0.funs in
    subst HasNoneTwice c.requires.are.1 (none_twice (graph_of Function c.args.program.now.decls) are.order are.numbered)

pub returns-clause-trees : goal.returns-clause-trees
returns-clause-trees c = record { declared = c.args.declared; have = c.requires.trees; are = c.in_ok-trees.ensures }
