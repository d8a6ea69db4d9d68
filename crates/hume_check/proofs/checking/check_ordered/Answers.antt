use Rattle.hume_check.proofs.checking.check_ordered.Goals as goal

pub returns-clause-core : goal.returns-clause-core
returns-clause-core c =
    c.core_of-core.ensures c.args.lines.now c.args.program.now c.args.ordered.functions c.requires.are.0 c.requires.are.1 c.in_ok-typed.ensures.parts

pub returns-clause-trees : goal.returns-clause-trees
returns-clause-trees c =
    let text = c.args.lines.now in
    let program = c.args.program.now in
    let is = c.core_of-core.ensures text program c.args.ordered.functions c.requires.are.0 c.requires.are.1 c.in_ok-typed.ensures.parts in
    c.trees_are_those_of_the_core.ensures text program c.core_of-core.result c.args.ordered.signatures c.args.ordered.functions c.in_ok-typed.typed.trees
    c.in_ok-typed.ensures.fine is c.requires.are.0 c.requires.are.1 c.in_ok-typed.ensures.trees
