use Rattle.std.proofs.Common.{ap, sym, subst, length, arith}
use Rattle.hume_net.specs.HalfSteps.{oldest}
use Rattle.match_rules.specs.Inputs.{AreBuilt}
use Rattle.match_rules.proofs.InputsBuilt.{plain_built, oldest_there}
use Rattle.match_rules.proofs.inputs.take_position.Goals as goal

pub take_built-requires-clause-there : goal.take_built-requires-clause-there
take_built-requires-clause-there c =
    let given = c.requires.fitting in
    let there = oldest_there c.args.core.now c.args.ty.now c.args.pat.now c.in-Built.field-0 c.in-Built.is c.args.cell.now given.0 given.1 given.2 in
    (there.value, there.later, there.is, omega (arith, there.takes, given.3))

pub take_built-requires-clause-room : goal.take_built-requires-clause-room
take_built-requires-clause-room c =
    let given = c.requires.fitting in
    let there = oldest_there c.args.core.now c.args.ty.now c.args.pat.now c.in-Built.field-0 c.in-Built.is c.args.cell.now given.0 given.1 given.2 in
    let one = ap (λ vs. length vs) there.one in
    omega (arith, one, given.4)

pub returns-in_default-clause-built : goal.returns-in_default-clause-built
returns-in_default-clause-built c = λ held is fit. plain_built c.args.pat.now c.in_default.not-Built (oldest held) c.args.heap.now c.args.stack.now

pub returns-in-Built-clause-built : goal.returns-in-Built-clause-built
returns-in-Built-clause-built c = λ held is fit.
    let there = oldest_there c.args.core.now c.args.ty.now c.args.pat.now c.in-Built.field-0 c.in-Built.is c.args.cell.now held is fit in
    subst (λ vs. AreBuilt vs c.args.heap.now c.take_built.new.heap c.args.stack.now c.take_built.new.stack) (sym there.one)
    (c.take_built.ensures.built there.value there.later there.is)
