use Rattle.box_machine.proofs.Writing.{exact_sizes}
use Rattle.box_machine.proofs.standing.flatten_standing.Goals as goal

pub write_value-requires-clause-sizes : goal.write_value-requires-clause-sizes
write_value-requires-clause-sizes c = exact_sizes c.args.types.now c.requires.sizes c.requires.readable
