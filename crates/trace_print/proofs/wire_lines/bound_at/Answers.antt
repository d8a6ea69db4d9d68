use Rattle.trace_print.proofs.wire_lines.bound_at.Goals as goal

pub wire_bound-requires-clause-size : goal.wire_bound-requires-clause-size
wire_bound-requires-clause-size c = (c.requires.frame.wires c.args.w c.in-Some.wire.now c.in-Some.ensures).written.words

pub wire_bound-requires-clause-depth : goal.wire_bound-requires-clause-depth
wire_bound-requires-clause-depth c = (c.requires.frame.wires c.args.w c.in-Some.wire.now c.in-Some.ensures).depth
