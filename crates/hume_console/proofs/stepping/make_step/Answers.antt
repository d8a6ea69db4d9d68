use Rattle.std.proofs.Common.{refl}
use Rattle.hume_console.proofs.StepRounds.{round_clear, round_ends, round_span, rounded_parts, rounded_places, rounded_runnable}
use Rattle.hume_console.proofs.stepping.make_step.Goals as goal

pub round-requires-clause-span : goal.round-requires-clause-span
round-requires-clause-span g c κs within = round_span c.requires.filled.0 c.args.places.now c.args.steps c.args.engine.now _ c.requires.filled.1

pub round-requires-clause-clear : goal.round-requires-clause-clear
round-requires-clause-clear g c κs within = λ n output. round_clear c.requires.filled.0 c.args.places.now c.args.steps c.args.engine.now _ c.requires.filled.1 n

pub drain_outputs-requires-clause-runnable : goal.drain_outputs-requires-clause-runnable
drain_outputs-requires-clause-runnable g c = rounded_runnable c.requires.filled.0 c.args.places.now c.args.steps c.args.engine.now _ c.requires.filled.1
    c.round.new.self c.round.ensures.core c.round.ensures.state

pub drain_outputs-requires-clause-parts : goal.drain_outputs-requires-clause-parts
drain_outputs-requires-clause-parts g c = rounded_parts c.requires.filled.0 c.args.places.now c.args.steps c.args.engine.now _ c.requires.filled.1
    c.round.new.self c.round.ensures.core c.round.ensures.state

pub drain_outputs-requires-clause-places : goal.drain_outputs-requires-clause-places
drain_outputs-requires-clause-places g c = rounded_places c.requires.filled.0 c.args.places.now c.args.steps c.args.engine.now _ c.requires.filled.1
    c.round.new.self c.round.ensures.core c.round.ensures.state _ c.args.ports.now refl

pub returns-clause-ends : goal.returns-clause-ends
returns-clause-ends g c step filling = round_ends step c.args.places.now c.args.steps c.args.engine.now _ filling c.round.new.self c.round.ensures.core c.round.ensures.state
    c.round.ensures.heap c.round.ensures.stack c.round.ensures.queues c.round.ensures.span c.drain_outputs.new.engine _ c.drain_outputs.ensures.core
    c.drain_outputs.ensures.span c.drain_outputs.ensures.queues c.drain_outputs.ensures.peaks _ c.drain_outputs.ensures.ends c.drain_outputs.ensures.cleared
