use Rattle.std.proofs.Common.{arith, subst, sym, refl, inr, []}
use Rattle.hume_net.specs.Nodes.{IsOutputStream}
use Rattle.hume_net.specs.Sides.{part_of}
use Rattle.port_acts.specs.Acts.{write_each}
use Rattle.port_acts.specs.Ends.{Ends, never}
use Rattle.hume_streams.specs.places.LineWrites.{line_writes}
use Rattle.phase_workers.specs.Engines.{core_of, state_of}
use Rattle.phase_workers.specs.StreamTypes.{type_at}
use Rattle.run_rounds.proofs.Clearings.{other_made, output_ends, output_there, node_cleared, node_kept}
use Rattle.run_rounds.proofs.FillingInputs.{for_port}
use Rattle.run_rounds.proofs.draining.drain_node.Goals as goal

pub returns-then-not-is_output-clause-ends : goal.returns-then-not-is_output-clause-ends
returns-then-not-is_output-clause-ends g c =
    other_made (core_of c.args.engine.now) c.args.node _ _
    (λ output. c.if-not-is_output.ensures.no refl (subst (λ core. IsOutputStream core c.args.node) (sym c.core.ensures) output))

pub returns-then-not-is_output-clause-clears : goal.returns-then-not-is_output-clause-clears
returns-then-not-is_output-clause-clears g c =
    node_kept (core_of c.args.engine.now) c.args.node (state_of c.args.engine.now)
    (λ output. c.if-not-is_output.ensures.no refl (subst (λ core. IsOutputStream core c.args.node) (sym c.core.ensures) output))

pub drain-requires-clause-spare : goal.drain-requires-clause-spare
drain-requires-clause-spare g c =
    let output = subst (λ core. IsOutputStream core c.args.node) c.core.ensures (c.if-not-is_output.ensures.yes refl) in
    let words = c.stream_types_have_texts.ensures.words (core_of c.args.engine.now) c.requires.runnable c.args.node (inr output) in
    omega (arith, words, c.requires.room, c.clear.ensures.room)

pub returns-clause-ends : goal.returns-clause-ends
returns-clause-ends g c =
    let output = subst (λ core. IsOutputStream core c.args.node) c.core.ensures (c.if-not-is_output.ensures.yes refl) in
    let s = output_there (core_of c.args.engine.now) c.args.node output in
    output_ends (core_of c.args.engine.now) c.args.node s.0 _ _ _ _ s.1
    (for_port (λ name. Ends never [] (write_each (line_writes name (core_of c.args.engine.now).types (type_at (core_of c.args.engine.now) c.args.node)
    (part_of (state_of c.args.engine.now) c.args.node).taken)) [] _ _ _) s.0 _ c.args.at (c.requires.place s.0 s.1) c.drain.ensures.ends)

pub returns-clause-clears : goal.returns-clause-clears
returns-clause-clears g c =
    let output = subst (λ core. IsOutputStream core c.args.node) c.core.ensures (c.if-not-is_output.ensures.yes refl) in
    node_cleared (core_of c.args.engine.now) c.args.node (state_of c.args.engine.now) (state_of c.drain.new.self) _ output c.drain.ensures.drained
