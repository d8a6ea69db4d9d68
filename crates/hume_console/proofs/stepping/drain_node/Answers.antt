use Rattle.std.proofs.Common.{arith, subst, sym, refl, inr}
use Rattle.hume_net.specs.Nodes.{IsOutputStream}
use Rattle.port_acts.proofs.Making.{Made-start}
use Rattle.phase_workers.specs.Engines.{core_of, state_of}
use Rattle.hume_console.proofs.NodeDrains.{no_lines, never_quiet, node_cleared, node_kept, output_lines}
use Rattle.hume_console.proofs.stepping.drain_node.Goals as goal

pub returns-then-not-is_output-clause-ends : goal.returns-then-not-is_output-clause-ends
returns-then-not-is_output-clause-ends g c = λ name place.
    no_lines (core_of c.args.engine.now) c.args.node name _ _
    (λ output. c.if-not-is_output.ensures.no refl (subst (λ core. IsOutputStream core c.args.node) (sym c.core.ensures) output))

pub returns-then-not-is_output-clause-quiet : goal.returns-then-not-is_output-clause-quiet
returns-then-not-is_output-clause-quiet g c isnt = Made-start _

pub returns-then-not-is_output-clause-cleared : goal.returns-then-not-is_output-clause-cleared
returns-then-not-is_output-clause-cleared g c =
    node_kept (core_of c.args.engine.now) c.args.node (state_of c.args.engine.now)
    (λ output. c.if-not-is_output.ensures.no refl (subst (λ core. IsOutputStream core c.args.node) (sym c.core.ensures) output))

pub drain-requires-clause-spare : goal.drain-requires-clause-spare
drain-requires-clause-spare g c =
    let output = subst (λ core. IsOutputStream core c.args.node) c.core.ensures (c.if-not-is_output.ensures.yes refl) in
    let words = c.stream_types_have_texts.ensures.words (core_of c.args.engine.now) c.requires.runnable c.args.node (inr output) in
    omega (arith, words, c.requires.room, c.clear.ensures.room)

pub returns-clause-ends : goal.returns-clause-ends
returns-clause-ends g c =
    let output = subst (λ core. IsOutputStream core c.args.node) c.core.ensures (c.if-not-is_output.ensures.yes refl) in
    output_lines (core_of c.args.engine.now) c.args.node c.args.at _ _ _ _ output c.drain.ensures.ends

pub returns-clause-quiet : goal.returns-clause-quiet
returns-clause-quiet g c other =
    let output = subst (λ core. IsOutputStream core c.args.node) c.core.ensures (c.if-not-is_output.ensures.yes refl) in
    never_quiet (core_of c.args.engine.now) c.args.node _ _ _ output other

pub returns-clause-cleared : goal.returns-clause-cleared
returns-clause-cleared g c =
    let output = subst (λ core. IsOutputStream core c.args.node) c.core.ensures (c.if-not-is_output.ensures.yes refl) in
    node_cleared (core_of c.args.engine.now) c.args.node (state_of c.args.engine.now) _ _ output c.drain.ensures.drained
