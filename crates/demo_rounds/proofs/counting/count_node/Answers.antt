use Rattle.std.proofs.Common.{arith, refl, sym, subst}
use Rattle.hume_net.specs.Nodes.{IsOutputStream}
use Rattle.hume_net.specs.rounds.Pieces.{taken_in}
use Rattle.phase_workers.specs.Engines.{core_of, state_of}
use Rattle.demo_rounds.proofs.NodeTotals.{few_rows, total_joined, few_taken, rows_of}
use Rattle.demo_rounds.proofs.counting.count_node.Goals as goal

pub returns-then-not-is_output-clause-clears : goal.returns-then-not-is_output-clause-clears
returns-then-not-is_output-clause-clears c = record {
  output = λ output. absurd (c.if-not-is_output.ensures.no refl (subst (λ core. IsOutputStream core c.args.node) (sym c.core.ensures) output));
  other = λ other. refl;
}

pub returns-then-not-is_output-clause-total : goal.returns-then-not-is_output-clause-total
returns-then-not-is_output-clause-total c output =
    absurd (c.if-not-is_output.ensures.no refl (subst (λ core. IsOutputStream core c.args.node) (sym c.core.ensures) output))

pub returns-then-not-is_output-clause-few : goal.returns-then-not-is_output-clause-few
returns-then-not-is_output-clause-few c output =
    absurd (c.if-not-is_output.ensures.no refl (subst (λ core. IsOutputStream core c.args.node) (sym c.core.ensures) output))

pub overflow_cast-node : goal.overflow_cast-node
overflow_cast-node c = omega (arith, c.requires.within, c.requires.runnable.formed.frame.limits.nodes)

pub overflow_cast-node-2 : goal.overflow_cast-node-2
overflow_cast-node-2 c = omega (arith, c.requires.within, c.requires.runnable.formed.frame.limits.nodes)

pub add-requires : goal.add-requires
add-requires c =
    let its = c.requires.few (subst (λ core. IsOutputStream core c.args.node) c.core.ensures (c.if-not-is_output.ensures.yes refl)) in
    record { few = few_rows (core_of c.args.engine.now) c.args.node _ its.0 its.1 its.2 }

pub returns-clause-clears : goal.returns-clause-clears
returns-clause-clears c = record {
  output = λ output. c.clear.ensures.state;
  other = λ other. absurd (other (subst (λ core. IsOutputStream core c.args.node) c.core.ensures (c.if-not-is_output.ensures.yes refl)));
}

pub returns-clause-total : goal.returns-clause-total
returns-clause-total c output values is =
    total_joined (core_of c.args.engine.now) c.args.node _ values (taken_in (state_of c.args.engine.now) c.args.node) _ c.log-log.ensures
    (c.add.ensures (rows_of (core_of c.args.engine.now) c.args.node values) is)

pub returns-clause-few : goal.returns-clause-few
returns-clause-few c output =
    few_taken (core_of c.args.engine.now) c.args.node (taken_in (state_of c.args.engine.now) c.args.node) _ c.count-few.result c.log-log.ensures c.count-few.ensures
    c.count-few.type_inv
