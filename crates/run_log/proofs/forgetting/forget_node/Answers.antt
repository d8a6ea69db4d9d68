use Rattle.std.proofs.Common.{refl, sym, subst}
use Rattle.hume_net.specs.Nodes.{IsOutputStream}
use Rattle.run_log.proofs.forgetting.forget_node.Goals as goal

pub returns-then-is_output-clause-forgets : goal.returns-then-is_output-clause-forgets
returns-then-is_output-clause-forgets c = record {
  output = λ is. c.clear.ensures.state;
  other = λ none. absurd (none (subst (λ core. IsOutputStream core c.args.node) c.core.ensures (c.if-is_output.ensures.yes refl)));
}

pub returns-else-is_output-clause-forgets : goal.returns-else-is_output-clause-forgets
returns-else-is_output-clause-forgets c = record {
  output = λ is. absurd (c.if-is_output.ensures.no refl (subst (λ core. IsOutputStream core c.args.node) (sym c.core.ensures) is));
  other = λ none. refl;
}
