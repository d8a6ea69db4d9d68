use Rattle.std.proofs.Common.{◌∙◌, arith}
use Rattle.hume_console.proofs.Finishing.{closable_now, finishing_failed, finishing_made, finishing_next, finishing_none}
use Rattle.hume_console.proofs.closing.close_streams.Goals as goal

pub loop-node-init : goal.loop-node-init
loop-node-init g c = finishing_none _ _ _ _

pub close_node-requires : goal.close_node-requires
close_node-requires g c =
    record { closable = (c.requires.closable.0, closable_now _ _ _ _ _ _ c.loop-node.invariant c.requires.closable.0 c.requires.closable.1) }

pub loop-node-preserved : goal.loop-node-preserved
loop-node-preserved g c =
    finishing_next _ _ _ _ _ _ c.loop-node.invariant _ _ _ c.in-Ok.is c.loop-node-test.true c.close_node.ensures.same_names c.close_node.ensures.ends

pub returns-in-Err-clause-ends : goal.returns-in-Err-clause-ends
returns-in-Err-clause-ends g c session are =
    finishing_failed _ _ _ _ _ _ c.loop-node.invariant _ _ _ c.in-Err.is c.loop-node-test.true c.close_node.ensures.ends session are

pub returns-in-Err-clause-same_names : goal.returns-in-Err-clause-same_names
returns-in-Err-clause-same_names g c = c.close_node.ensures.same_names ∙ c.loop-node.invariant.same_names

pub returns-clause-ends : goal.returns-clause-ends
returns-clause-ends g c session are = finishing_made _ _ _ _ _ _ c.loop-node.invariant (omega (arith, c.loop-node-test.false)) session are
