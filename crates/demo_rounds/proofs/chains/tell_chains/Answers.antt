use Rattle.std.proofs.Common.{◌≡◌, ◌<◌, ◌∙◌, arith, length, refl}
use Rattle.demo_rounds.specs.inner.Counted.{total_at}
use Rattle.demo_rounds.proofs.NodeTotals.{same_item}
use Rattle.demo_rounds.proofs.ChainsTold.{none_told, one_told, one_untold, all_told, chain_few, next_chain}
use Rattle.demo_rounds.proofs.chains.tell_chains.Goals as goal

pub loop-node-init : goal.loop-node-init
loop-node-init g c = record { told = none_told c.args.core.now (total_at c.args.totals.now) _ _; room = refl }

pub next_chain-chain-requires : goal.next_chain-chain-requires
next_chain-chain-requires g c =
    let within : c.loop-node.node < length c.args.core.now.nodes = omega (arith, c.loop-node-test.true, c.requires.count) in
    let few = chain_few c.args.core.now c.loop-node.node (omega (arith, within)) in
    omega (arith, within, few, c.loop-node.invariant.told.is_chain, c.requires.runnable.formed.frame.limits.nodes)

pub loop-node-preserved : goal.loop-node-preserved
loop-node-preserved g c =
    let within : c.loop-node.node < length c.args.core.now.nodes = omega (arith, c.loop-node-test.true, c.requires.count) in
    record {
      told = one_told c.args.core.now (total_at c.args.totals.now) c.args.out _ _ _ c.loop-node.chain c.loop-node.node c.loop-node.invariant.told _
          (same_item _ _ _ _ c.loop-node-test.true) _
          (next_chain c.args.core.now c.loop-node.node c.loop-node.chain _ within c.loop-node.invariant.told.is_chain
          c.next_chain-chain.ensures.output c.next_chain-chain.ensures.other)
          c.in-Ok.ensures.ends c.in-Ok.ensures.same_names;
      room = c.in-Ok.ensures.room ∙ c.loop-node.invariant.room;
    }

pub returns-in-Err-clause-ends : goal.returns-in-Err-clause-ends
returns-in-Err-clause-ends g c =
    let within : c.loop-node.node < length c.args.core.now.nodes = omega (arith, c.loop-node-test.true, c.requires.count) in
    one_untold c.args.core.now (total_at c.args.totals.now) c.args.out _ _ _ c.loop-node.chain c.loop-node.node c.loop-node.invariant.told _
    (same_item _ _ _ _ c.loop-node-test.true) within c.in-Err.ensures.ends

pub returns-clause-ends : goal.returns-clause-ends
returns-clause-ends g c =
    let all : c.loop-node.node ≡ length c.args.core.now.nodes = omega (arith, c.loop-node-test.false, c.loop-node.auto.node-end, c.requires.count) in
    all_told c.args.core.now (total_at c.args.totals.now) c.args.out _ _ c.loop-node.chain c.loop-node.node all c.loop-node.invariant.told
