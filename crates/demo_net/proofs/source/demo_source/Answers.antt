use Rattle.std.proofs.Common.{◌≡◌, arith}
use Rattle.demo_net.specs.declared.source.TheConstants.{CHAINS}
use Rattle.demo_net.specs.Source.{chain_text, chains, declarations}
use Rattle.demo_net.proofs.Ranges.{put_more, put_all}
use Rattle.demo_net.proofs.source.demo_source.Goals as goal

pub loop-chain-preserved : goal.loop-chain-preserved
loop-chain-preserved c =
    put_more (chain_text c.args.number) 0 c.loop-chain.chain c.loop-chain.chain declarations _ _ (omega arith) c.loop-chain.invariant c.in-Ok.ensures

pub returns : goal.returns
unfolding chains
returns c =
    let all : c.loop-chain.chain ≡ CHAINS = omega (arith, c.loop-chain-test.false, c.loop-chain.auto.chain-end) in
    put_all (chain_text c.args.number) 0 c.loop-chain.chain CHAINS declarations _ all c.loop-chain.invariant
