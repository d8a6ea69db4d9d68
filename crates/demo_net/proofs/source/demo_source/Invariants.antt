use Rattle.std.proofs.Common.{◌≡◌, ◌++◌}
use Rattle.std.specs.List.{flat_map, range_with_len}
use Rattle.demo_net.specs.Source.{chain_text, declarations}
use Rattle.demo_net.proofs.source.demo_source.Given as goal

abbrev pub invariant-loop-chain : goal.invariant-loop-chain
invariant-loop-chain l = l.text.items ≡ declarations ++ flat_map (chain_text l.number) (range_with_len 0 l.chain)
