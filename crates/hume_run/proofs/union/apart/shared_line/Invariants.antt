use Rattle.std.proofs.Common.{◌≡◌, ◌++◌, drop, map, string_bytes}
use Rattle.std.specs.List.{filter_map}
use Rattle.run_rounds.specs.Streams.{stream_of}
use Rattle.hume_calls.specs.Unions.{taken_line}
use Rattle.hume_run.specs.inner.Texts.{earlier_ports}
use Rattle.hume_run.proofs.union.apart.shared_line.Given as goal

abbrev pub invariant-loop-node : goal.invariant-loop-node
invariant-loop-node l = taken_line (map string_bytes l.sources ++ earlier_ports l.earlier) (filter_map stream_of (drop l.node-index l.node-items))
    ≡ taken_line (map string_bytes l.sources ++ earlier_ports l.earlier) (filter_map stream_of l.node-items)
