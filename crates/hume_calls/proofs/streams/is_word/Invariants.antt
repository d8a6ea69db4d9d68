use Rattle.std.proofs.Common.{◌≡◌, drop, map, string_bytes}
use Rattle.hume_ports.specs.Ports.{is_among}
use Rattle.hume_calls.proofs.streams.is_word.Given as goal

abbrev pub invariant-loop-word : goal.invariant-loop-word
invariant-loop-word l = is_among l.port (map string_bytes (drop l.word-index l.words)) ≡ is_among l.port (map string_bytes l.words)
