use Rattle.std.proofs.Common.{◌≡◌, ◌++◌, drop}
use Rattle.std.specs.List.{flat_map}
use Rattle.c_main.specs.Texts.{byte_text}
use Rattle.c_main.proofs.lines.put_bytes.Given as goal

abbrev pub invariant-loop-byte : goal.invariant-loop-byte
invariant-loop-byte l =
    l.text.items ++ flat_map byte_text (drop l.byte-index l.bytes) ≡ l.initial.text.items ++ flat_map byte_text l.bytes
