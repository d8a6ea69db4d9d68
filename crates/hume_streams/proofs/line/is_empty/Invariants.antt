use Rattle.std.proofs.Common.{◌≡◌, drop}
use Rattle.std.specs.List.{list_all}
use Rattle.hume_text.specs.Read.{is_blank}
use Rattle.hume_streams.specs.Lines.{is_empty}
use Rattle.hume_streams.proofs.line.is_empty.Given as goal

abbrev pub invariant-loop-byte : goal.invariant-loop-byte
invariant-loop-byte l = list_all is_blank (drop l.byte-index l.text) ≡ is_empty l.line
