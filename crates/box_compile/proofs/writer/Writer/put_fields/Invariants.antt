use Rattle.std.proofs.Common.{◌≡◌, ◌++◌, take}
use Rattle.box_compile.proofs.writer.Writer.put_fields.Given as goal

abbrev pub invariant-loop-number : goal.invariant-loop-number
invariant-loop-number l = l.self ≡ l.fn.self ++ take l.number-index l.numbers
