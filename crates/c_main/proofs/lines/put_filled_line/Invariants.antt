use Rattle.std.proofs.Common.{◌≡◌, ◌++◌, map, drop, false}
use Rattle.c_main.specs.Texts.{filled_from}
use Rattle.c_main.proofs.lines.put_filled_line.Given as goal

abbrev pub invariant-loop-byte : goal.invariant-loop-byte
invariant-loop-byte l =
    l.text.items ++ filled_from (map (λ part. part.now) l.parts) l.behind_sign (drop l.byte-index l.line)
    ≡ l.initial.text.items ++ filled_from (map (λ part. part.now) l.parts) false l.line
