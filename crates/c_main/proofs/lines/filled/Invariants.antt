use Rattle.std.proofs.Common.{◌≡◌, ◌++◌, map, drop}
use Rattle.std.specs.List.{flat_map}
use Rattle.c_main.specs.Texts.{filled_line}
use Rattle.c_main.proofs.lines.filled.Given as goal

abbrev pub invariant-loop-line : goal.invariant-loop-line
invariant-loop-line l =
    l.text.items ++ flat_map (filled_line (map (λ part. part.now) l.parts)) (map (λ line. line.now) (drop l.line-index l.lines))
    ≡ flat_map (filled_line (map (λ part. part.now) l.parts)) (map (λ line. line.now) l.lines)
