use Rattle.std.proofs.Common.{◌≡◌, ◌++◌, codes, drop}
use Rattle.std.specs.List.{flat_map}
use Rattle.c_sizes.proofs.lines.put_others.Given as goal

abbrev pub invariant-loop-name : goal.invariant-loop-name
invariant-loop-name l =
    l.text.items ++ flat_map (λ name. codes ", " ++ name) (drop l.name-index l.others)
    ≡ l.initial.text.items ++ flat_map (λ name. codes ", " ++ name) l.others
