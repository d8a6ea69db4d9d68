use Rattle.std.proofs.Common.{◌≡◌, drop, map}
use Rattle.std.specs.List.{list_any}
use Rattle.c_used.specs.Kept.{is_among}
use Rattle.c_used.proofs.declarations.some_is_used.Given as goal

abbrev pub invariant-loop-constant : goal.invariant-loop-constant
invariant-loop-constant l =
    list_any (is_among l.names) (map (λ constant. constant.name) (drop l.constant-index l.constants))
    ≡ list_any (is_among l.names) (map (λ constant. constant.name) l.constants)
