use Rattle.std.proofs.Common.{◌≡◌, drop}
use Rattle.std.specs.List.{flat_map}
use Rattle.c_types.specs.Gathered.{with_each}
use Rattle.c_main.specs.Found.{parts_of}
use Rattle.c_main.proofs.gathered.gather_types.Given as goal

abbrev pub invariant-loop-ty : goal.invariant-loop-ty
invariant-loop-ty l =
    with_each l.found (flat_map parts_of (drop l.ty-index l.tys)) ≡ with_each l.initial.found (flat_map parts_of l.tys)
