use Rattle.std.proofs.Common.{◌≡◌, ◌++◌, drop}
use Rattle.std.specs.List.{flat_map}
use Rattle.c_types.specs.Gathered.{gathered}
use Rattle.c_types.specs.Declarations.{constructor_members}
use Rattle.c_types.proofs.declarations.union_members.Given as goal

abbrev pub invariant-loop-con : goal.invariant-loop-con
invariant-loop-con l =
    l.members ++ flat_map (constructor_members (gathered l.types)) (drop l.con-index l.cons) ≡ flat_map (constructor_members (gathered l.types)) l.cons
