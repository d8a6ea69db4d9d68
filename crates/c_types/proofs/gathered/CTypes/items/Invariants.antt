use Rattle.std.proofs.Common.{◌≡◌, ◌++◌, drop}
use Rattle.std.specs.List.{flat_map}
use Rattle.c_types.specs.Gathered.{gathered}
use Rattle.c_types.specs.Declarations.{items, items_of}
use Rattle.c_types.proofs.gathered.CTypes.items.Given as goal

abbrev pub invariant-loop-ty : goal.invariant-loop-ty
invariant-loop-ty l = l.items ++ flat_map (items_of (gathered l.self)) (drop l.ty-index l.ty-items) ≡ items (gathered l.self)
