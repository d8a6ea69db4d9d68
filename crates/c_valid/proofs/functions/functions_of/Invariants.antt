use Rattle.std.proofs.Common.{◌≡◌, ◌++◌, drop}
use Rattle.std.specs.List.{flat_map}
use Rattle.c_valid.specs.inner.Known.{known}
use Rattle.c_valid.specs.Functions.{items_of}
use Rattle.c_valid.proofs.functions.functions_of.Given as goal

abbrev pub invariant-loop-ty : goal.invariant-loop-ty
invariant-loop-ty l = l.items ++ flat_map (items_of (known l.tested)) (drop l.ty-index l.tys) ≡ flat_map (items_of (known l.tested)) l.tys
