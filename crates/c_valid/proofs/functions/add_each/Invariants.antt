use Rattle.std.proofs.Common.{◌≡◌, drop}
use Rattle.c_valid.specs.inner.Known.{known}
use Rattle.c_valid.specs.Functions.{known_behind_all}
use Rattle.c_valid.proofs.functions.add_each.Given as goal

abbrev pub invariant-loop-ty : goal.invariant-loop-ty
invariant-loop-ty l = known_behind_all (known l.tested) (drop l.ty-index l.tys) ≡ known_behind_all (known l.initial.tested) l.tys
