use Rattle.std.proofs.Common.{◌≡◌, map, drop}
use Rattle.check_names.specs.Twice.{any_true}
use Rattle.check_counts.specs.Miscounts.{type_miscounts}
use Rattle.check_counts.proofs.types.+type_miscounts.Given as goal

abbrev pub invariant-a_type_miscounts-loop-ty : goal.invariant-a_type_miscounts-loop-ty
invariant-a_type_miscounts-loop-ty l = any_true (map type_miscounts (drop l.ty-index l.tys)) ≡ any_true (map type_miscounts l.tys)
