use Rattle.std.proofs.Common.{◌≡◌, drop}
use Rattle.std.specs.List.{list_any}
use Rattle.check_counts.specs.Miscounts.{type_miscounts}
use Rattle.check_counts.proofs.types.some_type_miscounts.Given as goal

abbrev pub invariant-loop-ty : goal.invariant-loop-ty
invariant-loop-ty l = list_any type_miscounts (drop l.ty-index l.tys) ≡ list_any type_miscounts l.tys
