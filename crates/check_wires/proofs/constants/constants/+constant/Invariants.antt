use Rattle.std.proofs.Common.{◌≡◌, ◌++◌, Some, map, drop}
use Rattle.check_typing.specs.Partial.{given}
use Rattle.check_rules.specs.Constants.{constant, values_of, values_alike}
use Rattle.check_wires.proofs.constants.constants.+constant.Given as goal

abbrev pub invariant-values-loop-at : goal.invariant-values-loop-at
invariant-values-loop-at l =
    given (values_of (map (constant l.table) (drop l.at l.parts)) (drop l.at l.tys)) (λ others. Some (l.found ++ others))
    ≡ values_of (map (constant l.table) l.parts) l.tys

abbrev pub invariant-values_alike-loop-part : goal.invariant-values_alike-loop-part
invariant-values_alike-loop-part l =
    given (values_alike (map (constant l.table) (drop l.part-index l.parts)) l.ty) (λ others. Some (l.found ++ others))
    ≡ values_alike (map (constant l.table) l.parts) l.ty
