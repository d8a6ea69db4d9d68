use Rattle.std.proofs.Common.{◌≡◌, map, take}
use Rattle.check_typing.specs.Signatures.{variable_named}
use Rattle.check_scopes.proofs.types.variables.last_of.Given as goal

abbrev pub invariant-loop-i : goal.invariant-loop-i
invariant-loop-i l = l.found ≡ variable_named l.name (map (λ v. (v.0.now, v.1)) (take l.i l.vars))
