use Rattle.std.proofs.Common.{◌≡◌, map}
use Rattle.std.specs.List.{list_any}
use Rattle.check_cores.proofs.results.gather.apart.Given as goal

abbrev pub invariant-loop-output : goal.invariant-loop-output
invariant-loop-output l = (l.outputs ≡ map (λ out. out.0) l.yielded) × (l.some_too_wide ≡ list_any (λ out. out.1) l.yielded)
