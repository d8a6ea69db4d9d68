use Rattle.std.proofs.Common.{◌≡◌, drop}
use Rattle.std.specs.List.{flat_map}
use Rattle.check_names.specs.Unknown.{is_end, targets_of}
use Rattle.check_names.proofs.ends.is_target.Given as goal

abbrev pub invariant-loop-d : goal.invariant-loop-d
invariant-loop-d l = is_end l.end (flat_map (λ d. targets_of d.1) (drop l.d-index l.decls)) ≡ is_end l.end (flat_map (λ d. targets_of d.1) l.decls)
