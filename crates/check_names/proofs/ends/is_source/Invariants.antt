use Rattle.std.proofs.Common.{◌≡◌, drop}
use Rattle.std.specs.List.{flat_map}
use Rattle.check_names.specs.Unknown.{is_end, sources_of}
use Rattle.check_names.proofs.ends.is_source.Given as goal

abbrev pub invariant-loop-d : goal.invariant-loop-d
invariant-loop-d l = is_end l.end (flat_map (λ d. sources_of d.1) (drop l.d-index l.decls)) ≡ is_end l.end (flat_map (λ d. sources_of d.1) l.decls)
