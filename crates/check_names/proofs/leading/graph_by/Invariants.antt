use Rattle.std.proofs.Common.{◌≡◌, ◌++◌, map, drop}
use Rattle.check_names.specs.Mentions.{mentions_of}
use Rattle.check_names.specs.Leading.{meant}
use Rattle.check_names.proofs.leading.graph_by.Given as goal

abbrev pub invariant-loop-d : goal.invariant-loop-d
invariant-loop-d l = l.graph ++ map (λ d. meant l.kind l.owners.owners (mentions_of d.1)) (drop l.d-index l.decls) ≡ map (λ d. meant l.kind l.owners.owners (mentions_of d.1)) l.decls
