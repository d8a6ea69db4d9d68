use Rattle.std.proofs.Common.{sym, subst}
use Rattle.phase_workers.specs.inner.Going.{ArePaths}
use Rattle.phase_workers.proofs.FirstEngine.{first_opens}
use Rattle.phase_workers.proofs.making.make_parts.Goals as goal

pub make_nodes-requires-clause-opens : goal.make_nodes-requires-clause-opens
make_nodes-requires-clause-opens c =
    first_opens c.args.core.now c.in_ok-bare.bare c.args.span c.requires.runnable c.requires.handles c.in_ok-bare.ensures

pub returns-clause-paths : goal.returns-clause-paths
returns-clause-paths c = subst (λ b. ArePaths b c.in_ok-paths.paths) (sym c.in_ok-bare.ensures) c.in_ok-paths.ensures
