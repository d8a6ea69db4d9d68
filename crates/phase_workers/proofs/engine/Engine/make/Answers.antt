use Rattle.std.proofs.Common.{sym, subst}
use Rattle.phase_workers.specs.inner.Whole.{IsWhole}
use Rattle.phase_workers.proofs.FirstEngine.{begun_quiet, first_right, first_whole, no_peaks_at}
use Rattle.phase_workers.proofs.engine.Engine.make.Goals as goal

pub invariant_of-result : goal.invariant_of-result
invariant_of-result c =
    subst (λ s. IsWhole c.args.core c.in_ok-parts.parts.bare c.in_ok-parts.parts.paths c.args.span s c.in_ok-parts.parts.nodes.items
    c.in_ok-parts.parts.home.items)
    (sym c.then-seen.ensures)
    (first_whole c.args.core c.in_ok-parts.parts.bare c.in_ok-parts.parts.paths c.args.span c.in_ok-parts.parts.nodes.items
    c.in_ok-parts.parts.home.items c.requires.runnable c.requires.handles c.in_ok-parts.ensures.bare c.in_ok-parts.ensures.nodes
    c.in_ok-parts.ensures.home c.in_ok-parts.ensures.paths)

pub returns-clause-peaks : goal.returns-clause-peaks
returns-clause-peaks c = no_peaks_at c.args.core c.in_ok-parts.parts.bare c.in_ok-parts.parts.paths c.args.span c.in_ok-parts.parts.nodes.items
    c.in_ok-parts.parts.home.items c.requires.runnable c.requires.handles c.in_ok-parts.ensures.bare c.in_ok-parts.ensures.nodes
    c.in_ok-parts.ensures.home c.in_ok-parts.ensures.paths

pub returns-clause-begun : goal.returns-clause-begun
returns-clause-begun c = begun_quiet c.args.core c.in_ok-parts.parts.bare c.in_ok-parts.parts.paths c.args.span c.in_ok-parts.parts.nodes.items
    c.in_ok-parts.parts.home.items c.requires.runnable c.requires.handles c.in_ok-parts.ensures.bare c.in_ok-parts.ensures.nodes
    c.in_ok-parts.ensures.home c.in_ok-parts.ensures.paths

pub returns-clause-right : goal.returns-clause-right
returns-clause-right c = first_right c.args.core c.in_ok-parts.parts.bare c.in_ok-parts.parts.paths c.args.span c.in_ok-parts.parts.nodes.items
    c.in_ok-parts.parts.home.items c.requires.runnable c.requires.handles c.in_ok-parts.ensures.bare c.in_ok-parts.ensures.nodes
    c.in_ok-parts.ensures.home c.in_ok-parts.ensures.paths
