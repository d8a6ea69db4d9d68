use Rattle.std.proofs.Common.{◌≡◌}
use Rattle.phase_workers.specs.Engines.{core_of}
use Rattle.demo_rounds.specs.inner.Counted.{Counted}
use Rattle.demo_rounds.proofs.counting.count_rounds.Given as goal

abbrev pub invariant-loop-done : goal.invariant-loop-done
invariant-loop-done g l = record {
  core : core_of l.engine ≡ core_of l.initial.engine;
  counted : Counted (core_of l.initial.engine) l.steps l.done l.totals l.engine;
}
