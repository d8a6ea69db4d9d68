use Rattle.std.proofs.Common.{◌≡◌, ◌<◌, ◌∙◌, arith, refl, sym, subst}
use Rattle.hume_net.specs.rounds.Rounds.{rounds_of}
use Rattle.phase_workers.specs.Engines.{core_of}
use Rattle.phase_workers.specs.Runnable.{IsRunnable}
use Rattle.demo_rounds.specs.declared.counting.TheConstants.{SPAN}
use Rattle.demo_rounds.specs.inner.Counted.{Counted}
use Rattle.demo_rounds.proofs.Rounds.{next_round, supersteps_are, cleared_before, parts_then, counts, counted_next}
use Rattle.demo_rounds.proofs.counting.count_rounds.Goals as goal

pub loop-done-init : goal.loop-done-init
loop-done-init g c = record { core = refl; counted = c.requires.counted }

pub round-requires-clause-clear : goal.round-requires-clause-clear
round-requires-clause-clear g c κs within = cleared_before (core_of c.args.engine.now) c.args.steps c.loop-done.done c.loop-done.totals c.loop-done.engine c.loop-done.invariant.counted
    (next_round c.args.steps c.loop-done.done (subst (λ count. c.loop-done.done < count) c.div_ceil-done-end.ensures c.loop-done-test.true)) c.ranges.steps.fits

pub count_outputs-requires-clause-runnable : goal.count_outputs-requires-clause-runnable
count_outputs-requires-clause-runnable g c = subst IsRunnable (sym (c.round.ensures.core ∙ c.loop-done.invariant.core)) c.requires.runnable

pub count_outputs-requires-clause-parts : goal.count_outputs-requires-clause-parts
count_outputs-requires-clause-parts g c = parts_then (core_of c.args.engine.now) c.args.steps c.loop-done.done c.loop-done.totals c.loop-done.engine
    c.loop-done.invariant.counted
    (next_round c.args.steps c.loop-done.done (subst (λ count. c.loop-done.done < count) c.div_ceil-done-end.ensures c.loop-done-test.true)) c.ranges.steps.fits
    c.round.new.self c.min-supersteps.result c.round.ensures.core c.round.ensures.state

pub count_outputs-requires-clause-totals : goal.count_outputs-requires-clause-totals
count_outputs-requires-clause-totals g c = counts (core_of c.args.engine.now) c.args.steps c.loop-done.done c.loop-done.totals c.loop-done.engine
    c.loop-done.invariant.counted
    (next_round c.args.steps c.loop-done.done (subst (λ count. c.loop-done.done < count) c.div_ceil-done-end.ensures c.loop-done-test.true)) c.ranges.steps.fits
    c.round.new.self c.min-supersteps.result c.round.ensures.core c.round.ensures.state

pub loop-done-preserved : goal.loop-done-preserved
loop-done-preserved g c = record {
  core = c.count_outputs.ensures.core ∙ c.round.ensures.core ∙ c.loop-done.invariant.core;
  counted = counted_next (core_of c.args.engine.now) c.args.steps c.loop-done.done c.loop-done.totals c.loop-done.engine c.loop-done.invariant.counted
      (next_round c.args.steps c.loop-done.done (subst (λ count. c.loop-done.done < count) c.div_ceil-done-end.ensures c.loop-done-test.true)) c.ranges.steps.fits
      c.round.new.self c.min-supersteps.result c.round.ensures.core c.round.ensures.state
      c.count_outputs.new.engine c.count_outputs.new.totals
      (supersteps_are c.args.steps c.loop-done.done c.min-supersteps.result c.min-supersteps.ensures)
      c.round.ensures.span c.count_outputs.ensures.core c.count_outputs.ensures.span c.count_outputs.ensures.clears c.count_outputs.ensures.totals;
}

pub returns-clause-counted : goal.returns-clause-counted
returns-clause-counted g c =
    let all : c.loop-done.done ≡ rounds_of SPAN c.args.steps = omega (arith, c.loop-done-test.false, c.loop-done.auto.done-end, c.div_ceil-done-end.ensures) in
    subst (λ k. Counted (core_of c.args.engine.now) c.args.steps k c.loop-done.totals c.loop-done.engine) all c.loop-done.invariant.counted
