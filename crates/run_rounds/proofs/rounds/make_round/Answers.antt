use Rattle.std.proofs.Common.{◌≡◌, ◌∙◌, ◌+◌, ap, arith, Ok, None, Err, suc}
use Rattle.phase_workers.specs.Engines.{core_of}
use Rattle.run_rounds.proofs.RoundMaking.{fill_first, fills_as}
use Rattle.run_rounds.proofs.RoundJoins.{clear_own, joined, joined_failed, parts_own, supersteps_are}
use Rattle.run_rounds.proofs.rounds.make_round.Goals as goal

pub returns-in-Ok-Some-clause-ends : goal.returns-in-Ok-Some-clause-ends
returns-in-Ok-Some-clause-ends g c olds stands =
    let wanted = supersteps_are c.args.traced c.args.steps c.args.done _ _ _ c.span.ensures c.span-2.ensures c.min-supersteps.ensures in
    let filling = fill_first (core_of c.args.engine.now) c.args.traced c.args.steps c.args.done _ olds _ c.args.engine.now c.requires.is wanted stands in
    record {
      done = c.args.done;
      want = c.min-supersteps.result;
      blocked = fills_as (core_of c.args.engine.now) c.args.traced c.args.steps c.args.done _ olds _ c.fill_inputs.new.engine _ _ (c.in-Ok-Some.is ∙ ap Ok c.in-Ok-Some.field-0-is)
          (c.fill_inputs.ensures.ends c.args.traced c.args.steps c.args.done olds filling);
    }

pub returns-in-Err-clause-ends : goal.returns-in-Err-clause-ends
returns-in-Err-clause-ends g c olds stands =
    let wanted = supersteps_are c.args.traced c.args.steps c.args.done _ _ _ c.span.ensures c.span-2.ensures c.min-supersteps.ensures in
    let filling = fill_first (core_of c.args.engine.now) c.args.traced c.args.steps c.args.done _ olds _ c.args.engine.now c.requires.is wanted stands in
    fills_as (core_of c.args.engine.now) c.args.traced c.args.steps c.args.done _ olds _ c.fill_inputs.new.engine _ (Err c.in-Err.failed) c.in-Err.is
    (c.fill_inputs.ensures.ends c.args.traced c.args.steps c.args.done olds filling)

pub run_round-requires-clause-parts : goal.run_round-requires-clause-parts
run_round-requires-clause-parts g c κs within =
    let r = c.requires.stands in
    let wanted = supersteps_are c.args.traced c.args.steps c.args.done _ _ _ c.span.ensures c.span-2.ensures c.min-supersteps.ensures in
    let filling = fill_first (core_of c.args.engine.now) c.args.traced c.args.steps c.args.done _ r.0 _ c.args.engine.now c.requires.is wanted r.1 in
    parts_own c.args.traced c.args.steps c.args.done _ r.0 _ c.args.engine.now c.fill_inputs.new.engine c.requires.runnable c.fill_inputs.ensures.core
    (fills_as (core_of c.args.engine.now) c.args.traced c.args.steps c.args.done _ r.0 _ c.fill_inputs.new.engine _ (Ok None) (c.in-Ok-None.is ∙ ap Ok c.in-Ok-None.field-0-is)
    (c.fill_inputs.ensures.ends c.args.traced c.args.steps c.args.done r.0 filling))

pub run_round-requires-clause-clear : goal.run_round-requires-clause-clear
run_round-requires-clause-clear g c κs within =
    let r = c.requires.stands in
    let wanted = supersteps_are c.args.traced c.args.steps c.args.done _ _ _ c.span.ensures c.span-2.ensures c.min-supersteps.ensures in
    let filling = fill_first (core_of c.args.engine.now) c.args.traced c.args.steps c.args.done _ r.0 _ c.args.engine.now c.requires.is wanted r.1 in
    clear_own c.args.traced c.args.steps c.args.done _ r.0 _ c.args.engine.now c.fill_inputs.new.engine c.requires.runnable c.fill_inputs.ensures.core
    (fills_as (core_of c.args.engine.now) c.args.traced c.args.steps c.args.done _ r.0 _ c.fill_inputs.new.engine _ (Ok None) (c.in-Ok-None.is ∙ ap Ok c.in-Ok-None.field-0-is)
    (c.fill_inputs.ensures.ends c.args.traced c.args.steps c.args.done r.0 filling))

pub returns-in-Ok-clause-ends : goal.returns-in-Ok-clause-ends
returns-in-Ok-clause-ends g c olds stands =
    let wanted = supersteps_are c.args.traced c.args.steps c.args.done _ _ _ c.span.ensures c.span-2.ensures c.min-supersteps.ensures in
    let filling = fill_first (core_of c.args.engine.now) c.args.traced c.args.steps c.args.done _ olds _ c.args.engine.now c.requires.is wanted stands in
    let next : c.args.done + 1 ≡ suc c.args.done = omega arith in
    joined c.args.traced c.args.steps c.args.done _ olds _ c.args.engine.now c.fill_inputs.new.engine c.requires.runnable c.fill_inputs.ensures.core
    (fills_as (core_of c.args.engine.now) c.args.traced c.args.steps c.args.done _ olds _ c.fill_inputs.new.engine _ (Ok None) (c.in-Ok-None.is ∙ ap Ok c.in-Ok-None.field-0-is)
    (c.fill_inputs.ensures.ends c.args.traced c.args.steps c.args.done olds filling))
    c.run_round.new.engine _ _ next _ c.run_round.ensures.ends c.in-Ok.is c.run_round.ensures.core c.run_round.ensures.span c.run_round.ensures.queues c.run_round.ensures.peaks
    c.in-Ok.ensures.clears

pub returns-in-Err-run_round-clause-ends : goal.returns-in-Err-run_round-clause-ends
returns-in-Err-run_round-clause-ends g c olds stands =
    let wanted = supersteps_are c.args.traced c.args.steps c.args.done _ _ _ c.span.ensures c.span-2.ensures c.min-supersteps.ensures in
    let filling = fill_first (core_of c.args.engine.now) c.args.traced c.args.steps c.args.done _ olds _ c.args.engine.now c.requires.is wanted stands in
    let next : c.args.done + 1 ≡ suc c.args.done = omega arith in
    joined_failed c.args.traced c.args.steps c.args.done _ olds _ c.args.engine.now c.fill_inputs.new.engine c.requires.runnable c.fill_inputs.ensures.core
    (fills_as (core_of c.args.engine.now) c.args.traced c.args.steps c.args.done _ olds _ c.fill_inputs.new.engine _ (Ok None) (c.in-Ok-None.is ∙ ap Ok c.in-Ok-None.field-0-is)
    (c.fill_inputs.ensures.ends c.args.traced c.args.steps c.args.done olds filling))
    c.run_round.new.engine _ _ next _ c.run_round.ensures.ends c.in-Err-run_round.failed c.in-Err-run_round.is
