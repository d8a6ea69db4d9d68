use Rattle.std.proofs.Common.{◌<◌, ◌∙◌, ap, Ok, subst}
use Rattle.hume_net.specs.rounds.Rounds.{rounds_of}
use Rattle.run_rounds.proofs.RoundMaking.{rounding_none, rounding_next, rounds_halted, rounds_failed, stands_own, next_round}
use Rattle.run_rounds.proofs.rounds.make_rounds.Goals as goal

pub loop-done-init : goal.loop-done-init
loop-done-init g c = rounding_none c.args.traced c.args.steps _ c.args.engine.now _ c.requires.stands

pub make_round-requires-clause-is : goal.make_round-requires-clause-is
make_round-requires-clause-is g c κs within =
    next_round c.args.traced c.args.steps c.loop-done.done
    (subst (λ count. c.loop-done.done < count) (c.div_ceil-done-end.ensures ∙ ap (λ span. rounds_of span c.args.steps) c.span.ensures) c.loop-done-test.true)

pub make_round-requires-clause-stands : goal.make_round-requires-clause-stands
make_round-requires-clause-stands g c κs within =
    (_, stands_own c.args.traced c.args.steps _ _ c.args.engine.now c.loop-done.engine _ _ c.loop-done.done c.loop-done.invariant)

pub returns-in-Ok-Some-clause-ends : goal.returns-in-Ok-Some-clause-ends
returns-in-Ok-Some-clause-ends g c =
    let own = stands_own c.args.traced c.args.steps _ _ c.args.engine.now c.loop-done.engine _ _ c.loop-done.done c.loop-done.invariant in
    rounds_halted c.args.traced c.args.steps _ _ c.args.engine.now c.loop-done.engine _ _ c.loop-done.done c.loop-done.invariant _ c.make_round.new.engine c.make_round.new.chunk _
    (c.make_round.ensures.ends _ own) c.in-Ok-Some.bad (c.in-Ok-Some.is ∙ ap Ok c.in-Ok-Some.field-0-is)

pub returns-in-Err-clause-ends : goal.returns-in-Err-clause-ends
returns-in-Err-clause-ends g c =
    let own = stands_own c.args.traced c.args.steps _ _ c.args.engine.now c.loop-done.engine _ _ c.loop-done.done c.loop-done.invariant in
    rounds_failed c.args.traced c.args.steps _ _ c.args.engine.now c.loop-done.engine _ _ c.loop-done.done c.loop-done.invariant _ c.make_round.new.engine c.make_round.new.chunk _
    (c.make_round.ensures.ends _ own) c.in-Err.failed c.in-Err.is

pub loop-done-preserved : goal.loop-done-preserved
loop-done-preserved g c =
    let own = stands_own c.args.traced c.args.steps _ _ c.args.engine.now c.loop-done.engine _ _ c.loop-done.done c.loop-done.invariant in
    rounding_next c.args.traced c.args.steps _ _ c.args.engine.now c.loop-done.engine _ _ c.loop-done.done c.loop-done.invariant _ c.make_round.new.engine c.make_round.new.chunk _
    (c.make_round.ensures.ends _ own) (c.in-Ok-None.is ∙ ap Ok c.in-Ok-None.field-0-is) c.make_round.ensures.core c.make_round.ensures.same_names c.make_round.ensures.room
