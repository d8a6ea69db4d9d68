use Rattle.std.proofs.Common.{◌∙◌, ap, arith, length, refl, None}
use Rattle.hume_model.specs.declared.core_tree.Core.{Core}
use Rattle.phase_workers.specs.Engines.{core_of, state_of}
use Rattle.run_log.specs.Nets.{engine_in, half_in}
use Rattle.run_log.proofs.BlockLines.{block_counted}
use Rattle.run_log.proofs.Verdicts.{all_compared, compared_until, ended_compared, is_short, is_whole, more_compared, none_compared, read_as, untouched_on}
use Rattle.run_log.proofs.comparing.compare_block.Goals as goal

pub loop-place-init : goal.loop-place-init
loop-place-init g c =
    let first = none_compared (core_of (engine_in c.args.net.now)) _ c.args.at _ in
    record { same_names = refl; untouched = first.untouched; room = refl; compared = first }

pub block_line-requires-clause-there : goal.block_line-requires-clause-there
block_line-requires-clause-there g c =
    let count = c.len-count.ensures ∙ ap (λ (core : Core). length core.wires) c.core.ensures in
    omega (arith, c.loop-place-test.true, count)

pub loop-place-preserved : goal.loop-place-preserved
loop-place-preserved g c =
    more_compared _ _ c.loop-place.place c.args.at _ _ _ c.loop-place.fault c.fault_of.result c.loop-place.invariant.compared _ c.block_line.ensures.line
    c.read_line.ensures.same_names c.read_line.ensures.untouched c.in-Ok.read (read_as _ c.args.at _ _ _ _ c.in-Ok.is c.read_line.ensures.reads)
    c.fault_of.ensures c.first_of-fault.result c.first_of-fault.ensures (is_whole _ c.if-not-read.false) _ _
    (c.block_line.ensures.room ∙ c.loop-place.invariant.room)

pub returns-then-not-read-clause-compares : goal.returns-then-not-read-clause-compares
returns-then-not-read-clause-compares g c =
    ended_compared _ _ c.loop-place.place c.args.at _ _ _ c.loop-place.fault c.fault_of.result c.loop-place.invariant.compared _ c.block_line.ensures.line
    c.read_line.ensures.same_names c.read_line.ensures.untouched c.in-Ok.read (read_as _ c.args.at _ _ _ _ c.in-Ok.is c.read_line.ensures.reads)
    c.fault_of.ensures c.first_of-fault.result c.first_of-fault.ensures (is_short _ c.if-not-read.true)

pub returns-then-not-read-clause-untouched : goal.returns-then-not-read-clause-untouched
returns-then-not-read-clause-untouched g c =
    untouched_on _ _ c.loop-place.place c.args.at _ _ _ c.loop-place.fault c.fault_of.result c.loop-place.invariant.compared _ c.block_line.ensures.line
    c.read_line.ensures.same_names c.read_line.ensures.untouched

pub returns-in-Err-clause-compares : goal.returns-in-Err-clause-compares
returns-in-Err-clause-compares g c =
    compared_until _ _ c.loop-place.place c.args.at _ _ _ c.loop-place.fault None c.loop-place.invariant.compared _ c.block_line.ensures.line
    c.read_line.ensures.same_names c.read_line.ensures.untouched c.in-Err.failed (read_as _ c.args.at _ _ _ _ c.in-Err.is c.read_line.ensures.reads)

pub returns-in-Err-clause-untouched : goal.returns-in-Err-clause-untouched
returns-in-Err-clause-untouched g c =
    untouched_on _ _ c.loop-place.place c.args.at _ _ _ c.loop-place.fault None c.loop-place.invariant.compared _ c.block_line.ensures.line
    c.read_line.ensures.same_names c.read_line.ensures.untouched

pub returns-clause-compares : goal.returns-clause-compares
returns-clause-compares g c =
    let engine = engine_in c.args.net.now in
    let count = c.len-count.ensures ∙ ap (λ (core : Core). length core.wires) c.core.ensures in
    let lines = block_counted (core_of engine) (half_in c.args.net.now) c.args.superstep (state_of engine) in
    all_compared (core_of engine) _ c.loop-place.place c.args.at _ _ _ c.loop-place.invariant.compared
    (omega (arith, c.loop-place-test.false, c.loop-place.auto.place-end, count, lines))
