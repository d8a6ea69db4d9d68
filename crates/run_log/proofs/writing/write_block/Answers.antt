use Rattle.std.proofs.Common.{◌∙◌, ap, arith, length, refl}
use Rattle.hume_model.specs.declared.core_tree.Core.{Core}
use Rattle.phase_workers.specs.Engines.{core_of, state_of}
use Rattle.trace_print.proofs.LinesInTurn.{none_written}
use Rattle.run_log.specs.Nets.{engine_in, half_in}
use Rattle.run_log.proofs.BlockLines.{block_counted}
use Rattle.run_log.proofs.LinesToPorts.{all_first, one_failed, one_more}
use Rattle.run_log.proofs.writing.write_block.Goals as goal

pub loop-place-init : goal.loop-place-init
loop-place-init g c = record { same_names = refl; room = refl; written = none_written c.args.at _ }

pub block_line-requires-clause-there : goal.block_line-requires-clause-there
block_line-requires-clause-there g c =
    let count = c.len-count.ensures ∙ ap (λ (core : Core). length core.wires) c.core.ensures in
    omega (arith, c.loop-place-test.true, count)

pub loop-place-preserved : goal.loop-place-preserved
loop-place-preserved g c = record {
  same_names = c.write_line.ensures.same_names ∙ c.loop-place.invariant.same_names;
  room = c.block_line.ensures.room ∙ c.loop-place.invariant.room;
  written = one_more c.args.at _ c.loop-place.place _ _ _ c.loop-place.invariant.written _ c.block_line.ensures.line _ c.in-Ok.is c.write_line.ensures.ends
      c.write_line.ensures.same_names;
}

pub returns-in-Err-clause-ends : goal.returns-in-Err-clause-ends
returns-in-Err-clause-ends g c =
    one_failed c.args.at _ c.loop-place.place _ _ _ c.loop-place.invariant.written _ c.block_line.ensures.line _ c.in-Err.failed c.in-Err.is
    c.write_line.ensures.ends

pub returns-clause-ends : goal.returns-clause-ends
returns-clause-ends g c =
    let engine = engine_in c.args.net.now in
    let count = c.len-count.ensures ∙ ap (λ (core : Core). length core.wires) c.core.ensures in
    let lines = block_counted (core_of engine) (half_in c.args.net.now) c.args.superstep (state_of engine) in
    all_first c.args.at _ c.loop-place.place _ _ (omega (arith, c.loop-place-test.false, c.loop-place.auto.place-end, count, lines)) c.loop-place.invariant.written
