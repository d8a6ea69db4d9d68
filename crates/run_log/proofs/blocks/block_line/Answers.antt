use Rattle.std.proofs.Common.{◌≡◌, ◌<◌, ◌-◌, ◌++◌, ◌∙◌, suc, ap, arith, length, sym, subst, Some, slice_get}
use Rattle.hume_net.specs.Sides.{on_wire}
use Rattle.hume_text.specs.Bounds.{IsPrintable}
use Rattle.hume_text.specs.Chunks.{bytes_in}
use Rattle.wire_cells.specs.Cells.{Holds}
use Rattle.phase_workers.specs.Engines.{core_of, state_of}
use Rattle.trace_print.specs.TraceLines.{wire_line}
use Rattle.run_log.specs.Nets.{engine_in, half_in}
use Rattle.run_log.proofs.BlockLines.{behind_heading, item_in, wire_in_block}
use Rattle.run_log.proofs.blocks.block_line.Goals as goal

pub wire_line-requires-clause-printable : goal.wire_line-requires-clause-printable
wire_line-requires-clause-printable c = λ wire there.
    subst (λ core. IsPrintable core.types wire.ty) (sym c.core.ensures)
    (c.requires.runnable.printable c.wire.result.now.number wire (subst (λ core. slice_get core.wires c.wire.result.now.number ≡ Some wire) c.core.ensures there))

pub returns-else-place-eq0-clause-line : goal.returns-else-place-eq0-clause-line
returns-else-place-eq0-clause-line c =
    let engine = engine_in c.args.net.now in
    let core = core_of engine in
    let w = c.args.place - 1 in
    let behind : c.args.place ≡ suc w = behind_heading c.args.place c.if-place-eq0.false in
    let less : w < length core.wires = omega (arith, behind, c.requires.there) in
    let its = item_in core.wires w less in
    let held = on_wire (state_of engine) w in
    let line = c.wire_line.ensures.line its.0 held
    (subst (λ core. slice_get core.wires c.wire.result.now.number ≡ Some its.0) (sym c.core.ensures)
    (subst (λ n. slice_get core.wires n ≡ Some its.0) (sym c.wire.ensures.number) its.1))
    (subst (λ core. Holds core.types its.0 c.wire.result.now held) (sym c.core.ensures) (c.wire.ensures.holds its.0 its.1)) in
    wire_in_block core (half_in c.args.net.now) c.args.superstep (state_of engine) c.args.place w its.0 behind less its.1
    ∙ ap Some (sym (line ∙ ap (λ core. bytes_in c.clear.new.self ++ wire_line core its.0 held) c.core.ensures
    ∙ ap (λ front. front ++ wire_line core its.0 held) c.clear.ensures.bytes))
