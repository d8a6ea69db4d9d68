use Rattle.std.proofs.Common.{◌≡◌, ◌++◌, ◌∙◌, ap, sym, subst, Some, slice_get}
use Rattle.hume_net.specs.Sides.{on_wire}
use Rattle.hume_text.specs.Chunks.{bytes_in}
use Rattle.hume_text.specs.Bounds.{IsPrintable}
use Rattle.wire_cells.specs.Cells.{Holds}
use Rattle.phase_workers.specs.Engines.{core_of, state_of}
use Rattle.trace_print.specs.TraceLines.{wire_line}
use Rattle.run_rounds.proofs.Tellings.{item_in, line_told, wire_told}
use Rattle.run_rounds.proofs.telling.tell_wire.Goals as goal

pub wire_line-requires-clause-printable : goal.wire_line-requires-clause-printable
wire_line-requires-clause-printable g c wire there =
    subst (λ core. IsPrintable core.types wire.ty) (sym c.core.ensures)
    (c.requires.runnable.printable c.wire.result.now.number wire (subst (λ core. slice_get core.wires c.wire.result.now.number ≡ Some wire) c.core.ensures there))

pub returns-clause-ends : goal.returns-clause-ends
returns-clause-ends g c =
    let core = core_of c.args.engine.now in
    let held = on_wire (state_of c.args.engine.now) c.args.wire in
    let its = item_in core.wires c.args.wire c.requires.there in
    let line = c.wire_line.ensures.line its.0 held
    (subst (λ core. slice_get core.wires c.wire.result.now.number ≡ Some its.0) (sym c.core.ensures)
    (subst (λ w. slice_get core.wires w ≡ Some its.0) (sym c.wire.ensures.number) its.1))
    (subst (λ core. Holds core.types its.0 c.wire.result.now held) (sym c.core.ensures) (c.wire.ensures.holds its.0 its.1)) in
    wire_told core c.args.wire its.0 held _ _ _ its.1
    (line_told _ _ _ _ _ _ (line ∙ ap (λ core. bytes_in c.clear.new.self ++ wire_line core its.0 held) c.core.ensures) c.clear.ensures.bytes c.tell.ensures.ends)
