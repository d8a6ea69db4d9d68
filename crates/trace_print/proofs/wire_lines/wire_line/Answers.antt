use Rattle.std.proofs.Common.{◌≡◌, ◌++◌, Option, Some, sym, ◌∙◌, ap, arith, slice_get}
use Rattle.hume_model.specs.declared.core_tree.WireC.{WireC}
use Rattle.hume_text.specs.Chunks.{bytes_in}
use Rattle.trace_print.specs.Rooms.{wire_room}
use Rattle.trace_print.specs.TraceLines.{wire_line}
use Rattle.trace_print.proofs.Greatest.{greatest_bounds}
use Rattle.trace_print.proofs.wire_lines.wire_line.Goals as goal

pub put_wire-requires-clause-printable : goal.put_wire-requires-clause-printable
put_wire-requires-clause-printable c = c.requires.printable c.in-Some.wire.now
    (ap (slice_get c.args.core.now.wires) (sym c.number.ensures) ∙ c.in-Some.ensures)

pub put_wire-requires-clause-room : goal.put_wire-requires-clause-room
put_wire-requires-clause-room c =
    let within = greatest_bounds (wire_room c.args.core.now.types) c.args.core.now.wires c.number.result c.in-Some.wire.now c.in-Some.ensures in
    omega (arith, within, c.requires.room)

pub returns-clause-line : goal.returns-clause-line
returns-clause-line c = λ wire held there holds.
    let known : ◌≡◌ {A = Option WireC} (Some c.in-Some.wire.now) (Some wire) =
    sym c.in-Some.ensures ∙ ap (slice_get c.args.core.now.wires) c.number.ensures ∙ there in
    let same : c.in-Some.wire.now ≡ wire = cc in
    c.put_wire.ensures.line held (rw same holds) ∙ ap (λ (its : WireC). bytes_in c.args.chunk.now ++ wire_line c.args.core.now its held) same
