use Rattle.std.proofs.Common.{subst}
use Rattle.check_wires.specs.cores.Missing.{HasWireWithoutCore}
use Rattle.hume_check.proofs.assembly.wires_of.Goals as goal

pub unreachable-requires : goal.unreachable-requires
unreachable-requires c =
    let text = c.args.lines.now in
    let s = c.args.table.now in
    let missing = subst (HasWireWithoutCore text s c.args.nodes.now) c.as_slice.ensures (c.in_ok-wires.ensures.none c.in-None.is) in
    let found = c.fine_wires_have_cores.ensures text c.args.program.now s c.args.nodes.now c.requires.fine c.requires.are c.requires.nodes missing.declared missing.among in
    missing.none found.0 found.1
