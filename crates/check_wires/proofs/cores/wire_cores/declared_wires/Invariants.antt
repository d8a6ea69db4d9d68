use Rattle.std.proofs.Common.{◌≡◌, drop}
use Rattle.check_wires.specs.cores.inner.FoundWires.{core_of, cores_of}
use Rattle.check_wires.proofs.cores_lemmas.Gathered.{with_rest}
use Rattle.check_wires.proofs.cores.wire_cores.declared_wires.Given as goal

abbrev pub invariant-loop-i : goal.invariant-loop-i
invariant-loop-i l =
    with_rest (core_of l.lines l.table l.nodes) l.i (drop l.i l.decls) l.wires ≡ cores_of l.lines l.table l.nodes l.decls
