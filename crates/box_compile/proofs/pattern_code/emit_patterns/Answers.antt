use Rattle.std.proofs.Common.{List, IfOk, subst}
use Rattle.box_code.specs.Paths.{Spot, Test, tests_from}
use Rattle.box_compile.specs.inner.Patterns.{FoundWritten}
use Rattle.box_compile.proofs.pattern_code.emit_patterns.Goals as goal

pub returns : goal.returns
returns c =
    let f = c.in_ok-found.ensures in
    subst (λ (spots : List Spot). IfOk c.emit_found.result
    (FoundWritten c.args.writer.now c.emit_found.new.writer c.args.high c.args.other (tests_from c.args.pats.now 0) spots)) f.1
    (subst (λ (tests : List Test). IfOk c.emit_found.result
    (FoundWritten c.args.writer.now c.emit_found.new.writer c.args.high c.args.other tests c.in_ok-found.found.spots)) f.0 c.emit_found.ensures)
