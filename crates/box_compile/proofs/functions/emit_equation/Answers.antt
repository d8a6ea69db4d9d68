use Rattle.std.proofs.Common.{List, refl, subst}
use Rattle.hume_model.specs.declared.core_tree.PatC.{PatC}
use Rattle.box_code.specs.Paths.{spots_from, tests_from}
use Rattle.box_compile.specs.inner.Patterns.{FoundWritten}
use Rattle.box_compile.proofs.Appending.{on_ok}
use Rattle.box_compile.proofs.FunctionCode.{equation_done}
use Rattle.box_compile.proofs.functions.emit_equation.Goals as goal

pub returns : goal.returns
returns c =
    let equation = c.args.equation.now in
    let matched : FoundWritten c.args.writer.now c.emit_patterns.new.writer c.in_ok-top.top c.in_ok-other.other (tests_from equation.pats 0)
    (spots_from equation.pats 0) c.in_ok-variables.variables =
    subst (λ (pats : List PatC). FoundWritten c.args.writer.now c.emit_patterns.new.writer c.in_ok-top.top c.in_ok-other.other (tests_from pats 0)
    (spots_from pats 0) c.in_ok-variables.variables) c.as_slice.ensures c.in_ok-variables.ensures in
    on_ok c.reach.result
    (equation_done c.in_ok-top.top c.in_ok-variables.variables _ c.in_ok-other.other _ equation (tests_from equation.pats 0)
    (spots_from equation.pats 0) c.in_ok-top.ensures refl refl matched.all refl refl matched.tests_stand matched.fields_stand
    c.in_ok-emit_body.ensures c.in_ok-emit.ensures)
    c.reach.ensures
