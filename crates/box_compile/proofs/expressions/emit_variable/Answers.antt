use Rattle.box_compile.proofs.Appending.{on_ok}
use Rattle.box_compile.proofs.Forms.{variable_done}
use Rattle.box_compile.proofs.expressions.emit_variable.Goals as goal

pub returns-in_ok-depth-in-Some : goal.returns-in_ok-depth-in-Some
returns-in_ok-depth-in-Some c =
    let d = c.in_ok-depth-in-Some.ensures in
    on_ok c.emit.result (variable_done c.args.number c.in-Some.place.now c.in_ok-depth-in-Some.depth c.in-Some.ensures d.0 d.1) c.emit.ensures
