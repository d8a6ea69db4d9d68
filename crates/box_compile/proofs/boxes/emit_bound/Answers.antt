use Rattle.box_compile.proofs.Appending.{on_ok}
use Rattle.box_compile.proofs.BoxCode.{bound_done}
use Rattle.box_compile.proofs.boxes.emit_bound.Goals as goal

pub returns : goal.returns
returns c =
    on_ok c.emit_result.result (bound_done c.args.high c.in_ok-variables.variables c.in_ok-plus.field-0 c.in_ok-places.places c.args.spots.now
    c.args.outcome.now
    c.in_ok-variables.ensures c.in_ok-places.ensures c.in_ok-plus.ensures c.in_ok-emit_fields.ensures) c.emit_result.ensures
