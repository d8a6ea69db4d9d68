use Rattle.std.proofs.Common.{◌≡◌, None, Some, slice_get, slice_set, ap, sym, ◌∙◌, subst, arith}
use Rattle.std.specs.Prelude.{slice_index}
use Rattle.std.proofs.lemmas.Option.{slice_get-get_or}
use Rattle.superstep_core.specs.declared.grouping.Grouping.{Grouping}
use Rattle.turn_workers.specs.inner.Placed.{AreCrossingAtRest, IsWireAtRest}
use Rattle.turn_workers.proofs.Placed.{crossing_less}
use Rattle.turn_workers.proofs.placing.place_wire.Goals as goal

pub put_wire-requires-clause-cell : goal.put_wire-requires-clause-cell
put_wire-requires-clause-cell g c = λ κs le.
    let shape = g.O.Opens.grouping in
    let w = slice_index shape.crossing c.args.c in
    let at = slice_get-get_or shape.crossing c.args.c 0 c.requires.place in
    let same : slice_index c.deref.result.now c.args.c ≡ w = ap (λ xs. slice_index xs c.args.c) c.deref.ensures
    ∙ ap (λ (s : Grouping). slice_index s.crossing c.args.c) c.requires.of.1 in
    let it = c.requires.cells.each c.args.c w (omega arith) at in
    let is : it.0 ≡ c.take_wire-cell.result = (let both : Some (Some it.0) ≡ Some (Some c.take_wire-cell.result) =
    sym it.1 ∙ ap (slice_get c.args.home.now.items) (sym same) ∙ c.take_wire-cell.ensures.cell in cc) in
    subst (IsWireAtRest g.O.Opens.opened shape g.O.Opens.steps c.args.c) is it.2

pub returns-clause-cells : goal.returns-clause-cells
returns-clause-cells g c =
    let shape = g.O.Opens.grouping in
    let w = slice_index shape.crossing c.args.c in
    let at = slice_get-get_or shape.crossing c.args.c 0 c.requires.place in
    let same : slice_index c.deref.result.now c.args.c ≡ w = ap (λ xs. slice_index xs c.args.c) c.deref.ensures
    ∙ ap (λ (s : Grouping). slice_index s.crossing c.args.c) c.requires.of.1 in
    subst (AreCrossingAtRest g.O.Opens.opened shape g.O.Opens.steps c.args.c)
    (sym (c.take_wire-cell.ensures.home ∙ ap (λ n. slice_set c.args.home.now.items n None) same))
    (crossing_less g.O.Opens.opened g.O.Opens.plan shape c.requires.of.0.grouping g.O.Opens.steps c.args.c w c.args.home.now.items at c.requires.cells)
