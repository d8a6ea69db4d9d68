use Rattle.std.proofs.Common.{◌≡◌, ◌+◌, ◌<◌, ◌++◌, suc, List, length, map, take, drop, get_or, Some, slice_get, slice_set, ap, sym, ◌∙◌, subst, arith}
use Rattle.std.proofs.lemmas.List.{take_all}
use Rattle.std.proofs.lemmas.Option.{slice_get-get_or, get_or_from_slice_get}
use Rattle.hume_model.specs.declared.core_tree.InPat.{InPat}
use Rattle.hume_model.specs.BoxTyping.{port_types}
use Rattle.hume_net.specs.HalfSteps.{oldest}
use Rattle.box_costs.specs.ResultSpending.{built_value, built_values}
use Rattle.wire_cells.specs.Cells.{without_values}
use Rattle.wire_cells.specs.Homes.{AreAtHome}
use Rattle.wire_cells.proofs.AtHome.{cell_found, number_within, others_same, others_both, others_set, same_cells}
use Rattle.match_rules.specs.Inputs.{AreBuilt}
use Rattle.match_rules.specs.inner.Consuming.{consumed}
use Rattle.match_rules.proofs.InputsBuilt.{IsAt, position_at, type_at, as_many_ports, none_built, built_both, more_words, same_room, more_pushed, same_stack_room, fits_long}
use Rattle.match_rules.proofs.Taking.{here_still, next_home, consumed_all, consumed_kept, consumed_taken}
use Rattle.match_rules.proofs.inputs.take_inputs.Goals as goal

pub loop-i-init : goal.loop-i-init
loop-i-init c = record {
  built = λ cells values at are fit. none_built c.args.heap.now c.args.stack.now;
  at = λ cells at. at;
  others = others_same c.args.side.now c.args.home.now;
}

pub bounds-home-side : goal.bounds-home-side
bounds-home-side c =
    let side = c.args.side.now in
    let i = c.loop-i.i in
    let given = c.requires.fitting in
    let pats = c.args.rule.now.pats in
    let in_side : i < length side = omega (arith, c.loop-i-test.true, c.min-i-end.ensures, c.min.ensures) in
    number_within side c.loop-i.home (consumed (take i pats) (take i given.0) ++ drop i given.0) i (get_or side i 0) (c.loop-i.invariant.at given.0 given.2)
    (slice_get-get_or side i 0 in_side)

pub cell_in-cell-requires : goal.cell_in-cell-requires
cell_in-cell-requires c =
    let side = c.args.side.now in
    let i = c.loop-i.i in
    let w = get_or side i 0 in
    let given = c.requires.fitting in
    let pats = c.args.rule.now.pats in
    let in_side : i < length side = omega (arith, c.loop-i-test.true, c.min-i-end.ensures, c.min.ensures) in
    let found = cell_found side c.loop-i.home (consumed (take i pats) (take i given.0) ++ drop i given.0) i w (c.loop-i.invariant.at given.0 given.2)
    (slice_get-get_or side i 0 in_side) in
    (found.0, get_or_from_slice_get c.loop-i.home w (Some found.0) c.index-home-side.result found.1)

pub take_position-requires-clause-fitting : goal.take_position-requires-clause-fitting
take_position-requires-clause-fitting c =
    let pats = c.args.rule.now.pats in
    let side = c.args.side.now in
    let i = c.loop-i.i in
    let w = get_or side i 0 in
    let given = c.requires.fitting in
    let cells = given.0 in
    let ins = map oldest given.1 in
    let in_pats : i < length pats = (let many = ap (λ (ps : List InPat). length ps) c.as_slice-pats.ensures in omega (arith, c.loop-i-test.true, c.min-i-end.ensures, c.min.ensures, many)) in
    let in_side : i < length side = omega (arith, c.loop-i-test.true, c.min-i-end.ensures, c.min.ensures) in
    let in_cells : i < length cells = (let long = given.2.long in omega (arith, in_side, long)) in
    let in_ports : i < length c.args.ports.now = omega (arith, c.loop-i-test.true, c.min-i-end.ensures, c.min.ensures) in
    let side_here = slice_get-get_or side i 0 in_side in
    let now_at = c.loop-i.invariant.at cells given.2 in
    let within = number_within side c.loop-i.home (consumed (take i pats) (take i cells) ++ drop i cells) i w now_at side_here in
    let there : slice_get c.loop-i.home w ≡ Some (Some c.cell_in-cell.result.now) = slice_get-get_or c.loop-i.home w c.index-home-side.result within
    ∙ ap (λ o. Some o) c.cell_in-cell.ensures.cell in
    let pat : c.index-pats-i.result ≡ get_or pats i c.index-pats-i.result = c.index-pats-i.is
    ∙ ap (λ ps. get_or ps i c.index-pats-i.result) c.as_slice-pats.ensures in
    let type = (get_or c.args.ports.now i c.index-ports-i.result).ty in
    let here = c.cell_in-cell.result.now in
    let cell : here ≡ get_or cells i here = here_still side c.loop-i.home pats cells i w here now_at side_here there in_pats in_cells in
    let at : IsAt c.args.core.now pats ins i type c.index-pats-i.result here = position_at c.args.core.now pats given.3 given.4
    i type c.index-pats-i.result here in_pats in_cells (type_at c.args.ports.now i c.index-ports-i.result in_ports) pat cell in
    let so_far = built_values (take i pats) ins in
    let built = c.loop-i.invariant.built given.0 given.1 given.2 given.3 given.4 in
    let words = more_words so_far c.args.heap.now c.loop-i.heap c.args.stack.now c.loop-i.stack built in
    let room = same_room so_far c.args.heap.now c.loop-i.heap c.args.stack.now c.loop-i.stack built in
    let pushed = more_pushed so_far c.args.heap.now c.loop-i.heap c.args.stack.now c.loop-i.stack built in
    let stack_room = same_stack_room so_far c.args.heap.now c.loop-i.heap c.args.stack.now c.loop-i.stack built in
    (at.held, at.is, at.fitting, omega (arith, words, room, at.heap, given.5), omega (arith, pushed, stack_room, at.stack, given.6))

pub loop-i-preserved : goal.loop-i-preserved
loop-i-preserved c =
    let pats = c.args.rule.now.pats in
    let side = c.args.side.now in
    let i = c.loop-i.i in
    let w = get_or side i 0 in
    let given = c.requires.fitting in
    let in_pats : i < length pats = (let many = ap (λ (ps : List InPat). length ps) c.as_slice-pats.ensures in omega (arith, c.loop-i-test.true, c.min-i-end.ensures, c.min.ensures, many)) in
    let in_side : i < length side = omega (arith, c.loop-i-test.true, c.min-i-end.ensures, c.min.ensures) in
    let in_ports : i < length c.args.ports.now = omega (arith, c.loop-i-test.true, c.min-i-end.ensures, c.min.ensures) in
    let side_here = slice_get-get_or side i 0 in_side in
    let within = number_within side c.loop-i.home (consumed (take i pats) (take i given.0) ++ drop i given.0) i w (c.loop-i.invariant.at given.0 given.2) side_here in
    let there : slice_get c.loop-i.home w ≡ Some (Some c.cell_in-cell.result.now) = slice_get-get_or c.loop-i.home w c.index-home-side.result within
    ∙ ap (λ o. Some o) c.cell_in-cell.ensures.cell in
    let pat : c.index-pats-i.result ≡ get_or pats i c.index-pats-i.result = c.index-pats-i.is
    ∙ ap (λ ps. get_or ps i c.index-pats-i.result) c.as_slice-pats.ensures in
    let type = (get_or c.args.ports.now i c.index-ports-i.result).ty in
    let here = c.cell_in-cell.result.now in
    let step : suc i ≡ i + 1 = omega arith in
    record {
      built = λ cells values is are fit.
          let ins = map oldest values in
          let in_cells : i < length cells = (let long = is.long in omega (arith, in_side, long)) in
          let cell : here ≡ get_or cells i here =
          here_still side c.loop-i.home pats cells i w here (c.loop-i.invariant.at cells is) side_here there in_pats in_cells in
          let at : IsAt c.args.core.now pats ins i type c.index-pats-i.result here = position_at c.args.core.now pats are fit
          i type c.index-pats-i.result here in_pats in_cells (type_at c.args.ports.now i c.index-ports-i.result in_ports) pat cell in
          subst (λ vs. AreBuilt vs c.args.heap.now c.take_position.new.heap c.args.stack.now c.take_position.new.stack) (sym at.next)
          (built_both (built_values (take i pats) ins) (built_value c.index-pats-i.result (oldest at.held))
          c.args.heap.now c.loop-i.heap c.take_position.new.heap c.args.stack.now c.loop-i.stack
          c.take_position.new.stack (c.loop-i.invariant.built cells values is are fit) (c.take_position.ensures.built at.held at.is at.fitting));
      at = λ cells is.
          let in_cells : i < length cells = (let long = is.long in omega (arith, in_side, long)) in
          subst (λ n. AreAtHome side (slice_set c.loop-i.home w (Some c.take_position.new.cell)) (consumed (take n pats) (take n cells) ++ drop n cells)) step
          (next_home side c.requires.apart c.loop-i.home pats cells i w c.index-pats-i.result here c.take_position.new.cell (c.loop-i.invariant.at cells is)
          side_here there in_pats in_cells pat c.take_position.ensures.left);
      others = others_both side c.args.home.now c.loop-i.home (slice_set c.loop-i.home w (Some c.take_position.new.cell)) c.loop-i.invariant.others
          (others_set side c.requires.apart i w side_here c.loop-i.home c.take_position.new.cell);
    }

pub returns-clause-built : goal.returns-clause-built
returns-clause-built c = λ cells values at are fit.
    let pats = c.args.rule.now.pats in
    let many : length c.as_slice-pats.result.now ≡ length pats = ap (λ (ps : List InPat). length ps) c.as_slice-pats.ensures in
    let long = fits_long c.args.core.now pats are fit in
    let ports = as_many_ports c.args.core.now c.args.ports.now are in
    let sides = at.long in
    let all : take c.loop-i.i pats ≡ pats = take_all c.loop-i.i pats (omega (arith, c.loop-i-test.false, c.min-i-end.ensures, c.min.ensures, many, long, ports, sides)) in
    subst (λ ps. AreBuilt (built_values ps (map oldest values)) c.args.heap.now c.loop-i.heap c.args.stack.now c.loop-i.stack) all
    (c.loop-i.invariant.built cells values at are fit)

pub returns-clause-left : goal.returns-clause-left
returns-clause-left c = λ cells values at are.
    let pats = c.args.rule.now.pats in
    let many : length c.as_slice-pats.result.now ≡ length pats = ap (λ (ps : List InPat). length ps) c.as_slice-pats.ensures in
    let ports = as_many_ports c.args.core.now c.args.ports.now are in
    let sides = at.long in
    subst (AreAtHome c.args.side.now c.loop-i.home)
    (consumed_all pats cells c.loop-i.i (omega (arith, c.loop-i-test.false, c.loop-i.auto.i-end, c.min-i-end.ensures, c.min.ensures, many, ports, sides))
    ∙ consumed_taken c.args.core.now (port_types c.args.ports.now) pats cells values are) (c.loop-i.invariant.at cells at)

pub returns-clause-rest : goal.returns-clause-rest
returns-clause-rest c = λ cells after at now_at.
    let pats = c.args.rule.now.pats in
    let side = c.args.side.now in
    let given = c.requires.fitting in
    let many : length c.as_slice-pats.result.now ≡ length pats = ap (λ (ps : List InPat). length ps) c.as_slice-pats.ensures in
    let ports = as_many_ports c.args.core.now c.args.ports.now given.3 in
    let sides = at.long in
    let given_sides = given.2.long in
    let all = consumed_all pats cells c.loop-i.i
    (omega (arith, c.loop-i-test.false, c.loop-i.auto.i-end, c.min-i-end.ensures, c.min.ensures, many, ports, sides, given_sides)) in
    ap (map without_values) (same_cells side c.loop-i.home after (consumed pats cells) now_at
    (subst (AreAtHome side c.loop-i.home) all (c.loop-i.invariant.at cells at)))
    ∙ consumed_kept pats cells
