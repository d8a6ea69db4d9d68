use Rattle.std.proofs.Common.{◌≡◌, ◌+◌, ℕ, nat_lt, List, get_or, ◌&&◌, true, false, suc, length, drop, Some, slice_get, refl, ap, sym, ◌∙◌, arith}
use Rattle.std.proofs.lemmas.Bool.{ltb-true}
use Rattle.std.proofs.lemmas.Option.{slice_get_read}
use Rattle.hume_model.specs.BoxTyping.{port_types}
use Rattle.wire_cells.proofs.AtHome.{cell_found, same_cell}
use Rattle.match_rules.specs.inner.WordTests.{position_test, positions_test}
use Rattle.match_rules.proofs.Passing.{next_position}
use Rattle.match_rules.proofs.choosing.positions_pass.Goals as goal

in_place : {X : Type 0} (xs : List X) (i : ℕ) (x : X) → true ≡ nat_lt i (length xs) → x ≡ get_or xs i x → slice_get xs i ≡ Some x
in_place xs i x less is = slice_get_read xs (length xs) i x refl (ltb-true i (length xs) (sym less)) is

pub cell_at-requires : goal.cell_at-requires
cell_at-requires c =
    let given = c.requires.home in
    let number = c.in-Some-get.number.now in
    let here = in_place c.args.side.now c.loop-i.i number c.in-Some-get.ensures.lookup.0 c.in-Some-get.ensures.lookup.1 in
    let found = cell_found c.args.side.now c.args.home.now given.0 c.loop-i.i number given.1 here in
    (found.0, found.1)

pub returns-then-not-position_passes : goal.returns-then-not-position_passes
returns-then-not-position_passes c = λ cells at.
    let types = c.args.types.now in
    let pats = c.args.pats.now in
    let ports = c.args.ports.now in
    let side = c.args.side.now in
    let i = c.loop-i.i in
    let number = c.in-Some-get.number.now in
    let here = in_place side i number c.in-Some-get.ensures.lookup.0 c.in-Some-get.ensures.lookup.1 in
    let port = in_place ports i c.in-Some.port.now c.in-Some.ensures.lookup.0 c.in-Some.ensures.lookup.1 in
    let pat = slice_get_read pats (length pats) i c.index-pats-i.result refl (omega (arith, c.loop-i-test.true)) c.index-pats-i.is in
    let cell = same_cell side c.args.home.now cells i number c.cell_at.result.now at here c.cell_at.ensures in
    let fails : position_test types c.index-pats-i.result c.in-Some.port.now.ty c.cell_at.result.now ≡ false =
    sym c.position_passes.ensures ∙ c.if-not-position_passes.true in
    sym (ap (λ b. b && positions_test types (drop (suc i) pats) (port_types (drop (suc i) ports)) (drop (suc i) cells)) fails)
    ∙ sym (next_position types pats ports cells i c.index-pats-i.result c.in-Some.port.now c.cell_at.result.now pat port cell) ∙ c.loop-i.invariant cells at

pub loop-i-preserved : goal.loop-i-preserved
loop-i-preserved c = λ cells at.
    let types = c.args.types.now in
    let pats = c.args.pats.now in
    let ports = c.args.ports.now in
    let side = c.args.side.now in
    let i = c.loop-i.i in
    let number = c.in-Some-get.number.now in
    let here = in_place side i number c.in-Some-get.ensures.lookup.0 c.in-Some-get.ensures.lookup.1 in
    let port = in_place ports i c.in-Some.port.now c.in-Some.ensures.lookup.0 c.in-Some.ensures.lookup.1 in
    let pat = slice_get_read pats (length pats) i c.index-pats-i.result refl (omega (arith, c.loop-i-test.true)) c.index-pats-i.is in
    let cell = same_cell side c.args.home.now cells i number c.cell_at.result.now at here c.cell_at.ensures in
    let passes : position_test types c.index-pats-i.result c.in-Some.port.now.ty c.cell_at.result.now ≡ true =
    sym c.position_passes.ensures ∙ c.if-not-position_passes.false in
    let step : i + 1 ≡ suc i = omega arith in
    ap (λ n. positions_test types (drop n pats) (port_types (drop n ports)) (drop n cells)) step
    ∙ sym (ap (λ b. b && positions_test types (drop (suc i) pats) (port_types (drop (suc i) ports)) (drop (suc i) cells)) passes)
    ∙ sym (next_position types pats ports cells i c.index-pats-i.result c.in-Some.port.now c.cell_at.result.now pat port cell) ∙ c.loop-i.invariant cells at
