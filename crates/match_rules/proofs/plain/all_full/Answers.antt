use Rattle.std.proofs.Common.{◌≡◌, ◌+◌, ◌&&◌, true, false, suc, drop, get_or, ap, sym, ◌∙◌, arith}
use Rattle.std.specs.List.{list_all}
use Rattle.std.proofs.lemmas.Bool.{ltb_from_iff}
use Rattle.std.proofs.lemmas.Option.{slice_get-get_or}
use Rattle.wire_cells.proofs.AtHome.{cell_found, same_cell}
use Rattle.match_rules.specs.inner.Words.{is_full}
use Rattle.match_rules.proofs.PlainRules.{next_full}
use Rattle.match_rules.proofs.plain.all_full.Goals as goal

pub cell_at-requires : goal.cell_at-requires
cell_at-requires c =
    let given = c.requires.home in
    let side = c.args.side.now in
    let i = c.loop-number.number-index in
    let found = cell_found side c.args.home.now given.0 i (get_or side i 0) given.1 (slice_get-get_or side i 0 (omega (arith, c.loop-number-test.true))) in
    (found.0, found.1)

pub returns-then-not-full : goal.returns-then-not-full
returns-then-not-full c = λ cells at.
    let side = c.args.side.now in
    let i = c.loop-number.number-index in
    let now = c.cell_at.result.now in
    let here = slice_get-get_or side i 0 (omega (arith, c.loop-number-test.true)) in
    let cell = same_cell side c.args.home.now cells i (get_or side i 0) now at here c.cell_at.ensures in
    let fails : is_full now ≡ false = sym (ltb_from_iff c.full.ensures) ∙ c.if-not-full.true in
    sym (ap (λ b. b && list_all is_full (drop (suc i) cells)) fails) ∙ sym (next_full cells i now cell) ∙ c.loop-number.invariant cells at

pub loop-number-preserved : goal.loop-number-preserved
loop-number-preserved c = λ cells at.
    let side = c.args.side.now in
    let i = c.loop-number.number-index in
    let now = c.cell_at.result.now in
    let here = slice_get-get_or side i 0 (omega (arith, c.loop-number-test.true)) in
    let cell = same_cell side c.args.home.now cells i (get_or side i 0) now at here c.cell_at.ensures in
    let passes : is_full now ≡ true = sym (ltb_from_iff c.full.ensures) ∙ c.if-not-full.false in
    let step : i + 1 ≡ suc i = omega arith in
    ap (λ n. list_all is_full (drop n cells)) step ∙ sym (ap (λ b. b && list_all is_full (drop (suc i) cells)) passes)
    ∙ sym (next_full cells i now cell) ∙ c.loop-number.invariant cells at
