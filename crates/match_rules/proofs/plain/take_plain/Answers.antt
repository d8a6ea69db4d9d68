use Rattle.std.proofs.Common.{◌≡◌, ◌+◌, ◌<◌, suc, length, map, take, get_or, Some, slice_get, slice_set, refl, ap, sym, ◌∙◌, subst, arith}
use Rattle.std.proofs.lemmas.List.{take_all}
use Rattle.std.proofs.lemmas.Option.{slice_get-get_or, get_or_from_slice_get}
use Rattle.box_heap.specs.Stacks.{StackView, with_word, with_words}
use Rattle.wire_cells.specs.Cells.{without_values}
use Rattle.wire_cells.specs.Homes.{AreAtHome}
use Rattle.wire_cells.proofs.AtHome.{cell_found, number_within, others_same, others_both, others_set, same_cells}
use Rattle.match_rules.specs.inner.Words.{word_in_cell, without_first}
use Rattle.match_rules.proofs.InputsBuilt.{words_room}
use Rattle.match_rules.proofs.PlainRules.{HasWord, plain_words, as_many_patterns, word_at, words_built, words_left, firsts_kept, first_less, first_here, next_first, all_less, words_before, next_word, pushed_many}
use Rattle.match_rules.proofs.plain.take_plain.Goals as goal

pub loop-i-init : goal.loop-i-init
loop-i-init c = record {
  at = λ cells at. at;
  pushed = λ cells at. refl;
  others = others_same c.args.side.now c.args.home.now;
}

pub bounds-home-side : goal.bounds-home-side
bounds-home-side c =
    let side = c.args.side.now in
    let i = c.loop-i.i in
    let given = c.requires.fitting in
    number_within side c.loop-i.home (first_less i given.0) i (get_or side i 0) (c.loop-i.invariant.at given.0 given.5)
    (slice_get-get_or side i 0 (omega (arith, c.loop-i-test.true)))

pub cell_in-requires : goal.cell_in-requires
cell_in-requires c =
    let side = c.args.side.now in
    let i = c.loop-i.i in
    let w = get_or side i 0 in
    let given = c.requires.fitting in
    let found = cell_found side c.loop-i.home (first_less i given.0) i w (c.loop-i.invariant.at given.0 given.5)
    (slice_get-get_or side i 0 (omega (arith, c.loop-i-test.true))) in
    (found.0, get_or_from_slice_get c.loop-i.home w (Some found.0) c.index-home-side.result found.1)

pub take_word-requires-clause-there : goal.take_word-requires-clause-there
take_word-requires-clause-there c =
    let side = c.args.side.now in
    let i = c.loop-i.i in
    let w = get_or side i 0 in
    let given = c.requires.fitting in
    let cells = given.0 in
    let in_side : i < length side = omega (arith, c.loop-i-test.true) in
    let less : i < length cells = (let long = given.5.long in omega (arith, in_side, long)) in
    let side_here = slice_get-get_or side i 0 in_side in
    let now_at = c.loop-i.invariant.at cells given.5 in
    let there : slice_get c.loop-i.home w ≡ Some (Some c.cell_in.result.now) =
    slice_get-get_or c.loop-i.home w c.index-home-side.result (number_within side c.loop-i.home (first_less i cells) i w now_at side_here)
    ∙ ap (λ o. Some o) c.cell_in.ensures.cell in
    let words = plain_words given.1 given.2 given.3 cells given.4 given.6 in
    subst HasWord (sym (first_here side c.loop-i.home cells i w c.cell_in.result.now now_at side_here there less)) (word_at words i c.cell_in.result.now less)

pub take_word-requires-clause-room : goal.take_word-requires-clause-room
take_word-requires-clause-room c =
    let stack = c.args.stack.now in
    let i = c.loop-i.i in
    let given = c.requires.fitting in
    let cells = given.0 in
    let less : i < length cells = (let long = given.5.long in omega (arith, c.loop-i-test.true, long)) in
    let many = as_many_patterns (plain_words given.1 given.2 given.3 cells given.4 given.6) in
    let pushed = pushed_many stack cells i (omega (arith, less)) in
    let room = words_room stack (words_before i cells) in
    let now = ap (λ (s : StackView). length s.words) (c.loop-i.invariant.pushed cells given.5) in
    let same = ap (λ (s : StackView). s.room) (c.loop-i.invariant.pushed cells given.5) in
    omega (arith, less, many, pushed, room, now, same, given.7)

pub loop-i-preserved : goal.loop-i-preserved
loop-i-preserved c =
    let side = c.args.side.now in
    let stack = c.args.stack.now in
    let i = c.loop-i.i in
    let w = get_or side i 0 in
    let given = c.requires.fitting in
    let new = c.take_word.new.cell in
    let here = c.cell_in.result.now in
    let in_side : i < length side = omega (arith, c.loop-i-test.true) in
    let side_here = slice_get-get_or side i 0 in_side in
    let there : slice_get c.loop-i.home w ≡ Some (Some here) = slice_get-get_or c.loop-i.home w c.index-home-side.result
    (number_within side c.loop-i.home (first_less i given.0) i w (c.loop-i.invariant.at given.0 given.5) side_here) ∙ ap (λ o. Some o) c.cell_in.ensures.cell in
    let step : suc i ≡ i + 1 = omega arith in
    record {
      at = λ cells is.
          let less : i < length cells = (let long = is.long in omega (arith, in_side, long)) in
          subst (λ n. AreAtHome side (slice_set c.loop-i.home w (Some new)) (first_less n cells)) step
          (next_first side c.requires.apart c.loop-i.home cells i w here new (c.loop-i.invariant.at cells is) side_here there less c.take_word.ensures.left);
      pushed = λ cells is.
          let less : i < length cells = (let long = is.long in omega (arith, in_side, long)) in
          let same = first_here side c.loop-i.home cells i w here (c.loop-i.invariant.at cells is) side_here there less in
          c.take_word.ensures.pushed ∙ ap (λ cell. with_word c.loop-i.stack (word_in_cell cell)) same
          ∙ ap (λ s. with_word s (word_in_cell (get_or cells i here))) (c.loop-i.invariant.pushed cells is)
          ∙ next_word stack cells i here less ∙ ap (λ n. with_words stack (words_before n cells)) step;
      others = others_both side c.args.home.now c.loop-i.home (slice_set c.loop-i.home w (Some new)) c.loop-i.invariant.others
          (others_set side c.requires.apart i w side_here c.loop-i.home new);
    }

pub returns-clause-built : goal.returns-clause-built
returns-clause-built c = λ cells core types rule values at are heap.
    let long = at.long in
    let all : take c.loop-i.i cells ≡ cells = take_all c.loop-i.i cells (omega (arith, c.loop-i-test.false, long)) in
    words_built (plain_words core types rule cells values are) heap c.args.stack.now c.loop-i.stack
    (c.loop-i.invariant.pushed cells at ∙ ap (λ cs. with_words c.args.stack.now (map word_in_cell cs)) all)

pub returns-clause-left : goal.returns-clause-left
returns-clause-left c = λ cells core types rule values at are.
    let long = at.long in
    subst (AreAtHome c.args.side.now c.loop-i.home)
    (all_less cells c.loop-i.i (omega (arith, c.loop-i-test.false, c.loop-i.auto.i-end, long)) ∙ words_left (plain_words core types rule cells values are))
    (c.loop-i.invariant.at cells at)

pub returns-clause-rest : goal.returns-clause-rest
returns-clause-rest c = λ cells after at now_at.
    let side = c.args.side.now in
    let long = at.long in
    let all = all_less cells c.loop-i.i (omega (arith, c.loop-i-test.false, c.loop-i.auto.i-end, long)) in
    ap (map without_values) (same_cells side c.loop-i.home after (map without_first cells) now_at
    (subst (AreAtHome side c.loop-i.home) all (c.loop-i.invariant.at cells at)))
    ∙ firsts_kept cells
