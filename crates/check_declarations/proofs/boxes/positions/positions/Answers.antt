use Rattle.std.proofs.Common.{◌≡◌, ◌+◌, ◌||◌, Bool, List, length, drop, sym, ap, ◌∙◌}
use Rattle.std.proofs.lemmas.Result.{err_from_is_err_and}
use Rattle.hume_model.specs.declared.core_tree.InPat.{InPat}
use Rattle.check_typing.specs.Patterns.{CoredPosition}
use Rattle.check_declarations.specs.boxes.inner.Rules.{with_others}
use Rattle.check_declarations.proofs.boxes_lemmas.PositionLaws.{turn_more, turn_lacks, same_parts}
use Rattle.check_declarations.proofs.boxes.positions.positions.Goals as goal
use Rattle.check_declarations.proofs.boxes.positions.positions.Goals.{then-some_too_wide, else-some_too_wide}

pub returns-in_err-core-clause-none : goal.returns-in_err-core-clause-none
returns-in_err-core-clause-none c =
    let p = err_from_is_err_and c.from_residual-in_err-core.result c.from_residual-in_err-core.ensures.1 in
    let so_far : List InPat × Bool = (c.loop-place.cores, c.loop-place.some_too_wide) in
    rw (p.1, p.2) (λ t. sym c.loop-place.invariant.so_far
    ∙ turn_lacks so_far c.loop-place.at c.args.pats.now c.loop-place.place c.index-pats-place.result c.loop-place.invariant.parts c.loop-place-test.true
    c.index-pats-place.is (c.in_err-core.ensures.none t))

pub loop-place-preserved : goal.loop-place-preserved
loop-place-preserved c =
    let place = c.loop-place.place in
    let pats = c.args.pats.now in
    let pat = c.index-pats-place.result in
    let core : CoredPosition = (c.in_ok-core.core, c.in_ok-core.too_wide) in
    let new = c.position_of.new.at in
    let too_wide : c.loop-place.some_too_wide || c.in_ok-core.too_wide ≡ c.if-some_too_wide.some_too_wide =
    elim c.if-some_too_wide.branch [
      | then-some_too_wide w ↦ ap (λ b. b || c.in_ok-core.too_wide) w.if-some_too_wide.true ∙ sym (w.some_too_wide-is ∙ w.if-some_too_wide.true)
      | else-some_too_wide w ↦ ap (λ b. b || c.in_ok-core.too_wide) w.if-some_too_wide.false ∙ sym w.some_too_wide-is
    ] in
    record {
      parts = same_parts c.loop-place.at new place (length pats) pat core c.loop-place.invariant.parts c.in_ok-core.ensures.ok;
      so_far = (λ i. with_others (c.in_ok-push.ensures.ok i, sym too_wide i) (place + 1) (drop (place + 1) pats) new)
          ∙ sym (turn_more (c.loop-place.cores, c.loop-place.some_too_wide) c.loop-place.at pats place pat c.loop-place.invariant.parts c.loop-place-test.true
          c.index-pats-place.is core new c.in_ok-core.ensures.ok)
          ∙ c.loop-place.invariant.so_far;
    }
