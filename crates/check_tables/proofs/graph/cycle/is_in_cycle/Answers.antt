use Rattle.std.proofs.Common.{◌≡◌, ℕ, List, false, ◌<◌, ◌∙◌, length, subst, sym, ap, get_or, arith}
use Rattle.std.proofs.lemmas.List.{get_or_default, length-replicate}
use Rattle.check_tables.specs.graph.inner.Search.{IsListed, Grows}
use Rattle.check_tables.proofs.graph_lemmas.Searched.{searched_start, searched_more, searched_end, seen_within}
use Rattle.check_tables.proofs.graph.cycle.is_in_cycle.Goals as goal

pub loop-at-init : goal.loop-at-init
loop-at-init c =
    let b = c.in_ok-marks.ensures.items_if_clones_equal in
    let marks = c.in_ok-marks.marks.items in
    let long : length marks ≡ length c.args.graph.now = ap length (b (λ y e. e)) ∙ length-replicate _ false ∙ c.len.ensures in
    searched_start c.args.graph.now c.args.f marks c.see_all.new.marks.items c.see_all.new.seen.items c.row_of.result.now c.row_of.ensures long
    (subst (λ (xs : List ℕ). Grows marks xs c.see_all.new.marks.items c.see_all.new.seen.items (IsListed (length marks) c.row_of.result.now)) c.new-seen.ensures.items c.in_ok-see_all.ensures)

pub row_of-requires-in-loop-at : goal.row_of-requires-in-loop-at
row_of-requires-in-loop-at c =
    let lt : c.loop-at.at < length c.loop-at.seen.items = (let k = c.loop-at.seen.ok in let l = c.len-in-loop-at.ensures in let t = c.loop-at-test.true in omega arith) in
    let at : c.index.result.now ≡ get_or c.loop-at.seen.items c.loop-at.at 0 = c.index.ensures ∙ get_or_default c.loop-at.seen.items c.loop-at.at c.index.result.now 0 lt in
    subst (λ x. x < length c.args.graph.now) (sym at) (seen_within c.args.graph.now c.args.f c.loop-at.at c.loop-at.marks.items c.loop-at.seen.items c.loop-at.invariant lt)

pub loop-at-preserved : goal.loop-at-preserved
loop-at-preserved c =
    let lt : c.loop-at.at < length c.loop-at.seen.items = (let k = c.loop-at.seen.ok in let l = c.len-in-loop-at.ensures in let t = c.loop-at-test.true in omega arith) in
    let at : c.index.result.now ≡ get_or c.loop-at.seen.items c.loop-at.at 0 = c.index.ensures ∙ get_or_default c.loop-at.seen.items c.loop-at.at c.index.result.now 0 lt in
    searched_more c.args.graph.now c.args.f c.loop-at.at c.loop-at.marks.items c.loop-at.seen.items c.see_all-in-loop-at.new.marks.items c.see_all-in-loop-at.new.seen.items c.index.result.now
    c.row_of-in-loop-at.result.now c.loop-at.invariant lt at c.row_of-in-loop-at.ensures c.in_ok-see_all-2.ensures

pub returns : goal.returns
returns c =
    let long = c.loop-at.invariant.long in
    let read : c.index-2.result.now ≡ get_or c.loop-at.marks.items c.args.f false = c.index-2.ensures ∙ get_or_default c.loop-at.marks.items c.args.f c.index-2.result.now false (let a = c.requires.f in omega arith) in
    let ends = searched_end c.args.graph.now c.args.f c.loop-at.at c.loop-at.marks.items c.loop-at.seen.items c.loop-at.invariant (let k = c.loop-at.seen.ok in let l = c.len-in-loop-at.ensures in let t = c.loop-at-test.false in omega arith) in
    (λ e. ends.0 (sym read ∙ e), λ q. read ∙ ends.1 q)
