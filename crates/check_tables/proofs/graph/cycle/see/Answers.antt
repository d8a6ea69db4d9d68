use Rattle.std.proofs.Common.{◌≡◌, ◌<◌, ℕ, List, true, false, length, set, sym, subst, ◌∙◌, get_or, arith}
use Rattle.std.proofs.lemmas.List.{get_or_default}
use Rattle.check_tables.specs.graph.inner.Search.{Grows}
use Rattle.check_tables.proofs.graph_lemmas.Grown.{grows_one}
use Rattle.check_tables.proofs.graph.cycle.see.Goals as goal

pub returns : goal.returns
returns c =
    let marks = c.args.marks.now.items in
    let lt : c.args.b < length marks = (let e = c.if-place-len.false in let l = c.len.ensures in omega arith) in
    let off : get_or marks c.args.b false ≡ false = get_or_default marks c.args.b false c.index.result.now lt ∙ sym c.index.ensures ∙ c.if-index.false in
    subst (λ (xs : List ℕ). Grows marks c.args.seen.now.items (set marks c.args.b true) xs (λ x. (x < length marks) × (x ≡ c.args.b))) (sym c.in_ok-push.ensures.items)
    (grows_one marks c.args.seen.now.items c.args.b lt off c.requires)
