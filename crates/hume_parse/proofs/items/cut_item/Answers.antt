use Rattle.std.proofs.Common.{◌-◌, length, Ok, refl, sym, ap, ◌∙◌}
use Rattle.std.proofs.lemmas.List.{take_rest}
use Rattle.hume_ast.specs.Places.{kinds}
use Rattle.parse_items.specs.inner.Items.{seen_item, seen_expecting}
use Rattle.hume_parse.proofs.ItemSteps.{same_end}
use Rattle.hume_parse.proofs.items.cut_item.Goals as goal

pub returns-clause-reads : goal.returns-clause-reads
returns-clause-reads c =
    let rest = c.args.rest.now in
    let after = c.in_ok-found.after.now in
    c.in_ok-found.ensures.reads
    ∙ ap (λ ks. Ok (seen_item c.in_ok-found.found, ks))
    (sym (ap kinds (take_rest rest (length rest - length after)) ∙ same_end (seen_expecting c.args.expecting) rest after (seen_item c.in_ok-found.found) _ c.in_ok-found.ensures.reads refl))
