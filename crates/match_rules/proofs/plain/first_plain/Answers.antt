use Rattle.std.proofs.Common.{◌∙◌, ap, sym, cond, nat_lt, length, None}
use Rattle.std.specs.List.{find}
use Rattle.match_rules.proofs.PlainRules.{first_when}
use Rattle.match_rules.proofs.plain.first_plain.Goals as goal

pub returns-then-all_full : goal.returns-then-all_full
returns-then-all_full c = λ core cells values at are.
    let b = c.args.b.now in
    let order = c.args.order.now in
    let full = sym (c.all_full.ensures cells at) ∙ c.if-all_full.true in
    c.first_below.ensures ∙ ap (λ n. find (λ number. nat_lt number n) order) c.len.ensures
    ∙ sym (first_when core b c.requires.plain cells values are order
    ∙ ap (λ t. cond t (find (λ number. nat_lt number (length b.rules)) order) None) full)

pub returns-else-all_full : goal.returns-else-all_full
returns-else-all_full c = λ core cells values at are.
    let b = c.args.b.now in
    let order = c.args.order.now in
    let full = sym (c.all_full.ensures cells at) ∙ c.if-all_full.false in
    sym (first_when core b c.requires.plain cells values are order
    ∙ ap (λ t. cond t (find (λ number. nat_lt number (length b.rules)) order) None) full)
