use Rattle.std.proofs.Common.{◌∷◌, length, sym, ap, subst, ◌∙◌, reverse, take, drop}
use Rattle.hume_base.specs.declared.types.Ty.{Tuple as TupleTy}
use Rattle.hume_base.specs.declared.types.Ty.TheVariants.{rolls-Tuple}
use Rattle.check_scopes.specs.types.Nodes.{all_below}
use Rattle.check_scopes.proofs.types_lemmas.Held.{below_pushed, on_ok, shown, shown_grown, vars_grown, kept_shown, all_more, below_reverse, below_first, below_rest, shown_last, shown_rest}
use Rattle.check_scopes.proofs.types.context.Context.tuple.Goals as goal

pub number-requires : goal.number-requires
number-requires c =
    let b = length c.self.inside.types in
    subst (all_below b) (sym c.in_ok-parts.ensures.taken) (below_reverse b _ (below_first b c.args.count c.self.inside.held c.self.invariant.1))

pub invariant_of-self-in_err-number : goal.invariant_of-self-in_err-number
invariant_of-self-in_err-number c =
    let b = length c.self.inside.types in
    let rest = subst (all_below b) (sym c.in_ok-parts.ensures.left) (below_rest b c.args.count c.self.inside.held c.self.invariant.1) in
    all_more _ _ c.number.ensures.grows c.self.inside.vars _ c.self.inside.kept.items (c.self.invariant.0, rest, c.self.invariant.2)

pub invariant_of-self-2 : goal.invariant_of-self-2
invariant_of-self-2 c =
    let b = length c.self.inside.types in
    let rest = subst (all_below b) (sym c.in_ok-parts.ensures.left) (below_rest b c.args.count c.self.inside.held c.self.invariant.1) in
    let more = all_more _ _ c.number.ensures.grows c.self.inside.vars _ c.self.inside.kept.items (c.self.invariant.0, rest, c.self.invariant.2) in
    (more.0, below_pushed _ _ _ _ c.push.result c.push.ensures.ok c.push.ensures.err c.in_ok-number.ensures.within more.1, more.2)

pub returns-clause-ok : goal.returns-clause-ok
returns-clause-ok c =
    let old = c.self.inside.types in
    let new = c.number.new.self in
    let g = c.number.ensures.grows in
    let held = c.self.inside.held in
    let is = ap (λ k. k.1) c.self.view_is in
    let vars = vars_grown old new g c.self.inside.vars c.self.invariant.0 ∙ ap (λ k. k.0) c.self.view_is in
    let kept = shown_grown old new g c.self.inside.kept.items c.self.invariant.2 ∙ ap (λ k. k.2) c.self.view_is in
    let rest = shown_grown old new g (drop c.args.count held) (below_rest _ c.args.count held c.self.invariant.1) ∙ shown_rest old c.args.count held ∙ ap (drop c.args.count) is in
    let parts = ap (shown old) c.in_ok-parts.ensures.taken ∙ shown_last old c.args.count held ∙ ap (λ ts. reverse (take c.args.count ts)) is in
    let first = c.in_ok-number.ensures.is ∙ rolls-Tuple _ ∙ ap TupleTy parts in
    on_ok c.push.result (λ pushed. (λ i. (vars i, (ap (shown new) (pushed ∙ ap (λ ns. c.in_ok-number.number ∷ ns) c.in_ok-parts.ensures.left) ∙ (λ i. first i ∷ rest i)) i, kept i))) c.push.ensures.ok

pub returns-in_err-number-clause-kept : goal.returns-in_err-number-clause-kept
returns-in_err-number-clause-kept c = kept_shown _ _ c.number.ensures.grows c.self.inside.kept.items c.self.invariant.2 (ap (λ k. k.2) c.self.view_is)

pub returns-clause-kept : goal.returns-clause-kept
returns-clause-kept c = kept_shown _ _ c.number.ensures.grows c.self.inside.kept.items c.self.invariant.2 (ap (λ k. k.2) c.self.view_is)
