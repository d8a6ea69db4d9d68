use Rattle.std.proofs.Common.{◌∷◌, length, ap, ◌∙◌}
use Rattle.check_scopes.proofs.types_lemmas.Held.{below_pushed, on_ok, shown, shown_grown, vars_grown, kept_shown, all_more, plain, plain_within}
use Rattle.check_scopes.proofs.types.context.Context.push.Goals as goal

pub number-requires : goal.number-requires
number-requires c = plain_within (length c.self.inside.types) c.args.node c.requires

pub invariant_of-self : goal.invariant_of-self
invariant_of-self c = all_more _ _ c.number.ensures.grows c.self.inside.vars c.self.inside.held c.self.inside.kept.items c.self.invariant

pub invariant_of-self-2 : goal.invariant_of-self-2
invariant_of-self-2 c =
    let more = all_more _ _ c.number.ensures.grows c.self.inside.vars c.self.inside.held c.self.inside.kept.items c.self.invariant in
    (more.0, below_pushed _ _ _ _ c.push.result c.push.ensures.ok c.push.ensures.err c.in_ok-number.ensures.within more.1, more.2)

pub returns-clause-ok : goal.returns-clause-ok
returns-clause-ok c =
    let old = c.self.inside.types in
    let new = c.number.new.self in
    let g = c.number.ensures.grows in
    let vars = vars_grown old new g c.self.inside.vars c.self.invariant.0 ∙ ap (λ k. k.0) c.self.view_is in
    let rest = shown_grown old new g c.self.inside.held c.self.invariant.1 ∙ ap (λ k. k.1) c.self.view_is in
    let kept = shown_grown old new g c.self.inside.kept.items c.self.invariant.2 ∙ ap (λ k. k.2) c.self.view_is in
    let first = c.in_ok-number.ensures.is ∙ plain old c.args.node c.requires in
    on_ok c.push.result (λ pushed. (λ i. (vars i, (ap (shown new) pushed ∙ (λ i. first i ∷ rest i)) i, kept i))) c.push.ensures.ok

pub returns-in_err-number-clause-kept : goal.returns-in_err-number-clause-kept
returns-in_err-number-clause-kept c = kept_shown _ _ c.number.ensures.grows c.self.inside.kept.items c.self.invariant.2 (ap (λ k. k.2) c.self.view_is)

pub returns-clause-kept : goal.returns-clause-kept
returns-clause-kept c = kept_shown _ _ c.number.ensures.grows c.self.inside.kept.items c.self.invariant.2 (ap (λ k. k.2) c.self.view_is)
