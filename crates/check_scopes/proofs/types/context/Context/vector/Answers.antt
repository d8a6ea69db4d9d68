use Rattle.std.proofs.Common.{◌∷◌, length, sym, ap, subst, ◌∙◌}
use Rattle.hume_base.specs.declared.types.Ty.{Vector as VectorTy}
use Rattle.hume_base.specs.declared.types.Ty.TheVariants.{rolls-Vector}
use Rattle.check_scopes.specs.types.Nodes.{all_below}
use Rattle.check_scopes.specs.types.Contexts.{top, below}
use Rattle.check_scopes.proofs.types_lemmas.Held.{below_pushed, on_ok, shown, shown_grown, vars_grown, kept_shown, all_more}
use Rattle.check_scopes.proofs.types.context.Context.vector.Goals as goal

pub invariant_of-self-in_err-number : goal.invariant_of-self-in_err-number
invariant_of-self-in_err-number c =
    let held = subst (all_below (length c.self.inside.types)) c.in-Some.ensures c.self.invariant.1 in
    all_more _ _ c.number.ensures.grows c.self.inside.vars _ c.self.inside.kept.items (c.self.invariant.0, held.1, c.self.invariant.2)

pub invariant_of-self-2 : goal.invariant_of-self-2
invariant_of-self-2 c =
    let held = subst (all_below (length c.self.inside.types)) c.in-Some.ensures c.self.invariant.1 in
    let more = all_more _ _ c.number.ensures.grows c.self.inside.vars _ c.self.inside.kept.items (c.self.invariant.0, held.1, c.self.invariant.2) in
    (more.0, below_pushed _ _ _ _ c.push.result c.push.ensures.ok c.push.ensures.err c.in_ok-number.ensures.within more.1, more.2)

pub returns-clause-ok : goal.returns-clause-ok
returns-clause-ok c =
    let old = c.self.inside.types in
    let new = c.number.new.self in
    let g = c.number.ensures.grows in
    let held = subst (all_below (length old)) c.in-Some.ensures c.self.invariant.1 in
    let is = sym (ap (shown old) c.in-Some.ensures) ∙ ap (λ k. k.1) c.self.view_is in
    let vars = vars_grown old new g c.self.inside.vars c.self.invariant.0 ∙ ap (λ k. k.0) c.self.view_is in
    let kept = shown_grown old new g c.self.inside.kept.items c.self.invariant.2 ∙ ap (λ k. k.2) c.self.view_is in
    let rest = shown_grown old new g c.pop.new.self held.1 ∙ ap below is in
    let first = c.in_ok-number.ensures.is ∙ rolls-Vector _ _ ∙ ap (VectorTy c.args.count) (ap top is) in
    on_ok c.push.result (λ pushed. (λ i. (vars i, (ap (shown new) pushed ∙ (λ i. first i ∷ rest i)) i, kept i))) c.push.ensures.ok

pub returns-in_err-number-clause-kept : goal.returns-in_err-number-clause-kept
returns-in_err-number-clause-kept c = kept_shown _ _ c.number.ensures.grows c.self.inside.kept.items c.self.invariant.2 (ap (λ k. k.2) c.self.view_is)

pub returns-clause-kept : goal.returns-clause-kept
returns-clause-kept c = kept_shown _ _ c.number.ensures.grows c.self.inside.kept.items c.self.invariant.2 (ap (λ k. k.2) c.self.view_is)
