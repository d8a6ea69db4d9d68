use Rattle.std.proofs.Common.{Some, ◌∷◌, length, sym, ap, subst, ◌∙◌}
use Rattle.check_scopes.specs.types.Nodes.{type_at, all_below}
use Rattle.check_scopes.proofs.types_lemmas.Held.{shown, found_below, finds_none, finds_some}
use Rattle.check_scopes.proofs.types.context.Context.find.Goals as goal

pub returns-in-None-clause-ok : goal.returns-in-None-clause-ok
returns-in-None-clause-ok c = finds_none c.self.inside.types c.args.name.now c.self.inside.vars c.args.self.now (ap (λ k. k.0) c.self.view_is) (sym c.find.ensures ∙ c.in-None.is)

pub returns-in_ok-push-in-Some-clause-ok : goal.returns-in_ok-push-in-Some-clause-ok
returns-in_ok-push-in-Some-clause-ok c =
    let is = sym c.find.ensures ∙ c.in-Some.is in
    let held = ap (shown c.self.inside.types) c.in_ok-push-in-Some.ensures.ok ∙ ap (λ k. type_at c.self.inside.types c.in-Some.number ∷ k.1) c.self.view_is in
    (λ i. (Some c.in-Some.place, ((c.self.view_is i).0, held i, (c.self.view_is i).2))) ∙ finds_some c.self.inside.types c.args.name.now c.self.inside.vars c.args.self.now (c.in-Some.place, c.in-Some.number) (ap (λ k. k.0) c.self.view_is) is

pub invariant_of-self-in-Some : goal.invariant_of-self-in-Some
invariant_of-self-in-Some c =
    let b = length c.self.inside.types in
    (c.self.invariant.0, subst (all_below b) (sym c.in_ok-push-in-Some.ensures.ok) (found_below b c.args.name.now c.self.inside.vars (c.in-Some.place, c.in-Some.number) c.self.invariant.0 (sym c.find.ensures ∙ c.in-Some.is), c.self.invariant.1), c.self.invariant.2)
