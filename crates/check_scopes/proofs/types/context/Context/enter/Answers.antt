use Rattle.std.proofs.Common.{length, sym, subst}
use Rattle.check_scopes.specs.types.Nodes.{all_below}
use Rattle.check_scopes.proofs.types_lemmas.Held.{numbers, below_push}
use Rattle.check_scopes.proofs.types.context.Context.enter.Goals as goal

pub invariant_of-self-in-Some : goal.invariant_of-self-in-Some
invariant_of-self-in-Some c =
    let b = length c.self.inside.types in
    let held = subst (all_below b) c.in-Some.ensures c.self.invariant.1 in
    (subst (λ vs. all_below b (numbers vs)) (sym c.in_ok-enter-in-Some.ensures.ok) (below_push b c.self.inside.vars (c.args.name.now, c.in-Some.number) c.self.invariant.0 held.0), held.1, c.self.invariant.2)
