use Rattle.std.proofs.Common.{length, sym, subst}
use Rattle.check_scopes.specs.types.Nodes.{all_below}
use Rattle.check_scopes.proofs.types_lemmas.Held.{below_last}
use Rattle.check_scopes.proofs.types.context.Context.keep.Goals as goal

pub invariant_of-self-in-Some : goal.invariant_of-self-in-Some
invariant_of-self-in-Some c =
    let b = length c.self.inside.types in
    let held = subst (all_below b) c.in-Some.ensures c.self.invariant.1 in
    (c.self.invariant.0, held.1, subst (all_below b) (sym c.in_ok-push-in-Some.ensures.items) (below_last b c.in-Some.number c.self.inside.kept.items c.self.invariant.2 held.0))
