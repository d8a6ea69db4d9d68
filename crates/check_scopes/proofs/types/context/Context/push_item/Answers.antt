use Rattle.std.proofs.Common.{drop, ◌∷◌, length, sym, ap, ◌∙◌}
use Rattle.check_scopes.specs.types.Contexts.{item_of}
use Rattle.check_scopes.proofs.types_lemmas.Held.{below_pushed, on_ok, shown, top_level}
use Rattle.check_scopes.proofs.types.context.Context.push_item.Goals as goal

pub invariant_of-self : goal.invariant_of-self
invariant_of-self c =
    let b = length c.self.inside.types in
    (c.self.invariant.0, below_pushed b _ _ _ c.push.result c.push.ensures.ok c.push.ensures.err (c.in-Some-item_of_node.ensures.within b c.node.ensures.within) c.self.invariant.1, c.self.invariant.2)

pub returns-in-Some-item_of_node-clause-ok : goal.returns-in-Some-item_of_node-clause-ok
returns-in-Some-item_of_node-clause-ok c =
    let tys = c.self.inside.types in
    let level = top_level tys c.self.inside.held (drop 1 c.self.inside.held) c.in-Some.number c.node.result.now c.args.self.now.1 (ap (λ k. k.1) c.self.view_is) c.in-Some.ensures c.node.ensures.is in
    let first = sym (c.in-Some-item_of_node.ensures.is tys) ∙ ap item_of (sym level) in
    on_ok c.push.result (λ held. (λ i. ((c.self.view_is i).0, (ap (shown tys) held ∙ (λ j. first j ∷ (c.self.view_is j).1)) i, (c.self.view_is i).2))) c.push.ensures.ok
