use Rattle.std.proofs.Common.{◌≡◌, IfOk, length, ap, subst}
use Rattle.hume_base.specs.declared.types.Ty.{Ty}
use Rattle.check_scopes.proofs.types_lemmas.Held.{last_below, last_seen}
use Rattle.check_scopes.proofs.types.context.Context.variable_tree.Goals as goal

pub tree-requires : goal.tree-requires
tree-requires c = last_below (length c.self.inside.types) c.self.inside.vars c.in-Some.number c.self.invariant.0 c.in-Some.ensures

pub returns-clause-is : goal.returns-clause-is
returns-clause-is c =
    let seen = last_seen c.self.inside.types c.self.inside.vars c.in-Some.number c.args.self.now.0 (ap (λ k. k.0) c.self.view_is) c.in-Some.ensures in
    subst (λ (ty : Ty). IfOk c.tree.result (λ tree. tree ≡ ty)) seen c.tree.ensures.is
