use Rattle.std.proofs.lemmas.List.{take-map}
use Rattle.std.proofs.Common.{List, ℕ, length, sym, ap, subst, ◌∙◌, take}
use Rattle.hume_base.specs.declared.types.Ty.{Ty}
use Rattle.check_scopes.specs.types.Nodes.{type_at, all_below}
use Rattle.check_scopes.proofs.types_lemmas.Held.{shown_vars, numbers, below_take}
use Rattle.check_scopes.proofs.types.context.Context.leave.Goals as goal

pub invariant_of-self : goal.invariant_of-self
invariant_of-self c = (subst (λ vs. all_below (length c.self.inside.types) (numbers vs)) (sym c.leave.ensures) (below_take _ c.args.count c.self.inside.vars c.self.invariant.0), c.self.invariant.1, c.self.invariant.2)

pub returns : goal.returns
returns c =
    let tys = c.self.inside.types in
    let named : List ℕ × ℕ → List ℕ × Ty = λ v. (v.0, type_at tys v.1) in
    let vars = ap (shown_vars tys) c.leave.ensures ∙ sym (take-map named c.args.count c.self.inside.vars) ∙ ap (λ k. take c.args.count k.0) c.self.view_is in
    λ i. (vars i, (c.self.view_is i).1, (c.self.view_is i).2)
