use Rattle.std.proofs.Common.{Option, refl, sym, subst}
use Rattle.std.specs.Option.{option_map}
use Rattle.hume_model.specs.declared.core_tree.Expr.{Expr}
use Rattle.box_costs.specs.Bounds.{expression_bound, raise_bound}
use Rattle.space_costs.specs.inner.Standing.{IsCostOf}
use Rattle.space_costs.proofs.results.raise_cost.Goals as goal

pub returns-in-None : goal.returns-in-None
returns-in-None c =
    subst (λ (part : Option Expr). IsCostOf c.both.result (raise_bound (option_map (expression_bound c.args.core.now) part))) (sym c.in-None.is)
    (c.both.ensures _ _ c.pushed.ensures (c.instructions.ensures 1 refl))

pub returns-in-Some : goal.returns-in-Some
returns-in-Some c =
    subst (λ (part : Option Expr). IsCostOf c.both-in-Some.result (raise_bound (option_map (expression_bound c.args.core.now) part))) (sym c.in-Some.is)
    (c.both-in-Some.ensures _ _ c.part_cost.ensures (c.instructions-in-Some.ensures 1 refl))
