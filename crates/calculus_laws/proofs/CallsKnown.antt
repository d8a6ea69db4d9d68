-- A typed expression calls only functions that there are.
use Rattle.std.proofs.Common.{◌≡◌, ℕ, ◌&&◌, Bool, true, List, length, map, Some, None, refl, ap, sym, ◌∙◌}
use Rattle.std.specs.List.{list_all}
use Rattle.std.proofs.lemmas.Bool.{lt-ltb}
use Rattle.std.proofs.lemmas.Option.{slice_get_within}
use Rattle.hume_base.specs.declared.types.Ty.{Ty}
use Rattle.hume_base.specs.declared.types.Ty.TheVariants as shape
use Rattle.hume_model.specs.declared.core_tree.Op.TheVariants.{Neg, Not, Convert}
use Rattle.hume_model.specs.declared.core_tree.PatC.{PatC}
use Rattle.hume_model.specs.declared.core_tree.Expr.{Expr, roll-Expr, map-Expr, fold-roll-Expr}
use Rattle.hume_model.specs.declared.core_tree.Expr.TheOpen.{Expr-F}
use Rattle.hume_model.specs.declared.core_tree.Expr.TheVariants as expr
use Rattle.hume_model.specs.declared.core_tree.Core.{Core}
use Rattle.hume_model.specs.Calls.{all_true, calls_below, calls_step}
use Rattle.hume_model.specs.Typing.{HasType, HaveTypes, ArmsHaveType}

pub both : (a b : Bool) → a ≡ true → b ≡ true → (a && b) ≡ true
both a b p q = rw (p, q) refl

module _ (core : Core) where
  abbrev bound : ℕ
  bound = length core.funs

  by_form : (x : Expr-F Expr) (e : Expr) → roll-Expr x ≡ e → calls_below bound e ≡ calls_step bound (map-Expr Expr Bool (calls_below bound) x)
  by_form x e is = ap (calls_below bound) (sym is) ∙ fold-roll-Expr Bool (calls_step bound) x

  abbrev arm_calls : PatC × Expr → PatC × Bool
  arm_calls arm = (arm.0, calls_below bound arm.1)

  mutual
    pub calls_known : {vars : List Ty} {e : Expr} {ty : Ty} → HasType core vars e ty → calls_below bound e ≡ true
    calls_known (HasType.word w is) = by_form (Expr-F.Word w) _ (expr.rolls-Word w)
    calls_known (HasType.variable n is) = by_form (Expr-F.Var n) _ (expr.rolls-Var n)
    calls_known (HasType.con number place sum {parts = es} known within parts) = by_form (Expr-F.Con place es) _ (expr.rolls-Con place es) ∙ all_known parts
    calls_known (HasType.tuple {parts = es} parts) = by_form (Expr-F.Tuple es) _ (expr.rolls-Tuple es) ∙ all_known parts
    calls_known (HasType.vector count item {parts = es} parts) = by_form (Expr-F.Vect es) _ (expr.rolls-Vect es) ∙ all_known parts
    calls_known (HasType.arithmetic op ty {parts = es} is number parts) = by_form (Expr-F.Prim op ty es) _ (expr.rolls-Prim op ty es) ∙ all_known parts
    calls_known (HasType.comparison op ty {parts = es} is parts) = by_form (Expr-F.Prim op ty es) _ (expr.rolls-Prim op ty es) ∙ all_known parts
    calls_known (HasType.negation ty {parts = es} number parts) = by_form (Expr-F.Prim Neg ty es) _ (expr.rolls-Prim Neg ty es) ∙ all_known parts
    calls_known (HasType.opposite {parts = es} parts) = by_form (Expr-F.Prim Not shape.Bool es) _ (expr.rolls-Prim Not shape.Bool es) ∙ all_known parts
    calls_known (HasType.conversion from to {parts = es} is are parts) = by_form (Expr-F.Prim Convert to es) _ (expr.rolls-Prim Convert to es) ∙ all_known parts
    calls_known (HasType.index count places item {vector = v} {place = k} is vec place) =
        by_form (Expr-F.Index count v k) _ (expr.rolls-Index count v k) ∙ both _ _ (calls_known vec) (calls_known place)
    calls_known (HasType.update count places item {vector = v} {place = k} {new_item = e} is vec place new_item) =
        by_form (Expr-F.Update count v k e) _ (expr.rolls-Update count v k e) ∙ both _ _ (calls_known vec) (both _ _ (calls_known place) (calls_known new_item))
    calls_known (HasType.choice {test = t} {when_true = a} {when_false = b} test when_true when_false) =
        by_form (Expr-F.If t a b) _ (expr.rolls-If t a b) ∙ both _ _ (calls_known test) (both _ _ (calls_known when_true) (calls_known when_false))
    calls_known (HasType.alternatives of {part = e} {forms = forms} {arms = ways} part is_of arms) =
        by_form (Expr-F.Case e forms ways) _ (expr.rolls-Case e forms ways) ∙ both _ _ (calls_known part) (arms_known arms)
    calls_known (HasType.binding of {part = a} {body = b} part body) =
        by_form (Expr-F.Let a b) _ (expr.rolls-Let a b) ∙ both _ _ (calls_known part) (calls_known body)
    calls_known (HasType.call number function {parts = es} known parts) =
        by_form (Expr-F.Call number es) _ (expr.rolls-Call number es)
        ∙ both _ _ (lt-ltb number bound (slice_get_within core.funs number function known)) (all_known parts)
    calls_known (HasType.raise_alone number exn known nothing) = by_form (Expr-F.Raise number None) _ (expr.rolls-Raise number None)
    calls_known (HasType.raise_with number exn carried {part = e} known carries part) =
        by_form (Expr-F.Raise number (Some e)) _ (expr.rolls-Raise number (Some e)) ∙ calls_known part

    all_known : {vars : List Ty} {es : List Expr} {tys : List Ty} → HaveTypes core vars es tys → all_true (map (calls_below bound) es) ≡ true
    all_known HaveTypes.none = refl
    all_known (HaveTypes.one first rest) = both _ _ (calls_known first) (all_known rest)

    arms_known : {vars : List Ty} {of ty : Ty} {arms : List (PatC × Expr)} → ArmsHaveType core vars of arms ty
        → list_all (λ (arm : PatC × Bool). arm.1) (map arm_calls arms) ≡ true
    arms_known ArmsHaveType.no_arm = refl
    arms_known (ArmsHaveType.one_arm pattern body rest) = both _ _ (calls_known body) (arms_known rest)
