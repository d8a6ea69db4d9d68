-- How many parts an expression or a result has, form by form, and those of several, one after the other.
use Rattle.std.proofs.Common.{◌≡◌, ℕ, suc, ◌+◌, ◌<◌, List, Option, drop, get_or, length, map, ap, sym, ◌∙◌, add-one, drop-cons}
use Rattle.std.specs.List.{sum}
use Rattle.std.proofs.lemmas.Grind.{common_steps}
use Rattle.std.proofs.lemmas.List.Sums.{sum_by-cons}
use Rattle.hume_base.specs.declared.types.Ty.{Ty}
use Rattle.hume_model.specs.declared.core_tree.Forms.{Forms}
use Rattle.hume_model.specs.declared.core_tree.Op.{Op}
use Rattle.hume_model.specs.declared.core_tree.PatC.{PatC}
use Rattle.hume_model.specs.declared.core_tree.Expr.{Expr, roll-Expr, map-Expr, fold-roll-Expr}
use Rattle.hume_model.specs.declared.core_tree.Expr.TheOpen.{Expr-F}
use Rattle.hume_model.specs.declared.core_tree.Expr.TheVariants as expr
use Rattle.hume_model.specs.declared.core_tree.Res.{Res, roll-Res, map-Res, fold-roll-Res}
use Rattle.hume_model.specs.declared.core_tree.Res.TheOpen.{Res-F}
use Rattle.hume_model.specs.declared.core_tree.Res.TheVariants as res
use Rattle.calculus_laws.specs.Parts.{expression_parts, out_parts, parts_in_arms, parts_inside, parts_inside_result, parts_step, result_parts, result_parts_step}

pub form : (e : Expr) (x : Expr-F Expr) → roll-Expr x ≡ e → expression_parts e ≡ 1 + parts_inside (map-Expr Expr ℕ expression_parts x)
form e x is = ap expression_parts (sym is) ∙ fold-roll-Expr ℕ parts_step x

pub con_parts : (c : ℕ) (es : List Expr) → expression_parts (expr.Con c es) ≡ 1 + sum (map expression_parts es)
con_parts c es = form _ (Expr-F.Con c es) (expr.rolls-Con c es)

pub tuple_parts : (es : List Expr) → expression_parts (expr.Tuple es) ≡ 1 + sum (map expression_parts es)
tuple_parts es = form _ (Expr-F.Tuple es) (expr.rolls-Tuple es)

pub vect_parts : (es : List Expr) → expression_parts (expr.Vect es) ≡ 1 + sum (map expression_parts es)
vect_parts es = form _ (Expr-F.Vect es) (expr.rolls-Vect es)

pub prim_parts : (op : Op) (ty : Ty) (es : List Expr) → expression_parts (expr.Prim op ty es) ≡ 1 + sum (map expression_parts es)
prim_parts op ty es = form _ (Expr-F.Prim op ty es) (expr.rolls-Prim op ty es)

pub call_parts : (f : ℕ) (es : List Expr) → expression_parts (expr.Call f es) ≡ 1 + sum (map expression_parts es)
call_parts f es = form _ (Expr-F.Call f es) (expr.rolls-Call f es)

pub case_parts : (e : Expr) (forms : Forms) (arms : List (PatC × Expr))
    → expression_parts (expr.Case e forms arms) ≡ 1 + (expression_parts e + parts_in_arms (map (λ (arm : PatC × Expr). (arm.0, expression_parts arm.1)) arms))
case_parts e forms arms = form _ (Expr-F.Case e forms arms) (expr.rolls-Case e forms arms)

pub result_form : (r : Res) (x : Res-F Res) → roll-Res x ≡ r → result_parts r ≡ 1 + parts_inside_result (map-Res Res ℕ result_parts x)
result_form r x is = ap result_parts (sym is) ∙ fold-roll-Res ℕ result_parts_step x

pub outs_parts : (outs : List (Option Expr)) → result_parts (res.Outs outs) ≡ 1 + sum (map out_parts outs)
outs_parts outs = result_form _ (Res-F.Outs outs) (res.rolls-Outs outs)

pub ways_parts : (e : Expr) (forms : Forms) (arms : List (PatC × Res))
    → result_parts (res.Case e forms arms) ≡ 1 + (expression_parts e + parts_in_arms (map (λ (arm : PatC × Res). (arm.0, result_parts arm.1)) arms))
ways_parts e forms arms = result_form _ (Res-F.Case e forms arms) (res.rolls-Case e forms arms)

module _ {X : Type 0} (parts : X → ℕ) where
  next : (xs : List X) (i : ℕ) (x : X) → i < length xs → sum (map parts (drop i xs)) ≡ parts (get_or xs i x) + sum (map parts (drop (i + 1) xs))
  next xs i x within = rw (drop-cons xs i x, add-one) (sum_by-cons (λ n. n) (parts (get_or xs i x)) (map parts (drop (suc i) xs)))

  arm_next : (arms : List (PatC × X)) (i : ℕ) (arm : PatC × X) → i < length arms
      → parts_in_arms (map (λ (arm : PatC × X). (arm.0, parts arm.1)) (drop i arms))
      ≡ parts (get_or arms i arm).1 + parts_in_arms (map (λ (arm : PatC × X). (arm.0, parts arm.1)) (drop (i + 1) arms))
  arm_next arms i arm within =
      let counted = map (λ (arm : PatC × ℕ). arm.1) (map (λ (arm : PatC × X). (arm.0, parts arm.1)) (drop (suc i) arms)) in
      rw (drop-cons arms i arm, add-one) (sum_by-cons (λ n. n) (parts (get_or arms i arm).1) counted)

pub parts_next : (es : List Expr) (i : ℕ) (e : Expr) → i < length es
    → sum (map expression_parts (drop i es)) ≡ expression_parts (get_or es i e) + sum (map expression_parts (drop (i + 1) es))
parts_next = next expression_parts

pub outs_next : (outs : List (Option Expr)) (i : ℕ) (out : Option Expr) → i < length outs
    → sum (map out_parts (drop i outs)) ≡ out_parts (get_or outs i out) + sum (map out_parts (drop (i + 1) outs))
outs_next = next out_parts

pub arms_next : (arms : List (PatC × Expr)) (i : ℕ) (arm : PatC × Expr) → i < length arms
    → parts_in_arms (map (λ (arm : PatC × Expr). (arm.0, expression_parts arm.1)) (drop i arms))
    ≡ expression_parts (get_or arms i arm).1 + parts_in_arms (map (λ (arm : PatC × Expr). (arm.0, expression_parts arm.1)) (drop (i + 1) arms))
arms_next = arm_next expression_parts

pub ways_next : (arms : List (PatC × Res)) (i : ℕ) (arm : PatC × Res) → i < length arms
    → parts_in_arms (map (λ (arm : PatC × Res). (arm.0, result_parts arm.1)) (drop i arms))
    ≡ result_parts (get_or arms i arm).1 + parts_in_arms (map (λ (arm : PatC × Res). (arm.0, result_parts arm.1)) (drop (i + 1) arms))
ways_next = arm_next result_parts

pub ruleset sum_steps = (common_steps, parts_next, outs_next, arms_next, ways_next)

pub ruleset expression_forms = (common_steps, con_parts, tuple_parts, vect_parts, prim_parts, call_parts, case_parts)

pub ruleset result_forms = (common_steps, outs_parts, ways_parts)
