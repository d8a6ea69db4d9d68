-- A depth is within another one where the depths of all parts are.
use Rattle.std.proofs.Common.{◌≡◌, ℕ, zero, suc, ◌+◌, ◌-◌, ◌<◌, ◌≤◌, nat_le, ◌&&◌, Bool, true, false, max, List, Option, map, refl, ap, sym, ◌∙◌, arith}
use Rattle.std.proofs.lemmas.Bool.{leb-false, leb-true}
use Rattle.std.proofs.lemmas.Grind.{common_steps}
use Rattle.hume_base.specs.declared.types.Ty.{Ty}
use Rattle.hume_base.specs.Sizes.{greatest}
use Rattle.hume_model.specs.declared.core_tree.Forms.{Forms}
use Rattle.hume_model.specs.declared.core_tree.Op.{Op}
use Rattle.hume_model.specs.declared.core_tree.PatC.{PatC}
use Rattle.hume_model.specs.declared.core_tree.Expr.{Expr, roll-Expr, map-Expr, fold-roll-Expr}
use Rattle.hume_model.specs.declared.core_tree.Expr.TheOpen.{Expr-F}
use Rattle.hume_model.specs.declared.core_tree.Expr.TheVariants as expr
use Rattle.hume_model.specs.declared.core_tree.Res.{Res, roll-Res, map-Res, fold-roll-Res}
use Rattle.hume_model.specs.declared.core_tree.Res.TheOpen.{Res-F}
use Rattle.hume_model.specs.declared.core_tree.Res.TheVariants as res
use Rattle.calculus_laws.specs.Depth.{deepest_arm, deepest_in_result, deepest_part, depth_step, expression_depth, out_depth, result_depth, result_depth_step}

pub both_within : (a b n : ℕ) → nat_le (max a b) n ≡ (nat_le a n && nat_le b n)
both_within a b n = by (nat_le (max a b) n) refl (nat_le a n) refl (nat_le b n) refl
  where
    by : (x : Bool) → nat_le (max a b) n ≡ x → (y : Bool) → nat_le a n ≡ y → (z : Bool) → nat_le b n ≡ z → x ≡ (y && z)
    by true p true q true r = refl
    by true p true q false r = (let hp = leb-true _ _ p in let hr = leb-false _ _ r in absurd (omega (arith, hp, hr)))
    by true p false q z r = (let hp = leb-true _ _ p in let hq = leb-false _ _ q in absurd (omega (arith, hp, hq)))
    by false p true q true r = (let hp = leb-false _ _ p in let hq = leb-true _ _ q in let hr = leb-true _ _ r in absurd (omega (arith, hp, hq, hr)))
    by false p true q false r = refl
    by false p false q z r = refl

pub one_deeper : (a n : ℕ) → 0 < n → nat_le (1 + a) n ≡ nat_le a (n - 1)
one_deeper a zero some = absurd (omega arith)
one_deeper a (suc n) some = by (nat_le (1 + a) (suc n)) refl (nat_le a (suc n - 1)) refl
  where
    by : (x : Bool) → nat_le (1 + a) (suc n) ≡ x → (y : Bool) → nat_le a (suc n - 1) ≡ y → x ≡ y
    by true p true q = refl
    by true p false q = (let hp = leb-true _ _ p in let hq = leb-false _ _ q in absurd (omega (arith, hp, hq)))
    by false p true q = (let hp = leb-false _ _ p in let hq = leb-true _ _ q in absurd (omega (arith, hp, hq)))
    by false p false q = refl

pub none_deeper : (a : ℕ) → nat_le (1 + a) 0 ≡ false
none_deeper a = by (nat_le (1 + a) 0) refl
  where
    by : (x : Bool) → nat_le (1 + a) 0 ≡ x → x ≡ false
    by true p = (let hp = leb-true _ _ p in absurd (omega (arith, hp)))
    by false p = refl

pub two_deeper : (a b n : ℕ) → 0 < n → nat_le (1 + max a b) n ≡ (nat_le a (n - 1) && nat_le b (n - 1))
two_deeper a b n some = one_deeper (max a b) n some ∙ both_within a b (n - 1)

pub three_deeper : (a b c n : ℕ) → 0 < n → nat_le (1 + max a (max b c)) n ≡ (nat_le a (n - 1) && (nat_le b (n - 1) && nat_le c (n - 1)))
three_deeper a b c n some = two_deeper a (max b c) n some ∙ ap (λ x. nat_le a (n - 1) && x) (both_within b c (n - 1))

pub too_many_lets : (lets d n : ℕ) → n < lets → nat_le (lets + d) n ≡ false
too_many_lets lets d n many = by (nat_le (lets + d) n) refl
  where
    by : (x : Bool) → nat_le (lets + d) n ≡ x → x ≡ false
    by true p = (let hp = leb-true _ _ p in absurd (omega (arith, hp, many)))
    by false p = refl

pub below_lets : (lets d n : ℕ) → lets ≤ n → nat_le (lets + d) n ≡ nat_le d (n - lets)
below_lets lets d n few = by (nat_le (lets + d) n) refl (nat_le d (n - lets)) refl
  where
    by : (x : Bool) → nat_le (lets + d) n ≡ x → (y : Bool) → nat_le d (n - lets) ≡ y → x ≡ y
    by true p true q = refl
    by true p false q = (let hp = leb-true _ _ p in let hq = leb-false _ _ q in absurd (omega (arith, hp, hq, few)))
    by false p true q = (let hp = leb-false _ _ p in let hq = leb-true _ _ q in absurd (omega (arith, hp, hq, few)))
    by false p false q = refl

pub depth_form : (e : Expr) (x : Expr-F Expr) → roll-Expr x ≡ e → expression_depth e ≡ 1 + deepest_part (map-Expr Expr ℕ expression_depth x)
depth_form e x is = ap expression_depth (sym is) ∙ fold-roll-Expr ℕ depth_step x

within : (e : Expr) (n d : ℕ) → 0 < n → expression_depth e ≡ 1 + d → nat_le (expression_depth e) n ≡ nat_le d (n - 1)
within e n d some is = ap (λ a. nat_le a n) is ∙ one_deeper d n some

pub con_within : (c : ℕ) (es : List Expr) (n : ℕ) → 0 < n → nat_le (expression_depth (expr.Con c es)) n ≡ nat_le (greatest (map expression_depth es)) (n - 1)
con_within c es n some = within _ n (greatest (map expression_depth es)) some (depth_form _ (Expr-F.Con c es) (expr.rolls-Con c es))

pub tuple_within : (es : List Expr) (n : ℕ) → 0 < n → nat_le (expression_depth (expr.Tuple es)) n ≡ nat_le (greatest (map expression_depth es)) (n - 1)
tuple_within es n some = within _ n (greatest (map expression_depth es)) some (depth_form _ (Expr-F.Tuple es) (expr.rolls-Tuple es))

pub vect_within : (es : List Expr) (n : ℕ) → 0 < n → nat_le (expression_depth (expr.Vect es)) n ≡ nat_le (greatest (map expression_depth es)) (n - 1)
vect_within es n some = within _ n (greatest (map expression_depth es)) some (depth_form _ (Expr-F.Vect es) (expr.rolls-Vect es))

pub prim_within : (op : Op) (ty : Ty) (es : List Expr) (n : ℕ) → 0 < n
    → nat_le (expression_depth (expr.Prim op ty es)) n ≡ nat_le (greatest (map expression_depth es)) (n - 1)
prim_within op ty es n some = within _ n (greatest (map expression_depth es)) some (depth_form _ (Expr-F.Prim op ty es) (expr.rolls-Prim op ty es))

pub call_within : (f : ℕ) (es : List Expr) (n : ℕ) → 0 < n → nat_le (expression_depth (expr.Call f es)) n ≡ nat_le (greatest (map expression_depth es)) (n - 1)
call_within f es n some = within _ n (greatest (map expression_depth es)) some (depth_form _ (Expr-F.Call f es) (expr.rolls-Call f es))

pub case_within : (e : Expr) (forms : Forms) (arms : List (PatC × Expr)) (n : ℕ) → 0 < n
    → nat_le (expression_depth (expr.Case e forms arms)) n
    ≡ (nat_le (expression_depth e) (n - 1) && nat_le (deepest_arm (map (λ (arm : PatC × Expr). (arm.0, expression_depth arm.1)) arms)) (n - 1))
case_within e forms arms n some =
    let inside = map (λ (arm : PatC × Expr). (arm.0, expression_depth arm.1)) arms in
    within _ n (max (expression_depth e) (deepest_arm inside)) some (depth_form _ (Expr-F.Case e forms arms) (expr.rolls-Case e forms arms))
    ∙ both_within (expression_depth e) (deepest_arm inside) (n - 1)

pub result_form : (r : Res) (x : Res-F Res) → roll-Res x ≡ r → result_depth r ≡ 1 + deepest_in_result (map-Res Res ℕ result_depth x)
result_form r x is = ap result_depth (sym is) ∙ fold-roll-Res ℕ result_depth_step x

result_within : (r : Res) (n d : ℕ) → 0 < n → result_depth r ≡ 1 + d → nat_le (result_depth r) n ≡ nat_le d (n - 1)
result_within r n d some is = ap (λ a. nat_le a n) is ∙ one_deeper d n some

pub outs_within : (outs : List (Option Expr)) (n : ℕ) → 0 < n → nat_le (result_depth (res.Outs outs)) n ≡ nat_le (greatest (map out_depth outs)) (n - 1)
outs_within outs n some = result_within _ n (greatest (map out_depth outs)) some (result_form _ (Res-F.Outs outs) (res.rolls-Outs outs))

pub ways_within : (e : Expr) (forms : Forms) (arms : List (PatC × Res)) (n : ℕ) → 0 < n
    → nat_le (result_depth (res.Case e forms arms)) n
    ≡ (nat_le (expression_depth e) (n - 1) && nat_le (deepest_arm (map (λ (arm : PatC × Res). (arm.0, result_depth arm.1)) arms)) (n - 1))
ways_within e forms arms n some =
    let inside = map (λ (arm : PatC × Res). (arm.0, result_depth arm.1)) arms in
    result_within _ n (max (expression_depth e) (deepest_arm inside)) some (result_form _ (Res-F.Case e forms arms) (res.rolls-Case e forms arms))
    ∙ both_within (expression_depth e) (deepest_arm inside) (n - 1)

pub ruleset depth_steps = (common_steps, both_within, one_deeper, none_deeper, two_deeper, three_deeper)

pub ruleset added_steps = (common_steps, too_many_lets, below_lets)

pub ruleset expression_steps = (depth_steps, con_within, tuple_within, vect_within, prim_within, call_within, case_within)

pub ruleset result_steps = (depth_steps, outs_within, ways_within)
