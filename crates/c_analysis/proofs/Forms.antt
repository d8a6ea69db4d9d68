-- What a function of expressions gives, form by form.
use Rattle.std.proofs.Common.{◌≡◌, ℕ, List, [], ◌∷◌, map, Option, Some, None, refl, ap, sym, ◌∙◌, subst}
use Rattle.std.specs.List.{filter_map}
use Rattle.std.proofs.lemmas.Grind.{common_steps}
use Rattle.hume_base.specs.declared.boxed.Box.{Box}
use Rattle.hume_base.specs.declared.types.Ty.{Ty, roll-Ty, out-Ty, out-roll-Ty}
use Rattle.hume_base.specs.declared.types.Ty.TheOpen.{Ty-F}
use Rattle.hume_base.specs.declared.types.Ty.TheVariants as shape
use Rattle.hume_model.specs.declared.core_tree.Op.{Op}
use Rattle.hume_model.specs.declared.core_tree.PatC.{PatC}
use Rattle.typed_core.specs.declared.typed_tree.TypedExpr.{TypedExpr, fold-TypedExpr, roll-TypedExpr, out-TypedExpr, map-TypedExpr, fold-roll-TypedExpr, out-roll-TypedExpr, ind-TypedExpr}
use Rattle.typed_core.specs.declared.typed_tree.TypedExpr.TheOpen.{TypedExpr-F}
use Rattle.typed_core.specs.declared.typed_tree.TypedExpr.TheVariants as typed
use Rattle.c_analysis.specs.Raises.{pattern_of}
use Rattle.c_analysis.specs.Seen.{Seen, tree_of, seen_layer, seen_by, by_forms, seen}

module _ {A : Type 0} (step : TypedExpr-F (Seen A) → A) where
  abbrev Same : TypedExpr → Type 0
  Same e = (seen_by step e).tree ≡ e

  abbrev Part : Type 0
  Part = (e : TypedExpr) × Same e

  abbrev of_part : Part → TypedExpr
  of_part p = p.0

  trees_same : (ps : List Part) → map tree_of (map (seen_by step) (map of_part ps)) ≡ map of_part ps
  trees_same [] = refl
  trees_same (p ∷ ps) = λ i. p.1 i ∷ trees_same ps i

  abbrev arm_of : PatC × Part → PatC × TypedExpr
  arm_of arm = (arm.0, of_part arm.1)

  abbrev arm_by : PatC × TypedExpr → PatC × Seen A
  arm_by arm = (arm.0, seen_by step arm.1)

  abbrev arm_tree : PatC × Seen A → PatC × TypedExpr
  arm_tree arm = (arm.0, tree_of arm.1)

  arms_same : (arms : List (PatC × Part)) → map arm_tree (map arm_by (map arm_of arms)) ≡ map arm_of arms
  arms_same [] = refl
  arms_same (arm ∷ arms) = λ i. (arm.0, arm.1.1 i) ∷ arms_same arms i

  abbrev layer : TypedExpr-F Part → TypedExpr-F TypedExpr
  layer y = map-TypedExpr Part TypedExpr of_part y

  abbrev trees : TypedExpr-F TypedExpr → TypedExpr-F TypedExpr
  trees x = map-TypedExpr (Seen A) TypedExpr tree_of (map-TypedExpr TypedExpr (Seen A) (seen_by step) x)

  layer_same : (y : TypedExpr-F Part) → trees (layer y) ≡ layer y
  layer_same (TypedExpr-F.Word w) = refl
  layer_same (TypedExpr-F.Var n) = refl
  layer_same (TypedExpr-F.Con c ps) = ap (λ xs. TypedExpr-F.Con c xs) (trees_same ps)
  layer_same (TypedExpr-F.Tuple ps) = ap (λ xs. TypedExpr-F.Tuple xs) (trees_same ps)
  layer_same (TypedExpr-F.Vect ps) = ap (λ xs. TypedExpr-F.Vect xs) (trees_same ps)
  layer_same (TypedExpr-F.Prim op of ps) = ap (λ xs. TypedExpr-F.Prim op of xs) (trees_same ps)
  layer_same (TypedExpr-F.Convert a b p) = λ i. TypedExpr-F.Convert a b (p.1 i)
  layer_same (TypedExpr-F.Index of s v k) = λ i. TypedExpr-F.Index of s (v.1 i) (k.1 i)
  layer_same (TypedExpr-F.Update of s v k e) = λ i. TypedExpr-F.Update of s (v.1 i) (k.1 i) (e.1 i)
  layer_same (TypedExpr-F.If t a b) = λ i. TypedExpr-F.If (t.1 i) (a.1 i) (b.1 i)
  layer_same (TypedExpr-F.Case of e arms) = λ i. TypedExpr-F.Case of (e.1 i) (arms_same arms i)
  layer_same (TypedExpr-F.Let of a b) = λ i. TypedExpr-F.Let of (a.1 i) (b.1 i)
  layer_same (TypedExpr-F.Call f ps) = ap (λ xs. TypedExpr-F.Call f xs) (trees_same ps)
  layer_same (TypedExpr-F.Raise x None) = refl
  layer_same (TypedExpr-F.Raise x (Some p)) = λ i. TypedExpr-F.Raise x (Some (p.1 i))

  tree_same : (e : TypedExpr) → Same e
  tree_same = ind-TypedExpr Same (λ x y is. subst (λ z. Same (roll-TypedExpr z)) is
      (ap (tree_of {A = A}) (fold-roll-TypedExpr (Seen A) (seen_layer step) (layer y)) ∙ ap roll-TypedExpr (layer_same y)))

  seen_is : (e : TypedExpr) → seen_by step e ≡ seen step e
  seen_is e = λ i. record { tree = tree_same e i; value = (seen_by step e).value }

  abbrev value_of : Seen A → A
  value_of part = part.value

  -- what the step gives for one level, whose parts are seen
  pub by_form : (x : TypedExpr-F TypedExpr) (e : TypedExpr) → roll-TypedExpr x ≡ e
      → by_forms step e ≡ step (map-TypedExpr TypedExpr (Seen A) (seen step) x)
  by_form x e is =
      ap (by_forms step) (sym is) ∙ ap value_of (fold-roll-TypedExpr (Seen A) (seen_layer step) x)
      ∙ (λ i. step (map-TypedExpr TypedExpr (Seen A) (λ part. seen_is part i) x))

  -- one level, whose parts are seen, is of the expression
  pub whole_is : (x : TypedExpr-F TypedExpr) (e : TypedExpr) → roll-TypedExpr x ≡ e
      → roll-TypedExpr (map-TypedExpr (Seen A) TypedExpr tree_of (map-TypedExpr TypedExpr (Seen A) (seen step) x)) ≡ e
  whole_is x e is =
      (λ i. roll-TypedExpr (map-TypedExpr (Seen A) TypedExpr tree_of (map-TypedExpr TypedExpr (Seen A) (λ part. sym (seen_is part) i) x)))
      ∙ ap (tree_of {A = A}) (sym (fold-roll-TypedExpr (Seen A) (seen_layer step) x))
      ∙ ap (λ d. (seen_by step d).tree) is ∙ tree_same e

  -- trees and patterns of what is seen
  pub trees_seen : (es : List TypedExpr) → map tree_of (map (seen step) es) ≡ es
  trees_seen [] = refl
  trees_seen (e ∷ es) = ap (λ xs. e ∷ xs) (trees_seen es)

  pub patterns_seen : (arms : List (PatC × TypedExpr))
      → filter_map (pattern_of {A = Seen A}) (map (λ (arm : PatC × TypedExpr). (arm.0, seen step arm.1)) arms) ≡ filter_map (pattern_of {A = TypedExpr}) arms
  patterns_seen [] = refl
  patterns_seen (arm ∷ arms) = ap (λ xs. arm.0 ∷ xs) (patterns_seen arms)

out_at : (x : TypedExpr-F TypedExpr) (e : TypedExpr) → roll-TypedExpr x ≡ e → out-TypedExpr e ≡ x
out_at x e is = ap out-TypedExpr (sym is) ∙ out-roll-TypedExpr x

pub out-word : (w : ℕ) → out-TypedExpr (typed.Word w) ≡ TypedExpr-F.Word w
out-word w = out_at _ _ (typed.rolls-Word w)

pub out-var : (n : ℕ) → out-TypedExpr (typed.Var n) ≡ TypedExpr-F.Var n
out-var n = out_at _ _ (typed.rolls-Var n)

pub out-con : (c : ℕ) (es : List TypedExpr) → out-TypedExpr (typed.Con c es) ≡ TypedExpr-F.Con c es
out-con c es = out_at _ _ (typed.rolls-Con c es)

pub out-tuple : (es : List TypedExpr) → out-TypedExpr (typed.Tuple es) ≡ TypedExpr-F.Tuple es
out-tuple es = out_at _ _ (typed.rolls-Tuple es)

pub out-vect : (es : List TypedExpr) → out-TypedExpr (typed.Vect es) ≡ TypedExpr-F.Vect es
out-vect es = out_at _ _ (typed.rolls-Vect es)

pub out-prim : (op : Op) (of : Ty) (es : List TypedExpr) → out-TypedExpr (typed.Prim op of es) ≡ TypedExpr-F.Prim op of es
out-prim op of es = out_at _ _ (typed.rolls-Prim op of es)

pub out-convert : (from to : Ty) (e : Box TypedExpr) → out-TypedExpr (typed.Convert from to e) ≡ TypedExpr-F.Convert from to e
out-convert from to e = out_at _ _ (typed.rolls-Convert from to e)

pub out-index : (of s : Ty) (v k : Box TypedExpr) → out-TypedExpr (typed.Index of s v k) ≡ TypedExpr-F.Index of s v k
out-index of s v k = out_at _ _ (typed.rolls-Index of s v k)

pub out-update : (of s : Ty) (v k e : Box TypedExpr) → out-TypedExpr (typed.Update of s v k e) ≡ TypedExpr-F.Update of s v k e
out-update of s v k e = out_at _ _ (typed.rolls-Update of s v k e)

pub out-if : (t a b : Box TypedExpr) → out-TypedExpr (typed.If t a b) ≡ TypedExpr-F.If t a b
out-if t a b = out_at _ _ (typed.rolls-If t a b)

pub out-case : (of : Ty) (e : Box TypedExpr) (arms : List (PatC × TypedExpr)) → out-TypedExpr (typed.Case of e arms) ≡ TypedExpr-F.Case of e arms
out-case of e arms = out_at _ _ (typed.rolls-Case of e arms)

pub out-let : (of : Ty) (a b : Box TypedExpr) → out-TypedExpr (typed.Let of a b) ≡ TypedExpr-F.Let of a b
out-let of a b = out_at _ _ (typed.rolls-Let of a b)

pub out-call : (f : ℕ) (es : List TypedExpr) → out-TypedExpr (typed.Call f es) ≡ TypedExpr-F.Call f es
out-call f es = out_at _ _ (typed.rolls-Call f es)

pub out-raise : (x : ℕ) → out-TypedExpr (typed.Raise x None) ≡ TypedExpr-F.Raise x None
out-raise x = out_at _ _ (typed.rolls-Raise x None)

pub out-raise_with : (x : ℕ) (e : Box TypedExpr) → out-TypedExpr (typed.Raise x (Some e)) ≡ TypedExpr-F.Raise x (Some e)
out-raise_with x e = out_at _ _ (typed.rolls-Raise x (Some e))

type_at : (x : Ty-F Ty) (ty : Ty) → roll-Ty x ≡ ty → out-Ty ty ≡ x
type_at x ty is = ap out-Ty (sym is) ∙ out-roll-Ty x

pub out-type_bool : out-Ty shape.Bool ≡ Ty-F.Bool
out-type_bool = type_at _ _ shape.rolls-Bool

pub out-type_char : out-Ty shape.Char ≡ Ty-F.Char
out-type_char = type_at _ _ shape.rolls-Char

pub out-type_int : (bits : ℕ) → out-Ty (shape.Int bits) ≡ Ty-F.Int bits
out-type_int bits = type_at _ _ (shape.rolls-Int bits)

pub out-type_nat : (bits : ℕ) → out-Ty (shape.Nat bits) ≡ Ty-F.Nat bits
out-type_nat bits = type_at _ _ (shape.rolls-Nat bits)

pub out-type_tuple : (tys : List Ty) → out-Ty (shape.Tuple tys) ≡ Ty-F.Tuple tys
out-type_tuple tys = type_at _ _ (shape.rolls-Tuple tys)

pub out-type_vector : (count : ℕ) (item : Ty) → out-Ty (shape.Vector count item) ≡ Ty-F.Vector count item
out-type_vector count item = type_at _ _ (shape.rolls-Vector count item)

pub out-type_named : (number : ℕ) → out-Ty (shape.Named number) ≡ Ty-F.Named number
out-type_named number = type_at _ _ (shape.rolls-Named number)

pub ruleset type_forms = (common_steps, out-type_bool, out-type_char, out-type_int, out-type_nat, out-type_tuple, out-type_vector, out-type_named)

pub ruleset out_forms = (
  type_forms,
  out-word,
  out-var,
  out-con,
  out-tuple,
  out-vect,
  out-prim,
  out-convert,
  out-index,
  out-update,
  out-if,
  out-case,
  out-let,
  out-call,
  out-raise,
  out-raise_with,
)
