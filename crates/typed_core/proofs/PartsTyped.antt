-- The parts of a typed expression have the types that their places give.
use Rattle.std.proofs.Common.{◌≡◌, ℕ, zero, suc, List, ◌++◌, map, replicate, Some, None, slice_get, refl, ap, sym, ◌∙◌, subst}
use Rattle.hume_base.specs.declared.types.Ty.{Ty, out-Ty, out-roll-Ty}
use Rattle.hume_base.specs.declared.types.Ty.TheOpen.{Ty-F}
use Rattle.hume_base.specs.declared.types.Ty.TheVariants as shape
use Rattle.hume_base.specs.declared.types.SumDef.{SumDef}
use Rattle.hume_base.specs.declared.types.Types.{Types}
use Rattle.hume_base.specs.Values.{fields_at}
use Rattle.hume_model.specs.declared.core_tree.PatC.{PatC, fold-roll-PatC, map-PatC, roll-PatC}
use Rattle.hume_model.specs.declared.core_tree.PatC.TheOpen.{PatC-F}
use Rattle.hume_model.specs.declared.core_tree.PatC.TheVariants as pat
use Rattle.hume_model.specs.declared.core_tree.Core.{Core}
use Rattle.hume_model.specs.declared.core_tree.Op.TheVariants.{Neg, Not}
use Rattle.hume_model.specs.Typing.{ArePatterns, IsPattern}
use Rattle.typed_core.specs.declared.typed_tree.TypedExpr.{TypedExpr, out-roll-TypedExpr, roll-TypedExpr}
use Rattle.typed_core.specs.declared.typed_tree.TypedExpr.TheOpen.{TypedExpr-F}
use Rattle.typed_core.specs.declared.typed_tree.TypedExpr.TheVariants as typed
use Rattle.typed_core.specs.Parts.{EachIsTyped, all_bound, arm_parts, bound_by, bound_step, carried_in, carried_of, fields_in, item_in, params_of, parts, parts_at, parts_in, parts_in_layer, parts_of_one, sum_fields}
use Rattle.typed_core.specs.Typing.{AreTyped, ArmsAreTyped, IsTyped}

out-tuple : (tys : List Ty) → out-Ty (shape.Tuple tys) ≡ Ty-F.Tuple tys
out-tuple tys = ap out-Ty (sym (shape.rolls-Tuple tys)) ∙ out-roll-Ty (Ty-F.Tuple tys)

out-vector : (count : ℕ) (item : Ty) → out-Ty (shape.Vector count item) ≡ Ty-F.Vector count item
out-vector count item = ap out-Ty (sym (shape.rolls-Vector count item)) ∙ out-roll-Ty (Ty-F.Vector count item)

out-named : (number : ℕ) → out-Ty (shape.Named number) ≡ Ty-F.Named number
out-named number = ap out-Ty (sym (shape.rolls-Named number)) ∙ out-roll-Ty (Ty-F.Named number)

fields_are : (types : Types) (number place : ℕ) (sum : SumDef) → slice_get types.sums number ≡ Some sum
    → fields_in types place (out-Ty (shape.Named number)) ≡ fields_at sum place
fields_are types number place sum known = ap (fields_in types place) (out-named number) ∙ ap (sum_fields place) known

module _ (types : Types) where
  abbrev bound : PatC → Ty → List Ty
  bound = bound_by types

  bound_at : (x : PatC-F PatC) (p : PatC) (ty : Ty) → roll-PatC x ≡ p → bound_step types (map-PatC PatC (Ty → List Ty) bound x) ty ≡ bound p ty
  bound_at x p ty is = sym (ap (λ z. bound z ty) (sym is) ∙ ap (λ (f : Ty → List Ty). f ty) (fold-roll-PatC (Ty → List Ty) (bound_step types) x))

  mutual
    -- the variables of a pattern have the types that the pattern gives them
    pub bound_is : {ty : Ty} {p : PatC} {vars : List Ty} → IsPattern types ty p vars → vars ≡ bound p ty
    bound_is (IsPattern.variable {ty = ty}) = bound_at PatC-F.Var pat.Var ty pat.rolls-Var
    bound_is (IsPattern.anything {ty = ty}) = bound_at PatC-F.Any pat.Any ty pat.rolls-Any
    bound_is {ty} (IsPattern.word w is) = bound_at (PatC-F.Word w) (pat.Word w) ty (pat.rolls-Word w)
    bound_is (IsPattern.con number place sum {pats = ps} known within each) =
        all_bound_is each ∙ ap (all_bound (map bound ps)) (sym (fields_are types number place sum known))
        ∙ bound_at (PatC-F.Con place ps) (pat.Con place ps) (shape.Named number) (pat.rolls-Con place ps)
    bound_is (IsPattern.tuple {tys = tys} {pats = ps} each) =
        all_bound_is each ∙ ap (all_bound (map bound ps)) (sym (ap parts_in (out-tuple tys)))
        ∙ bound_at (PatC-F.Tuple ps) (pat.Tuple ps) (shape.Tuple tys) (pat.rolls-Tuple ps)

    all_bound_is : {tys : List Ty} {ps : List PatC} {vars : List Ty} → ArePatterns types tys ps vars → vars ≡ all_bound (map bound ps) tys
    all_bound_is ArePatterns.none = refl
    all_bound_is (ArePatterns.one first rest) = λ i. bound_is first i ++ all_bound_is rest i

module _ (core : Core) where
  abbrev Typed : List Ty → TypedExpr → Ty → Type 0
  Typed = IsTyped core

  pub at_type : {vars : List Ty} {e : TypedExpr} {s t : Ty} → s ≡ t → Typed vars e t → Typed vars e s
  at_type {vars} {e} is of = subst (λ z. Typed vars e z) (sym is) of

  each_at : {vars : List Ty} {es : List TypedExpr} {tys : List Ty} → AreTyped core vars es tys → EachIsTyped core (parts_at vars es tys)
  each_at AreTyped.none = tt
  each_at (AreTyped.one first rest) = (first, each_at rest)

  each_at_types : {vars : List Ty} {es : List TypedExpr} {tys : List Ty} (others : List Ty) → others ≡ tys → AreTyped core vars es tys
      → EachIsTyped core (parts_at vars es others)
  each_at_types {vars} {es} others is are = subst (λ z. EachIsTyped core (parts_at vars es z)) (sym is) (each_at are)

  each_of_one : {vars : List Ty} {es : List TypedExpr} {tys : List Ty} (item : Ty) (count : ℕ) → AreTyped core vars es tys
      → tys ≡ replicate {A = Ty} count item → EachIsTyped core (parts_of_one vars item es)
  each_of_one item count AreTyped.none is = tt
  each_of_one item zero (AreTyped.one first rest) is = cc
  each_of_one item (suc count) (AreTyped.one {ty = ty} {tys = tys} first rest) is =
      let here : item ≡ ty = cc in
      let there : tys ≡ replicate {A = Ty} count item = cc in
      (at_type here first, each_of_one item count rest there)

  each_arm : {vars : List Ty} {of ty : Ty} {arms : List (PatC × TypedExpr)} → ArmsAreTyped core vars of arms ty
      → EachIsTyped core (arm_parts core.types vars of ty arms)
  each_arm ArmsAreTyped.no_arm = tt
  each_arm {vars} {of} {ty} (ArmsAreTyped.one_arm {e = e} pattern body rest) =
      (subst (λ z. Typed (vars ++ z) e ty) (bound_is core.types pattern) body, each_arm rest)

  at_layer : (vars : List Ty) (ty : Ty) (x : TypedExpr-F TypedExpr) (e : TypedExpr) → roll-TypedExpr x ≡ e
      → EachIsTyped core (parts_in_layer core vars ty x) → EachIsTyped core (parts core vars e ty)
  at_layer vars ty x e is each =
      subst (λ z. EachIsTyped core (parts core vars z ty)) is
      (subst (λ y. EachIsTyped core (parts_in_layer core vars ty y)) (sym (out-roll-TypedExpr x)) each)

  -- each part has the type that its place gives
  pub parts_typed : {vars : List Ty} {e : TypedExpr} {ty : Ty} → Typed vars e ty → EachIsTyped core (parts core vars e ty)
  parts_typed {vars} {ty = ty} (IsTyped.word w is) = at_layer vars ty (TypedExpr-F.Word w) (typed.Word w) (typed.rolls-Word w) tt
  parts_typed {vars} {ty = ty} (IsTyped.variable n is) = at_layer vars ty (TypedExpr-F.Var n) (typed.Var n) (typed.rolls-Var n) tt
  parts_typed {vars} (IsTyped.con number place sum {parts = es} known within are) =
      at_layer vars (shape.Named number) (TypedExpr-F.Con place es) (typed.Con place es) (typed.rolls-Con place es)
      (each_at_types (fields_in core.types place (out-Ty (shape.Named number))) (fields_are core.types number place sum known) are)
  parts_typed {vars} (IsTyped.tuple {parts = es} {tys = tys} are) =
      at_layer vars (shape.Tuple tys) (TypedExpr-F.Tuple es) (typed.Tuple es) (typed.rolls-Tuple es)
      (each_at_types (parts_in (out-Ty (shape.Tuple tys))) (ap parts_in (out-tuple tys)) are)
  parts_typed {vars} (IsTyped.vector count item {parts = es} are) =
      at_layer vars (shape.Vector count item) (TypedExpr-F.Vect es) (typed.Vect es) (typed.rolls-Vect es)
      (subst (λ z. EachIsTyped core (parts_of_one vars z es)) (sym (ap item_in (out-vector count item))) (each_of_one item count are refl))
  parts_typed {vars} (IsTyped.arithmetic op of {parts = es} is number are) =
      at_layer vars of (TypedExpr-F.Prim op of es) (typed.Prim op of es) (typed.rolls-Prim op of es) (each_of_one of 2 are refl)
  parts_typed {vars} (IsTyped.comparison op of {parts = es} is are) =
      at_layer vars shape.Bool (TypedExpr-F.Prim op of es) (typed.Prim op of es) (typed.rolls-Prim op of es) (each_of_one of 2 are refl)
  parts_typed {vars} (IsTyped.negation of {parts = es} number are) =
      at_layer vars of (TypedExpr-F.Prim Neg of es) (typed.Prim Neg of es) (typed.rolls-Prim Neg of es) (each_of_one of 1 are refl)
  parts_typed {vars} (IsTyped.opposite {parts = es} are) =
      at_layer vars shape.Bool (TypedExpr-F.Prim Not shape.Bool es) (typed.Prim Not shape.Bool es) (typed.rolls-Prim Not shape.Bool es)
      (each_of_one shape.Bool 1 are refl)
  parts_typed {vars} (IsTyped.conversion from to {part = e} is are has) =
      at_layer vars to (TypedExpr-F.Convert from to e) (typed.Convert from to e) (typed.rolls-Convert from to e) (has, tt)
  parts_typed {vars} (IsTyped.index count places item {vector = v} {place = k} is vec place) =
      at_layer vars item (TypedExpr-F.Index (shape.Vector count item) places v k) (typed.Index (shape.Vector count item) places v k)
      (typed.rolls-Index (shape.Vector count item) places v k) (vec, (place, tt))
  parts_typed {vars} (IsTyped.update count places item {vector = v} {place = k} {new_item = e} is vec place new_item) =
      at_layer vars (shape.Vector count item) (TypedExpr-F.Update (shape.Vector count item) places v k e) (typed.Update (shape.Vector count item) places v k e)
      (typed.rolls-Update (shape.Vector count item) places v k e)
      (vec, (place, (at_type (ap item_in (out-vector count item)) new_item, tt)))
  parts_typed {vars} {ty = ty} (IsTyped.choice {test = t} {when_true = a} {when_false = b} test when_true when_false) =
      at_layer vars ty (TypedExpr-F.If t a b) (typed.If t a b) (typed.rolls-If t a b) (test, (when_true, (when_false, tt)))
  parts_typed {vars} {ty = ty} (IsTyped.alternatives of {part = e} {arms = ways} has arms) =
      at_layer vars ty (TypedExpr-F.Case of e ways) (typed.Case of e ways) (typed.rolls-Case of e ways) (has, each_arm arms)
  parts_typed {vars} {ty = ty} (IsTyped.binding of {part = a} {body = b} has body) =
      at_layer vars ty (TypedExpr-F.Let of a b) (typed.Let of a b) (typed.rolls-Let of a b) (has, (body, tt))
  parts_typed {vars} (IsTyped.call number function {parts = es} known are) =
      at_layer vars function.gives (TypedExpr-F.Call number es) (typed.Call number es) (typed.rolls-Call number es)
      (each_at_types (params_of (slice_get core.funs number)) (ap params_of known) are)
  parts_typed {vars} {ty = ty} (IsTyped.raise_alone number exn known nothing) =
      at_layer vars ty (TypedExpr-F.Raise number None) (typed.Raise number None) (typed.rolls-Raise number None) tt
  parts_typed {vars} {ty = ty} (IsTyped.raise_with number exn carried {part = e} known carries has) =
      at_layer vars ty (TypedExpr-F.Raise number (Some e)) (typed.Raise number (Some e)) (typed.rolls-Raise number (Some e))
      (at_type (ap carried_of known ∙ ap carried_in carries) has, tt)
