-- Moved patterns, expressions and results have the moved types.
use Rattle.std.proofs.Common.{◌≡◌, ℕ, zero, suc, ◌+◌, ◌<◌, List, [], ◌∷◌, ◌++◌, length, map, replicate, Option, Some, None, slice_get, refl, ap, sym, ◌∙◌, subst, arith}
use Rattle.std.specs.Option.{option_map}
use Rattle.std.proofs.lemmas.List.{length-map}
use Rattle.hume_base.specs.declared.types.Ty.{Ty, map-Ty, out-Ty}
use Rattle.hume_base.specs.declared.types.Ty.TheOpen.{Ty-F}
use Rattle.hume_base.specs.declared.types.Ty.TheVariants as shape
use Rattle.hume_base.specs.declared.types.SumDef.{SumDef}
use Rattle.hume_base.specs.declared.types.Types.{Types}
use Rattle.hume_base.specs.Holding.{HoldSmaller}
use Rattle.hume_model.specs.declared.core_tree.Forms.{Forms}
use Rattle.hume_model.specs.declared.core_tree.Op.{Op}
use Rattle.hume_model.specs.declared.core_tree.Op.TheVariants.{Add, Sub, Mul, Div, Mod, Neg, Not, Convert, Eq, Ne, Lt, Le, Gt, Ge}
use Rattle.hume_model.specs.declared.core_tree.PatC.{PatC}
use Rattle.hume_model.specs.declared.core_tree.Expr.{Expr}
use Rattle.hume_model.specs.declared.core_tree.Expr.TheVariants as expr
use Rattle.hume_model.specs.declared.core_tree.Res.{Res}
use Rattle.hume_model.specs.declared.core_tree.EqC.{EqC}
use Rattle.hume_model.specs.declared.core_tree.FunC.{FunC}
use Rattle.hume_model.specs.declared.core_tree.ExnDef.{ExnDef}
use Rattle.hume_model.specs.declared.core_tree.Core.{Core}
use Rattle.hume_model.specs.Typing.{ArePatterns, ArmsHaveType, EquationsHave, HasType, HaveTypes, IsPattern, is_comparison, is_number_layer, is_number_type, is_ordered_layer, is_scalar_layer}
use Rattle.hume_model.specs.ResultTyping.{ArmsGiveOutputs, GivesOutputs, OutsHave}
use Rattle.hume_model.specs.Forms.{forms_of}
use Rattle.union_laws.specs.declared.moves.Moves.{Moves}
use Rattle.union_laws.specs.Moving.{moved, moved_con, moved_data, moved_equation, moved_exception, moved_exn, moved_forms, moved_function, moved_result, moved_type, moved_type_layer}
use Rattle.union_laws.proofs.MovedForms as form
use Rattle.union_laws.proofs.MovedTypes.{forms_moved, moved_out}
use Rattle.union_laws.proofs.MovedValues.{TypesStandIn, fields_moved, word_moved}
use Rattle.union_laws.proofs.Unions.{mapped}

pub map_both : {X Y : Type 0} (f : X → Y) (xs ys : List X) → map f xs ++ map f ys ≡ map f (xs ++ ys)
map_both f [] ys = refl
map_both f (x ∷ xs) ys = ap (λ zs. f x ∷ zs) (map_both f xs ys)

map_replicate : {X Y : Type 0} (f : X → Y) (n : ℕ) (x : X) → map f (replicate n x) ≡ replicate n (f x)
map_replicate f zero x = refl
map_replicate f (suc n) x = ap (λ zs. f x ∷ zs) (map_replicate f n x)

module _ (moves : Moves) where
  abbrev new : Ty → Ty
  new = moved_type moves

  abbrev lift : Ty-F Ty → Ty-F Ty
  lift x = moved_type_layer moves (map-Ty Ty Ty new x)

  number_layer : (x : Ty-F Ty) → is_number_layer (lift x) ≡ is_number_layer x
  number_layer Ty-F.Bool = refl
  number_layer Ty-F.Char = refl
  number_layer (Ty-F.Int bits) = refl
  number_layer (Ty-F.Nat bits) = refl
  number_layer (Ty-F.Tuple tys) = refl
  number_layer (Ty-F.Vector count item) = refl
  number_layer (Ty-F.Named number) = refl

  ordered_layer : (x : Ty-F Ty) → is_ordered_layer (lift x) ≡ is_ordered_layer x
  ordered_layer Ty-F.Bool = refl
  ordered_layer Ty-F.Char = refl
  ordered_layer (Ty-F.Int bits) = refl
  ordered_layer (Ty-F.Nat bits) = refl
  ordered_layer (Ty-F.Tuple tys) = refl
  ordered_layer (Ty-F.Vector count item) = refl
  ordered_layer (Ty-F.Named number) = refl

  scalar_layer : (x : Ty-F Ty) → is_scalar_layer (lift x) ≡ is_scalar_layer x
  scalar_layer Ty-F.Bool = refl
  scalar_layer Ty-F.Char = refl
  scalar_layer (Ty-F.Int bits) = refl
  scalar_layer (Ty-F.Nat bits) = refl
  scalar_layer (Ty-F.Tuple tys) = refl
  scalar_layer (Ty-F.Vector count item) = refl
  scalar_layer (Ty-F.Named number) = refl

  number_same : (ty : Ty) → is_number_type (new ty) ≡ is_number_type ty
  number_same ty = ap is_number_layer (moved_out moves ty) ∙ number_layer (out-Ty ty)

  ordered_same : (ty : Ty) → is_ordered_layer (out-Ty (new ty)) ≡ is_ordered_layer (out-Ty ty)
  ordered_same ty = ap is_ordered_layer (moved_out moves ty) ∙ ordered_layer (out-Ty ty)

  scalar_same : (ty : Ty) → is_scalar_layer (out-Ty (new ty)) ≡ is_scalar_layer (out-Ty ty)
  scalar_same ty = ap is_scalar_layer (moved_out moves ty) ∙ scalar_layer (out-Ty ty)

  comparison_same : (op : Op) (ty : Ty) → is_comparison op (new ty) ≡ is_comparison op ty
  comparison_same Add ty = refl
  comparison_same Sub ty = refl
  comparison_same Mul ty = refl
  comparison_same Div ty = refl
  comparison_same Mod ty = refl
  comparison_same Neg ty = refl
  comparison_same Not ty = refl
  comparison_same Convert ty = refl
  comparison_same Eq ty = scalar_same ty
  comparison_same Ne ty = scalar_same ty
  comparison_same Lt ty = ordered_same ty
  comparison_same Le ty = ordered_same ty
  comparison_same Gt ty = ordered_same ty
  comparison_same Ge ty = ordered_same ty

  module _ (small large : Types) (stands : TypesStandIn moves small large) (holds : HoldSmaller small) where
    place_within : (sum : SumDef) (place : ℕ) → place < length sum.cons → place < length (moved_data moves sum).cons
    place_within sum place within = (let many = length-map sum.cons (moved_con moves) in omega (arith, many, within))

    pattern_as : {u t : Ty} {p : PatC} {vars : List Ty} → u ≡ t → IsPattern large t p vars → IsPattern large u p vars
    pattern_as {u} {t} {p} {vars} is pattern = subst (λ v. IsPattern large v p vars) (sym is) pattern

    mutual
      pub pattern_moved : {ty : Ty} {p : PatC} {vars : List Ty} → IsPattern small ty p vars → IsPattern large (new ty) p (map new vars)
      pattern_moved IsPattern.variable = IsPattern.variable
      pattern_moved IsPattern.anything = IsPattern.anything
      pattern_moved {ty} (IsPattern.word w is) = IsPattern.word w (word_moved moves small large stands holds ty w is)
      pattern_moved (IsPattern.con number place sum {pats = pats} {vars = vars} known within parts) =
          pattern_as (form.type_named moves number)
          (IsPattern.con (moves.types + number) place (moved_data moves sum) (stands number sum known) (place_within sum place within)
          (subst (λ tys. ArePatterns large tys pats (map new vars)) (sym (fields_moved moves sum place)) (patterns_moved parts)))
      pattern_moved (IsPattern.tuple {tys = tys} parts) = pattern_as (form.type_tuple moves tys) (IsPattern.tuple (patterns_moved parts))

      pub patterns_moved : {tys : List Ty} {pats : List PatC} {vars : List Ty} → ArePatterns small tys pats vars → ArePatterns large (map new tys) pats (map new vars)
      patterns_moved ArePatterns.none = ArePatterns.none
      patterns_moved (ArePatterns.one {ty = ty} {tys = tys} {p = p} {pats = pats} {vars = vars} {more = more} first rest) =
          subst (ArePatterns large (new ty ∷ map new tys) (p ∷ pats)) (map_both new vars more) (ArePatterns.one (pattern_moved first) (patterns_moved rest))

-- the data types, functions and exceptions of a program stand in a larger one, moved up
pub record TreesStandIn (moves : Moves) (small large : Core) : Type 0 where
  pub types : TypesStandIn moves small.types large.types
  pub funs : (n : ℕ) (function : FunC) → slice_get small.funs n ≡ Some function → slice_get large.funs (moves.funs + n) ≡ Some (moved_function moves function)
  pub exns : (n : ℕ) (exn : ExnDef) → slice_get small.exns n ≡ Some exn → slice_get large.exns (moved_exn moves n) ≡ Some (moved_exception moves exn)

module _ (moves : Moves) (small large : Core) (stands : TreesStandIn moves small large) (holds : HoldSmaller small.types) where
  abbrev up : Ty → Ty
  up = moved_type moves

  has_as : {vars : List Ty} {e d : Expr} {u t : Ty} → e ≡ d → u ≡ t → HasType large vars d t → HasType large vars e u
  has_as {vars} {e} {d} {u} {t} is same has = subst (λ v. HasType large vars e v) (sym same) (subst (λ z. HasType large vars z t) (sym is) has)

  at_type : {vars : List Ty} {e : Expr} {u t : Ty} → u ≡ t → HasType large vars e u → HasType large vars e t
  at_type {vars} {e} {u} {t} same has = subst (λ v. HasType large vars e v) same has

  at_types : {vars : List Ty} {es : List Expr} {us ts : List Ty} → us ≡ ts → HaveTypes large vars es us → HaveTypes large vars es ts
  at_types {vars} {es} {us} {ts} same have = subst (HaveTypes large vars es) same have

  longer : {e : Expr} {ty : Ty} (vars more : List Ty) → HasType large (map up (vars ++ more)) e ty → HasType large (map up vars ++ map up more) e ty
  longer {e} {ty} vars more has = subst (λ vs. HasType large vs e ty) (sym (map_both up vars more)) has

  carries_none : (exn : ExnDef) → exn.carries ≡ None → (moved_exception moves exn).carries ≡ None
  carries_none exn none = ap (option_map up) none

  carries_some : (exn : ExnDef) (ty : Ty) → exn.carries ≡ Some ty → (moved_exception moves exn).carries ≡ Some (up ty)
  carries_some exn ty some = ap (option_map up) some

  forms_up : (of : Ty) {forms : Forms} → forms ≡ forms_of of → moved_forms moves forms ≡ forms_of (up of)
  forms_up of is_of = ap (moved_forms moves) is_of ∙ sym (forms_moved moves of)

  abbrev bool : up shape.Bool ≡ shape.Bool
  bool = form.type_bool moves

  mutual
    pub typed_moved : {vars : List Ty} {e : Expr} {ty : Ty} → HasType small vars e ty → HasType large (map up vars) (moved moves e) (up ty)
    typed_moved {vars} {e} {ty} (HasType.word w is) =
        has_as (form.expr_word moves w) refl (HasType.word w (word_moved moves small.types large.types stands.types holds ty w is))
    typed_moved {vars} {e} {ty} (HasType.variable n is) = has_as (form.expr_var moves n) refl (HasType.variable n (mapped up vars n ty is))
    typed_moved (HasType.con number place sum {parts = es} known within parts) =
        has_as (form.expr_con moves place es) (form.type_named moves number)
        (HasType.con (moves.types + number) place (moved_data moves sum) (stands.types number sum known)
        (place_within moves small.types large.types stands.types holds sum place within)
        (at_types (sym (fields_moved moves sum place)) (all_moved parts)))
    typed_moved (HasType.tuple {parts = es} {tys = tys} parts) = has_as (form.expr_tuple moves es) (form.type_tuple moves tys) (HasType.tuple (all_moved parts))
    typed_moved (HasType.vector count item {parts = es} parts) =
        has_as (form.expr_vect moves es) (form.type_vector moves count item) (HasType.vector count (up item) (at_types (map_replicate up count item) (all_moved parts)))
    typed_moved (HasType.arithmetic op ty {parts = es} is number parts) =
        has_as (form.expr_prim moves op ty es) refl (HasType.arithmetic op (up ty) is (number_same moves ty ∙ number) (all_moved parts))
    typed_moved (HasType.comparison op ty {parts = es} is parts) =
        has_as (form.expr_prim moves op ty es) bool (HasType.comparison op (up ty) (comparison_same moves op ty ∙ is) (all_moved parts))
    typed_moved (HasType.negation ty {parts = es} number parts) =
        has_as (form.expr_prim moves Neg ty es) refl (HasType.negation (up ty) (number_same moves ty ∙ number) (all_moved parts))
    typed_moved (HasType.opposite {parts = es} parts) =
        has_as (form.expr_prim moves Not shape.Bool es ∙ ap (λ t. expr.Prim Not t (map (moved moves) es)) bool) bool
        (HasType.opposite (at_types (ap (λ t. t ∷ []) bool) (all_moved parts)))
    typed_moved (HasType.conversion from to {parts = es} is are parts) =
        has_as (form.expr_prim moves Convert to es) refl (HasType.conversion (up from) (up to) (number_same moves from ∙ is) (number_same moves to ∙ are) (all_moved parts))
    typed_moved (HasType.index count places item {vector = v} {place = k} is vec place) =
        has_as (form.expr_index moves count v k) refl
        (HasType.index count (up places) (up item) (number_same moves places ∙ is) (at_type (form.type_vector moves count item) (typed_moved vec)) (typed_moved place))
    typed_moved (HasType.update count places item {vector = v} {place = k} {new_item = e} is vec place new_item) =
        has_as (form.expr_update moves count v k e) (form.type_vector moves count item)
        (HasType.update count (up places) (up item) (number_same moves places ∙ is) (at_type (form.type_vector moves count item) (typed_moved vec)) (typed_moved place)
        (typed_moved new_item))
    typed_moved (HasType.choice {test = t} {when_true = a} {when_false = b} test when_true when_false) =
        has_as (form.expr_if moves t a b) refl (HasType.choice (at_type bool (typed_moved test)) (typed_moved when_true) (typed_moved when_false))
    typed_moved (HasType.alternatives of {part = e} {forms = forms} {arms = ways} part is_of arms) =
        has_as (form.expr_case moves e forms ways) refl (HasType.alternatives (up of) (typed_moved part) (forms_up of is_of) (arms_moved arms))
    typed_moved {vars} (HasType.binding of {part = a} {body = b} part body) =
        has_as (form.expr_let moves a b) refl (HasType.binding (up of) (typed_moved part) (longer vars (of ∷ []) (typed_moved body)))
    typed_moved (HasType.call number function {parts = es} known parts) =
        has_as (form.expr_call moves number es) refl (HasType.call (moves.funs + number) (moved_function moves function) (stands.funs number function known) (all_moved parts))
    typed_moved (HasType.raise_alone number exn known nothing) =
        has_as (form.expr_raise moves number) refl
        (HasType.raise_alone (moved_exn moves number) (moved_exception moves exn) (stands.exns number exn known) (carries_none exn nothing))
    typed_moved (HasType.raise_with number exn carried {part = e} known carries part) =
        has_as (form.expr_raise_with moves number e) refl
        (HasType.raise_with (moved_exn moves number) (moved_exception moves exn) (up carried) (stands.exns number exn known) (carries_some exn carried carries) (typed_moved part))

    all_moved : {vars : List Ty} {es : List Expr} {tys : List Ty} → HaveTypes small vars es tys → HaveTypes large (map up vars) (map (moved moves) es) (map up tys)
    all_moved HaveTypes.none = HaveTypes.none
    all_moved (HaveTypes.one first rest) = HaveTypes.one (typed_moved first) (all_moved rest)

    arms_moved : {vars : List Ty} {of ty : Ty} {arms : List (PatC × Expr)} → ArmsHaveType small vars of arms ty
        → ArmsHaveType large (map up vars) (up of) (map (λ (arm : PatC × Expr). (arm.0, moved moves arm.1)) arms) (up ty)
    arms_moved ArmsHaveType.no_arm = ArmsHaveType.no_arm
    arms_moved {vars} (ArmsHaveType.one_arm {bound = bs} pattern body rest) =
        ArmsHaveType.one_arm (pattern_moved moves small.types large.types stands.types holds pattern) (longer vars bs (typed_moved body)) (arms_moved rest)

  outs_moved : {vars tys : List Ty} {outs : List (Option Expr)} → OutsHave small vars outs tys
      → OutsHave large (map up vars) (map (option_map (moved moves)) outs) (map up tys)
  outs_moved OutsHave.none = OutsHave.none
  outs_moved (OutsHave.star rest) = OutsHave.star (outs_moved rest)
  outs_moved (OutsHave.value out rest) = OutsHave.value (typed_moved out) (outs_moved rest)

  module _ (tys : List Ty) where
    gives_as : {vars : List Ty} {r d : Res} → r ≡ d → GivesOutputs large (map up tys) vars d → GivesOutputs large (map up tys) vars r
    gives_as {vars} {r} {d} is gives = subst (λ z. GivesOutputs large (map up tys) vars z) (sym is) gives

    longer_result : {r : Res} (vars more : List Ty) → GivesOutputs large (map up tys) (map up (vars ++ more)) r
        → GivesOutputs large (map up tys) (map up vars ++ map up more) r
    longer_result {r} vars more gives = subst (λ vs. GivesOutputs large (map up tys) vs r) (sym (map_both up vars more)) gives

    mutual
      pub results_moved : {vars : List Ty} {r : Res} → GivesOutputs small tys vars r → GivesOutputs large (map up tys) (map up vars) (moved_result moves r)
      results_moved (GivesOutputs.outputs {outs = outs} have) = gives_as (form.result_outs moves outs) (GivesOutputs.outputs (outs_moved have))
      results_moved (GivesOutputs.choice {test = t} {when_true = a} {when_false = b} test when_true when_false) =
          gives_as (form.result_if moves t a b) (GivesOutputs.choice (at_type bool (typed_moved test)) (results_moved when_true) (results_moved when_false))
      results_moved (GivesOutputs.alternatives of {part = e} {forms = forms} {arms = ways} part is_of arms) =
          gives_as (form.result_case moves e forms ways) (GivesOutputs.alternatives (up of) (typed_moved part) (forms_up of is_of) (result_arms_moved arms))
      results_moved {vars} (GivesOutputs.binding of {part = e} {body = b} part body) =
          gives_as (form.result_let moves e b) (GivesOutputs.binding (up of) (typed_moved part) (longer_result vars (of ∷ []) (results_moved body)))
      results_moved (GivesOutputs.raise_alone number exn known nothing) =
          gives_as (form.result_raise moves number None)
          (GivesOutputs.raise_alone (moved_exn moves number) (moved_exception moves exn) (stands.exns number exn known) (carries_none exn nothing))
      results_moved (GivesOutputs.raise_with number exn carried {part = e} known carries part) =
          gives_as (form.result_raise moves number (Some e))
          (GivesOutputs.raise_with (moved_exn moves number) (moved_exception moves exn) (up carried) (stands.exns number exn known) (carries_some exn carried carries)
          (typed_moved part))

      result_arms_moved : {vars : List Ty} {of : Ty} {arms : List (PatC × Res)} → ArmsGiveOutputs small tys vars of arms
          → ArmsGiveOutputs large (map up tys) (map up vars) (up of) (map (λ (arm : PatC × Res). (arm.0, moved_result moves arm.1)) arms)
      result_arms_moved ArmsGiveOutputs.no_arm = ArmsGiveOutputs.no_arm
      result_arms_moved {vars} (ArmsGiveOutputs.one_arm {bound = bs} pattern body rest) =
          ArmsGiveOutputs.one_arm (pattern_moved moves small.types large.types stands.types holds pattern) (longer_result vars bs (results_moved body)) (result_arms_moved rest)

  pub equations_moved : (function : FunC) {equations : List EqC} → EquationsHave small function equations
      → EquationsHave large (moved_function moves function) (map (moved_equation moves) equations)
  equations_moved function EquationsHave.none = EquationsHave.none
  equations_moved function (EquationsHave.one vars patterns body rest) =
      EquationsHave.one (map up vars) (patterns_moved moves small.types large.types stands.types holds patterns) (typed_moved body) (equations_moved function rest)
