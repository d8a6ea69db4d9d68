-- The core of an expression is as a source may write it, and its type one of types, if so are those of its parts: form by form.
use Rattle.std.proofs.Common.{◌≡◌, ℕ, suc, ◌≤◌, List, [], ◌∷◌, ◌++◌, map, length, Some, None, slice_get, refl, ap, sym, subst, ◌∙◌, Bool, true, false, ◌&&◌}
use Rattle.std.specs.List.{list_all}
use Rattle.std.proofs.lemmas.Bool.{and_parts, le-leb}
use Rattle.std.proofs.lemmas.Bool.Decides.{Decides-ltb}
use Rattle.std.proofs.lemmas.List.{length-map}
use Rattle.std.proofs.lemmas.Option.{slice_get_within}
use Rattle.hume_base.specs.declared.limits.TheConstants.{MAX_PARTS}
use Rattle.hume_base.specs.declared.types.Ty.{Ty, roll-Ty, map-Ty, fold-roll-Ty, Bool as BoolTy, Char as CharTy, Named as NamedTy, Tuple as TupleTy, Vector as VectorTy}
use Rattle.hume_base.specs.declared.types.Ty.TheOpen.{Ty-F}
use Rattle.hume_base.specs.declared.types.Ty.TheVariants as ty
use Rattle.hume_base.specs.declared.types.SumDef.{SumDef}
use Rattle.hume_base.specs.declared.types.Types.{Types}
use Rattle.hume_base.specs.Values.{fields_at}
use Rattle.hume_ast.specs.declared.tree.BinOp.{BinOp}
use Rattle.hume_ast.specs.declared.tree.BinOp.TheVariants as sign
use Rattle.hume_ast.specs.declared.tree.TyExp.{TyExp}
use Rattle.hume_model.specs.declared.core_tree.ExnDef.{ExnDef}
use Rattle.hume_model.specs.declared.core_tree.Op.{Op}
use Rattle.hume_model.specs.declared.core_tree.Op.TheVariants as op
use Rattle.hume_model.specs.declared.core_tree.PatC.{PatC}
use Rattle.hume_model.specs.declared.core_tree.Expr.{Expr, roll-Expr, map-Expr, fold-roll-Expr}
use Rattle.typed_core.specs.declared.typed_tree.TypedExpr.{TypedExpr, roll-TypedExpr, map-TypedExpr, fold-roll-TypedExpr, Word, Var, Con, Tuple, Vect, Prim, Convert, Index, Update, If, Case, Let, Call, Raise}
use Rattle.typed_core.specs.declared.typed_tree.TypedExpr.TheOpen.{TypedExpr-F}
use Rattle.typed_core.specs.declared.typed_tree.TypedExpr.TheVariants.{rolls-Word, rolls-Var, rolls-Con, rolls-Tuple, rolls-Vect, rolls-Prim, rolls-Convert, rolls-Index, rolls-Update, rolls-If, rolls-Case, rolls-Let, rolls-Call, rolls-Raise}
use Rattle.typed_core.specs.Erasing.{count_of, erased, erased_layer}
use Rattle.hume_model.specs.Calls.{all_true}
use Rattle.hume_model.specs.TypeLimits.{is_between, type_step, is_type}
use Rattle.hume_model.specs.PartLimits.{is_written_pattern, is_length, expression_step, is_written}
use Rattle.hume_model.proofs.FormsThere.{forms_there}
use Rattle.check_typing.specs.Signatures.{Scope, exn_named}
use Rattle.check_typing.specs.WrittenTypes.{written}
use Rattle.check_typing.specs.Patterns.{literal_word, word_of_truth}
use Rattle.check_typing.specs.Cores.{Cored, CoredArm, cores, arm_cores, letter_core, truth_core, literal_core, variable_core, let_core, if_core, and_core, or_core, operation_core, neg_core, not_core, convert_core, index_core, update_core, case_core, raise_core, raise_with_core, call_core, con_core, tuple_core, vector_core}
use Rattle.check_typing.specs.Typing.{Judged, Arm, int32, closed, opened, AllHave, AllChecked, EachChecked, either_type, FirstType, literal_typing, letter_typing, truth_typing, let_typing, Branches, if_typing, ArmsChecked, ArmHas, FirstArmType, Alternatives, case_typing, raise_typing, raise_with_typing, Arithmetic, arithmetic_typing, comparison_typing, logic_typing, not_typing, neg_typing, index_typing, Updated, update_typing, cast_typing, app_typing, con_typing, tuple_typing, Elements, vector_typing, star_typing, binary_typing}
use Rattle.check_typing.specs.declared.signatures.Signature.{Signature}
use Rattle.check_typing.specs.declared.signatures.Signatures.{Signatures}
use Rattle.check_typing.proofs.NamesFound.{first_stands, variable_stands, con_stands}
use Rattle.typed_core.proofs.Erased.{count_is}
use Rattle.check_rules.proofs.TypesWritten.{both}
use Rattle.check_rules.proofs.PatternsWritten.{IsTy, AreTys, HasTypes, types_append, type_at, pattern_written}

-- what the signatures of a program have in them are types
pub record HaveTypes (s : Signatures) : Type 0 where
  pub fields : (k : ℕ) (sum : SumDef) → slice_get s.types.sums k ≡ Some sum → (place : ℕ) → AreTys s (fields_at sum place)
  pub carried : (n : ℕ) (exn : ExnDef) → slice_get s.exns n ≡ Some exn → (t : Ty) → exn.carries ≡ Some t → IsTy s t
  pub params : (n : ℕ) (f : Signature) → slice_get s.funs n ≡ Some f → AreTys s f.params
  pub gives : (n : ℕ) (f : Signature) → slice_get s.funs n ≡ Some f → IsTy s f.gives

either : {Z : Type 0} (b : Bool) (X Y : Type 0) → either_type b X Y → (X → Z) → (Y → Z) → Z
either true X Y h f g = f h
either false X Y h f g = g h

pub between : (least most n : ℕ) → least ≤ n → n ≤ most → is_between least most n ≡ true
between least most n a b = both _ _ (le-leb least n a) (le-leb n most b)

module _ (s : Signatures) (have : HaveTypes s) where
  abbrev types : Types
  types = s.types

  -- types
  is_ty : (x : Ty-F Ty) (t : Ty) → roll-Ty x ≡ t → type_step (length types.sums) (map-Ty Ty Bool (is_type types) x) ≡ true → IsTy s t
  is_ty x t r h = ap (is_type types) (sym r) ∙ fold-roll-Ty Bool (type_step (length types.sums)) x ∙ h

  ty_is : (x : Ty-F Ty) (t : Ty) → roll-Ty x ≡ t → IsTy s t → type_step (length types.sums) (map-Ty Ty Bool (is_type types) x) ≡ true
  ty_is x t r h = sym (fold-roll-Ty Bool (type_step (length types.sums)) x) ∙ ap (is_type types) r ∙ h

  pub bool_ty : IsTy s BoolTy
  bool_ty = is_ty Ty-F.Bool BoolTy ty.rolls-Bool refl

  char_ty : IsTy s CharTy
  char_ty = is_ty Ty-F.Char CharTy ty.rolls-Char refl

  int32_ty : IsTy s int32
  int32_ty = is_ty (Ty-F.Int 32) int32 (ty.rolls-Int 32) refl

  same_ty : (t u : Ty) → t ≡ u → IsTy s u → IsTy s t
  same_ty t u e h = ap (is_type types) e ∙ h

  -- cores
  abbrev pub Written : TypedExpr → Type 0
  Written e = is_written types (erased e) ≡ true

  abbrev pub AllWritten : List TypedExpr → Type 0
  AllWritten es = all_true (map (is_written types) (map erased es)) ≡ true

  rolled : (x : TypedExpr-F TypedExpr) (e : TypedExpr) → roll-TypedExpr x ≡ e
      → expression_step types (map-Expr Expr Bool (is_written types) (erased_layer (map-TypedExpr TypedExpr Expr erased x))) ≡ true → Written e
  rolled x e r h =
      ap (λ e. is_written types (erased e)) (sym r) ∙ ap (is_written types) (fold-roll-TypedExpr Expr (λ y. roll-Expr (erased_layer y)) x)
      ∙ fold-roll-Expr Bool (expression_step types) (erased_layer (map-TypedExpr TypedExpr Expr erased x)) ∙ h

  shown : (c d : Cored) → c ≡ d → Written d.0 → Written c.0
  shown c d e p = ap (λ (r : Cored). is_written types (erased r.0)) e ∙ p

  w_word : (w : ℕ) → Written (Word w)
  w_word w = rolled (TypedExpr-F.Word w) (Word w) (rolls-Word w) refl

  w_if : (a b d : TypedExpr) → Written a → Written b → Written d → Written (If a b d)
  w_if a b d p q r = rolled (TypedExpr-F.If a b d) (If a b d) (rolls-If a b d) (both _ _ p (both _ _ q r))

  w_prim : (o : Op) (t : Ty) (es : List TypedExpr) → IsTy s t → AllWritten es → Written (Prim o t es)
  w_prim o t es is p = rolled (TypedExpr-F.Prim o t es) (Prim o t es) (rolls-Prim o t es) (both _ _ is p)

  -- what is said by itself comes with a type; what is checked against a type has a core as a source may write it
  abbrev pub Tells : (Scope → Ty → Cored → Type 0) → Type 0
  Tells P = (scope : Scope) (t : Ty) (c : Cored) → HasTypes s scope → P scope t c → IsTy s t × Written c.0

  abbrev pub Checks : (Scope → Ty → Cored → Type 0) → Type 0
  Checks P = (scope : Scope) (t : Ty) (c : Cored) → HasTypes s scope → IsTy s t → P scope t c → Written c.0

  pub record IsGood (j : Judged) : Type 0 where
    pub has : Tells j.has
    pub checked : Checks j.checked

  good_closed : (P : Scope → Ty → Cored → Type 0) → Tells P → IsGood (closed P)
  good_closed P p = record { has = p; checked = λ scope t c vars is h. (p scope t c vars h).1 }

  good_opened : (P : Scope → Ty → Cored → Type 0) → Checks P → IsGood (opened P)
  good_opened P p = record { has = λ scope t c vars h. let is = same_ty t int32 h.0 int32_ty in (is, p scope t c vars is h.1); checked = p }

  abbrev pub AllGood : List Judged → Type 0
  AllGood [] = Unit {0}
  AllGood (j ∷ js) = IsGood j × AllGood js

  first_type : (js : List Judged) → AllGood js → (scope : Scope) (t : Ty) → HasTypes s scope → FirstType js scope t → IsTy s t
  first_type [] g scope t vars h = same_ty t int32 h int32_ty
  first_type (j ∷ js) g scope t vars h = either j.is_open (FirstType js scope t) ((c : Cored) × j.has scope t c) h (first_type js g.1 scope t vars) (λ r. (g.0.has scope t r.0 vars r.1).0)

  pub good_literal : (negative : Bool) (amount : ℕ) → IsGood (literal_typing negative amount)
  good_literal negative amount = good_opened _ (λ scope t c vars is h. shown c (literal_core negative amount t) h.1 (w_word (literal_word negative amount)))

  pub good_letter : (byte : ℕ) → IsGood (letter_typing byte)
  good_letter byte = good_closed _ (λ scope t c vars h. (same_ty t CharTy h.0 char_ty, shown c (letter_core byte) h.1 (w_word byte)))

  pub good_truth : (b : Bool) → IsGood (truth_typing b)
  good_truth b = good_closed _ (λ scope t c vars h. (same_ty t BoolTy h.0 bool_ty, shown c (truth_core b) h.1 (w_word (word_of_truth b))))

  pub good_star : IsGood star_typing
  good_star = good_closed _ (λ scope t c vars h. absurd h)

  w_let : (of : Ty) (a b : TypedExpr) → Written a → Written b → Written (Let of a b)
  w_let of a b p q = rolled (TypedExpr-F.Let of a b) (Let of a b) (rolls-Let of a b) (both _ _ p q)

  pub good_let : (name : List ℕ) (a b : Judged) → IsGood a → IsGood b → IsGood (let_typing name a b)
  good_let name a b p q = record {
    has = λ scope t c vars h.
        let first = p.has scope h.0 h.1 vars h.3 in
        let body = q.has (scope ++ (name, h.0) ∷ []) t h.2 (types_append s scope ((name, h.0) ∷ []) vars (first.0, tt)) h.4 in
        (body.0, shown c (let_core h.0 h.1 h.2) h.5 (w_let h.0 h.1.0 h.2.0 first.1 body.1));
    checked = λ scope t c vars is h.
        let first = p.has scope h.0 h.1 vars h.3 in
        let body = q.checked (scope ++ (name, h.0) ∷ []) t h.2 (types_append s scope ((name, h.0) ∷ []) vars (first.0, tt)) is h.4 in
        shown c (let_core h.0 h.1 h.2) h.5 (w_let h.0 h.1.0 h.2.0 first.1 body);
  }

  module _ (a b : Judged) (p : IsGood a) (q : IsGood b) where
    branches : (test : Judged) → IsGood test → Checks (Branches test a b)
    branches test r scope t c vars is h = shown c (if_core h.0 h.1 h.2) h.6
        (w_if h.0.0 h.1.0 h.2.0 (r.checked scope BoolTy h.0 vars bool_ty h.3) (p.checked scope t h.1 vars is h.4) (q.checked scope t h.2 vars is h.5))

    first_of : (scope : Scope) (t : Ty) → HasTypes s scope → FirstType (a ∷ b ∷ []) scope t → IsTy s t
    first_of scope t vars h = first_type (a ∷ b ∷ []) (p, (q, tt)) scope t vars h

    pub good_if : (test : Judged) → IsGood test → IsGood (if_typing test a b)
    good_if test r = record {
      has = λ scope t c vars h. let is = first_of scope t vars h.0 in (is, branches test r scope t c vars is h.1);
      checked = branches test r;
    }

    operation : (o : Op) (t : Ty) (scope : Scope) (left right : Cored) → HasTypes s scope → IsTy s t → a.checked scope t left
        → b.checked scope t right → Written (Prim o t (left.0 ∷ right.0 ∷ []))
    operation o t scope left right vars is x y =
        w_prim o t (left.0 ∷ right.0 ∷ []) is (both _ _ (p.checked scope t left vars is x) (both _ true (q.checked scope t right vars is y) refl))

    arithmetic : (o : Op) → Checks (Arithmetic o a b)
    arithmetic o scope t c vars is h = shown c (operation_core o t h.0 h.1) h.5 (operation o t scope h.0 h.1 vars is h.3 h.4)

    good_arithmetic : (o : Op) → IsGood (arithmetic_typing o a b)
    good_arithmetic o = record {
      has = λ scope t c vars h. let is = first_of scope t vars h.0 in (is, arithmetic o scope t c vars is h.1);
      checked = arithmetic o;
    }

    good_comparison : (o : Op) → IsGood (comparison_typing o a b)
    good_comparison o = good_closed _ (λ scope t c vars h.
        let is = first_of scope h.0 vars h.4 in (same_ty t BoolTy h.3 bool_ty, shown c (operation_core o h.0 h.1 h.2) h.8 (operation o h.0 scope h.1 h.2 vars is h.6 h.7)))

    good_or : IsGood (logic_typing or_core a b)
    good_or = good_closed _ (λ scope t c vars h. (
      same_ty t BoolTy h.2 bool_ty,
      shown c (or_core h.0 h.1) h.5
          (w_if h.0.0 (Word 1) h.1.0 (p.checked scope BoolTy h.0 vars bool_ty h.3) (w_word 1) (q.checked scope BoolTy h.1 vars bool_ty h.4)),
    ))

    good_and : IsGood (logic_typing and_core a b)
    good_and = good_closed _ (λ scope t c vars h. (
      same_ty t BoolTy h.2 bool_ty,
      shown c (and_core h.0 h.1) h.5
          (w_if h.0.0 h.1.0 (Word 0) (p.checked scope BoolTy h.0 vars bool_ty h.3) (q.checked scope BoolTy h.1 vars bool_ty h.4) (w_word 0)),
    ))

    -- the length and the elements of a vector
    vector_is : (count : ℕ) (t : Ty) → IsTy s (VectorTy count t) → (is_length count ≡ true) × IsTy s t
    vector_is count t h = and_parts (is_length count) (is_type types t) (ty_is (Ty-F.Vector count t) (VectorTy count t) (ty.rolls-Vector count t) h)

    good_index : IsGood (index_typing a b)
    good_index = good_closed _ (λ scope t c vars h.
        let vector = p.has scope (VectorTy h.0 t) h.2 vars h.4 in
        let place = q.has scope h.1 h.3 vars h.5 in
        let is = vector_is h.0 t vector.0 in (
          is.1,
          shown c (index_core (VectorTy h.0 t) h.1 h.2 h.3) h.7
              (rolled (TypedExpr-F.Index (VectorTy h.0 t) h.1 h.2.0 h.3.0) (Index (VectorTy h.0 t) h.1 h.2.0 h.3.0)
              (rolls-Index (VectorTy h.0 t) h.1 h.2.0 h.3.0)
              (both _ _ (subst (λ n. is_length n ≡ true) (sym (count_is h.0 t)) is.0) (both _ _ vector.1 place.1))),
        ))

    pub good_binary : (sign : BinOp) → IsGood (binary_typing sign a b)
    good_binary sign.Or = good_or
    good_binary sign.And = good_and
    good_binary sign.Eq = good_comparison op.Eq
    good_binary sign.Ne = good_comparison op.Ne
    good_binary sign.Lt = good_comparison op.Lt
    good_binary sign.Le = good_comparison op.Le
    good_binary sign.Gt = good_comparison op.Gt
    good_binary sign.Ge = good_comparison op.Ge
    good_binary sign.Add = good_arithmetic op.Add
    good_binary sign.Sub = good_arithmetic op.Sub
    good_binary sign.Mul = good_arithmetic op.Mul
    good_binary sign.Div = good_arithmetic op.Div
    good_binary sign.Mod = good_arithmetic op.Mod
    good_binary sign.At = good_index

    updated : (Vector : Scope → Ty → Cored → Type 0) (scope : Scope) (t : Ty) (c : Cored) → HasTypes s scope → IsTy s t
        → ((vector : Cored) → Vector scope t vector → Written vector.0) → Updated Vector a b scope t c → Written c.0
    updated Vector scope t c vars is v h =
        let parts = vector_is h.0 h.1 (same_ty (VectorTy h.0 h.1) t (sym h.6) is) in
        shown c (update_core t h.2 h.3 h.4 h.5) h.11
        (rolled (TypedExpr-F.Update t h.2 h.3.0 h.4.0 h.5.0) (Update t h.2 h.3.0 h.4.0 h.5.0) (rolls-Update t h.2 h.3.0 h.4.0 h.5.0)
        (both _ _ (subst (λ n. is_length n ≡ true) (sym (ap count_of h.6 ∙ count_is h.0 h.1)) parts.0)
        (both _ _ (v h.3 h.7) (both _ _ (p.has scope h.2 h.4 vars h.8).1 (q.checked scope h.1 h.5 vars parts.1 h.10)))))

  pub good_update : (a b d : Judged) → IsGood a → IsGood b → IsGood d → IsGood (update_typing a b d)
  good_update a b d p q r = record {
    has = λ scope t c vars h.
        let vector = p.has scope t h.3 vars h.7 in (vector.0, updated b d q r a.has scope t c vars vector.0 (λ v x. (p.has scope t v vars x).1) h);
    checked = λ scope t c vars is h. updated b d q r a.checked scope t c vars is (λ v x. p.checked scope t v vars is x) h;
  }

  module _ (a : Judged) (p : IsGood a) where
    pub good_not : IsGood (not_typing a)
    good_not = good_closed _ (λ scope t c vars h. (
      same_ty t BoolTy h.1 bool_ty,
      shown c (not_core h.0) h.3
          (w_prim op.Not BoolTy (h.0.0 ∷ []) bool_ty (both _ true (p.checked scope BoolTy h.0 vars bool_ty h.2) refl)),
    ))

    pub good_neg : IsGood (neg_typing a)
    good_neg = record {
      has = λ scope t c vars h.
          let part = p.has scope t h.0 vars h.2 in (part.0, shown c (neg_core t h.0) h.3 (w_prim op.Neg t (h.0.0 ∷ []) part.0 (both _ true part.1 refl)));
      checked = λ scope t c vars is h. shown c (neg_core t h.0) h.3 (w_prim op.Neg t (h.0.0 ∷ []) is (both _ true (p.checked scope t h.0 vars is h.2) refl));
    }

    pub good_cast : (type : TyExp) → ((t : Ty) → written types type ≡ Some t → IsTy s t) → IsGood (cast_typing s a type)
    good_cast type is_type = good_closed _ (λ scope t c vars h.
        let is = is_type t h.2 in (
          is,
          shown c (convert_core h.0 t h.1) h.6
              (rolled (TypedExpr-F.Convert h.0 t h.1.0) (Convert h.0 t h.1.0) (rolls-Convert h.0 t h.1.0)
              (both _ _ is (both _ true (p.has scope h.0 h.1 vars h.4).1 refl))),
        ))

  pub good_raise : (name : List ℕ) → IsGood (raise_typing s name)
  good_raise name = good_opened _ (λ scope t c vars is h. shown c (raise_core h.0) h.2 (rolled (TypedExpr-F.Raise h.0 None) (Raise h.0 None) (rolls-Raise h.0 None) refl))

  -- what an exception carries is of a type
  pub carried_ty : (name : List ℕ) (number : ℕ) (exn : ExnDef) (t : Ty) → exn_named name s ≡ Some (number, exn) → exn.carries ≡ Some t → IsTy s t
  carried_ty name number exn t e h = have.carried number exn (first_stands (λ (exn : ExnDef). exn.name) name s.exns number exn e) t h

  pub good_raise_with : (name : List ℕ) (a : Judged) → IsGood a → IsGood (raise_with_typing s name a)
  good_raise_with name a p = good_opened _ (λ scope t c vars is h. shown c (raise_with_core h.0 h.1) h.3
      (rolled (TypedExpr-F.Raise h.0 (Some h.1.0)) (Raise h.0 (Some h.1.0)) (rolls-Raise h.0 (Some h.1.0))
      (p.checked scope h.2.1 h.1 vars (carried_ty name h.0 h.2.0 h.2.1 h.2.2 h.2.3) h.2.4)))

  -- parts
  record AreChecked (count : ℕ) (cs : List Cored) : Type 0 where
    each : AllWritten (cores cs)
    long : length cs ≡ count

  all_checked : (js : List Judged) → AllGood js → (scope : Scope) (ts : List Ty) (cs : List Cored) → HasTypes s scope → AreTys s ts
      → AllChecked scope js ts cs → AreChecked (length ts) cs
  all_checked [] g scope [] [] vars are h = record { each = refl; long = refl }
  all_checked [] g scope (t ∷ ts) cs vars are h = absurd h
  all_checked [] g scope [] (c ∷ cs) vars are h = absurd h
  all_checked (j ∷ js) g scope (t ∷ ts) (c ∷ cs) vars are h =
      let hs = and_parts (is_type types t) (list_all (λ b. b) (map (is_type types) ts)) are in
      let others = all_checked js g.1 scope ts cs vars hs.1 h.1 in
      record { each = both _ _ (g.0.checked scope t c vars hs.0 h.0) others.each; long = ap suc others.long }
  all_checked (j ∷ js) g scope [] cs vars are h = absurd h
  all_checked (j ∷ js) g scope (t ∷ ts) [] vars are h = absurd h

  record DoHave (count : ℕ) (ts : List Ty) (cs : List Cored) : Type 0 where
    are : AreTys s ts
    each : AllWritten (cores cs)
    types_long : length ts ≡ count
    long : length cs ≡ count

  all_have : (js : List Judged) → AllGood js → (scope : Scope) (ts : List Ty) (cs : List Cored) → HasTypes s scope → AllHave scope js ts cs
      → DoHave (length js) ts cs
  all_have [] g scope [] [] vars h = record { are = refl; each = refl; types_long = refl; long = refl }
  all_have [] g scope (t ∷ ts) cs vars h = absurd h
  all_have [] g scope [] (c ∷ cs) vars h = absurd h
  all_have (j ∷ js) g scope (t ∷ ts) (c ∷ cs) vars h =
      let first = g.0.has scope t c vars h.0 in
      let others = all_have js g.1 scope ts cs vars h.1 in
      record { are = both _ _ first.0 others.are; each = both _ _ first.1 others.each; types_long = ap suc others.types_long; long = ap suc others.long }
  all_have (j ∷ js) g scope [] cs vars h = absurd h
  all_have (j ∷ js) g scope (t ∷ ts) [] vars h = absurd h

  each_checked : (js : List Judged) → AllGood js → (scope : Scope) (t : Ty) (cs : List Cored) → HasTypes s scope → IsTy s t
      → EachChecked scope js t cs → AreChecked (length js) cs
  each_checked [] g scope t [] vars is h = record { each = refl; long = refl }
  each_checked [] g scope t (c ∷ cs) vars is h = absurd h
  each_checked (j ∷ js) g scope t (c ∷ cs) vars is h =
      let others = each_checked js g.1 scope t cs vars is h.1 in
      record { each = both _ _ (g.0.checked scope t c vars is h.0) others.each; long = ap suc others.long }
  each_checked (j ∷ js) g scope t [] vars is h = absurd h

  pub good_variable : (name : List ℕ) → IsGood (app_typing s name [])
  good_variable name = good_closed _ (λ scope t c vars h.
      (type_at s scope vars h.0 t (variable_stands name scope h.0 t h.1), shown c (variable_core h.0) h.2 (rolled (TypedExpr-F.Var h.0) (Var h.0) (rolls-Var h.0) refl)))

  pub good_app : (name : List ℕ) (j : Judged) (js : List Judged) → AllGood (j ∷ js) → IsGood (app_typing s name (j ∷ js))
  good_app name j js g = good_closed _ (λ scope t c vars h.
      let there = first_stands (λ (function : Signature). function.name) name s.funs h.0 h.1 h.3 in (
        same_ty t h.1.gives h.4 (have.gives h.0 h.1 there),
        shown c (call_core h.0 h.2) h.6
            (rolled (TypedExpr-F.Call h.0 (cores h.2)) (Call h.0 (cores h.2)) (rolls-Call h.0 (cores h.2))
            (all_checked (j ∷ js) g scope h.1.params h.2 vars (have.params h.0 h.1 there) h.5).each),
      ))

  module _ (js : List Judged) (g : AllGood js) where
    pub good_con : (name : List ℕ) → IsGood (con_typing s name js)
    good_con name = good_closed _ (λ scope t c vars h.
        let is = con_stands name types.sums h.0 h.2 in
        let fields = subst (AreTys s) is.fields (have.fields h.0.sum is.sum is.there h.0.place) in
        let named : IsTy s (NamedTy h.0.sum) =
        is_ty (Ty-F.Named h.0.sum) (NamedTy h.0.sum) (ty.rolls-Named h.0.sum) ((Decides-ltb h.0.sum (length types.sums)).1 (slice_get_within types.sums h.0.sum is.sum is.there)) in (
          same_ty t (NamedTy h.0.sum) h.3 named,
          shown c (con_core h.0.place h.1) h.5
              (rolled (TypedExpr-F.Con h.0.place (cores h.1)) (Con h.0.place (cores h.1)) (rolls-Con h.0.place (cores h.1)) (all_checked js g scope h.0.fields h.1 vars fields h.4).each),
        ))

    core_count : (cs : List Cored) → length (map (is_written types) (map erased (cores cs))) ≡ length cs
    core_count cs = length-map (map erased (cores cs)) (is_written types) ∙ length-map (cores cs) erased ∙ length-map cs (λ (c : Cored). c.0)

    tuple : (cs : List Cored) → is_between 2 MAX_PARTS (length cs) ≡ true → AllWritten (cores cs) → Written (Tuple (cores cs))
    tuple cs few p = rolled (TypedExpr-F.Tuple (cores cs)) (Tuple (cores cs)) (rolls-Tuple (cores cs))
        (both _ _ (subst (λ n. is_between 2 MAX_PARTS n ≡ true) (sym (core_count cs)) few) p)

    pub good_tuple : is_between 2 MAX_PARTS (length js) ≡ true → IsGood (tuple_typing js)
    good_tuple few = record {
      has = λ scope t c vars h.
          let r = all_have js g scope h.0 h.1 vars h.3 in
          let types_few : is_between 2 MAX_PARTS (length (map (is_type types) h.0)) ≡ true =
          subst (λ n. is_between 2 MAX_PARTS n ≡ true) (sym (length-map h.0 (is_type types) ∙ r.types_long)) few in (
            same_ty t (TupleTy h.0) h.2 (is_ty (Ty-F.Tuple h.0) (TupleTy h.0) (ty.rolls-Tuple h.0) (both _ _ types_few r.are)),
            shown c (tuple_core h.1) h.4 (tuple h.1 (subst (λ n. is_between 2 MAX_PARTS n ≡ true) (sym r.long) few) r.each),
          );
      checked = λ scope t c vars is h.
          let hs = and_parts (is_between 2 MAX_PARTS (length (map (is_type types) h.0))) (list_all (λ b. b) (map (is_type types) h.0))
          (ty_is (Ty-F.Tuple h.0) (TupleTy h.0) (ty.rolls-Tuple h.0) (same_ty (TupleTy h.0) t (sym h.2) is)) in
          let r = all_checked js g scope h.0 h.1 vars hs.1 h.3 in
          shown c (tuple_core h.1) h.4 (tuple h.1 (subst (λ n. is_between 2 MAX_PARTS n ≡ true) (length-map h.0 (is_type types) ∙ sym r.long) hs.0) r.each);
    }

    elements : (scope : Scope) (item t : Ty) (c : Cored) → HasTypes s scope → IsTy s item → is_length (length js) ≡ true
        → Elements js scope item t c → Written c.0
    elements scope item t c vars is few h =
        let r = each_checked js g scope item h.0 vars is h.2 in
        shown c (vector_core h.0) h.3
        (rolled (TypedExpr-F.Vect (cores h.0)) (Vect (cores h.0)) (rolls-Vect (cores h.0))
        (both _ _ (subst (λ n. is_length n ≡ true) (sym (core_count h.0 ∙ r.long)) few) r.each))

    pub good_vector : is_length (length js) ≡ true → IsGood (vector_typing js)
    good_vector few = record {
      has = λ scope t c vars h.
          let item = first_type js g scope h.0 vars h.1 in (
            same_ty t (VectorTy (length js) h.0) h.2.1 (is_ty (Ty-F.Vector (length js) h.0) (VectorTy (length js) h.0) (ty.rolls-Vector (length js) h.0) (both _ _ few item)),
            elements scope h.0 t c vars item few h.2,
          );
      checked = λ scope t c vars is h.
          let item = and_parts (is_length (length js)) (is_type types h.0)
          (ty_is (Ty-F.Vector (length js) h.0) (VectorTy (length js) h.0) (ty.rolls-Vector (length js) h.0) (same_ty (VectorTy (length js) h.0) t (sym h.1.1) is)) in
          elements scope h.0 t c vars item.1 few h.1;
    }

  -- alternatives
  abbrev pub AllArmsGood : List Arm → Type 0
  AllArmsGood [] = Unit {0}
  AllArmsGood (arm ∷ arms) = IsGood arm.body × AllArmsGood arms

  first_arm : (scope : Scope) (u t : Ty) (arms : List Arm) → AllArmsGood arms → HasTypes s scope → IsTy s u → FirstArmType s scope u arms t → IsTy s t
  first_arm scope u t [] g vars is h = same_ty t int32 h int32_ty
  first_arm scope u t (arm ∷ arms) g vars is h =
      either arm.body.is_open (FirstArmType s scope u arms t) (ArmHas s scope u arm t) h (first_arm scope u t arms g.1 vars is) (λ r.
      let bound = pattern_written s have.fields arm.pat u (r.0, r.1) is r.3 in (g.0.has (scope ++ r.0) t r.2 (types_append s scope r.0 vars bound.vars) r.4).0)

  abbrev answers : List (PatC × TypedExpr) → List (PatC × Bool)
  answers arms = map (λ (arm : PatC × Expr). (arm.0, is_written types arm.1)) (map (λ (arm : PatC × TypedExpr). (arm.0, erased arm.1)) arms)

  record AreArms (count : ℕ) (cs : List CoredArm) : Type 0 where
    each : list_all (λ (arm : PatC × Bool). is_written_pattern arm.0 && arm.1) (answers (arm_cores cs)) ≡ true
    long : length (answers (arm_cores cs)) ≡ count

  arms_written : (scope : Scope) (u t : Ty) (arms : List Arm) → AllArmsGood arms → HasTypes s scope → IsTy s u → IsTy s t → (cs : List CoredArm)
      → ArmsChecked s scope u arms t cs → AreArms (length arms) cs
  arms_written scope u t [] g vars of is [] h = record { each = refl; long = refl }
  arms_written scope u t [] g vars of is (c ∷ cs) h = absurd h
  arms_written scope u t (arm ∷ arms) g vars of is (c ∷ cs) h =
      let bound = pattern_written s have.fields arm.pat u (h.0, c.0) of h.1 in
      let body = g.0.checked (scope ++ h.0) t c.1 (types_append s scope h.0 vars bound.vars) is h.2 in
      let others = arms_written scope u t arms g.1 vars of is cs h.3 in
      record { each = both _ _ (both _ _ bound.pat body) others.each; long = ap suc others.long }
  arms_written scope u t (arm ∷ arms) g vars of is [] h = absurd h

  module _ (a : Judged) (p : IsGood a) (arms : List Arm) (g : AllArmsGood arms) (some : 1 ≤ length arms) where
    alternatives : (scope : Scope) (u t : Ty) (c : Cored) → HasTypes s scope → IsTy s t → Alternatives s a arms scope u t c → Written c.0
    alternatives scope u t c vars is h =
        let part = p.has scope u h.0 vars h.2 in
        let r = arms_written scope u t arms g vars part.0 is h.1 h.3 in
        shown c (case_core u h.0 h.1) h.4
        (rolled (TypedExpr-F.Case u h.0.0 (arm_cores h.1)) (Case u h.0.0 (arm_cores h.1)) (rolls-Case u h.0.0 (arm_cores h.1))
        (both _ _ (forms_there s.types u part.0) (both _ _ part.1 (both _ _ (le-leb 1 _ (subst (λ n. 1 ≤ n) (sym r.long) some)) r.each))))

    pub good_case : IsGood (case_typing s a arms)
    good_case = record {
      has = λ scope t c vars h.
          let of = (p.has scope h.0 h.2.0 vars h.2.2).0 in
          let is = first_arm scope h.0 t arms g vars of h.1 in
          (is, alternatives scope h.0 t c vars is h.2);
      checked = λ scope t c vars is h. alternatives scope h.0 t c vars is h.1;
    }
