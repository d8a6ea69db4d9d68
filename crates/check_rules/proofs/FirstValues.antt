-- A value that is written down is one of its type.
use Rattle.std.proofs.Common.{◌≡◌, ℕ, suc, ◌==◌, ◌&&◌, not, Bool, true, false, ℤ, List, [], ◌∷◌, map, length, Option, Some, None, slice_get, refl, ap, sym, subst, ◌∙◌}
use Rattle.std.specs.List.{list_all}
use Rattle.std.proofs.lemmas.Bool.{and_parts, eqb-true, eq-eqb, lt-ltb}
use Rattle.hume_base.specs.declared.types.Ty.{Ty, out-Ty, roll-Ty, roll-out-Ty, map-Ty, Bool as BoolTy, Char as CharTy, Vector as VectorTy, Tuple as TupleTy, Named}
use Rattle.hume_base.specs.declared.types.Ty.TheOpen.{Ty-F}
use Rattle.hume_base.specs.declared.types.Ty.TheVariants.{rolls-Bool, rolls-Char, rolls-Vector, rolls-Tuple, rolls-Named}
use Rattle.hume_base.specs.declared.types.Types.{Types}
use Rattle.hume_base.specs.declared.types.SumDef.{SumDef}
use Rattle.hume_base.specs.declared.types.Value.{Value, Word, Tuple, Vector, Con}
use Rattle.hume_base.specs.Holding.{HoldSmaller}
use Rattle.hume_base.specs.Values.{is_value, is_named_value, all_pass, is_tuple_of, is_vector_of, is_con_of, fields_at, is_char_word}
use Rattle.hume_ast.specs.declared.tree.Exp.{Exp, roll-Exp, map-Exp, fold-roll-Exp, ind-Exp}
use Rattle.hume_ast.specs.declared.tree.Exp.TheOpen.{Exp-F}
use Rattle.hume_model.specs.Typing.{is_number_layer}
use Rattle.hume_model.specs.TypeLimits.{type_step, is_type}
use Rattle.hume_model.proofs.Layers.{out-tuple, out-vector, out-con, tuple-value, vector-value}
use Rattle.hume_model.proofs.Fields.{data-value}
use Rattle.check_typing.specs.Partial.{given}
use Rattle.check_typing.specs.Signatures.{Constructor, con_named}
use Rattle.check_typing.specs.Patterns.{literal_number, literal_word, is_number_of, word_of_truth, is_bool, is_char, is_named}
use Rattle.check_typing.specs.declared.signatures.Signatures.{Signatures}
use Rattle.check_typing.proofs.Maybe.{some-same, given-inv, when-inv}
use Rattle.check_typing.proofs.NamesFound.{con_stands}
use Rattle.check_typing.proofs.SameTypes.{bool_true, char_true, named_true}
use Rattle.check_typing.proofs.LiteralTypes.{literal-value, letter-value, truth-value}
use Rattle.check_rules.specs.Constants.{values_of, values_alike, con_value, tuple_value, vector_value, value_step, constant}
use Rattle.check_rules.proofs.TypesWritten.{both}
use Rattle.check_rules.proofs.PatternsWritten.{AreTys, layer_types}

negated : (b : Bool) → b ≡ true → not b ≡ false
negated true h = refl
negated false h = cc

-- a type of numbers has a width
number_layer : (count : ℕ) (x : Ty-F Ty) (answers : Ty → Bool) (z : ℤ) → type_step count (map-Ty Ty Bool answers x) ≡ true
    → is_number_of z x ≡ true → is_number_layer x ≡ true
number_layer count (Ty-F.Int bits) answers z h e = h
number_layer count (Ty-F.Nat bits) answers z h e = h
number_layer count _ answers z h e = cc

module _ (s : Signatures) (down : HoldSmaller s.types)
    (fields : (k : ℕ) (sum : SumDef) → slice_get s.types.sums k ≡ Some sum → (place : ℕ) → AreTys s (fields_at sum place)) where
  abbrev types : Types
  types = s.types

  abbrev named : ℕ → Value → Bool
  named = is_named_value types (length types.sums)

  abbrev Whole : Exp → Type 0
  Whole e = (ty : Ty) (v : Value) → is_type types ty ≡ true → constant s e ty ≡ Some v → is_value types ty v ≡ true

  abbrev Known : Type 0
  Known = (e : Exp) × Whole e

  abbrev alone : Known → Exp
  alone e = e.0

  abbrev exps : Exp-F Known → Exp-F Exp
  exps y = map-Exp Known Exp alone y

  abbrev values : List Known → List (Ty → Option Value)
  values es = map (constant s) (map alone es)

  all_values : (es : List Known) (tys : List Ty) (vs : List Value) → AreTys s tys → values_of (values es) tys ≡ Some vs
      → all_pass (map (is_value types) tys) vs ≡ true
  all_values [] [] vs h e = subst (λ vs. all_pass [] vs ≡ true) (some-same [] vs e) refl
  all_values [] (ty ∷ tys) vs h e = cc
  all_values (x ∷ es) [] vs h e = cc
  all_values (x ∷ es) (ty ∷ tys) vs h e =
      let k = given-inv (constant s x.0 ty) (λ first. given (values_of (values es) tys) (λ others. Some (first ∷ others))) vs e in
      let m = given-inv (values_of (values es) tys) (λ others. Some (k.0 ∷ others)) vs k.2 in
      let hs = and_parts (is_type types ty) _ h in
      subst (λ vs. all_pass (map (is_value types) (ty ∷ tys)) vs ≡ true) (some-same _ _ m.2) (both _ _ (x.1 ty k.0 hs.0 k.1) (all_values es tys m.0 hs.1 m.1))

  record AllAlike (item : Ty) (parts : List (Ty → Option Value)) (vs : List Value) : Type 0 where
    long : length vs ≡ length parts
    each : list_all (is_value types item) vs ≡ true

  all_alike : (item : Ty) (es : List Known) (vs : List Value) → is_type types item ≡ true → values_alike (values es) item ≡ Some vs
      → AllAlike item (values es) vs
  all_alike item [] vs h e = subst (AllAlike item []) (some-same [] vs e) (record { long = refl; each = refl })
  all_alike item (x ∷ es) vs h e =
      let k = given-inv (constant s x.0 item) (λ first. given (values_alike (values es) item) (λ others. Some (first ∷ others))) vs e in
      let m = given-inv (values_alike (values es) item) (λ others. Some (k.0 ∷ others)) vs k.2 in
      let first = x.1 item k.0 h k.1 in
      let others = all_alike item es m.0 h m.1 in
      subst (AllAlike item (values (x ∷ es))) (some-same _ _ m.2) (record { long = ap suc others.long; each = both _ _ first others.each })

  abbrev HasValue : Ty → Value → Type 0
  HasValue ty v = is_value types ty v ≡ true

  at_type : (x : Ty-F Ty) (t ty : Ty) (v : Value) → out-Ty ty ≡ x → roll-Ty x ≡ t → HasValue t v → HasValue ty v
  at_type x t ty v e r h = ap (λ u. is_value types u v) (sym (roll-out-Ty ty) ∙ ap roll-Ty e ∙ r) ∙ h

  at_value : (ty : Ty) (v w : Value) → Some v ≡ Some w → HasValue ty v → HasValue ty w
  at_value ty v w e h = subst (HasValue ty) (some-same v w e) h

  con_level : (name : List ℕ) (con : Constructor) → con_named name s ≡ Some con → (es : List Known) (ty : Ty) (v : Value)
      → con_value (Some con) (values es) ty ≡ Some v → HasValue ty v
  con_level name con q es ty v h =
      let k = when-inv (is_named con.sum (out-Ty ty)) (given (values_of (values es) con.fields) (λ values. Some (Con con.place values))) v h in
      let m = given-inv (values_of (values es) con.fields) (λ values. Some (Con con.place values)) v k.1 in
      let is = con_stands name types.sums con q in
      let pass = all_values es con.fields m.0 (subst (AreTys s) is.fields (fields con.sum is.sum is.there con.place)) m.1 in
      let here : HasValue (Named con.sum) (Con con.place m.0) =
      data-value types down con.sum is.sum is.there (Con con.place m.0) ∙ ap (is_con_of (is_value types) is.sum) (out-con con.place m.0)
      ∙ both _ _ (lt-ltb con.place (length is.sum.cons) is.within) (ap (λ tys. all_pass (map (is_value types) tys) m.0) is.fields ∙ pass) in
      at_value ty (Con con.place m.0) v m.2
      (at_type (Ty-F.Named con.sum) (Named con.sum) ty (Con con.place m.0) (sym (named_true con.sum (out-Ty ty) k.0)) (rolls-Named con.sum) here)

  con_there : (name : List ℕ) (o : Option Constructor) → con_named name s ≡ o → (es : List Known) (ty : Ty) (v : Value)
      → con_value o (values es) ty ≡ Some v → HasValue ty v
  con_there name None q es ty v h = cc
  con_there name (Some con) q es ty v h = con_level name con q es ty v h

  tuple_level : (es : List Known) (x : Ty-F Ty) (ty : Ty) (v : Value) → out-Ty ty ≡ x
      → type_step (length types.sums) (map-Ty Ty Bool (is_type types) x) ≡ true
      → tuple_value (values es) x ≡ Some v → HasValue ty v
  tuple_level es (Ty-F.Tuple tys) ty v e t h =
      let m = given-inv (values_of (values es) tys) (λ values. Some (Tuple values)) v h in
      let pass = all_values es tys m.0 (and_parts _ (list_all (λ b. b) (map (is_type types) tys)) t).1 m.1 in
      let here : HasValue (TupleTy tys) (Tuple m.0) = tuple-value named (Tuple m.0) tys ∙ ap (is_tuple_of (map (is_value types) tys)) (out-tuple m.0) ∙ pass in
      at_value ty (Tuple m.0) v m.2 (at_type (Ty-F.Tuple tys) (TupleTy tys) ty (Tuple m.0) e (rolls-Tuple tys) here)
  tuple_level es _ ty v e t h = cc

  vector_level : (es : List Known) (x : Ty-F Ty) (ty : Ty) (v : Value) → out-Ty ty ≡ x
      → type_step (length types.sums) (map-Ty Ty Bool (is_type types) x) ≡ true
      → vector_value (values es) x ≡ Some v → HasValue ty v
  vector_level es (Ty-F.Vector count item) ty v e t h =
      let k = when-inv (length (values es) == count) (given (values_alike (values es) item) (λ values. Some (Vector values))) v h in
      let m = given-inv (values_alike (values es) item) (λ values. Some (Vector values)) v k.1 in
      let alike = all_alike item es m.0 (and_parts _ (is_type types item) t).1 m.1 in
      let here : HasValue (VectorTy count item) (Vector m.0) =
      vector-value named (Vector m.0) count item ∙ ap (is_vector_of count (is_value types item)) (out-vector m.0)
      ∙ both _ _ (eq-eqb (length m.0) count (alike.long ∙ eqb-true _ _ k.0)) alike.each in
      at_value ty (Vector m.0) v m.2 (at_type (Ty-F.Vector count item) (VectorTy count item) ty (Vector m.0) e (rolls-Vector count item) here)
  vector_level es _ ty v e t h = cc

  level : (y : Exp-F Known) (ty : Ty) (v : Value) → is_type types ty ≡ true
      → value_step s (map-Exp Exp (Ty → Option Value) (constant s) (exps y)) ty ≡ Some v → HasValue ty v
  level (Exp-F.Num negative amount) ty v t h =
      let k = when-inv (is_number_of (literal_number negative amount) (out-Ty ty)) (Some (Word (literal_word negative amount))) v h in
      let num = number_layer (length types.sums) (out-Ty ty) (is_type types) (literal_number negative amount) (layer_types s ty t) k.0 in
      at_value ty (Word (literal_word negative amount)) v k.1 (literal-value types ty negative amount num (negated _ k.0))
  level (Exp-F.Letter byte) ty v t h =
      let k = when-inv (is_char (out-Ty ty) && is_char_word byte) (Some (Word byte)) v h in
      let hs = and_parts (is_char (out-Ty ty)) (is_char_word byte) k.0 in
      at_value ty (Word byte) v k.1 (at_type Ty-F.Char CharTy ty (Word byte) (sym (char_true (out-Ty ty) hs.0)) rolls-Char (letter-value types byte (negated _ hs.1)))
  level (Exp-F.Truth truth) ty v t h =
      let k = when-inv (is_bool (out-Ty ty)) (Some (Word (word_of_truth truth))) v h in
      at_value ty (Word (word_of_truth truth)) v k.1
      (at_type Ty-F.Bool BoolTy ty (Word (word_of_truth truth)) (sym (bool_true (out-Ty ty) k.0)) rolls-Bool (truth-value types truth))
  level (Exp-F.Con name es) ty v t h = con_there name (con_named name s) refl es ty v h
  level (Exp-F.Paren e) ty v t h = e.1 ty v t h
  level (Exp-F.Tuple es) ty v t h = tuple_level es (out-Ty ty) ty v refl (layer_types s ty t) h
  level (Exp-F.Vect es) ty v t h = vector_level es (out-Ty ty) ty v refl (layer_types s ty t) h
  level _ ty v t h = cc

  at_roll : (y : Exp-F Known) → Whole (roll-Exp (exps y))
  at_roll y ty v t h = level y ty v t (sym (ap (λ (value : Ty → Option Value). value ty) (fold-roll-Exp (Ty → Option Value) (value_step s) (exps y))) ∙ h)

  -- what an expression writes down as a value of a type is one
  pub constant_value : (e : Exp) → Whole e
  constant_value = ind-Exp Whole (λ x y is. subst (λ x. Whole (roll-Exp x)) is (at_roll y))
