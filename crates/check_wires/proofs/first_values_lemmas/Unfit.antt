-- The declarations that are found are those whose first value is none.
use Rattle.std.proofs.Common.{◌≡◌, ℕ, not, ◌||◌, Bool, true, false, IsTrue, Option, Some, None, slice_get, refl, ap, sym, subst, ◌∙◌, arith}
use Rattle.hume_base.specs.Least.{IsFirst}
use Rattle.hume_base.specs.declared.types.Ty.{Ty}
use Rattle.hume_base.specs.declared.types.Value.{Value}
use Rattle.hume_ast.specs.declared.tree.Exp.{Exp}
use Rattle.hume_ast.specs.declared.tree.Decl.{Decl}
use Rattle.hume_ast.specs.declared.tree.Decl.TheVariants.{Wire}
use Rattle.check_names.specs.Names.{OfDecl}
use Rattle.check_typing.specs.declared.signatures.Signatures.{Signatures}
use Rattle.check_rules.specs.Declared.{Decls, WireDecl}
use Rattle.check_rules.specs.SignaturesOf.{AreSignatures}
use Rattle.check_rules.specs.Constants.{is_built, constant}
use Rattle.check_rules.specs.TypeRules.{wire_type, IsNoValue, HasNoInitial}
use Rattle.check_wires.specs.types.NodeTypes.{node_types, type_between}
use Rattle.check_wires.proofs.types_lemmas.Found.{found_between}
use Rattle.check_wires.proofs.types_lemmas.WirePlaces.{declaration_of, stands, among}
use Rattle.check_wires.specs.first_values.inner.Unfit.{is_missing, is_no_value, unfit_if_there, has_unfit_value}

is_true : (s : Signatures) (type : Option Ty) (e : Exp) → IsNoValue s type e → is_no_value s type e ≡ true
is_true s None e (IsNoValue.unbuilt h) = ap not h
is_true s (Some ty) e (IsNoValue.unbuilt h) = ap (λ b. not b || is_missing (constant s e ty)) h
is_true s None e (IsNoValue.unfit ty is none) = cc
is_true s (Some t) e (IsNoValue.unfit ty is none) =
    let same : t ≡ ty = cc in
    ap (λ o. not (is_built e) || is_missing o) (ap (constant s e) same ∙ none) ∙ by (is_built e)
  where
    by : (b : Bool) → (not b || true) ≡ true
    by true = refl
    by false = refl

is_there : (s : Signatures) (type : Option Ty) (e : Exp) → is_no_value s type e ≡ true → IsNoValue s type e
is_there s None e h = by (is_built e) refl h
  where
    by : (b : Bool) → is_built e ≡ b → not b ≡ true → IsNoValue s None e
    by false q h = IsNoValue.unbuilt q
    by true q h = cc
is_there s (Some ty) e h = by (is_built e) (constant s e ty) refl refl h
  where
    by : (b : Bool) (o : Option Value) → is_built e ≡ b → constant s e ty ≡ o → (not b || is_missing o) ≡ true → IsNoValue s (Some ty) e
    by false o q r h = IsNoValue.unbuilt q
    by true None q r h = IsNoValue.unfit ty refl r
    by true (Some value) q r h = cc

module _ (decls : Decls) (s : Signatures) (are : AreSignatures decls s) (once : (t : Signatures) → AreSignatures decls t → t ≡ s) where
  abbrev pub IsUnfit : ℕ → Type 0
  IsUnfit n = OfDecl decls n (λ decl. IsTrue (has_unfit_value s (node_types s.types decls) decl))

  no_initial_is_unfit : (n : ℕ) → HasNoInitial decls n → IsUnfit n
  no_initial_is_unfit n h =
      let r = stands 0 decls h.at h.wire h.there in
      let number : r.number ≡ n = let e = r.is in let f = h.declared in omega arith in
      let none : IsNoValue s (wire_type s.types decls h.wire) h.value =
      subst (λ (t : Signatures). IsNoValue t (wire_type t.types decls h.wire) h.value) (once h.signatures h.are) h.none in
      record {
        decl = declaration_of h.wire;
        at = ap (slice_get decls) (sym number) ∙ r.there;
        holds = ap (unfit_if_there s (type_between (node_types s.types decls) h.wire.from h.wire.to)) h.written_value
            ∙ ap (λ type. is_no_value s type h.value) (found_between s.types decls h.wire)
            ∙ is_true s (wire_type s.types decls h.wire) h.value none;
      }

  of_wire : (n : ℕ) (w : WireDecl) → w.number ≡ n → slice_get decls n ≡ Some (declaration_of w) → (value : Exp) → w.initial ≡ Some value
      → is_no_value s (type_between (node_types s.types decls) w.from w.to) value ≡ true → HasNoInitial decls n
  of_wire n w number at value is h =
      let r = among 0 decls n w (number ∙ omega arith) at in
      record {
        signatures = s;
        are = are;
        at = r.at;
        wire = w;
        there = r.there;
        declared = number;
        value = value;
        written_value = is;
        none = is_there s (wire_type s.types decls w) value (ap (λ type. is_no_value s type value) (sym (found_between s.types decls w)) ∙ h);
      }

  unfit_is_no_initial : (n : ℕ) → IsUnfit n → HasNoInitial decls n
  unfit_is_no_initial n h = by h.decl.1 h.at h.holds
    where
      by : (decl : Decl) → slice_get decls n ≡ Some (h.decl.0, decl) → has_unfit_value s (node_types s.types decls) decl ≡ true → HasNoInitial decls n
      by (Wire source target count (Some value)) at holds =
          of_wire n (record { number = n; place = h.decl.0; from = source; to = target; depth = count; initial = Some value }) refl at value refl holds
      by (Wire source target count None) at holds = cc
      by _ at holds = cc

  pub first_no_initial : (o : Option ℕ) → IsFirst IsUnfit o → IsFirst (HasNoInitial decls) o
  first_no_initial None h = λ i p. h i (no_initial_is_unfit i p)
  first_no_initial (Some i) h = (unfit_is_no_initial i h.0, λ j p. h.1 j (no_initial_is_unfit j p))
