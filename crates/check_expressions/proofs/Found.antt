-- What was found by a name, and the types that went on the stack.
use native.Mathlib.Omega.{arith}
use Rattle.std.proofs.Common.{◌≡◌, ◌≤◌, [], ℕ, Bool, true, false, List, ◌∷◌, Option, Some, None, length, refl, ap, sym, ◌∙◌}
use Rattle.std.proofs.lemmas.Grind.{common_steps}
use Rattle.hume_base.specs.declared.types.Ty.{Ty, Tuple as TupleTy}
use Rattle.hume_base.specs.declared.types.Ty.TheOpen.{Ty-F}
use Rattle.check_scopes.specs.declared.types.shape.Shape.TheVariants as shape
use Rattle.check_scopes.specs.types.Contexts.{shape_of}
use Rattle.check_typing.specs.Patterns.{is_named}
use Rattle.hume_model.specs.declared.core_tree.ExnDef.{ExnDef}
use Rattle.hume_model.specs.Typing.{is_number_type}
use Rattle.check_typing.specs.Partial.{given, when}
use Rattle.check_typing.specs.Signatures.{Constructor}
use Rattle.check_typing.specs.inner.Walk.{tuple_parts}
use Rattle.check_expressions.specs.inner.Shapes.{HasParts}
use Rattle.check_typing.specs.declared.signatures.Signature.{Signature}
use Rattle.check_typing.proofs.Maybe.{some-same}
use Rattle.check_scopes.specs.Known.{Known, with_type, signature_type, with_function, with_constructor, with_exception, with_carried}

none_is_none : {A : Type 0} {x : A} → Some x ≡ None → ⊥
none_is_none h = cc

-- what is no type of numbers, if it is a type at all
pub no_number : {B : Type 0} (o : Option Ty) (f : Ty → Option B) → ((ty : Ty) → o ≡ Some ty → is_number_type ty ≡ false)
    → given o (λ ty. when (is_number_type ty) (f ty)) ≡ None
no_number None f h = refl
no_number (Some ty) f h = ap (λ b. when b (f ty)) (h ty refl)

-- a tuple of so many parts
pub record TupleFound (ty : Ty) (count : ℕ) : Type 0 where
  pub tys : List Ty
  pub is : tuple_parts ty ≡ Some tys
  pub long : length tys ≡ count

pub tuple_found : (ty : Ty) (count : ℕ) → HasParts count ty → TupleFound ty count
tuple_found ty count h = by (tuple_parts ty) refl h
  where
    by : (o : Option (List Ty)) → tuple_parts ty ≡ o → given o (λ tys. Some (length tys)) ≡ Some count → TupleFound ty count
    by None e h = absurd (none_is_none (sym h))
    by (Some tys) e h = record { tys = tys; is = e; long = some-same _ _ h }

pub record FunctionFound (o : Option (ℕ × Signature)) (known new : Known) (number : ℕ) : Type 0 where
  pub signature : Signature
  pub is : o ≡ Some (number, signature)
  pub pushed : new ≡ with_type (signature_type signature) known

pub function_found : (o : Option (ℕ × Signature)) (known new : Known) (number : ℕ) → (Some number, new) ≡ with_function o known → FunctionFound o known new number
function_found None known new number h = absurd (none_is_none (ap (λ p. p.0) h))
function_found (Some found) known new number h = record {
  signature = found.1;
  is = ap (λ n. Some (n, found.1)) (sym (some-same _ _ (ap (λ p. p.0) h)));
  pushed = ap (λ p. p.1) h;
}

pub record ConstructorFound (o : Option Constructor) (known new : Known) (sum place : ℕ) : Type 0 where
  pub fields : List Ty
  pub is : o ≡ Some (record { sum = sum; place = place; fields = fields })
  pub pushed : new ≡ with_type (TupleTy fields) known

pub constructor_found : (o : Option Constructor) (known new : Known) (sum place : ℕ) → (Some (sum, place), new) ≡ with_constructor o known
    → ConstructorFound o known new sum place
constructor_found None known new sum place h = absurd (none_is_none (ap (λ p. p.0) h))
constructor_found (Some con) known new sum place h =
    let same = some-same _ _ (ap (λ p. p.0) h) in record {
      fields = con.fields;
      is = λ i. Some (record { sum = (sym same i).0; place = (sym same i).1; fields = con.fields });
      pushed = ap (λ p. p.1) h;
    }

-- the data type that is seen of a type
pub named_shape : (layer : Ty-F Ty) (expected sum : ℕ) → shape.Named expected ≡ shape_of layer → sum ≡ expected → is_named sum layer ≡ true
named_shape Ty-F.Bool expected sum is same = cc
named_shape Ty-F.Char expected sum is same = cc
named_shape (Ty-F.Int bits) expected sum is same = cc
named_shape (Ty-F.Nat bits) expected sum is same = cc
named_shape (Ty-F.Tuple parts) expected sum is same = cc
named_shape (Ty-F.Vector count item) expected sum is same = cc
named_shape (Ty-F.Named number) expected sum is same = grind (arith, common_steps)

-- a list that has a first one
pub record Headed {A : Type 0} (xs : List A) : Type 0 where
  pub first : A
  pub rest : List A
  pub is : xs ≡ first ∷ rest

pub nonempty : {A : Type 0} (xs : List A) → 1 ≤ length xs → Headed xs
nonempty [] h = absurd (no_part h)
  where
    no_part : 1 ≤ 0 → ⊥
    no_part h = omega arith
nonempty (x ∷ xs) h = record { first = x; rest = xs; is = refl }
