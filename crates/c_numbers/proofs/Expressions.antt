-- The number that an expression gives, form by form.
use Rattle.std.proofs.Common.{◌≡◌, ℕ, ◌^◌, ◌<◌, Bool, true, false, pos, neg_ℤ, List, [], ◌∷◌, map, Some, refl, ap, ◌∙◌}
use Rattle.std.proofs.Common.{if◌then◌else◌}
use Rattle.std.proofs.lemmas.Bool.{lt-leb}
use Rattle.c_tree.specs.declared.tree.Width.{Width}
use Rattle.c_tree.specs.declared.tree.CType.{CType}
use Rattle.c_tree.specs.declared.tree.COp.{COp}
use Rattle.c_tree.specs.declared.tree.CExp.{CExp}
use Rattle.c_tree.specs.declared.tree.CExp.TheVariants as exp
use Rattle.c_tree.specs.Words.{bits, is_wide}
use Rattle.c_meaning.specs.Numbers.{NumberType, Signed, Unsigned, CNumber, of_type, is_true, converted, promoted}
use Rattle.c_meaning.specs.Operators.{constant_bits, negated, operated}
use Rattle.c_meaning.specs.Objects.{Scalar}
use Rattle.c_meaning.specs.Memories.{Value, Numeric, Memory, Rights, Variable, named}
use Rattle.c_meaning.specs.Expressions.{Ended, Function, Context, Meant, numeric, number_type, values_of, meant}
use Rattle.c_meaning.specs.Numbers.{and_then}
use Rattle.c_meaning.proofs.Ranges.{InRange, is_held}
use Rattle.c_meaning.proofs.Forms.{unsigned_means, signed_means, name_means, call_means, cast_means, negate_means, binary_means, choice_means}
use Rattle.c_numbers.proofs.Conversions.{same_itself, held_is, natural_in}

-- the expression gives the number
pub record Has (context : Context) (e : CExp) (x : CNumber) : Type 0 where
  pub is : (meant e).value context ≡ Some (Numeric x)

-- ---- constants
wide_bits : (int : ℕ) (width : Width) → is_wide width ≡ true → constant_bits int width ≡ bits width
wide_bits int width e = rw e refl

pub has_unsigned : (context : Context) (width : Width) (amount : ℕ) → is_wide width ≡ true → amount < 2 ^ bits width
    → Has context (exp.Unsigned width amount) (of_type (Unsigned (bits width)) (pos amount))
has_unsigned context width amount wide less = record {
  is = ap (λ (m : Meant). m.value context) (unsigned_means width amount)
      ∙ ap numeric (held_is (Unsigned (bits width)) (Unsigned (constant_bits context.int width)) (pos amount)
      (is_held (Unsigned (bits width)) (pos amount) (natural_in (bits width) amount less)))
      ∙ ap (λ s. Some (Numeric (of_type (Unsigned s) (pos amount)))) (wide_bits context.int width wide);
}

pub has_signed : (context : Context) (width : Width) (negative : Bool) (amount : ℕ)
    → InRange (Signed (bits width)) (if negative then neg_ℤ (pos amount) else pos amount)
    → Has context (exp.Signed width negative amount) (of_type (Signed (constant_bits context.int width)) (if negative then neg_ℤ (pos amount) else pos amount))
has_signed context width negative amount w = record {
  is = ap (λ (m : Meant). m.value context) (signed_means width negative amount)
      ∙ ap numeric (held_is (Signed (bits width)) (Signed (constant_bits context.int width)) (if negative then neg_ℤ (pos amount) else pos amount)
      (is_held (Signed (bits width)) (if negative then neg_ℤ (pos amount) else pos amount) w));
}

pub has_one : (context : Context) (width : Width) → is_wide width ≡ true → InRange (Signed (bits width)) (pos 1)
    → Has context (exp.Signed width false 1) (of_type (Signed (bits width)) (pos 1))
has_one context width wide w = record {
  is = (has_signed context width false 1 w).is ∙ ap (λ s. Some (Numeric (of_type (Signed s) (pos 1)))) (wide_bits context.int width wide);
}

-- ---- operators
cast_of : (ty : CType) (e : CExp) → (meant (exp.Cast ty e)).cast ≡ Some ty
cast_of ty e = ap (λ (m : Meant). m.cast) (cast_means ty e)

module _ {context : Context} where
  pub has_cast : (ty : CType) {e : CExp} {x y : CNumber} {to : NumberType} → Has context e x → number_type context.types ty ≡ Some to
      → converted to x.number ≡ Some y → Has context (exp.Cast ty e) y
  has_cast ty {e} p n q = record { is = ap (λ (m : Meant). m.value context) (cast_means ty e) ∙ rw (p.is, n) (ap numeric q) }

  pub has_negative : {e : CExp} {x y : CNumber} → Has context e x → negated context.int x ≡ Some y → Has context (exp.Negate e) y
  has_negative {e} p q = record { is = ap (λ (m : Meant). m.value context) (negate_means e) ∙ rw p.is (ap numeric q) }

  pub has_binary : (operator : COp) {l r : CExp} {x y z : CNumber} → Has context l x → Has context r y → operated context.int operator x y ≡ Some z
      → Has context (exp.Binary operator l r) z
  has_binary operator {l} {r} p q e =
      record { is = ap (λ (m : Meant). m.value context) (binary_means operator l r) ∙ rw (p.is, q.is) (ap numeric e) }

  pub has_first : (ty : CType) (l r : CExp) {t : CExp} {x y z : CNumber} {to : NumberType} → number_type context.types ty ≡ Some to → Has context t x
      → is_true x.number ≡ true → Has context (exp.Cast ty l) y → converted (promoted context.int y.ty) y.number ≡ Some z
      → Has context (exp.Choice t (exp.Cast ty l) (exp.Cast ty r)) z
  has_first ty l r {t} {to = to} n p chosen q e = record {
    is = ap (λ (m : Meant). m.value context) (choice_means t (exp.Cast ty l) (exp.Cast ty r))
        ∙ rw (p.is, cast_of ty l, cast_of ty r, n, same_itself to, chosen, q.is) (ap numeric e);
  }

  pub has_second : (ty : CType) (l r : CExp) {t : CExp} {x y z : CNumber} {to : NumberType} → number_type context.types ty ≡ Some to → Has context t x
      → is_true x.number ≡ false → Has context (exp.Cast ty r) y → converted (promoted context.int y.ty) y.number ≡ Some z
      → Has context (exp.Choice t (exp.Cast ty l) (exp.Cast ty r)) z
  has_second ty l r {t} {to = to} n p fails q e = record {
    is = ap (λ (m : Meant). m.value context) (choice_means t (exp.Cast ty l) (exp.Cast ty r))
        ∙ rw (p.is, cast_of ty l, cast_of ty r, n, same_itself to, fails, q.is) (ap numeric e);
  }

-- ---- calls
-- whatever may be written, and whatever is in memory, the function gives the value
pub record Answers (function : Function) (values : List Value) (value : Value) : Type 0 where
  pub is : (rights : Rights) (memory : Memory) → and_then (function rights values memory) (λ (e : Ended). e.value) ≡ Some value

pub values_one : (context : Context) (e : CExp) (x : CNumber) → Has context e x → values_of (map meant (e ∷ [])) context ≡ Some (Numeric x ∷ [])
values_one context e x p = rw p.is refl

pub values_two : (context : Context) (l r : CExp) (x y : CNumber) → Has context l x → Has context r y
    → values_of (map meant (l ∷ r ∷ [])) context ≡ Some (Numeric x ∷ Numeric y ∷ [])
values_two context l r x y p q = rw (p.is, q.is) refl

pub call_gives : (context : Context) (name : List ℕ) (arguments : List CExp) (values : List Value) (function : Function) (value : Value)
    → values_of (map meant arguments) context ≡ Some values → context.functions name ≡ Some function → Answers function values value
    → (meant (exp.Call name arguments)).value context ≡ Some value
call_gives context name arguments values function value p f a =
    ap (λ (m : Meant). m.value context) (call_means name arguments) ∙ rw (p, f) (a.is (Some context.memory.count) context.memory)

-- ---- variables
-- an object that is called by the name, and has the number
pub record IsVariable (context : Context) (name : List ℕ) (x : CNumber) : Type 0 where
  pub block : ℕ
  pub constant : Bool
  pub named : named name context.scope ≡ Some (Variable (record { block = block; path = []; constant = constant }))
  pub less : block < context.memory.count
  pub has : context.memory.objects block ≡ Scalar x.ty (Some x.number)

pub has_variable : {context : Context} (name : List ℕ) {x : CNumber} → IsVariable context name x → Has context (exp.Name name) x
has_variable {context} name v = record {
  is = ap (λ (m : Meant). m.value context) (name_means name) ∙ rw (v.named, lt-leb context.memory.count v.block v.less, v.has) refl;
}
