-- The numbers of a type, and conversions.
use Rattle.std.proofs.Common.{◌≡◌, ℕ, zero, suc, ◌+◌, ◌-◌, ◌/◌, ◌%◌, ◌^◌, ◌<◌, ◌≤◌, max, true, false, ℤ, pos, negsuc, neg_ℤ, Some}
use Rattle.std.proofs.Common.{None, if◌then◌else◌}
use Rattle.std.proofs.Common.{◌&&◌, refl, ap, sym, ◌∙◌, subst, arith, inl, inr}
use Rattle.std.specs.Int.{int_rem_euclid}
use Rattle.std.specs.Int.RustNames.{int_lt, int_le}
use Rattle.std.proofs.lemmas.Int.{ints}
use Rattle.std.proofs.lemmas.Bool.{and_parts, lt-ltb, le-ltb, cases_lt}
use Rattle.std.proofs.lemmas.Nat.{pow_pos}
use Rattle.std.proofs.Math.Nat.{mod-lt, mod-eq_of_lt, div-add-mod}
use Rattle.std.proofs.Math.Pow.{pow_mono}
use borrow.Author.Differences.{up, down, true_is_lt, true_is_le, lt-true, le-true, same_in}
use Rattle.c_meaning.specs.Numbers.{NumberType, Truth, Signed, Unsigned, CNumber, of_type, holds, is_true, converted, promoted, AreCongruent}
use Rattle.c_meaning.proofs.Options.{some_same, if_first, if_holds}

pub lt-yes : (a b : ℤ) → up a + down b < up b + down a → int_lt a b ≡ true
lt-yes a b h = sym (true_is_lt a b h)

pub le-yes : (a b : ℤ) → up a + down b ≤ up b + down a → int_le a b ≡ true
le-yes a b h = sym (true_is_le a b h)

-- how far below 0 the numbers of a type go, and below what they are
abbrev pub least : NumberType → ℕ
least Truth = 0
least (Unsigned size) = 0
least (Signed size) = 2 ^ (size - 1)

abbrev pub limit : NumberType → ℕ
limit Truth = 2
limit (Unsigned size) = 2 ^ size
limit (Signed size) = 2 ^ (size - 1)

pub record InRange (ty : NumberType) (z : ℤ) : Type 0 where
  pub above : down z ≤ up z + least ty
  pub below : up z < down z + limit ty

between : (low high : ℤ) (z : ℤ) → (int_le low z && int_lt z high) ≡ true → (up low + down z ≤ up z + down low) × (up z + down high < up high + down z)
between low high z e =
    let h = and_parts (int_le low z) (int_lt z high) e in
    (le-true low z h.0, lt-true z high h.1)

pub in_range : (ty : NumberType) (z : ℤ) → holds ty z ≡ true → InRange ty z
in_range Truth z e = let h = between (pos 0) (pos 2) z e in record { above = omega (arith, ints, h.0); below = omega (arith, ints, h.1) }
in_range (Unsigned size) z e =
    let h = between (pos 0) (pos (2 ^ size)) z e in record { above = omega (arith, ints, h.0); below = omega (arith, ints, h.1) }
in_range (Signed size) z e =
    let h = between (neg_ℤ (pos (2 ^ (size - 1)))) (pos (2 ^ (size - 1))) z e in
    record { above = omega (arith, ints, h.0); below = omega (arith, ints, h.1) }

pub is_held : (ty : NumberType) (z : ℤ) → InRange ty z → holds ty z ≡ true
is_held Truth z w = rw (le-yes (pos 0) z (omega (arith, ints, w.above)), lt-yes z (pos 2) (omega (arith, ints, w.below)))
is_held (Unsigned size) z w = rw (le-yes (pos 0) z (omega (arith, ints, w.above)), lt-yes z (pos (2 ^ size)) (omega (arith, ints, w.below)))
is_held (Signed size) z w =
    rw (le-yes (neg_ℤ (pos (2 ^ (size - 1)))) z (omega (arith, ints, w.above)), lt-yes z (pos (2 ^ (size - 1))) (omega (arith, ints, w.below)))

-- ---- conversions

-- a number of the type
pub record IsOf (ty : NumberType) (x : CNumber) : Type 0 where
  pub is : x.ty ≡ ty
  pub range : InRange ty x.number

pub held_number : {ty : NumberType} {x : CNumber} → IsOf ty x → holds x.ty x.number ≡ true
held_number {ty} {x} it = subst (λ t. holds t x.number ≡ true) (sym it.is) (is_held ty x.number it.range)

-- what an unsigned type takes the number for
pub record IsLow (size : ℕ) (z : ℤ) : Type 0 where
  pub low : ℕ
  pub is : int_rem_euclid z (pos (2 ^ size)) ≡ pos low
  pub less : low < 2 ^ size
  pub same : AreCongruent size z (pos low)

pub low_is : (size : ℕ) (z : ℤ) → IsLow size z
low_is size (pos a) = record {
  low = a % 2 ^ size;
  is = refl;
  less = mod-lt a (pow_pos size);
  same = record { more = 0; less = a / 2 ^ size; is = same_in _ _ (omega (arith, ints, div-add-mod a (2 ^ size))) };
}
low_is size (negsuc a) = let less : a % 2 ^ size < 2 ^ size = mod-lt a (pow_pos size) in record {
  low = 2 ^ size - 1 - a % 2 ^ size;
  is = refl;
  less = omega arith;
  same = record { more = a / 2 ^ size + 1; less = 0; is = same_in _ _ (omega (arith, ints, div-add-mod a (2 ^ size))) };
}

pub converted_is : (ty : NumberType) (z : ℤ) (x : CNumber) → converted ty z ≡ Some x → IsOf ty x
converted_is Truth z x e = elim (is_true z) as (λ b. Some (of_type Truth (if b then pos 1 else pos 0)) ≡ Some x → IsOf Truth x) [
  | true ↦ λ h. subst (IsOf Truth) (some_same h) (record { is = refl; range = record { above = omega (arith, ints); below = omega (arith, ints) } })
  | false ↦ λ h. subst (IsOf Truth) (some_same h) (record { is = refl; range = record { above = omega (arith, ints); below = omega (arith, ints) } })
] e
converted_is (Unsigned size) z x e =
    let it = low_is size z in
    subst (IsOf (Unsigned size)) (some_same e) (record {
      is = refl;
      range = subst (InRange (Unsigned size)) (sym it.is) (record { above = omega (arith, ints); below = omega (arith, ints, it.less) });
    })
converted_is (Signed size) z x e =
    subst (IsOf (Signed size)) (some_same (if_first (holds (Signed size) z) (Some (of_type (Signed size) z)) x e))
    (record { is = refl; range = in_range (Signed size) z (if_holds (holds (Signed size) z) (Some (of_type (Signed size) z)) x e) })

pub conversion_keeps : (ty : NumberType) (z : ℤ) → InRange ty z → converted ty z ≡ Some (of_type ty z)
conversion_keeps Truth (pos zero) w = refl
conversion_keeps Truth (pos (suc zero)) w = refl
conversion_keeps Truth (pos (suc (suc n))) w = absurd (let h = w.below in omega (arith, ints, h))
conversion_keeps Truth (negsuc n) w = absurd (let h = w.above in omega (arith, ints, h))
conversion_keeps (Unsigned size) (pos m) w = ap (λ (n : ℕ). Some (of_type (Unsigned size) (pos n))) (mod-eq_of_lt (let h = w.below in omega (arith, ints, h)))
conversion_keeps (Unsigned size) (negsuc m) w = absurd (let h = w.above in omega (arith, ints, h))
conversion_keeps (Signed size) z w = rw (is_held (Signed size) z w)

pub unsigned_is : (size : ℕ) (z : ℤ) (x : CNumber) → converted (Unsigned size) z ≡ Some x → AreCongruent size z x.number
unsigned_is size z x e =
    let it = low_is size z in
    subst (AreCongruent size z) (sym it.is ∙ ap (λ (n : CNumber). n.number) (some_same e)) it.same

pub signed_is : (size : ℕ) (z : ℤ) (x : CNumber) → converted (Signed size) z ≡ Some x → x.number ≡ z
signed_is size z x e =
    ap (λ (it : CNumber). it.number) (sym (some_same (if_first (holds (Signed size) z) (Some (of_type (Signed size) z)) x e)))

pub signed_overflows : (size : ℕ) (z : ℤ) → holds (Signed size) z ≡ false → converted (Signed size) z ≡ None
signed_overflows size z e = rw e

-- ---- promotions

pub wider : {ty more : NumberType} {z : ℤ} → least ty ≤ least more → limit ty ≤ limit more → InRange ty z → InRange more z
wider l m w = record { above = omega (arith, l, w.above); below = omega (arith, m, w.below) }

-- a promoted type holds the numbers of the type
pub record Holds (ty more : NumberType) : Type 0 where
  pub least : least ty ≤ least more
  pub limit : limit ty ≤ limit more

pub promotes : (int : ℕ) (ty : NumberType) → 16 ≤ int → Holds ty (promoted int ty)
promotes int Truth big =
    let p : 2 ^ 1 ≤ 2 ^ (int - 1) = pow_mono (let l : 1 ≤ int - 1 = omega arith in l) in
    record { least = omega arith; limit = omega (arith, p) }
promotes int (Signed size) big =
    let p : 2 ^ (size - 1) ≤ 2 ^ (max size int - 1) = pow_mono (let l : size - 1 ≤ max size int - 1 = omega arith in l) in
    record { least = p; limit = p }
promotes int (Unsigned size) big = elim (cases_lt size int) [
  | inl short ↦
      let p : 2 ^ size ≤ 2 ^ (int - 1) = pow_mono (let l : size ≤ int - 1 = omega arith in l) in
      rw (lt-ltb size int short) (record { least = omega arith; limit = p })
  | inr long ↦ rw (le-ltb size int long) (record { least = omega arith; limit = omega arith })
]

pub promoted_holds : (int : ℕ) (ty : NumberType) (z : ℤ) → 16 ≤ int → InRange ty z → InRange (promoted int ty) z
promoted_holds int ty z big w = let h = promotes int ty big in wider h.least h.limit w
