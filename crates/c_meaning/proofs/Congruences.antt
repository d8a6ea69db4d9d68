-- Operations at an unsigned type are ones on the numbers themselves, but for a multiple of what the type has numbers.
use Rattle.std.proofs.Common.{◌≡◌, ℕ, ◌+◌, ◌*◌, ◌^◌, ℤ, pos, ◌+ℤ◌, ◌-ℤ◌, ◌*ℤ◌, Some, refl, ap, subst, arith}
use Rattle.std.proofs.lemmas.Int.{ints}
use borrow.Author.Differences.{up, down, product_is, same_in}
use Rattle.c_tree.specs.declared.tree.COp.{COp}
use Rattle.c_tree.specs.declared.tree.COp.TheVariants as op
use Rattle.c_meaning.specs.Numbers.{NumberType, Unsigned, CNumber, converted, common, AreCongruent}
use Rattle.c_meaning.specs.Operators.{operated}
use Rattle.c_meaning.proofs.Ranges.{unsigned_is}
use Rattle.c_meaning.proofs.Operations.{OnCommon, on_common_is}

-- the same as two naturals
record AreSame (n : ℕ) (x y : ℤ) : Type 0 where
  k : ℕ
  l : ℕ
  is : up x + down y + k * n ≡ up y + down x + l * n

equal_naturals : (x y : ℤ) → x ≡ y → up x + down y ≡ up y + down x
equal_naturals x y e = subst (λ z. up x + down z ≡ up z + down x) e refl

to_same : (size : ℕ) (x y : ℤ) → AreCongruent size x y → AreSame (2 ^ size) x y
to_same size x y c = record {
  k = c.more;
  l = c.less;
  is = let h = equal_naturals (x +ℤ pos (c.more * 2 ^ size)) (y +ℤ pos (c.less * 2 ^ size)) c.is in omega (arith, ints, h);
}

from_same : (size : ℕ) (x y : ℤ) → AreSame (2 ^ size) x y → AreCongruent size x y
from_same size x y s = record { more = s.k; less = s.l; is = same_in _ _ (omega (arith, ints, s.is)) }

same_then : (n : ℕ) (x y z : ℤ) → AreSame n x y → AreSame n y z → AreSame n x z
same_then n x y z s t = record { k = s.k + t.k; l = s.l + t.l; is = omega (arith, s.is, t.is) }

same_sum : (n : ℕ) (x x' y y' : ℤ) → AreSame n x x' → AreSame n y y' → AreSame n (x +ℤ y) (x' +ℤ y')
same_sum n x x' y y' s t = record { k = s.k + t.k; l = s.l + t.l; is = omega (arith, ints, s.is, t.is) }

same_difference : (n : ℕ) (x x' y y' : ℤ) → AreSame n x x' → AreSame n y y' → AreSame n (x -ℤ y) (x' -ℤ y')
same_difference n x x' y y' s t = record { k = s.k + t.l; l = s.l + t.k; is = omega (arith, ints, s.is, t.is) }

same_product : (n : ℕ) (x x' y y' : ℤ) → AreSame n x x' → AreSame n y y' → AreSame n (x *ℤ y) (x' *ℤ y')
same_product n x x' y y' s t = record {
  k = up x * t.k + down x * t.l + s.k * up y' + s.l * down y';
  l = up x * t.l + down x * t.k + s.l * up y' + s.k * down y';
  is = omega (
    arith,
    product_is x y,
    product_is x' y',
    ap (λ e. up x * e) t.is,
    ap (λ e. down x * e) t.is,
    ap (λ e. e * up y') s.is,
    ap (λ e. e * down y') s.is,
  );
}

-- both operands of an operation at an unsigned type, and what is converted there, by an operation on numbers
module _ (int size : ℕ) (operator : COp) (x y z : CNumber) (is : common int x.ty y.ty ≡ Unsigned size) (operate : ℤ → ℤ → ℤ) where
  left_same : (it : OnCommon int operator x y z) → AreSame (2 ^ size) x.number it.left.number
  left_same it = to_same size x.number it.left.number
      (unsigned_is size x.number it.left (subst (λ (ty : NumberType). converted ty x.number ≡ Some it.left) is it.converts))

  right_same : (it : OnCommon int operator x y z) → AreSame (2 ^ size) y.number it.right.number
  right_same it = to_same size y.number it.right.number
      (unsigned_is size y.number it.right (subst (λ (ty : NumberType). converted ty y.number ≡ Some it.right) is it.also))

  wraps : (it : OnCommon int operator x y z) → converted (common int x.ty y.ty) (operate it.left.number it.right.number) ≡ Some z
      → (AreSame (2 ^ size) x.number it.left.number → AreSame (2 ^ size) y.number it.right.number
      → AreSame (2 ^ size) (operate x.number y.number) (operate it.left.number it.right.number))
      → AreCongruent size (operate x.number y.number) z.number
  wraps it gives both =
      let c = unsigned_is size (operate it.left.number it.right.number) z
      (subst (λ (ty : NumberType). converted ty (operate it.left.number it.right.number) ≡ Some z) is gives) in
      from_same size (operate x.number y.number) z.number
      (same_then (2 ^ size) (operate x.number y.number) (operate it.left.number it.right.number) z.number
      (both (left_same it) (right_same it)) (to_same size (operate it.left.number it.right.number) z.number c))

pub sum_wraps : (int size : ℕ) (x y z : CNumber) → common int x.ty y.ty ≡ Unsigned size → operated int op.Add x y ≡ Some z
    → AreCongruent size (x.number +ℤ y.number) z.number
sum_wraps int size x y z is e =
    let it = on_common_is int op.Add x y z e in
    wraps int size op.Add x y z is (λ a b. a +ℤ b) it it.gives (same_sum (2 ^ size) x.number it.left.number y.number it.right.number)

pub difference_wraps : (int size : ℕ) (x y z : CNumber) → common int x.ty y.ty ≡ Unsigned size → operated int op.Subtract x y ≡ Some z
    → AreCongruent size (x.number -ℤ y.number) z.number
difference_wraps int size x y z is e =
    let it = on_common_is int op.Subtract x y z e in
    wraps int size op.Subtract x y z is (λ a b. a -ℤ b) it it.gives (same_difference (2 ^ size) x.number it.left.number y.number it.right.number)

pub product_wraps : (int size : ℕ) (x y z : CNumber) → common int x.ty y.ty ≡ Unsigned size → operated int op.Multiply x y ≡ Some z
    → AreCongruent size (x.number *ℤ y.number) z.number
product_wraps int size x y z is e =
    let it = on_common_is int op.Multiply x y z e in
    wraps int size op.Multiply x y z is (λ a b. a *ℤ b) it it.gives (same_product (2 ^ size) x.number it.left.number y.number it.right.number)
