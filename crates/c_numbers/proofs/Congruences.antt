-- Numbers that differ by a multiple, and what becomes of them at a type.
use Rattle.std.proofs.Common.{◌≡◌, ℕ, zero, suc, ◌+◌, ◌-◌, ◌*◌, ◌%◌, ◌^◌, ◌<◌, ◌≤◌, Bool, true, false, ℤ, pos, negsuc}
use Rattle.std.proofs.Common.{◌+ℤ◌, ◌-ℤ◌, ◌*ℤ◌, refl, ap, sym, ◌∙◌, subst, arith, inl, inr}
use Rattle.std.specs.Int.{int_rem_euclid}
use Rattle.std.specs.Int.RustNames.{int_lt, int_le}
use Rattle.std.proofs.lemmas.Int.{ints}
use Rattle.std.proofs.lemmas.Bool.{cases_lt}
use Rattle.std.proofs.lemmas.Nat.{pow-add}
use Rattle.std.proofs.Math.Nat.{mod-eq_of_lt, add-mul-mod_self_right, pow-suc}
use borrow.Author.Differences.{up, down, product_is, true_is_lt, true_is_le, false_is_lt, false_is_le}
use Rattle.hume_model.specs.Operations.{low_bits, from_low, wrapped}
use Rattle.c_meaning.specs.Numbers.{NumberType, Signed, Unsigned, AreCongruent}
use Rattle.c_meaning.proofs.Ranges.{InRange, low_is}

-- ---- tests of order
pub lt-yes : (a b : ℤ) → up a + down b < up b + down a → int_lt a b ≡ true
lt-yes a b h = sym (true_is_lt a b h)

pub lt-no : (a b : ℤ) → up b + down a ≤ up a + down b → int_lt a b ≡ false
lt-no a b h = sym (false_is_lt a b h)

pub le-yes : (a b : ℤ) → up a + down b ≤ up b + down a → int_le a b ≡ true
le-yes a b h = sym (true_is_le a b h)

pub le-no : (a b : ℤ) → up b + down a < up a + down b → int_le a b ≡ false
le-no a b h = sym (false_is_le a b h)

-- ---- a multiple, as two naturals
pub record AreSame (n : ℕ) (x y : ℤ) : Type 0 where
  pub k : ℕ
  pub l : ℕ
  pub is : up x + down y + k * n ≡ up y + down x + l * n

pub itself : (n : ℕ) (x : ℤ) → AreSame n x x
itself n x = record { k = 0; l = 0; is = omega arith }

pub back : (n : ℕ) (x y : ℤ) → AreSame n x y → AreSame n y x
back n x y s = record { k = s.l; l = s.k; is = omega (arith, s.is) }

pub through : (n : ℕ) (x y z : ℤ) → AreSame n x y → AreSame n y z → AreSame n x z
through n x y z s t = record { k = s.k + t.k; l = s.l + t.l; is = omega (arith, s.is, t.is) }

pub sums : (n : ℕ) (x x' y y' : ℤ) → AreSame n x x' → AreSame n y y' → AreSame n (x +ℤ y) (x' +ℤ y')
sums n x x' y y' s t = record { k = s.k + t.k; l = s.l + t.l; is = omega (arith, ints, s.is, t.is) }

pub differences : (n : ℕ) (x x' y y' : ℤ) → AreSame n x x' → AreSame n y y' → AreSame n (x -ℤ y) (x' -ℤ y')
differences n x x' y y' s t = record { k = s.k + t.l; l = s.l + t.k; is = omega (arith, ints, s.is, t.is) }

pub products : (n : ℕ) (x x' y y' : ℤ) → AreSame n x x' → AreSame n y y' → AreSame n (x *ℤ y) (x' *ℤ y')
products n x x' y y' s t = record {
  k = up x * t.k + down x * t.l + s.k * up y' + s.l * down y';
  l = up x * t.l + down x * t.k + s.l * up y' + s.k * down y';
  is = omega (
    arith,
    product_is x y,
    product_is x' y',
    ap (λ e. up x * e) t.is,
    ap (λ e. down x * e) t.is,
    ap (λ e. e * up y') s.is,
    ap (λ e. e * down y') s.is,
  );
}

equal_naturals : (x y : ℤ) → x ≡ y → up x + down y ≡ up y + down x
equal_naturals x y e = subst (λ z. up x + down z ≡ up z + down x) e refl

from_congruent : (size : ℕ) (x y : ℤ) → AreCongruent size x y → AreSame (2 ^ size) x y
from_congruent size x y c = record {
  k = c.more;
  l = c.less;
  is = (let h = equal_naturals (x +ℤ pos (c.more * 2 ^ size)) (y +ℤ pos (c.less * 2 ^ size)) c.is in omega (arith, ints, h));
}

-- ---- the least number of them
pub record IsLeast (size : ℕ) (z : ℤ) : Type 0 where
  pub low : ℕ
  pub is : int_rem_euclid z (pos (2 ^ size)) ≡ pos low
  pub less : low < 2 ^ size
  pub same : AreSame (2 ^ size) z (pos low)

pub least_is : (size : ℕ) (z : ℤ) → IsLeast size z
least_is size z =
    let it = low_is size z in
    record { low = it.low; is = it.is; less = it.less; same = from_congruent size z (pos it.low) it.same }

unique : (n a b k l : ℕ) → a < n → b < n → a + k * n ≡ b + l * n → a ≡ b
unique n a b k l p q e =
    sym (mod-eq_of_lt p) ∙ sym (add-mul-mod_self_right a k n) ∙ ap (λ t. t % n) e ∙ add-mul-mod_self_right b l n ∙ mod-eq_of_lt q

pub same_least : (size : ℕ) (x y : ℤ) → AreSame (2 ^ size) x y → low_bits size x ≡ low_bits size y
same_least size x y s =
    let a = least_is size x in
    let b = least_is size y in
    let t = through (2 ^ size) (pos a.low) x (pos b.low) (back (2 ^ size) x (pos a.low) a.same) (through (2 ^ size) x y (pos b.low) s b.same) in
    a.is ∙ ap pos (unique (2 ^ size) a.low b.low t.k t.l a.less b.less (omega (arith, t.is))) ∙ sym b.is

shorter : (n c : ℕ) (x y : ℤ) → AreSame (c * n) x y → AreSame n x y
shorter n c x y s = record { k = s.k * c; l = s.l * c; is = omega (arith, s.is) }

pub fewer_bits : (size more : ℕ) (x y : ℤ) → size ≤ more → AreSame (2 ^ more) x y → AreSame (2 ^ size) x y
fewer_bits size more x y le s =
    let split : 2 ^ more ≡ 2 ^ (more - size) * 2 ^ size
    = ap (λ k. 2 ^ k) (let e : more ≡ more - size + size = omega arith in e) ∙ pow-add 2 (more - size) size in
    shorter (2 ^ size) (2 ^ (more - size)) x y (subst (λ n. AreSame n x y) split s)

-- ---- the number of a type of Hume
abbrev pub exact : Bool → ℕ → NumberType
exact true size = Signed size
exact false size = Unsigned size

-- the number of the type that differs by a multiple of 2 to its bits
abbrev pub kept : Bool → ℕ → ℤ → ℤ
kept true size z = wrapped size z
kept false size z = low_bits size z

pub kept_same : (signed : Bool) (size : ℕ) (x y : ℤ) → AreSame (2 ^ size) x y → kept signed size x ≡ kept signed size y
kept_same true size x y s = ap (from_low size) (same_least size x y s)
kept_same false size x y s = same_least size x y s

pub double : (size : ℕ) → 1 ≤ size → 2 ^ size ≡ 2 ^ (size - 1) + 2 ^ (size - 1)
double zero some = absurd (omega arith)
double (suc b) some = let same : suc b - 1 ≡ b = omega arith in rw same (pow-suc 2 b ∙ omega arith)

pub from_low_range : (size r : ℕ) → 1 ≤ size → r < 2 ^ size → InRange (Signed size) (from_low size (pos r))
from_low_range size r some less = elim (cases_lt r (2 ^ (size - 1))) [
  | inl small ↦ rw (lt-yes (pos r) (pos (2 ^ (size - 1))) (omega arith)) (record { above = omega arith; below = omega arith })
  | inr large ↦ rw (lt-no (pos r) (pos (2 ^ (size - 1))) (omega arith))
      (record { above = omega (arith, ints, double size some); below = omega (arith, ints, double size some) })
]

pub kept_range : (signed : Bool) (size : ℕ) (z : ℤ) → 1 ≤ size → InRange (exact signed size) (kept signed size z)
kept_range true size z some =
    let l = least_is size z in
    subst (λ k. InRange (Signed size) (from_low size k)) (sym l.is) (from_low_range size l.low some l.less)
kept_range false size z some =
    let l = least_is size z in
    subst (λ k. InRange (Unsigned size) k) (sym l.is) (record { above = omega (arith, ints); below = omega (arith, ints, l.less) })

pub low_itself : (size m : ℕ) → m < 2 ^ size → low_bits size (pos m) ≡ pos m
low_itself size m less = ap pos (mod-eq_of_lt less)

-- a number of the type is its own
pub kept_itself : (signed : Bool) (size : ℕ) (z : ℤ) → 1 ≤ size → InRange (exact signed size) z → kept signed size z ≡ z
kept_itself true size (pos a) some n =
    let below : a < 2 ^ (size - 1) = (let h = n.below in omega (arith, h)) in
    let e : from_low size (pos a) ≡ pos a = rw (lt-yes (pos a) (pos (2 ^ (size - 1))) (omega (arith, below))) refl in
    ap (from_low size) (low_itself size a (omega (arith, below, double size some))) ∙ e
kept_itself true size (negsuc a) some n =
    let above : a < 2 ^ (size - 1) = (let h = n.above in omega (arith, h)) in
    let e : a % 2 ^ size ≡ a = mod-eq_of_lt (let h : a < 2 ^ size = omega (arith, above, double size some) in h) in
    rw (e, lt-no (pos (2 ^ size - 1 - a)) (pos (2 ^ (size - 1))) (omega (arith, above, double size some)))
    (let r : pos (2 ^ size - 1 - a) -ℤ pos (2 ^ size) ≡ negsuc a = omega (arith, ints, above, double size some) in r)
kept_itself false size (pos a) some n = low_itself size a (let h = n.below in omega (arith, h))
kept_itself false size (negsuc a) some n = absurd (let h = n.above in omega (arith, h))
