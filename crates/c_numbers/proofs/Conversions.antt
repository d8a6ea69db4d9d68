-- Conversions and operations on numbers of one type.
use Rattle.std.proofs.Common.{◌≡◌, ℕ, ◌-◌, ◌^◌, ◌<◌, ◌≤◌, max, nat_lt, Bool, true, false, ℤ, pos}
use Rattle.std.proofs.Common.{Some, refl, ap, ◌∙◌, arith, eq-eqb}
use Rattle.std.specs.Int.RustNames.{int_lt, int_div, int_rem, unsigned_abs}
use Rattle.std.specs.Int.Bits.{bit_and}
use Rattle.std.proofs.lemmas.Int.{ints}
use Rattle.std.proofs.lemmas.Bool.{le-ltb}
use Rattle.std.proofs.Math.Pow.{pow_mono}
use borrow.Author.Differences.{up, down}
use Rattle.c_tree.specs.declared.tree.COp.{COp}
use Rattle.c_meaning.specs.Numbers.{NumberType, Truth, Signed, Unsigned, CNumber, of_type, same_type, holds, is_true, converted, promoted, common}
use Rattle.c_meaning.specs.Operators.{held, divided, rest, bitwise, operated_at, on_common}
use Rattle.c_meaning.proofs.Ranges.{InRange, conversion_keeps, promoted_holds, wider}

pub same_itself : (ty : NumberType) → same_type ty ty ≡ true
same_itself Truth = refl
same_itself (Signed size) = eq-eqb size size refl
same_itself (Unsigned size) = eq-eqb size size refl

-- ---- ranges
pub natural_in : (size m : ℕ) → m < 2 ^ size → InRange (Unsigned size) (pos m)
natural_in size m less = record { above = omega (arith, ints); below = omega (arith, ints, less) }

pub wider_signed : (size more : ℕ) (z : ℤ) → size ≤ more → InRange (Signed size) z → InRange (Signed more) z
wider_signed size more z le w =
    let p : 2 ^ (size - 1) ≤ 2 ^ (more - 1) = pow_mono (let l : size - 1 ≤ more - 1 = omega arith in l) in
    wider p p w

pub wider_unsigned : (size more : ℕ) (z : ℤ) → size ≤ more → InRange (Unsigned size) z → InRange (Unsigned more) z
wider_unsigned size more z le w =
    let p : 2 ^ size ≤ 2 ^ more = pow_mono le in
    wider (omega arith) p w

pub small_in : (size : ℕ) (z : ℤ) → 2 ≤ size → down z ≤ 1 → up z ≤ 1 → InRange (Signed size) z
small_in size z some d u =
    let p : 2 ^ 1 ≤ 2 ^ (size - 1) = pow_mono (let l : 1 ≤ size - 1 = omega arith in l) in
    record { above = omega (arith, p, d, u); below = omega (arith, p, d, u) }

-- ---- promotions
pub promoted_unsigned : (int size : ℕ) → int ≤ size → promoted int (Unsigned size) ≡ Unsigned size
promoted_unsigned int size le = rw (le-ltb size int le) refl

pub promoted_signed : (int size : ℕ) → int ≤ size → promoted int (Signed size) ≡ Signed size
promoted_signed int size le = ap Signed (let e : max size int ≡ size = omega arith in e)

max_itself : (n : ℕ) → max n n ≡ n
max_itself n = omega arith

pub common_itself : (int : ℕ) (ty : NumberType) → common int ty ty ≡ promoted int ty
common_itself int Truth = ap Signed (max_itself int)
common_itself int (Signed size) = ap Signed (max_itself (max size int))
common_itself int (Unsigned size) = by (nat_lt size int) refl
  where
    by : (test : Bool) → nat_lt size int ≡ test → common int (Unsigned size) (Unsigned size) ≡ promoted int (Unsigned size)
    by true e = rw e (ap Signed (max_itself int))
    by false e = rw e (ap Unsigned (max_itself size))

-- ---- operations
pub held_is : (written ty : NumberType) (z : ℤ) → holds written z ≡ true → held written ty z ≡ Some (of_type ty z)
held_is written ty z h = rw h refl

pub on_common_of : (int : ℕ) (operator : COp) (x y l r : CNumber) (ty : NumberType) → common int x.ty y.ty ≡ ty → converted ty x.number ≡ Some l
    → converted ty y.number ≡ Some r → on_common int operator x y ≡ operated_at int operator ty l.number r.number
on_common_of int operator x y l r ty e p q = rw (e, p, q) refl

-- numbers of one type: what they give at the promoted type
pub on_itself : (int : ℕ) (operator : COp) (ty : NumberType) (x y : ℤ) → 16 ≤ int → InRange ty x → InRange ty y
    → on_common int operator (of_type ty x) (of_type ty y) ≡ operated_at int operator (promoted int ty) x y
on_itself int operator ty x y big p q =
    on_common_of int operator (of_type ty x) (of_type ty y) (of_type (promoted int ty) x) (of_type (promoted int ty) y) (promoted int ty)
    (common_itself int ty) (conversion_keeps (promoted int ty) x (promoted_holds int ty x big p))
    (conversion_keeps (promoted int ty) y (promoted_holds int ty y big q))

-- numbers of an unsigned type that is no smaller than `int`
pub on_unsigned : (int size : ℕ) (operator : COp) (a b : ℕ) → int ≤ size → a < 2 ^ size → b < 2 ^ size
    → on_common int operator (of_type (Unsigned size) (pos a)) (of_type (Unsigned size) (pos b))
    ≡ operated_at int operator (Unsigned size) (pos a) (pos b)
on_unsigned int size operator a b le p q =
    on_common_of int operator (of_type (Unsigned size) (pos a)) (of_type (Unsigned size) (pos b)) (of_type (Unsigned size) (pos a))
    (of_type (Unsigned size) (pos b)) (Unsigned size) (common_itself int (Unsigned size) ∙ promoted_unsigned int size le)
    (conversion_keeps (Unsigned size) (pos a) (natural_in size a p)) (conversion_keeps (Unsigned size) (pos b) (natural_in size b q))

pub on_signed : (int size : ℕ) (operator : COp) (x y : ℤ) → int ≤ size → InRange (Signed size) x → InRange (Signed size) y
    → on_common int operator (of_type (Signed size) x) (of_type (Signed size) y) ≡ operated_at int operator (Signed size) x y
on_signed int size operator x y le p q =
    on_common_of int operator (of_type (Signed size) x) (of_type (Signed size) y) (of_type (Signed size) x) (of_type (Signed size) y) (Signed size)
    (common_itself int (Signed size) ∙ promoted_signed int size le) (conversion_keeps (Signed size) x p) (conversion_keeps (Signed size) y q)

pub masked_is : (ty : NumberType) (x y : ℤ) → int_lt x (pos 0) ≡ false → int_lt y (pos 0) ≡ false
    → bitwise bit_and ty x y ≡ converted ty (pos (bit_and (unsigned_abs x) (unsigned_abs y)))
masked_is ty x y p q = rw (p, q) refl

pub divided_by : (ty : NumberType) (x y : ℤ) → is_true y ≡ true → InRange ty (int_div x y) → divided ty x y ≡ Some (of_type ty (int_div x y))
divided_by ty x y some w = rw some (conversion_keeps ty (int_div x y) w)

pub rest_by : (ty : NumberType) (x y : ℤ) → is_true y ≡ true → InRange ty (int_div x y) → InRange ty (int_rem x y)
    → rest ty x y ≡ Some (of_type ty (int_rem x y))
rest_by ty x y some w v = rw (divided_by ty x y some w) (conversion_keeps ty (int_rem x y) v)
