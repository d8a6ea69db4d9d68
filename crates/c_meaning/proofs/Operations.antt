-- What operators give: of which type it is, where it is exact, and where there is none.
use Rattle.std.proofs.Common.{◌≡◌, ℕ, ◌-◌, ◌^◌, ◌<◌, ◌≤◌, max, nat_lt, nat_le, Bool, true, false, ℤ, pos, neg_ℤ}
use Rattle.std.proofs.Common.{Option, Some, None, if◌then◌else◌}
use Rattle.std.proofs.Common.{◌||◌, refl, ap, sym, ◌∙◌, subst, arith}
use Rattle.std.specs.Int.RustNames.{int_lt, int_div, int_rem, unsigned_abs}
use Rattle.std.specs.Int.Bits.{bit_and, bit_or}
use Rattle.std.proofs.lemmas.Int.{ints}
use Rattle.std.proofs.lemmas.Bool.{le-ltb, leb-false}
use Rattle.std.proofs.lemmas.Nat.{pow_pos}
use Rattle.std.proofs.Math.Nat.{mod-eq_of_lt}
use Rattle.std.proofs.Math.Pow.{pow_mono}
use Rattle.std.specs.Option.{is_some}
use Rattle.c_tree.specs.declared.tree.Width.{Width}
use Rattle.c_tree.specs.declared.tree.Width.TheVariants as width
use Rattle.c_tree.specs.declared.tree.COp.{COp}
use Rattle.c_tree.specs.declared.tree.COp.TheVariants as op
use Rattle.c_meaning.specs.Numbers.{NumberType, Truth, Signed, Unsigned, CNumber, and_then, of_type, holds, is_true, converted, promoted, together, common}
use Rattle.c_meaning.specs.Operators.{truth, negated, divided, rest, bitwise, operated_at, on_common, operated, operation_type, shifted, shift_left}
use Rattle.c_meaning.specs.Operators.{shift_right, size_of}
use Rattle.c_meaning.specs.Operators.{constant_bits, held, unsigned_constant, signed_constant}
use Rattle.c_meaning.proofs.Options.{some_same, comes, if_first, if_other, if_holds}
use Rattle.c_meaning.proofs.Ranges.{InRange, in_range, IsOf, converted_is, conversion_keeps, signed_is, promoted_holds, wider, Holds}

pub truth_is : (int : ℕ) (b : Bool) → 16 ≤ int → IsOf (Signed int) (truth int b)
truth_is int b big = elim b as (λ t. IsOf (Signed int) (truth int t)) [
  | true ↦ let p : 2 ^ 1 ≤ 2 ^ (int - 1) = pow_mono (let l : 1 ≤ int - 1 = omega arith in l) in
      record { is = refl; range = record { above = omega (arith, ints); below = omega (arith, ints, p) } }
  | false ↦ let p : 2 ^ 1 ≤ 2 ^ (int - 1) = pow_mono (let l : 1 ≤ int - 1 = omega arith in l) in
      record { is = refl; range = record { above = omega (arith, ints); below = omega (arith, ints, p) } }
]

truth_from : (int : ℕ) (b : Bool) (z : CNumber) → 16 ≤ int → ◌≡◌ {A = Option CNumber} (Some (truth int b)) (Some z) → IsOf (Signed int) z
truth_from int b z big e = subst (IsOf (Signed int)) (some_same e) (truth_is int b big)

pub divided_is : (ty : NumberType) (x y : ℤ) (z : CNumber) → divided ty x y ≡ Some z → IsOf ty z
divided_is ty x y z e = converted_is ty (int_div x y) z (if_first (is_true y) (converted ty (int_div x y)) z e)

pub rest_is : (ty : NumberType) (x y : ℤ) (z : CNumber) → rest ty x y ≡ Some z → IsOf ty z
rest_is ty x y z e = converted_is ty (int_rem x y) z (comes (divided ty x y) (λ quotient. converted ty (int_rem x y)) z e).gives

pub bitwise_is : (operate : ℕ → ℕ → ℕ) (ty : NumberType) (x y : ℤ) (z : CNumber) → bitwise operate ty x y ≡ Some z → IsOf ty z
bitwise_is operate ty x y z e =
    converted_is ty (pos (operate (unsigned_abs x) (unsigned_abs y))) z
    (if_other (int_lt x (pos 0) || int_lt y (pos 0)) (converted ty (pos (operate (unsigned_abs x) (unsigned_abs y)))) z e)

pub shifted_is : (int : ℕ) (shift : ℤ → ℕ → ℤ) (x y z : CNumber) → shifted int shift x y ≡ Some z → IsOf (promoted int x.ty) z
shifted_is int shift x y z e =
    converted_is (promoted int x.ty) (shift x.number (unsigned_abs y.number)) z
    (if_first (nat_lt (unsigned_abs y.number) (size_of (promoted int x.ty))) _ z (if_other (int_lt x.number (pos 0) || int_lt y.number (pos 0)) _ z e))

-- both operands at their common type, and what comes of them
pub record OnCommon (int : ℕ) (operator : COp) (x y z : CNumber) : Type 0 where
  pub left : CNumber
  pub right : CNumber
  pub converts : converted (common int x.ty y.ty) x.number ≡ Some left
  pub also : converted (common int x.ty y.ty) y.number ≡ Some right
  pub gives : operated_at int operator (common int x.ty y.ty) left.number right.number ≡ Some z

pub on_common_is : (int : ℕ) (operator : COp) (x y z : CNumber) → on_common int operator x y ≡ Some z → OnCommon int operator x y z
on_common_is int operator x y z e =
    let l = comes (converted (common int x.ty y.ty) x.number) (λ left. and_then (converted (common int x.ty y.ty) y.number)
    (λ right. operated_at int operator (common int x.ty y.ty) left.number right.number)) z e in
    let r = comes (converted (common int x.ty y.ty) y.number)
    (λ right. operated_at int operator (common int x.ty y.ty) l.value.number right.number) z l.gives in
    record { left = l.value; right = r.value; converts = l.is; also = r.is; gives = r.gives }

pub operated_is : (int : ℕ) (operator : COp) (x y z : CNumber) → 16 ≤ int → operated int operator x y ≡ Some z → IsOf (operation_type int operator x.ty y.ty) z
operated_is int op.Multiply x y z big e = let it = on_common_is int op.Multiply x y z e in converted_is _ _ z it.gives
operated_is int op.Divide x y z big e = let it = on_common_is int op.Divide x y z e in divided_is _ it.left.number it.right.number z it.gives
operated_is int op.Remainder x y z big e = let it = on_common_is int op.Remainder x y z e in rest_is _ it.left.number it.right.number z it.gives
operated_is int op.Add x y z big e = let it = on_common_is int op.Add x y z e in converted_is _ _ z it.gives
operated_is int op.Subtract x y z big e = let it = on_common_is int op.Subtract x y z e in converted_is _ _ z it.gives
operated_is int op.ShiftLeft x y z big e = shifted_is int shift_left x y z e
operated_is int op.ShiftRight x y z big e = shifted_is int shift_right x y z e
operated_is int op.BitAnd x y z big e = let it = on_common_is int op.BitAnd x y z e in bitwise_is bit_and _ it.left.number it.right.number z it.gives
operated_is int op.BitOr x y z big e = let it = on_common_is int op.BitOr x y z e in bitwise_is bit_or _ it.left.number it.right.number z it.gives
operated_is int op.Equal x y z big e = let it = on_common_is int op.Equal x y z e in truth_from int _ z big it.gives
operated_is int op.NotEqual x y z big e = let it = on_common_is int op.NotEqual x y z e in truth_from int _ z big it.gives
operated_is int op.Less x y z big e = let it = on_common_is int op.Less x y z e in truth_from int _ z big it.gives
operated_is int op.LessEqual x y z big e = let it = on_common_is int op.LessEqual x y z e in truth_from int _ z big it.gives
operated_is int op.Greater x y z big e = let it = on_common_is int op.Greater x y z e in truth_from int _ z big it.gives
operated_is int op.GreaterEqual x y z big e = let it = on_common_is int op.GreaterEqual x y z e in truth_from int _ z big it.gives

-- ---- a signed common type holds both operands

no_truth : (int : ℕ) (ty : NumberType) → promoted int ty ≡ Truth → ⊥
no_truth int Truth e = cc
no_truth int (Signed size) e = cc
no_truth int (Unsigned size) e = elim (nat_lt size int) as (λ b. (if b then Signed int else Unsigned size) ≡ Truth → ⊥) [ true ↦ λ h. cc | false ↦ λ h. cc ] e

signed_same : {a b : ℕ} → Signed a ≡ Signed b → a ≡ b
signed_same e = cc

both_signed : (a b size : ℕ) → max a b ≡ size → Holds (Signed a) (Signed size) × Holds (Signed b) (Signed size)
both_signed a b size e =
    let p : 2 ^ (a - 1) ≤ 2 ^ (size - 1) = pow_mono (let l : a - 1 ≤ size - 1 = omega (arith, e) in l) in
    let q : 2 ^ (b - 1) ≤ 2 ^ (size - 1) = pow_mono (let l : b - 1 ≤ size - 1 = omega (arith, e) in l) in
    (record { least = p; limit = p }, record { least = q; limit = q })

smaller_unsigned : (a b size : ℕ) (test : Bool) → nat_le a b ≡ test → (if test then Unsigned b else Signed a) ≡ Signed size
    → Holds (Signed a) (Signed size) × Holds (Unsigned b) (Signed size)
smaller_unsigned a b size true t e = cc
smaller_unsigned a b size false t e =
    let same = signed_same e in
    let less : b < a = leb-false a b t in
    let p : 2 ^ (a - 1) ≤ 2 ^ (size - 1) = pow_mono (let l : a - 1 ≤ size - 1 = omega (arith, same) in l) in
    let q : 2 ^ b ≤ 2 ^ (size - 1) = pow_mono (let l : b ≤ size - 1 = omega (arith, same, less) in l) in
    (record { least = p; limit = p }, record { least = omega arith; limit = q })

pub together_holds : (left right : NumberType) (size : ℕ) → (left ≡ Truth → ⊥) → (right ≡ Truth → ⊥) → together left right ≡ Signed size
    → Holds left (Signed size) × Holds right (Signed size)
together_holds (Signed a) (Signed b) size p q e = both_signed a b size (signed_same e)
together_holds (Unsigned a) (Unsigned b) size p q e = cc
together_holds (Signed a) (Unsigned b) size p q e = smaller_unsigned a b size (nat_le a b) refl e
together_holds (Unsigned a) (Signed b) size p q e = let it = smaller_unsigned b a size (nat_le b a) refl e in (it.1, it.0)
together_holds Truth right size p q e = absurd (p refl)
together_holds (Signed a) Truth size p q e = absurd (q refl)
together_holds (Unsigned a) Truth size p q e = absurd (q refl)

pub common_holds : (int : ℕ) (x y : CNumber) (size : ℕ) → 16 ≤ int → common int x.ty y.ty ≡ Signed size → holds x.ty x.number ≡ true
    → holds y.ty y.number ≡ true → InRange (Signed size) x.number × InRange (Signed size) y.number
common_holds int x y size big e p q =
    let it = together_holds (promoted int x.ty) (promoted int y.ty) size (no_truth int x.ty) (no_truth int y.ty) e in
    let l = promoted_holds int x.ty x.number big (in_range x.ty x.number p) in
    let r = promoted_holds int y.ty y.number big (in_range y.ty y.number q) in
    (wider it.0.least it.0.limit l, wider it.1.least it.1.limit r)

-- an operation at a signed common type is one on the numbers themselves
pub on_signed : (int : ℕ) (operator : COp) (x y : CNumber) (size : ℕ) → 16 ≤ int → common int x.ty y.ty ≡ Signed size → holds x.ty x.number ≡ true
    → holds y.ty y.number ≡ true → on_common int operator x y ≡ operated_at int operator (Signed size) x.number y.number
on_signed int operator x y size big e p q =
    let it = common_holds int x y size big e p q in
    rw (e, conversion_keeps (Signed size) x.number it.0, conversion_keeps (Signed size) y.number it.1) refl

-- ---- operands always have their common type

pub record Converts (ty : NumberType) (z : ℤ) : Type 0 where
  pub number : CNumber
  pub is : converted ty z ≡ Some number

pub common_converts : (int : ℕ) (x y : CNumber) (ty : NumberType) → 16 ≤ int → common int x.ty y.ty ≡ ty → holds x.ty x.number ≡ true
    → holds y.ty y.number ≡ true → Converts ty x.number × Converts ty y.number
common_converts int x y Truth big e p q = (record { number = _; is = refl }, record { number = _; is = refl })
common_converts int x y (Unsigned size) big e p q = (record { number = _; is = refl }, record { number = _; is = refl })
common_converts int x y (Signed size) big e p q =
    let it = common_holds int x y size big e p q in
    (record { number = _; is = conversion_keeps (Signed size) x.number it.0 }, record { number = _; is = conversion_keeps (Signed size) y.number it.1 })

-- ---- where there is no meaning

nothing : {A B : Type 0} (o : Option A) (next : A → Option B) → ((x : A) → o ≡ Some x → next x ≡ None) → and_then o next ≡ None
nothing None next h = refl
nothing (Some x) next h = h x refl

converted_zero : (ty : NumberType) (x : CNumber) → converted ty (pos 0) ≡ Some x → x.number ≡ pos 0
converted_zero Truth x e = ap (λ (it : CNumber). it.number) (sym (some_same e))
converted_zero (Unsigned size) x e = ap (λ (it : CNumber). it.number) (sym (some_same e)) ∙ ap pos (mod-eq_of_lt (pow_pos size))
converted_zero (Signed size) x e = signed_is size (pos 0) x e

-- a quotient by 0
pub by_zero : (ty : NumberType) (x y : ℤ) → y ≡ pos 0 → divided ty x y ≡ None
by_zero ty x y e = rw e refl

pub on_zero : (int : ℕ) (operator : COp) (x y : CNumber) → y.number ≡ pos 0
    → ((ty : NumberType) (a b : ℤ) → b ≡ pos 0 → operated_at int operator ty a b ≡ None) → on_common int operator x y ≡ None
on_zero int operator x y e h =
    nothing (converted (common int x.ty y.ty) x.number) _ (λ left l. nothing (converted (common int x.ty y.ty) y.number) _
    (λ right r. h (common int x.ty y.ty) left.number right.number
    (converted_zero (common int x.ty y.ty) right (subst (λ z. converted (common int x.ty y.ty) z ≡ Some right) e r))))

pub shifted_negative : (int : ℕ) (shift : ℤ → ℕ → ℤ) (x y : CNumber) → int_lt y.number (pos 0) ≡ true → shifted int shift x y ≡ None
shifted_negative int shift x y e = elim (int_lt x.number (pos 0)) as (λ b. (if b || int_lt y.number (pos 0) then None else
    (if nat_lt (unsigned_abs y.number) (size_of (promoted int x.ty))
    then converted (promoted int x.ty) (shift x.number (unsigned_abs y.number)) else None)) ≡ None)
    [ true ↦ refl | false ↦ rw e refl ]

pub negative_shifted : (int : ℕ) (shift : ℤ → ℕ → ℤ) (x y : CNumber) → int_lt x.number (pos 0) ≡ true → shifted int shift x y ≡ None
negative_shifted int shift x y e = rw e refl

pub shifted_far : (int : ℕ) (shift : ℤ → ℕ → ℤ) (x y : CNumber) → size_of (promoted int x.ty) ≤ unsigned_abs y.number → shifted int shift x y ≡ None
shifted_far int shift x y far = rw (le-ltb (unsigned_abs y.number) (size_of (promoted int x.ty)) far)
    (elim (int_lt x.number (pos 0) || int_lt y.number (pos 0)) as (λ b. ◌≡◌ {A = Option CNumber} (if b then None else None) None)
    [ true ↦ refl | false ↦ refl ])

-- ---- constants and negation

held_is : (written ty : NumberType) (number : ℤ) (z : CNumber) → Holds written ty → held written ty number ≡ Some z → IsOf ty z
held_is written ty number z h e =
    subst (IsOf ty) (some_same (if_first (holds written number) (Some (of_type ty number)) z e))
    (record { is = refl; range = wider h.least h.limit (in_range written number (if_holds (holds written number) (Some (of_type ty number)) z e)) })

same_holds : (ty : NumberType) → Holds ty ty
same_holds ty = record { least = omega arith; limit = omega arith }

small_unsigned : (int size : ℕ) → size ≤ int → Holds (Unsigned size) (Unsigned int)
small_unsigned int size le = record { least = omega arith; limit = pow_mono le }

small_signed : (int size : ℕ) → size ≤ int → Holds (Signed size) (Signed int)
small_signed int size le =
    let p : 2 ^ (size - 1) ≤ 2 ^ (int - 1) = pow_mono (let l : size - 1 ≤ int - 1 = omega arith in l) in record { least = p; limit = p }

pub unsigned_held : (int : ℕ) (width : Width) (amount : ℕ) (z : CNumber) → 16 ≤ int → unsigned_constant int width amount ≡ Some z
    → IsOf (Unsigned (constant_bits int width)) z
unsigned_held int width.W8 amount z big e = held_is _ _ (pos amount) z (small_unsigned int 8 (omega arith)) e
unsigned_held int width.W16 amount z big e = held_is _ _ (pos amount) z (small_unsigned int 16 big) e
unsigned_held int width.W32 amount z big e = held_is _ _ (pos amount) z (same_holds (Unsigned 32)) e
unsigned_held int width.W64 amount z big e = held_is _ _ (pos amount) z (same_holds (Unsigned 64)) e

pub signed_held : (int : ℕ) (width : Width) (number : ℤ) (z : CNumber) → 16 ≤ int → signed_constant int width number ≡ Some z
    → IsOf (Signed (constant_bits int width)) z
signed_held int width.W8 number z big e = held_is _ _ number z (small_signed int 8 (omega arith)) e
signed_held int width.W16 number z big e = held_is _ _ number z (small_signed int 16 big) e
signed_held int width.W32 number z big e = held_is _ _ number z (same_holds (Signed 32)) e
signed_held int width.W64 number z big e = held_is _ _ number z (same_holds (Signed 64)) e

pub negated_is : (int : ℕ) (x z : CNumber) → negated int x ≡ Some z → IsOf (promoted int x.ty) z
negated_is int x z e = converted_is (promoted int x.ty) (neg_ℤ x.number) z e

-- ---- as laws say it

some_is : {A : Type 0} {o : Option A} {x : A} → o ≡ Some x → is_some o ≡ true
some_is e = rw e refl

pub left_converts : (int : ℕ) (x y : CNumber) → 16 ≤ int → holds x.ty x.number ≡ true → holds y.ty y.number ≡ true
    → is_some (converted (common int x.ty y.ty) x.number) ≡ true
left_converts int x y big p q = some_is (common_converts int x y (common int x.ty y.ty) big refl p q).0.is

pub right_converts : (int : ℕ) (x y : CNumber) → 16 ≤ int → holds x.ty x.number ≡ true → holds y.ty y.number ≡ true
    → is_some (converted (common int x.ty y.ty) y.number) ≡ true
right_converts int x y big p q = some_is (common_converts int x y (common int x.ty y.ty) big refl p q).1.is

pub zero_quotient : (int : ℕ) (x y : CNumber) → y.number ≡ pos 0 → operated int op.Divide x y ≡ None
zero_quotient int x y e = on_zero int op.Divide x y e (λ ty a b z. by_zero ty a b z)

pub zero_rest : (int : ℕ) (x y : CNumber) → y.number ≡ pos 0 → operated int op.Remainder x y ≡ None
zero_rest int x y e = on_zero int op.Remainder x y e
    (λ ty a b z. nothing (divided ty a b) (λ quotient. converted ty (int_rem a b)) (λ quotient q. differ (sym (by_zero ty a b z) ∙ q)))
  where
    differ : {A B : Type 0} {x : A} {o : Option B} → ◌≡◌ {A = Option A} None (Some x) → o ≡ None
    differ d = cc
