-- Quotients and rests of numbers with a sign, by the functions that look for a divisor of -1.
use Rattle.std.proofs.Common.{◌≡◌, ◌≢◌, ℕ, zero, suc, ◌+◌, ◌-◌, ◌/◌, ◌^◌, ◌<◌, ◌≤◌, max, Bool, true, false, ◌&&◌, ◌||◌, ℤ, pos, negsuc, neg_ℤ}
use Rattle.std.proofs.Common.{[], ◌∷◌, map, codes, Some, refl, ap, sym, ◌∙◌, subst, arith}
use Rattle.std.specs.Int.RustNames.{int_lt, int_le, int_div, int_rem, unsigned_abs}
use Rattle.std.proofs.lemmas.Int.{ints}
use Rattle.std.proofs.lemmas.Bool.{false≢true}
use Rattle.std.proofs.lemmas.Nat.{pow_pos}
use Rattle.std.proofs.Math.Nat.{mod-one, div-one, div-le_self, div-lt_self, mod-le}
use borrow.Author.Differences.{up, down}
use Rattle.c_tree.specs.declared.tree.COp.TheVariants as op
use Rattle.c_tree.specs.declared.tree.CExp.{CExp}
use Rattle.c_tree.specs.declared.tree.CExp.TheVariants as exp
use Rattle.c_names.specs.declared.names.Names.{Names}
use Rattle.c_types.specs.Widths.{width_of}
use Rattle.c_arithmetic.specs.declared.functions.Helper.TheVariants as helper
use Rattle.c_arithmetic.specs.Widths.{numbers_with, c_type}
use Rattle.c_arithmetic.specs.Bodies.{helper_name, returned, of_both, is_minus_one, divided as divided_body}
use Rattle.c_arithmetic.specs.Helpers.{helper_function}
use Rattle.c_meaning.specs.Numbers.{NumberType, Signed, CNumber, of_type, is_true, converted, promoted}
use Rattle.c_meaning.specs.Operators.{truth, constant_bits, operated}
use Rattle.c_meaning.specs.Memories.{Numeric, Memory, Rights}
use Rattle.c_meaning.specs.Expressions.{Context, Meant, number_type, Types}
use Rattle.c_meaning.specs.Calls.{function_of}
use Rattle.c_meaning.specs.Statements.{in_turn, doing}
use Rattle.c_meaning.proofs.Ranges.{InRange, conversion_keeps, promoted_holds}
use Rattle.c_meaning.proofs.Forms.{cast_means, signed_means}
use Rattle.c_numbers.specs.Declared.{IsFile, NegStands}
use Rattle.c_numbers.proofs.Congruences.{lt-yes, lt-no, le-yes, le-no, exact, kept, kept_range, kept_itself}
use Rattle.c_numbers.proofs.Conversions.{wider_signed, small_in, on_common_of, on_itself, divided_by, rest_by}
use Rattle.c_numbers.proofs.Widths.{stored, stored_least, AreSizes}
use Rattle.c_numbers.proofs.Expressions.{Has, has_signed, has_cast, has_binary, Answers, has_variable, values_one}
use Rattle.c_numbers.proofs.Functions.{Returned, returns_value, returns_call, if_returned, if_passed, inside, with_one, answers_two, new_variable, old_variable}
use Rattle.c_numbers.proofs.Lowered.{held_in, stays, stays_itself}
use Rattle.c_numbers.proofs.Rings.{neg_answers}

-- ---- the divisor
first_true : (a b : Bool) → a ≡ true → (a || b) ≡ true
first_true true b e = refl
first_true false b e = absurd (false≢true e)

second_true : (a b : Bool) → a ≡ false → b ≡ true → (a || b) ≡ true
second_true a b e f = rw (e, f) refl

first_false : (a b : Bool) → a ≡ false → (a && b) ≡ false
first_false a b e = rw e refl

second_false : (a b : Bool) → a ≡ true → b ≡ false → (a && b) ≡ false
second_false a b e f = rw (e, f) refl

both_true : (a b : Bool) → a ≡ true → b ≡ true → (a && b) ≡ true
both_true a b e f = rw (e, f) refl

pub not_zero : (y : ℤ) → ¬ (y ≡ pos 0) → is_true y ≡ true
not_zero (pos zero) n = absurd (n refl)
not_zero (pos (suc k)) n =
    second_true (int_lt (pos (suc k)) (pos 0)) (int_lt (pos 0) (pos (suc k))) (lt-no (pos (suc k)) (pos 0) (omega arith))
    (lt-yes (pos 0) (pos (suc k)) (omega arith))
not_zero (negsuc k) n = first_true (int_lt (negsuc k) (pos 0)) (int_lt (pos 0) (negsuc k)) (lt-yes (negsuc k) (pos 0) (omega arith))

abbrev is_one_less : ℤ → Bool
is_one_less y = int_le y (negsuc 0) && int_le (negsuc 0) y

data MinusOne (y : ℤ) : Type 0 where
  it_is : y ≡ negsuc 0 → is_one_less y ≡ true → MinusOne y
  it_is_not : (up y + 1 ≢ down y) → is_one_less y ≡ false → MinusOne y

minus_one : (y : ℤ) → MinusOne y
minus_one (pos k) = it_is_not (omega arith) (first_false (int_le (pos k) (negsuc 0)) (int_le (negsuc 0) (pos k)) (le-no (pos k) (negsuc 0) (omega arith)))
minus_one (negsuc zero) =
    it_is refl (both_true (int_le (negsuc 0) (negsuc 0)) (int_le (negsuc 0) (negsuc 0)) (le-yes (negsuc 0) (negsuc 0) (omega arith))
    (le-yes (negsuc 0) (negsuc 0) (omega arith)))
minus_one (negsuc (suc k)) =
    it_is_not (omega arith) (second_false (int_le (negsuc (suc k)) (negsuc 0)) (int_le (negsuc 0) (negsuc (suc k)))
    (le-yes (negsuc (suc k)) (negsuc 0) (omega arith))
    (le-no (negsuc 0) (negsuc (suc k)) (omega arith)))

-- ---- ranges
ends : (size : ℕ) (z : ℤ) → down z ≤ 2 ^ (size - 1) → up z < 2 ^ (size - 1) → InRange (Signed size) z
ends size z d u = record { above = omega (arith, d); below = omega (arith, u) }

-- the quotient is a number of the type, unless the least number is divided by -1
pub quotient_range : (signed : Bool) (size : ℕ) (x y : ℤ) → InRange (exact signed size) x → InRange (exact signed size) y → ¬ (y ≡ pos 0)
    → (up y + 1 ≢ down y) → InRange (exact signed size) (int_div x y)
quotient_range true size (pos a) (pos b) p q n m = ends size (pos (a / b)) (omega arith) (let h = p.below in omega (arith, div-le_self a b, h))
quotient_range true size (pos a) (negsuc b) p q n m =
    ends size _ (let h = p.below in omega (arith, ints, div-le_self a (suc b), h)) (omega (arith, ints, pow_pos (size - 1)))
quotient_range true size (negsuc a) (pos b) p q n m =
    ends size _ (let h = p.above in omega (arith, ints, div-le_self (suc a) b, h)) (omega (arith, ints, pow_pos (size - 1)))
quotient_range true size (negsuc a) (negsuc zero) p q n m = absurd (m (omega arith))
quotient_range true size (negsuc a) (negsuc (suc b)) p q n m =
    let h : suc a / suc (suc b) < suc a = div-lt_self (omega arith) (omega arith) in
    ends size (pos (suc a / suc (suc b))) (omega arith) (let k = p.above in omega (arith, h, k))
quotient_range false size (pos a) (pos b) p q n m =
    record { above = omega arith; below = (let h = p.below in omega (arith, div-le_self a b, h)) }
quotient_range false size (negsuc a) y p q n m = absurd (let h = p.above in omega (arith, h))
quotient_range false size (pos a) (negsuc b) p q n m = absurd (let h = q.above in omega (arith, h))

pub rest_range : (signed : Bool) (size : ℕ) (x y : ℤ) → InRange (exact signed size) x → InRange (exact signed size) (int_rem x y)
rest_range true size (pos a) y p = ends size _ (omega arith) (let k = mod-le a (unsigned_abs y) in let h = p.below in omega (arith, k, h))
rest_range true size (negsuc a) y p =
    let k = mod-le (suc a) (unsigned_abs y) in
    ends size _ (let h = p.above in omega (arith, ints, k, h)) (omega (arith, ints, pow_pos (size - 1)))
rest_range false size (pos a) y p =
    record { above = omega arith; below = (let k = mod-le a (unsigned_abs y) in let h = p.below in omega (arith, k, h)) }
rest_range false size (negsuc a) y p = absurd (let h = p.above in omega (arith, h))

by_minus_one : (x : ℤ) → int_div x (negsuc 0) ≡ neg_ℤ x
by_minus_one (pos a) = rw (div-one a) (omega (arith, ints))
by_minus_one (negsuc a) = rw (div-one (suc a)) (omega (arith, ints))

rest_minus_one : (x : ℤ) → int_rem x (negsuc 0) ≡ pos 0
rest_minus_one (pos a) = ap pos (mod-one a)
rest_minus_one (negsuc a) = rw (mod-one (suc a)) refl

-- ---- C's own quotient and rest, at either sign
module _ (int : ℕ) (signed : Bool) (size : ℕ) (s : AreSizes int size) (x y : ℤ) (p : InRange (exact signed size) x) (q : InRange (exact signed size) y)
    (some : ¬ (y ≡ pos 0)) (fits : InRange (exact signed size) (int_div x y)) where
  abbrev ty : NumberType
  ty = held_in signed size

  in_promoted : (z : ℤ) → InRange (exact signed size) z → InRange (promoted int ty) z
  in_promoted z w = promoted_holds int ty z s.big (stays int signed size z s w)

  pub quotient_is : operated int op.Divide (of_type ty x) (of_type ty y) ≡ Some (of_type (promoted int ty) (int_div x y))
  quotient_is =
      on_itself int op.Divide ty x y s.big (stays int signed size x s p) (stays int signed size y s q)
      ∙ divided_by (promoted int ty) x y (not_zero y some) (in_promoted (int_div x y) fits)

  pub rest_is : operated int op.Remainder (of_type ty x) (of_type ty y) ≡ Some (of_type (promoted int ty) (int_rem x y))
  rest_is =
      on_itself int op.Remainder ty x y s.big (stays int signed size x s p) (stays int signed size y s q)
      ∙ rest_by (promoted int ty) x y (not_zero y some) (in_promoted (int_div x y) fits) (in_promoted (int_rem x y) (rest_range signed size x y p))

-- the type of C of the numbers, as a type of numbers
pub number_type_of : (types : Types) (signed : Bool) (size : ℕ) → number_type types (c_type (numbers_with signed size)) ≡ Some (held_in signed size)
number_type_of types true size = refl
number_type_of types false size = refl

-- ---- the functions
module _ (names : Names) (size : ℕ) (file : Context) (fine : IsFile file) (s : AreSizes file.int size) (x y : ℤ)
    (p : InRange (Signed size) x) (q : InRange (Signed size) y) where
  abbrev T : NumberType
  T = held_in true size

  abbrev called : Rights → Memory → Context
  called rights memory = with_one (with_one (inside file rights memory) (codes "a") T x) (codes "b") T y

  a_is : (rights : Rights) (memory : Memory) → Has (called rights memory) (exp.Name (codes "a")) (of_type T x)
  a_is rights memory = has_variable (codes "a")
      (old_variable (with_one (inside file rights memory) (codes "a") T x) (codes "b") T y false (codes "a") (of_type T x) refl
      (new_variable (inside file rights memory) (codes "a") T x false))

  b_is : (rights : Rights) (memory : Memory) → Has (called rights memory) (exp.Name (codes "b")) (of_type T y)
  b_is rights memory = has_variable (codes "b") (new_variable (with_one (inside file rights memory) (codes "a") T x) (codes "b") T y false)

  abbrev one_bits : ℕ
  one_bits = constant_bits file.int (width_of size)

  -- the type at which the divisor is compared
  abbrev at_both : ℕ
  at_both = max (max (stored size) file.int) (max one_bits file.int)

  test_gives : (rights : Rights) (memory : Memory) (b : Bool) → is_one_less y ≡ b
      → Has (called rights memory) (is_minus_one (numbers_with true size)) (truth file.int b)
  test_gives rights memory b e =
      has_binary op.Equal (b_is rights memory)
      (has_signed (called rights memory) (width_of size) true 1
      (small_in (stored size) (negsuc 0) (let h = stored_least size in omega (arith, h)) (omega arith) (omega arith)))
      (on_common_of file.int op.Equal (of_type T y) (of_type (Signed one_bits) (negsuc 0)) (of_type (Signed at_both) y) (of_type (Signed at_both) (negsuc 0))
      (Signed at_both) refl
      (conversion_keeps (Signed at_both) y (wider_signed size at_both y (let a = s.inside in omega (arith, a)) q))
      (conversion_keeps (Signed at_both) (negsuc 0) (small_in at_both (negsuc 0) (let a = s.big in omega (arith, a)) (omega arith) (omega arith)))
      ∙ ap (λ t. Some (truth file.int t)) e)

  quotient_fits : (z : ℤ) → InRange (Signed size) z → converted T z ≡ Some (of_type T z)
  quotient_fits z w = stays_itself file.int true size z s w

  -- by another divisor than -1
  plain_quotient : ¬ (y ≡ pos 0) → (up y + 1 ≢ down y) → (rights : Rights) (memory : Memory)
      → Returned (in_turn (map doing (returned (exp.Cast (c_type (numbers_with true size)) (of_both op.Divide)))) (called rights memory))
      (Numeric (of_type T (int_div x y)))
  plain_quotient some other rights memory =
      let fits : InRange (Signed size) (int_div x y) = quotient_range true size x y p q some other in
      returns_value (called rights memory) (exp.Cast (c_type (numbers_with true size)) (of_both op.Divide)) (of_type T (int_div x y))
      (ap (λ (k : Meant). k.call) (cast_means (c_type (numbers_with true size)) (of_both op.Divide)))
      (has_cast {context = called rights memory} (c_type (numbers_with true size)) {to = T}
      (has_binary op.Divide (a_is rights memory) (b_is rights memory) (quotient_is file.int true size s x y p q some fits)) refl
      (quotient_fits (int_div x y) fits))

  plain_rest : ¬ (y ≡ pos 0) → (up y + 1 ≢ down y) → (rights : Rights) (memory : Memory)
      → Returned (in_turn (map doing (returned (exp.Cast (c_type (numbers_with true size)) (of_both op.Remainder)))) (called rights memory))
      (Numeric (of_type T (int_rem x y)))
  plain_rest some other rights memory =
      let fits : InRange (Signed size) (int_div x y) = quotient_range true size x y p q some other in
      returns_value (called rights memory) (exp.Cast (c_type (numbers_with true size)) (of_both op.Remainder)) (of_type T (int_rem x y))
      (ap (λ (k : Meant). k.call) (cast_means (c_type (numbers_with true size)) (of_both op.Remainder)))
      (has_cast {context = called rights memory} (c_type (numbers_with true size)) {to = T}
      (has_binary op.Remainder (a_is rights memory) (b_is rights memory) (rest_is file.int true size s x y p q some fits)) refl
      (quotient_fits (int_rem x y) (rest_range true size x y p)))

  -- `return neg_(a);`
  abbrev opposite : CExp
  opposite = exp.Call (helper_name names helper.Neg (numbers_with true size)) (exp.Name (codes "a") ∷ [])

  pub div_answers : ¬ (y ≡ pos 0) → (d : NegStands names (numbers_with true size) file) → AreSizes d.file.int size → AreSizes d.first.file.int size
      → Answers (function_of file (helper_function names helper.Div (numbers_with true size))) (Numeric (of_type T x) ∷ Numeric (of_type T y) ∷ [])
      (Numeric (of_type T (kept true size (int_div x y))))
  div_answers some d t u =
      answers_two file (helper_name names helper.Div (numbers_with true size)) (c_type (numbers_with true size)) T
      (divided_body (numbers_with true size) op.Divide opposite) (of_type T (kept true size (int_div x y))) (of_type T (kept true size (int_div x y))) refl
      (quotient_fits (kept true size (int_div x y)) (kept_range true size (int_div x y) s.some)) (codes "a") (codes "b") (c_type (numbers_with true size)) T
      (of_type T x) (of_type T y) (of_type T x) (of_type T y) refl (quotient_fits x p) (quotient_fits y q) (by (minus_one y))
    where
      by : MinusOne y → (rights : Rights) (memory : Memory)
          → Returned (in_turn (map doing (divided_body (numbers_with true size) op.Divide opposite)) (called rights memory))
          (Numeric (of_type T (kept true size (int_div x y))))
      by (it_is is test) rights memory =
          let same : kept true size (int_div x y) ≡ kept true size (neg_ℤ x) = ap (λ k. kept true size (int_div x k)) is
          ∙ ap (kept true size) (by_minus_one x) in
          if_returned (is_minus_one (numbers_with true size)) (returned opposite) (returned (exp.Cast (c_type (numbers_with true size)) (of_both op.Divide)))
          (called rights memory) (truth file.int true) (Numeric (of_type T (kept true size (int_div x y)))) (test_gives rights memory true test) refl
          (subst (λ k. Returned (in_turn (map doing (returned opposite)) (called rights memory)) (Numeric (of_type T k))) (sym same)
          (returns_call (called rights memory) (helper_name names helper.Neg (numbers_with true size)) (exp.Name (codes "a") ∷ []) (Numeric (of_type T x) ∷ [])
          (function_of d.file (helper_function names helper.Neg (numbers_with true size))) (Numeric (of_type T (kept true size (neg_ℤ x))))
          (values_one (called rights memory) (exp.Name (codes "a")) (of_type T x) (a_is rights memory)) d.is
          (neg_answers names true size d.file d.first t u x (quotient_fits x p))))
      by (it_is_not isnt test) rights memory =
          let same : kept true size (int_div x y) ≡ int_div x y = kept_itself true size (int_div x y) s.some (quotient_range true size x y p q some isnt) in
          if_passed (is_minus_one (numbers_with true size)) (returned opposite) (returned (exp.Cast (c_type (numbers_with true size)) (of_both op.Divide)))
          (called rights memory) (truth file.int false) (Numeric (of_type T (kept true size (int_div x y)))) (test_gives rights memory false test) refl
          (subst (λ k. Returned (in_turn (map doing (returned (exp.Cast (c_type (numbers_with true size)) (of_both op.Divide)))) (called rights memory))
          (Numeric (of_type T k)))
          (sym same) (plain_quotient some isnt rights memory))

  -- `return 0;`
  abbrev nothing_left : CExp
  nothing_left = exp.Signed (width_of size) false 0

  nothing_gives : (rights : Rights) (memory : Memory) → Has (called rights memory) nothing_left (of_type (Signed one_bits) (pos 0))
  nothing_gives rights memory =
      has_signed (called rights memory) (width_of size) false 0
      (record { above = omega arith; below = (let h = pow_pos (stored size - 1) in omega (arith, h)) })

  abbrev rest_body : (z : CNumber) → Type 0
  rest_body z = (rights : Rights) (memory : Memory)
      → Returned (in_turn (map doing (divided_body (numbers_with true size) op.Remainder nothing_left)) (called rights memory)) (Numeric z)

  answers_rest : (z : CNumber) → converted T z.number ≡ Some (of_type T (int_rem x y)) → rest_body z
      → Answers (function_of file (helper_function names helper.Mod (numbers_with true size))) (Numeric (of_type T x) ∷ Numeric (of_type T y) ∷ [])
      (Numeric (of_type T (int_rem x y)))
  answers_rest z e r =
      answers_two file (helper_name names helper.Mod (numbers_with true size)) (c_type (numbers_with true size)) T
      (divided_body (numbers_with true size) op.Remainder nothing_left) z (of_type T (int_rem x y)) refl e (codes "a") (codes "b")
      (c_type (numbers_with true size)) T (of_type T x) (of_type T y) (of_type T x) (of_type T y) refl (quotient_fits x p) (quotient_fits y q) r

  pub mod_answers : ¬ (y ≡ pos 0)
      → Answers (function_of file (helper_function names helper.Mod (numbers_with true size))) (Numeric (of_type T x) ∷ Numeric (of_type T y) ∷ [])
      (Numeric (of_type T (int_rem x y)))
  mod_answers some = by (minus_one y)
    where
      by : MinusOne y
          → Answers (function_of file (helper_function names helper.Mod (numbers_with true size))) (Numeric (of_type T x) ∷ Numeric (of_type T y) ∷ [])
          (Numeric (of_type T (int_rem x y)))
      by (it_is is test) =
          let none : int_rem x y ≡ pos 0 = ap (λ k. int_rem x k) is ∙ rest_minus_one x in
          answers_rest (of_type (Signed one_bits) (pos 0))
          (subst (λ k. converted T k ≡ Some (of_type T (int_rem x y))) none (quotient_fits (int_rem x y) (rest_range true size x y p)))
          (λ rights memory. if_returned (is_minus_one (numbers_with true size)) (returned nothing_left)
          (returned (exp.Cast (c_type (numbers_with true size)) (of_both op.Remainder))) (called rights memory) (truth file.int true)
          (Numeric (of_type (Signed one_bits) (pos 0))) (test_gives rights memory true test) refl
          (returns_value (called rights memory) nothing_left (of_type (Signed one_bits) (pos 0))
          (ap (λ (k : Meant). k.call) (signed_means (width_of size) false 0)) (nothing_gives rights memory)))
      by (it_is_not isnt test) =
          answers_rest (of_type T (int_rem x y)) (quotient_fits (int_rem x y) (rest_range true size x y p))
          (λ rights memory. if_passed (is_minus_one (numbers_with true size)) (returned nothing_left)
          (returned (exp.Cast (c_type (numbers_with true size)) (of_both op.Remainder))) (called rights memory) (truth file.int false)
          (Numeric (of_type T (int_rem x y))) (test_gives rights memory false test) refl (plain_rest some isnt rights memory))
