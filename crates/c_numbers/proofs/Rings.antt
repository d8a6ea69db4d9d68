-- Sums, differences, products and negation, by the functions that wrap around.
use Rattle.std.proofs.Common.{◌≡◌, ℕ, ◌^◌, ◌<◌, ◌≤◌, Bool, false, ℤ, pos, neg_ℤ, ◌+ℤ◌, ◌-ℤ◌, ◌*ℤ◌, [], ◌∷◌, map, codes}
use Rattle.std.proofs.Common.{Some, refl, ap, ◌∙◌, subst, arith}
use Rattle.std.proofs.Math.IntN.{+ℤ_idl}
use Rattle.std.proofs.lemmas.Nat.{pow_pos}
use Rattle.c_tree.specs.declared.tree.COp.{COp}
use Rattle.c_tree.specs.declared.tree.COp.TheVariants as op
use Rattle.c_tree.specs.declared.tree.CType.TheVariants as type
use Rattle.c_tree.specs.declared.tree.CExp.{CExp}
use Rattle.c_tree.specs.declared.tree.CExp.TheVariants as exp
use Rattle.c_names.specs.declared.names.Names.{Names}
use Rattle.c_arithmetic.specs.declared.functions.Helper.{Helper}
use Rattle.c_arithmetic.specs.declared.functions.Helper.TheVariants as helper
use Rattle.c_arithmetic.specs.Widths.{numbers_with, c_type}
use Rattle.c_arithmetic.specs.Bodies.{helper_name, operand, opposite, brought_back, wrapping}
use Rattle.c_arithmetic.specs.Helpers.{helper_function}
use Rattle.c_meaning.specs.Numbers.{NumberType, Unsigned, CNumber, of_type, converted}
use Rattle.c_meaning.specs.Operators.{operated, operated_at, on_common}
use Rattle.c_meaning.specs.Memories.{Numeric, Memory, Rights}
use Rattle.c_meaning.specs.Expressions.{Context}
use Rattle.c_meaning.specs.Calls.{function_of}
use Rattle.c_meaning.specs.Statements.{in_turn, doing}
use Rattle.c_numbers.specs.Declared.{ToStands}
use Rattle.c_numbers.proofs.Congruences.{AreSame, itself, through, sums, differences, products, back, least_is, fewer_bits, kept, kept_same, kept_range}
use Rattle.c_numbers.proofs.Conversions.{on_unsigned}
use Rattle.c_numbers.proofs.Widths.{worked, work_is_wide, AreSizes}
use Rattle.c_numbers.proofs.Expressions.{Has, has_unsigned, has_cast, has_binary, Answers, IsVariable, has_variable, values_one}
use Rattle.c_numbers.proofs.Functions.{Returned, new_variable, old_variable, returns_call, inside, with_one, answers_one, answers_two}
use Rattle.c_numbers.proofs.Lowered.{wide, held_in, blank_of, stays_itself, to_answers}

-- the number that an expression at the type of the work stands for, but for a multiple of 2 to its bits
pub record Works (context : Context) (size : ℕ) (e : CExp) (z : ℤ) : Type 0 where
  pub m : ℕ
  pub less : m < 2 ^ worked size
  pub has : Has context e (of_type (Unsigned (worked size)) (pos m))
  pub same : AreSame (2 ^ worked size) z (pos m)

pub works_cast : {context : Context} (size : ℕ) {e : CExp} {x : CNumber} → Has context e x
    → Works context size (exp.Cast (type.Unsigned (wide size)) e) x.number
works_cast {context = context} size {x = x} p =
    let l = least_is (worked size) x.number in record {
      m = l.low;
      less = l.less;
      has = has_cast {context = context} (type.Unsigned (wide size)) {to = Unsigned (worked size)} p refl
          (ap (λ k. Some (of_type (Unsigned (worked size)) k)) l.is);
      same = l.same;
    }

pub works_zero : (context : Context) (size : ℕ) → Works context size (exp.Unsigned (wide size) 0) (pos 0)
works_zero context size = record {
  m = 0;
  less = pow_pos (worked size);
  has = has_unsigned context (wide size) 0 (work_is_wide size) (pow_pos (worked size));
  same = itself (2 ^ worked size) (pos 0);
}

-- an operation that multiples don't disturb
pub record IsRing (operator : COp) (f : ℤ → ℤ → ℤ) : Type 0 where
  pub plain : (int : ℕ) (x y : CNumber) → operated int operator x y ≡ on_common int operator x y
  pub wraps : (int size : ℕ) (a b : ℤ) → operated_at int operator (Unsigned size) a b ≡ converted (Unsigned size) (f a b)
  pub fits : (n : ℕ) (a a' b b' : ℤ) → AreSame n a a' → AreSame n b b' → AreSame n (f a b) (f a' b')

pub adds : IsRing op.Add (λ a b. a +ℤ b)
adds = record { plain = λ int x y. refl; wraps = λ int size a b. refl; fits = sums }

pub subtracts : IsRing op.Subtract (λ a b. a -ℤ b)
subtracts = record { plain = λ int x y. refl; wraps = λ int size a b. refl; fits = differences }

pub multiplies : IsRing op.Multiply (λ a b. a *ℤ b)
multiplies = record { plain = λ int x y. refl; wraps = λ int size a b. refl; fits = products }

pub works_both : (context : Context) (size : ℕ) (operator : COp) (f : ℤ → ℤ → ℤ) → AreSizes context.int size → IsRing operator f
    → (l r : CExp) (x y : ℤ) → Works context size l x → Works context size r y → Works context size (exp.Binary operator l r) (f x y)
works_both context size operator f s ring l r x y p q =
    let it = least_is (worked size) (f (pos p.m) (pos q.m)) in record {
      m = it.low;
      less = it.less;
      has = has_binary operator p.has q.has
          (ring.plain context.int (of_type (Unsigned (worked size)) (pos p.m)) (of_type (Unsigned (worked size)) (pos q.m))
          ∙ on_unsigned context.int (worked size) operator p.m q.m s.wide p.less q.less
          ∙ ring.wraps context.int (worked size) (pos p.m) (pos q.m)
          ∙ ap (λ k. Some (of_type (Unsigned (worked size)) k)) it.is);
      same = through (2 ^ worked size) (f x y) (f (pos p.m) (pos q.m)) (pos it.low)
          (ring.fits (2 ^ worked size) x (pos p.m) y (pos q.m) p.same q.same) it.same;
    }

-- `return to_(e);`, in a call where that function is declared
module _ (names : Names) (signed : Bool) (size : ℕ) (context : Context) (d : ToStands names (numbers_with signed size) context)
    (s : AreSizes context.int size) (t : AreSizes d.file.int size) where
  pub kept_back : (e : CExp) (z : ℤ) → Works context size e z
      → Returned (in_turn (map doing (brought_back names (numbers_with signed size) e)) context) (Numeric (of_type (held_in signed size) (kept signed size z)))
  kept_back e z v =
      let le : size ≤ worked size = (let a = s.inside in let b = s.below in omega (arith, a, b)) in
      let same : kept signed size (pos v.m) ≡ kept signed size z
      = kept_same signed size (pos v.m) z (fewer_bits size (worked size) (pos v.m) z le (back (2 ^ worked size) z (pos v.m) v.same)) in
      subst (λ k. Returned (in_turn (map doing (brought_back names (numbers_with signed size) e)) context) (Numeric (of_type (held_in signed size) k))) same
      (returns_call context (helper_name names helper.To (numbers_with signed size)) (e ∷ []) (Numeric (of_type (Unsigned (worked size)) (pos v.m)) ∷ [])
      (function_of d.file (helper_function names helper.To (numbers_with signed size))) (Numeric (of_type (held_in signed size) (kept signed size (pos v.m))))
      (values_one context e (of_type (Unsigned (worked size)) (pos v.m)) v.has) d.is (to_answers names signed size v.m d.file d.fine t v.less))

-- ---- the functions, whatever a file declares where they stand
module _ (names : Names) (signed : Bool) (size : ℕ) (file : Context) (d : ToStands names (numbers_with signed size) file)
    (s : AreSizes file.int size) (t : AreSizes d.file.int size) where
  abbrev ty : NumberType
  ty = held_in signed size

  -- the same where a function is called
  pub within : (context : Context) → context.functions (helper_name names helper.To (numbers_with signed size))
      ≡ file.functions (helper_name names helper.To (numbers_with signed size))
      → ToStands names (numbers_with signed size) context
  within context same = record { file = d.file; fine = d.fine; first = d.first; is = same ∙ d.is }

  abbrev calls : Rights → Memory → ℤ → ℤ → Context
  calls rights memory x y = with_one (with_one (inside file rights memory) (codes "a") ty x) (codes "b") ty y

  pub variable_a : (rights : Rights) (memory : Memory) (x y : ℤ) → IsVariable (calls rights memory x y) (codes "a") (of_type ty x)
  variable_a rights memory x y =
      old_variable (with_one (inside file rights memory) (codes "a") ty x) (codes "b") ty y false (codes "a") (of_type ty x) refl
      (new_variable (inside file rights memory) (codes "a") ty x false)

  pub variable_b : (rights : Rights) (memory : Memory) (x y : ℤ) → IsVariable (calls rights memory x y) (codes "b") (of_type ty y)
  variable_b rights memory x y = new_variable (with_one (inside file rights memory) (codes "a") ty x) (codes "b") ty y false

  abbrev wraps_as : Helper → (ℤ → ℤ → ℤ) → Type 0
  wraps_as which f = (x y : ℤ) → converted ty x ≡ Some (of_type ty x) → converted ty y ≡ Some (of_type ty y)
      → Answers (function_of file (helper_function names which (numbers_with signed size))) (Numeric (of_type ty x) ∷ Numeric (of_type ty y) ∷ [])
      (Numeric (of_type ty (kept signed size (f x y))))

  pub result_stays : (z : ℤ) → converted ty (kept signed size z) ≡ Some (of_type ty (kept signed size z))
  result_stays z = stays_itself file.int signed size (kept signed size z) s (kept_range signed size z s.some)

  wrapped_body : (operator : COp) (f : ℤ → ℤ → ℤ) → IsRing operator f → (x y : ℤ) (rights : Rights) (memory : Memory)
      → Returned (in_turn (map doing (brought_back names (numbers_with signed size)
      (exp.Binary operator (operand (numbers_with signed size) (codes "a")) (operand (numbers_with signed size) (codes "b"))))) (calls rights memory x y))
      (Numeric (of_type ty (kept signed size (f x y))))
  unfolding within
  wrapped_body operator f ring x y rights memory =
      kept_back names signed size (calls rights memory x y) (within (calls rights memory x y) refl) s t
      (exp.Binary operator (operand (numbers_with signed size) (codes "a")) (operand (numbers_with signed size) (codes "b"))) (f x y)
      (works_both (calls rights memory x y) size operator f s ring (operand (numbers_with signed size) (codes "a"))
      (operand (numbers_with signed size) (codes "b")) x y
      (works_cast {context = calls rights memory x y} size (has_variable (codes "a") (variable_a rights memory x y)))
      (works_cast {context = calls rights memory x y} size (has_variable (codes "b") (variable_b rights memory x y))))

  pub add_answers : wraps_as helper.Add (λ a b. a +ℤ b)
  add_answers x y p q =
      answers_two file (helper_name names helper.Add (numbers_with signed size)) (c_type (numbers_with signed size)) ty
      (wrapping names (numbers_with signed size) op.Add) (of_type ty (kept signed size (x +ℤ y))) (of_type ty (kept signed size (x +ℤ y)))
      (blank_of file.types signed size)
      (result_stays (x +ℤ y)) (codes "a") (codes "b") (c_type (numbers_with signed size)) ty (of_type ty x) (of_type ty y) (of_type ty x) (of_type ty y)
      (blank_of file.types signed size) p q (wrapped_body op.Add (λ a b. a +ℤ b) adds x y)

  pub sub_answers : wraps_as helper.Sub (λ a b. a -ℤ b)
  sub_answers x y p q =
      answers_two file (helper_name names helper.Sub (numbers_with signed size)) (c_type (numbers_with signed size)) ty
      (wrapping names (numbers_with signed size) op.Subtract) (of_type ty (kept signed size (x -ℤ y))) (of_type ty (kept signed size (x -ℤ y)))
      (blank_of file.types signed size)
      (result_stays (x -ℤ y)) (codes "a") (codes "b") (c_type (numbers_with signed size)) ty (of_type ty x) (of_type ty y) (of_type ty x) (of_type ty y)
      (blank_of file.types signed size) p q (wrapped_body op.Subtract (λ a b. a -ℤ b) subtracts x y)

  pub mul_answers : wraps_as helper.Mul (λ a b. a *ℤ b)
  mul_answers x y p q =
      answers_two file (helper_name names helper.Mul (numbers_with signed size)) (c_type (numbers_with signed size)) ty
      (wrapping names (numbers_with signed size) op.Multiply) (of_type ty (kept signed size (x *ℤ y))) (of_type ty (kept signed size (x *ℤ y)))
      (blank_of file.types signed size)
      (result_stays (x *ℤ y)) (codes "a") (codes "b") (c_type (numbers_with signed size)) ty (of_type ty x) (of_type ty y) (of_type ty x) (of_type ty y)
      (blank_of file.types signed size) p q (wrapped_body op.Multiply (λ a b. a *ℤ b) multiplies x y)

  negated_body : (x : ℤ) (rights : Rights) (memory : Memory)
      → Returned (in_turn (map doing (brought_back names (numbers_with signed size) (opposite (numbers_with signed size))))
      (with_one (inside file rights memory) (codes "a") ty x)) (Numeric (of_type ty (kept signed size (neg_ℤ x))))
  unfolding within
  negated_body x rights memory =
      kept_back names signed size (with_one (inside file rights memory) (codes "a") ty x)
      (within (with_one (inside file rights memory) (codes "a") ty x) refl) s t
      (opposite (numbers_with signed size)) (neg_ℤ x)
      (subst (λ z. Works (with_one (inside file rights memory) (codes "a") ty x) size (opposite (numbers_with signed size)) z) (+ℤ_idl (neg_ℤ x))
      (works_both (with_one (inside file rights memory) (codes "a") ty x) size op.Subtract (λ a b. a -ℤ b) s subtracts
      (exp.Unsigned (wide size) 0) (operand (numbers_with signed size) (codes "a")) (pos 0) x
      (works_zero (with_one (inside file rights memory) (codes "a") ty x) size)
      (works_cast {context = with_one (inside file rights memory) (codes "a") ty x} size
      (has_variable (codes "a") (new_variable (inside file rights memory) (codes "a") ty x false)))))

  pub neg_answers : (x : ℤ) → converted ty x ≡ Some (of_type ty x)
      → Answers (function_of file (helper_function names helper.Neg (numbers_with signed size))) (Numeric (of_type ty x) ∷ [])
      (Numeric (of_type ty (kept signed size (neg_ℤ x))))
  neg_answers x p =
      answers_one file (helper_name names helper.Neg (numbers_with signed size)) (c_type (numbers_with signed size)) ty
      (brought_back names (numbers_with signed size) (opposite (numbers_with signed size))) (of_type ty (kept signed size (neg_ℤ x)))
      (of_type ty (kept signed size (neg_ℤ x))) (blank_of file.types signed size)
      (result_stays (neg_ℤ x)) (codes "a") (c_type (numbers_with signed size)) ty (of_type ty x) (of_type ty x) (blank_of file.types signed size) p
      (negated_body x)
