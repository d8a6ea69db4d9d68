-- Comparisons, in place and by functions.
use Rattle.std.proofs.Common.{◌≡◌, ℕ, Bool, true, false, ◌&&◌, ◌||◌, ℤ, pos, [], ◌∷◌, map, codes, Some, if◌then◌else◌, refl, ap, ◌∙◌}
use Rattle.std.specs.Int.RustNames.{int_lt, int_le}
use Rattle.c_tree.specs.declared.tree.COp.{COp}
use Rattle.c_tree.specs.declared.tree.COp.TheVariants as op
use Rattle.c_tree.specs.declared.tree.CType.TheVariants as type
use Rattle.c_tree.specs.declared.tree.CExp.TheVariants as exp
use Rattle.c_names.specs.declared.names.Names.{Names}
use Rattle.c_arithmetic.specs.declared.functions.Helper.{Helper}
use Rattle.c_arithmetic.specs.declared.functions.Helper.TheVariants as helper
use Rattle.c_arithmetic.specs.Widths.{numbers_with, c_type}
use Rattle.c_arithmetic.specs.Bodies.{helper_name, returned, of_both}
use Rattle.c_arithmetic.specs.Helpers.{helper_function}
use Rattle.c_meaning.specs.Numbers.{NumberType, Truth, CNumber, of_type, converted, promoted}
use Rattle.c_meaning.specs.Operators.{truth, operated, operated_at, on_common}
use Rattle.c_meaning.specs.Memories.{Numeric, Memory, Rights}
use Rattle.c_meaning.specs.Expressions.{Context, Meant}
use Rattle.c_meaning.specs.Calls.{function_of}
use Rattle.c_meaning.specs.Statements.{in_turn, doing}
use Rattle.c_meaning.proofs.Ranges.{InRange}
use Rattle.c_meaning.proofs.Forms.{binary_means}
use Rattle.c_numbers.proofs.Congruences.{exact}
use Rattle.c_numbers.proofs.Conversions.{on_itself}
use Rattle.c_numbers.proofs.Widths.{AreSizes}
use Rattle.c_numbers.proofs.Expressions.{has_binary, Answers, has_variable}
use Rattle.c_numbers.proofs.Functions.{Returned, returns_value, inside, with_one, answers_two, new_variable, old_variable}
use Rattle.c_numbers.proofs.Lowered.{held_in, blank_of, stays, stays_itself}

-- an operator that compares
pub record IsTest (operator : COp) (holds : ℤ → ℤ → Bool) : Type 0 where
  pub plain : (int : ℕ) (x y : CNumber) → operated int operator x y ≡ on_common int operator x y
  pub tests : (int : ℕ) (ty : NumberType) (a b : ℤ) → operated_at int operator ty a b ≡ Some (truth int (holds a b))

pub less : IsTest op.Less int_lt
less = record { plain = λ int x y. refl; tests = λ int ty a b. refl }

pub less_equal : IsTest op.LessEqual int_le
less_equal = record { plain = λ int x y. refl; tests = λ int ty a b. refl }

pub greater : IsTest op.Greater (λ a b. int_lt b a)
greater = record { plain = λ int x y. refl; tests = λ int ty a b. refl }

pub greater_equal : IsTest op.GreaterEqual (λ a b. int_le b a)
greater_equal = record { plain = λ int x y. refl; tests = λ int ty a b. refl }

pub equal : IsTest op.Equal (λ a b. int_le a b && int_le b a)
equal = record { plain = λ int x y. refl; tests = λ int ty a b. refl }

pub unequal : IsTest op.NotEqual (λ a b. int_lt a b || int_lt b a)
unequal = record { plain = λ int x y. refl; tests = λ int ty a b. refl }

pub compared : (int : ℕ) (signed : Bool) (size : ℕ) (operator : COp) (holds : ℤ → ℤ → Bool) (x y : ℤ) → AreSizes int size → IsTest operator holds
    → InRange (exact signed size) x → InRange (exact signed size) y
    → operated int operator (of_type (held_in signed size) x) (of_type (held_in signed size) y) ≡ Some (truth int (holds x y))
compared int signed size operator holds x y s test p q =
    test.plain int (of_type (held_in signed size) x) (of_type (held_in signed size) y)
    ∙ on_itself int operator (held_in signed size) x y s.big (stays int signed size x s p) (stays int signed size y s q)
    ∙ test.tests int (promoted int (held_in signed size)) x y

-- a truth value as a `bool`
abbrev pub truth_word : Bool → ℕ
truth_word holds = if holds then 1 else 0

pub as_bool : (int : ℕ) (holds : Bool) → converted Truth (truth int holds).number ≡ Some (of_type Truth (pos (truth_word holds)))
as_bool int true = refl
as_bool int false = refl

module _ (names : Names) (signed : Bool) (size : ℕ) (file : Context) (s : AreSizes file.int size) (x y : ℤ) (p : InRange (exact signed size) x)
    (q : InRange (exact signed size) y) where
  abbrev ty : NumberType
  ty = held_in signed size

  abbrev called : Rights → Memory → Context
  called rights memory = with_one (with_one (inside file rights memory) (codes "a") ty x) (codes "b") ty y

  returns_test : (operator : COp) (holds : ℤ → ℤ → Bool) → IsTest operator holds → (rights : Rights) (memory : Memory)
      → Returned (in_turn (map doing (returned (of_both operator))) (called rights memory)) (Numeric (truth file.int (holds x y)))
  returns_test operator holds test rights memory =
      returns_value (called rights memory) (of_both operator) (truth file.int (holds x y))
      (ap (λ (k : Meant). k.call) (binary_means operator (exp.Name (codes "a")) (exp.Name (codes "b"))))
      (has_binary operator
      (has_variable (codes "a") (old_variable (with_one (inside file rights memory) (codes "a") ty x) (codes "b") ty y false (codes "a") (of_type ty x) refl
      (new_variable (inside file rights memory) (codes "a") ty x false)))
      (has_variable (codes "b") (new_variable (with_one (inside file rights memory) (codes "a") ty x) (codes "b") ty y false))
      (compared file.int signed size operator holds x y s test p q))

  abbrev Tests : Helper → (ℤ → ℤ → Bool) → Type 0
  Tests which holds = Answers (function_of file (helper_function names which (numbers_with signed size))) (Numeric (of_type ty x) ∷ Numeric (of_type ty y) ∷ [])
      (Numeric (of_type Truth (pos (truth_word (holds x y)))))

  pub less_answers : Tests helper.Less int_lt
  less_answers =
      answers_two file (helper_name names helper.Less (numbers_with signed size)) type.Bool Truth (returned (of_both op.Less))
      (truth file.int (int_lt x y)) (of_type Truth (pos (truth_word (int_lt x y)))) refl (as_bool file.int (int_lt x y)) (codes "a") (codes "b")
      (c_type (numbers_with signed size)) ty (of_type ty x) (of_type ty y) (of_type ty x) (of_type ty y) (blank_of file.types signed size)
      (stays_itself file.int signed size x s p) (stays_itself file.int signed size y s q) (returns_test op.Less int_lt less)

  pub less_equal_answers : Tests helper.LessEqual int_le
  less_equal_answers =
      answers_two file (helper_name names helper.LessEqual (numbers_with signed size)) type.Bool Truth (returned (of_both op.LessEqual))
      (truth file.int (int_le x y)) (of_type Truth (pos (truth_word (int_le x y)))) refl (as_bool file.int (int_le x y)) (codes "a") (codes "b")
      (c_type (numbers_with signed size)) ty (of_type ty x) (of_type ty y) (of_type ty x) (of_type ty y) (blank_of file.types signed size)
      (stays_itself file.int signed size x s p) (stays_itself file.int signed size y s q) (returns_test op.LessEqual int_le less_equal)

  pub equal_answers : Tests helper.Equal (λ a b. int_le a b && int_le b a)
  equal_answers =
      answers_two file (helper_name names helper.Equal (numbers_with signed size)) type.Bool Truth (returned (of_both op.Equal))
      (truth file.int (int_le x y && int_le y x)) (of_type Truth (pos (truth_word (int_le x y && int_le y x)))) refl
      (as_bool file.int (int_le x y && int_le y x)) (codes "a") (codes "b")
      (c_type (numbers_with signed size)) ty (of_type ty x) (of_type ty y) (of_type ty x) (of_type ty y) (blank_of file.types signed size)
      (stays_itself file.int signed size x s p) (stays_itself file.int signed size y s q)
      (returns_test op.Equal (λ a b. int_le a b && int_le b a) equal)
