-- Whichever form is written for an operation, it gives what the operation gives.
use Rattle.std.proofs.Common.{◌≡◌, ℕ, ◌==◌, Bool, true, false, not, ◌&&◌, pos, Option, Some, None, if◌then◌else◌, refl, ap, sym, ◌∙◌, subst}
use Rattle.std.proofs.lemmas.Bool.{eqb-true, and_parts, false≢true}
use Rattle.hume_base.specs.declared.types.Value.TheVariants.{Word}
use Rattle.hume_model.specs.declared.core_tree.Op.TheVariants as operation
use Rattle.hume_model.specs.declared.outcome.Outcome.TheVariants.{Gives}
use Rattle.hume_model.specs.Operations.{number_at, gives_truth, unary}
use Rattle.c_tree.specs.declared.tree.COp.TheVariants as op
use Rattle.c_tree.specs.declared.tree.CExp.{CExp}
use Rattle.c_tree.specs.declared.tree.CExp.TheVariants as exp
use Rattle.c_tree.specs.Words.{bits}
use Rattle.c_types.specs.Widths.{width_of}
use Rattle.c_arithmetic.specs.declared.functions.Helper.TheVariants as helper
use Rattle.c_arithmetic.specs.declared.functions.Numbers.{Numbers}
use Rattle.c_arithmetic.specs.Widths.{numbers_of, c_type, greatest, is_within}
use Rattle.c_arithmetic.specs.Operations.{helped_with, same_with, is_plain, is_foregone, comparing, equality, may_be_minus_one, quotient_with, same_c_type}
use Rattle.c_arithmetic.specs.Operations.{conversion_with}
use Rattle.c_meaning.specs.Numbers.{Signed, Unsigned, NumberType, Truth, of_type, is_true}
use Rattle.c_meaning.specs.Operators.{truth}
use Rattle.c_meaning.specs.Memories.{Numeric}
use Rattle.c_meaning.specs.Expressions.{Context, Meant, meant, numeric}
use Rattle.c_meaning.proofs.Forms.{not_means}
use Rattle.c_numbers.specs.Shown.{AreNumbers, Shows, ShowsTruth, hume_type}
use Rattle.c_numbers.specs.Agreeing.{Operands}
use Rattle.c_numbers.specs.Written.{Tells, WrittenGives, WrittenTells, WrittenNegates, IsLiteral, WrittenDivides, WrittenConverts}
use Rattle.c_numbers.proofs.Compared.{truth_word}
use Rattle.c_numbers.proofs.Lowered.{held_in}
use Rattle.c_numbers.proofs.Words.{hume}
use Rattle.c_numbers.proofs.Agreeing.{one_word, shows_number, conversions_agree, sums_agree, differences_agree, products_agree, negations_agree}
use Rattle.c_numbers.proofs.Agreeing.{quotients_agree, rests_agree, less_agrees, less_equal_agrees, equal_agrees}
use Rattle.c_numbers.proofs.InPlace.{truth_number, less_tells, less_equal_tells, greater_tells, greater_equal_tells, equal_tells, unequal_tells}
use Rattle.c_numbers.proofs.InPlace.{quotients_in_place, rests_in_place, number_kept, casts_convert}

-- ---- numbers
pub sums_written : WrittenGives operation.Add
sums_written names ty numbers context left right l r ready p word e =
    subst (λ n. Shows context numbers (helped_with names helper.Add left (Some right) n) word) (sym ready.are)
    (sums_agree names numbers context left right l r p (ready.declared helper.Add refl) word e)

pub differences_written : WrittenGives operation.Sub
differences_written names ty numbers context left right l r ready p word e =
    subst (λ n. Shows context numbers (helped_with names helper.Sub left (Some right) n) word) (sym ready.are)
    (differences_agree names numbers context left right l r p (ready.declared helper.Sub refl) word e)

pub products_written : WrittenGives operation.Mul
products_written names ty numbers context left right l r ready p word e =
    subst (λ n. Shows context numbers (helped_with names helper.Mul left (Some right) n) word) (sym ready.are)
    (products_agree names numbers context left right l r p (ready.declared helper.Mul refl) word e)

pub negations_written : WrittenNegates
negations_written names ty numbers context part word ready fine p result e =
    subst (λ n. Shows context numbers (helped_with names helper.Neg part None n) result) (sym ready.are)
    (negations_agree names numbers context part word fine p (ready.declared helper.Neg refl) result e)

-- ---- comparisons
chosen : {context : Context} {word : ℕ} (test : Bool) (first second : CExp) → Tells context first word → Tells context second word
    → Tells context (if test then first else second) word
chosen true first second p q = p
chosen false first second p q = q

by_int : {context : Context} {e : CExp} {word : ℕ} → (meant e).value context ≡ Some (Numeric (of_type (Signed context.int) (pos word)))
    → Tells context e word
by_int {context} p = record { ty = Signed context.int; value = p }

by_bool : {context : Context} {e : CExp} {word : ℕ} → ShowsTruth context e word → Tells context e word
by_bool p = record { ty = Truth; value = p.value }

swapped : {numbers : Numbers} {context : Context} {left right : CExp} {l r : ℕ} → Operands numbers context left right l r
    → Operands numbers context right left r l
swapped p = record { fine = p.fine; first = p.second; second = p.first }

pub less_written : WrittenTells operation.Lt
less_written names ty numbers context left right l r ready p word e =
    chosen (is_plain ty left right) (exp.Binary op.Less left right) (comparing names ty op.Less left right)
    (by_int (less_tells numbers context left right l r ready.target p word e))
    (subst (λ n. Tells context (helped_with names helper.Less left (Some right) n) word) (sym ready.are)
    (by_bool (less_agrees names numbers context left right l r p (ready.declared helper.Less refl) word e)))

pub at_most_written : WrittenTells operation.Le
at_most_written names ty numbers context left right l r ready p word e =
    chosen (is_plain ty left right) (exp.Binary op.LessEqual left right) (comparing names ty op.LessEqual left right)
    (by_int (less_equal_tells numbers context left right l r ready.target p word e))
    (subst (λ n. Tells context (helped_with names helper.LessEqual left (Some right) n) word) (sym ready.are)
    (by_bool (less_equal_agrees names numbers context left right l r p (ready.declared helper.LessEqual refl) word e)))

pub greater_written : WrittenTells operation.Gt
greater_written names ty numbers context left right l r ready p word e =
    chosen (is_plain ty left right) (exp.Binary op.Greater left right) (comparing names ty op.Greater left right)
    (by_int (greater_tells numbers context left right l r ready.target p word e))
    (subst (λ n. Tells context (helped_with names helper.Less right (Some left) n) word) (sym ready.are)
    (by_bool (less_agrees names numbers context right left r l (swapped p) (ready.declared helper.Less refl) word e)))

pub at_least_written : WrittenTells operation.Ge
at_least_written names ty numbers context left right l r ready p word e =
    chosen (is_plain ty left right) (exp.Binary op.GreaterEqual left right) (comparing names ty op.GreaterEqual left right)
    (by_int (greater_equal_tells numbers context left right l r ready.target p word e))
    (subst (λ n. Tells context (helped_with names helper.LessEqual right (Some left) n) word) (sym ready.are)
    (by_bool (less_equal_agrees names numbers context right left r l (swapped p) (ready.declared helper.LessEqual refl) word e)))

pub equal_written : WrittenTells operation.Eq
equal_written names ty numbers context left right l r ready p word e =
    chosen (is_foregone ty left right) (same_with names left right _) (exp.Binary op.Equal left right)
    (subst (λ n. Tells context (same_with names left right n) word) (sym ready.are)
    (by_bool (equal_agrees names numbers context left right l r p (ready.declared helper.Equal refl) word e)))
    (by_int (equal_tells numbers context left right l r ready.target p word e))

-- `!e`, where e tells whether something holds
not_tells : (context : Context) (e : CExp) (holds : Bool) (word : ℕ) → Tells context e (truth_word holds) → gives_truth (not holds) ≡ Gives (Word word)
    → Tells context (exp.Not e) word
not_tells context e holds word p g = record {
  ty = Signed context.int;
  value = ap (λ (m : Meant). m.value context) (not_means e) ∙ rw p.value (ap (λ t. numeric (Some (truth context.int (not t)))) (truths holds)
      ∙ ap (λ k. Some (Numeric k)) (truth_number context.int (not holds))
      ∙ ap (λ k. Some (Numeric (of_type (Signed context.int) (pos k)))) (one_word g));
}
  where
    truths : (b : Bool) → is_true (pos (truth_word b)) ≡ b
    truths true = refl
    truths false = refl

pub unequal_written : WrittenTells operation.Ne
unequal_written names ty numbers context left right l r ready p word e =
    chosen (is_foregone ty left right) (exp.Not (equality names ty left right)) (exp.Binary op.NotEqual left right)
    (not_tells context (equality names ty left right) (l == r) word (equal_written names ty numbers context left right l r ready p (truth_word (l == r)) refl) e)
    (by_int (unequal_tells numbers context left right l r ready.target p word e))

-- ---- divisions
-- which of two forms shows a number
shown_by : {context : Context} {numbers : Numbers} {word : ℕ} (test : Bool) (first second : CExp) → (test ≡ true → Shows context numbers first word)
    → (test ≡ false → Shows context numbers second word) → Shows context numbers (if test then first else second) word
shown_by true first second p q = p refl
shown_by false first second p q = q refl

not_minus_one : (signed : Bool) (literal : Option ℕ) (r : ℕ) → IsLiteral literal r → (signed && may_be_minus_one literal) ≡ false
    → (signed && (r == greatest 64)) ≡ false
not_minus_one false literal r is e = refl
not_minus_one true None r is e = absurd (false≢true (sym e))
not_minus_one true (Some word) r is e = subst (λ k. (k == greatest 64) ≡ false) is e

pub quotients_written : WrittenDivides operation.Div
quotients_written names ty numbers context left right l r literal ready p is word e =
    subst (λ n. Shows context numbers (quotient_with names operation.Div left right literal n) word) (sym ready.are)
    (shown_by (numbers.signed && may_be_minus_one literal) _ _
    (λ h. let signed = (and_parts numbers.signed (may_be_minus_one literal) h).0 in
    quotients_agree names numbers context left right l r signed p (ready.declared helper.Div signed) word e)
    (λ h. quotients_in_place numbers context left right l r ready.target p (not_minus_one numbers.signed literal r is h) word e))

pub rests_written : WrittenDivides operation.Mod
rests_written names ty numbers context left right l r literal ready p is word e =
    subst (λ n. Shows context numbers (quotient_with names operation.Mod left right literal n) word) (sym ready.are)
    (shown_by (numbers.signed && may_be_minus_one literal) _ _
    (λ h. let signed = (and_parts numbers.signed (may_be_minus_one literal) h).0 in
    rests_agree names numbers context left right l r signed p (ready.declared helper.Mod signed) word e)
    (λ h. rests_in_place numbers context left right l r ready.target p (not_minus_one numbers.signed literal r is h) word e))

-- ---- conversions
one_type : (a b : Bool) (m n : ℕ) → ((if a then b else not b) && (bits (width_of m) == bits (width_of n))) ≡ true → held_in a m ≡ held_in b n
one_type true true m n e = ap Signed (eqb-true (bits (width_of m)) (bits (width_of n)) e)
one_type true false m n e = absurd (false≢true e)
one_type false true m n e = absurd (false≢true e)
one_type false false m n e = ap Unsigned (eqb-true (bits (width_of m)) (bits (width_of n)) e)

-- a number of the same type of C, as it is
kept_as_it_is : (from to : Numbers) (context : Context) (part : CExp) (word : ℕ) → AreNumbers from → AreNumbers to → is_within from to ≡ true
    → same_c_type from to ≡ true → Shows context from part word → (result : ℕ) → unary operation.Convert (hume_type to) word ≡ Gives (Word result)
    → Shows context to part result
kept_as_it_is from to context part word f t inside same p result e =
    shows_number to.signed to.bits context part (pos word) result t.least t.most
    (p.value ∙ ap (λ (k : NumberType). Some (Numeric (of_type k (number_at (hume from.signed from.bits) word)))) (one_type from.signed to.signed from.bits to.bits same)
    ∙ ap (λ k. Some (Numeric (of_type (held_in to.signed to.bits) k))) (sym (number_kept from to word f t inside p.is))) e

pub conversions_written : WrittenConverts
conversions_written names source ty from to context part word are ready f t p result e =
    subst (λ n. Shows context to (conversion_with names n (numbers_of ty) part) result) (sym are)
    (subst (λ n. Shows context to (conversion_with names (Some from) n part) result) (sym ready.are)
    (shown_by (is_within from to) _ _
    (λ inside. shown_by (same_c_type from to) part (exp.Cast (c_type to) part)
    (λ same. kept_as_it_is from to context part word f t inside same p result e)
    (λ other. casts_convert from to context part word f t inside p result e))
    (λ outside. conversions_agree names from to context part word ready.target f t p (ready.declared helper.To refl) result e)))
