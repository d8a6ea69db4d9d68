-- Calls of the functions give what operations of Hume give.
use Rattle.std.proofs.Common.{◌≡◌, ℕ, ◌^◌, ◌<◌, ◌≤◌, ◌==◌, nat_lt, Bool, true, false, ℤ, pos, neg_ℤ, ◌+ℤ◌, ◌-ℤ◌, ◌*ℤ◌, [], ◌∷◌, map}
use Rattle.std.proofs.Common.{Some, if◌then◌else◌, refl, ap, sym, ◌∙◌, subst, arith, inl, inr, eq-eqb}
use Rattle.std.specs.Int.RustNames.{int_lt, int_le, int_div, int_rem}
use Rattle.std.proofs.lemmas.Bool.{and_parts, cases_lt, lt-ltb, le-ltb, ltb-true, false≢true}
use Rattle.std.proofs.Math.Pow.{pow_mono}
use Rattle.hume_base.specs.declared.types.Value.TheVariants.{Word}
use Rattle.hume_base.specs.Values.{is_int_of}
use Rattle.hume_base.specs.Words.{int_of}
use Rattle.hume_model.specs.declared.core_tree.Op.TheVariants as operation
use Rattle.hume_model.specs.declared.outcome.Outcome.{Outcome}
use Rattle.hume_model.specs.declared.outcome.Outcome.TheVariants.{Gives}
use Rattle.hume_model.specs.Operations.{number_at, word_at, gives_number, gives_truth, unless_zero, binary}
use Rattle.hume_model.specs.Outcomes.{div_zero}
use Rattle.c_tree.specs.declared.tree.CExp.{CExp}
use Rattle.c_tree.specs.declared.tree.CExp.TheVariants as exp
use Rattle.c_names.specs.declared.names.Names.{Names}
use Rattle.c_arithmetic.specs.declared.functions.Helper.{Helper}
use Rattle.c_arithmetic.specs.declared.functions.Helper.TheVariants as helper
use Rattle.c_arithmetic.specs.declared.functions.Numbers.{Numbers}
use Rattle.c_arithmetic.specs.Widths.{numbers_with}
use Rattle.c_arithmetic.specs.Bodies.{helper_name}
use Rattle.c_arithmetic.specs.Helpers.{helper_function}
use Rattle.c_meaning.specs.Numbers.{Truth, Unsigned, of_type, converted}
use Rattle.c_meaning.specs.Memories.{Value, Numeric}
use Rattle.c_meaning.specs.Expressions.{Context, meant, values_of}
use Rattle.c_meaning.specs.Calls.{function_of}
use Rattle.c_meaning.proofs.Ranges.{InRange}
use Rattle.c_numbers.specs.Shown.{shown, is_word, Shows, ShowsGiven, ShowsTruth}
use Rattle.c_numbers.specs.Declared.{IsFile, IsDeclared}
use Rattle.c_numbers.specs.Agreeing.{Operands, CallGives, SignedCallGives, CallTells, CallNegates, CallConverts}
use Rattle.c_numbers.proofs.Congruences.{AreSame, itself, through, back, fewer_bits, exact, kept, kept_same, kept_itself}
use Rattle.c_numbers.proofs.Widths.{worked, AreSizes, sizes}
use Rattle.c_numbers.proofs.Expressions.{Has, Answers, values_one, values_two, call_gives}
use Rattle.c_numbers.proofs.Lowered.{held_in, stays_itself, to_answers}
use Rattle.c_numbers.proofs.Rings.{works_cast, add_answers, sub_answers, mul_answers, neg_answers}
use Rattle.c_numbers.proofs.Divided.{div_answers, mod_answers, rest_range}
use Rattle.c_numbers.proofs.Compared.{truth_word, less_answers, less_equal_answers, equal_answers}
use Rattle.c_numbers.proofs.Words.{hume, word_range, word_number, word_is, words_tell, same_words}

file_sizes : (file : Context) (size : ℕ) → IsFile file → 1 ≤ size → size ≤ 64 → AreSizes file.int size
file_sizes file size fine some few = sizes file.int size fine.target.least fine.target.most some few

pub one_word : {a b : ℕ} → Gives (Word a) ≡ Gives (Word b) → a ≡ b
one_word e = cc

-- the number that an expression gives is what stands for the word of the number
pub shows_number : (signed : Bool) (size : ℕ) (context : Context) (e : CExp) (z : ℤ) (word : ℕ) → 1 ≤ size → size ≤ 64
    → (meant e).value context ≡ Some (Numeric (of_type (held_in signed size) (kept signed size z))) → gives_number (hume signed size) z ≡ Gives (Word word)
    → Shows context (numbers_with signed size) e word
shows_number signed size context e z word some few p g =
    let same : word_at (hume signed size) z ≡ word = one_word g in
    subst (Shows context (numbers_with signed size) e) same (record {
      value = p ∙ ap (λ k. Some (Numeric (of_type (held_in signed size) k))) (sym (word_number signed size z some few));
      is = word_is signed size z some few;
    })

-- ---- divisors
pub no_zero : (signed : Bool) (size r : ℕ) → is_word (numbers_with signed size) r ≡ true → (r == 0) ≡ false → number_at (hume signed size) r ≡ pos 0 → ⊥
no_zero true size r p n e =
    let less = ltb-true r (2 ^ 64) (and_parts (nat_lt r (2 ^ 64)) (is_int_of size (int_of r)) p).0 in
    false≢true (sym n ∙ eq-eqb r 0 (same_words r 0 less (omega arith) e))
no_zero false size r p n e = false≢true (sym n ∙ eq-eqb r 0 (natural e))
  where
    natural : {m : ℕ} → pos m ≡ pos 0 → m ≡ 0
    natural h = cc

-- a division that gives something isn't one by 0
pub record Divides (r : ℕ) (outcome : Outcome) (word : ℕ) : Type 0 where
  pub some : (r == 0) ≡ false
  pub gives : outcome ≡ Gives (Word word)

pub divides : (r : ℕ) (outcome : Outcome) (word : ℕ) → unless_zero r outcome ≡ Gives (Word word) → Divides r outcome word
divides r outcome word e = by (r == 0) refl e
  where
    by : (test : Bool) → (r == 0) ≡ test → (if test then div_zero else outcome) ≡ Gives (Word word) → Divides r outcome word
    by true t h = cc
    by false t h = record { some = t; gives = h }

-- ---- conversions
-- a word differs by a multiple of 2 to the 64 from its number
pub same_word : (signed : Bool) (size word : ℕ) → word < 2 ^ 64 → AreSame (2 ^ 64) (number_at (hume signed size) word) (pos word)
same_word true size word less = elim (cases_lt word (2 ^ 63)) [
  | inl small ↦ rw (lt-ltb word (2 ^ 63) small) (itself (2 ^ 64) (pos word))
  | inr large ↦ rw (le-ltb word (2 ^ 63) large) (record { k = 1; l = 0; is = omega (arith, less) })
]
same_word false size word less = itself (2 ^ 64) (pos word)

pub word_less : (signed : Bool) (size word : ℕ) → size ≤ 64 → is_word (numbers_with signed size) word ≡ true → word < 2 ^ 64
word_less true size word few p = ltb-true word (2 ^ 64) (and_parts (nat_lt word (2 ^ 64)) (is_int_of size (int_of word)) p).0
word_less false size word few p =
    let h = ltb-true word (2 ^ size) p in
    let q : 2 ^ size ≤ 2 ^ 64 = pow_mono few in omega (arith, h, q)

pub conversions_agree : CallConverts
conversions_agree names from to context part word target f w p d result e =
    let x = number_at (hume from.signed from.bits) word in
    let s = file_sizes d.file to.bits d.fine w.least w.most in
    let t = sizes context.int to.bits target.least target.most w.least w.most in
    let has : Has context part (of_type (held_in from.signed from.bits) (number_at (hume from.signed from.bits) word)) = record { is = p.value } in
    let v = works_cast {context = context} to.bits has in
    let le : to.bits ≤ worked to.bits = (let a = t.inside in let b = t.below in omega (arith, a, b)) in
    let same : AreSame (2 ^ to.bits) (pos v.m) (pos word)
    = through (2 ^ to.bits) (pos v.m) (number_at (hume from.signed from.bits) word) (pos word)
    (fewer_bits to.bits (worked to.bits) (pos v.m) (number_at (hume from.signed from.bits) word) le
    (back (2 ^ worked to.bits) (number_at (hume from.signed from.bits) word) (pos v.m) v.same))
    (fewer_bits to.bits 64 (number_at (hume from.signed from.bits) word) (pos word) w.most
    (same_word from.signed from.bits word (word_less from.signed from.bits word f.most p.is))) in
    shows_number to.signed to.bits context _ (pos word) result w.least w.most
    (call_gives context (helper_name names helper.To to) (exp.Cast _ part ∷ []) (Numeric (of_type (Unsigned (worked to.bits)) (pos v.m)) ∷ [])
    (function_of d.file (helper_function names helper.To to)) (Numeric (of_type (held_in to.signed to.bits) (kept to.signed to.bits (pos v.m))))
    (values_one context _ (of_type (Unsigned (worked to.bits)) (pos v.m)) v.has) d.is (to_answers names to.signed to.bits v.m d.file d.fine s v.less)
    ∙ ap (λ k. Some (Numeric (of_type (held_in to.signed to.bits) k))) (kept_same to.signed to.bits (pos v.m) (pos word) same)) e

-- ---- operations on two operands
module _ (numbers : Numbers) (context : Context) (left right : CExp) (l r : ℕ) (p : Operands numbers context left right l r) where
  abbrev x : ℤ
  x = number_at (hume numbers.signed numbers.bits) l

  abbrev y : ℤ
  y = number_at (hume numbers.signed numbers.bits) r

  abbrev some : 1 ≤ numbers.bits
  some = p.fine.least

  abbrev few : numbers.bits ≤ 64
  few = p.fine.most

  x_in : InRange (exact numbers.signed numbers.bits) x
  x_in = word_range numbers.signed numbers.bits l p.first.is

  y_in : InRange (exact numbers.signed numbers.bits) y
  y_in = word_range numbers.signed numbers.bits r p.second.is

  x_stays : (int : ℕ) → AreSizes int numbers.bits → converted (held_in numbers.signed numbers.bits) x ≡ Some (of_type (held_in numbers.signed numbers.bits) x)
  x_stays int s = stays_itself int numbers.signed numbers.bits x s x_in

  y_stays : (int : ℕ) → AreSizes int numbers.bits → converted (held_in numbers.signed numbers.bits) y ≡ Some (of_type (held_in numbers.signed numbers.bits) y)
  y_stays int s = stays_itself int numbers.signed numbers.bits y s y_in

  both_shown : Operands numbers context left right l r
      → (values_of (map meant (left ∷ right ∷ [])) context ≡ Some (Numeric (shown numbers l) ∷ Numeric (shown numbers r) ∷ []))
  both_shown o = values_two context left right (shown numbers l) (shown numbers r) (record { is = o.first.value }) (record { is = o.second.value })

  -- the value of the call
  pub gives_call : (names : Names) (which : Helper) (file : Context) (value : Value)
      → context.functions (helper_name names which numbers) ≡ Some (function_of file (helper_function names which numbers))
      → Answers (function_of file (helper_function names which numbers)) (Numeric (shown numbers l) ∷ Numeric (shown numbers r) ∷ []) value
      → (meant (exp.Call (helper_name names which numbers) (left ∷ right ∷ []))).value context ≡ Some value
  gives_call names which file value d a =
      call_gives context (helper_name names which numbers) (left ∷ right ∷ []) (Numeric (shown numbers l) ∷ Numeric (shown numbers r) ∷ [])
      (function_of file (helper_function names which numbers)) value (both_shown p) d a

pub sums_agree : CallGives helper.Add operation.Add
sums_agree names numbers context left right l r p d word e =
    let s = file_sizes d.file numbers.bits d.fine p.fine.least p.fine.most in
    let t = file_sizes d.first.file numbers.bits d.first.fine p.fine.least p.fine.most in
    shows_number numbers.signed numbers.bits context (exp.Call (helper_name names helper.Add numbers) (left ∷ right ∷ []))
    (number_at (hume numbers.signed numbers.bits) l +ℤ number_at (hume numbers.signed numbers.bits) r) word p.fine.least p.fine.most
    (gives_call numbers context left right l r p names helper.Add d.file _ d.is
    (add_answers names numbers.signed numbers.bits d.file d.first s t _ _ (x_stays numbers context left right l r p d.file.int s)
    (y_stays numbers context left right l r p d.file.int s))) e

pub differences_agree : CallGives helper.Sub operation.Sub
differences_agree names numbers context left right l r p d word e =
    let s = file_sizes d.file numbers.bits d.fine p.fine.least p.fine.most in
    let t = file_sizes d.first.file numbers.bits d.first.fine p.fine.least p.fine.most in
    shows_number numbers.signed numbers.bits context (exp.Call (helper_name names helper.Sub numbers) (left ∷ right ∷ []))
    (number_at (hume numbers.signed numbers.bits) l -ℤ number_at (hume numbers.signed numbers.bits) r) word p.fine.least p.fine.most
    (gives_call numbers context left right l r p names helper.Sub d.file _ d.is
    (sub_answers names numbers.signed numbers.bits d.file d.first s t _ _ (x_stays numbers context left right l r p d.file.int s)
    (y_stays numbers context left right l r p d.file.int s))) e

pub products_agree : CallGives helper.Mul operation.Mul
products_agree names numbers context left right l r p d word e =
    let s = file_sizes d.file numbers.bits d.fine p.fine.least p.fine.most in
    let t = file_sizes d.first.file numbers.bits d.first.fine p.fine.least p.fine.most in
    shows_number numbers.signed numbers.bits context (exp.Call (helper_name names helper.Mul numbers) (left ∷ right ∷ []))
    (number_at (hume numbers.signed numbers.bits) l *ℤ number_at (hume numbers.signed numbers.bits) r) word p.fine.least p.fine.most
    (gives_call numbers context left right l r p names helper.Mul d.file _ d.is
    (mul_answers names numbers.signed numbers.bits d.file d.first s t _ _ (x_stays numbers context left right l r p d.file.int s)
    (y_stays numbers context left right l r p d.file.int s))) e

pub negations_agree : CallNegates
negations_agree names numbers context part word w p d result e =
    let s = file_sizes d.file numbers.bits d.fine w.least w.most in
    let t = file_sizes d.first.file numbers.bits d.first.fine w.least w.most in
    let x = number_at (hume numbers.signed numbers.bits) word in
    let inside = word_range numbers.signed numbers.bits word p.is in
    shows_number numbers.signed numbers.bits context (exp.Call (helper_name names helper.Neg numbers) (part ∷ []))
    (neg_ℤ (number_at (hume numbers.signed numbers.bits) word)) result w.least w.most
    (call_gives context (helper_name names helper.Neg numbers) (part ∷ []) (Numeric (shown numbers word) ∷ [])
    (function_of d.file (helper_function names helper.Neg numbers)) _ (values_one context part (shown numbers word) (record { is = p.value })) d.is
    (neg_answers names numbers.signed numbers.bits d.file d.first s t (number_at (hume numbers.signed numbers.bits) word)
    (stays_itself d.file.int numbers.signed numbers.bits (number_at (hume numbers.signed numbers.bits) word) s inside))) e

-- ---- divisions of numbers with a sign
abbrev signed_numbers : ℕ → Numbers
signed_numbers size = numbers_with true size

pub quotients_agree_at : (names : Names) (size : ℕ) (context : Context) (left right : CExp) (l r : ℕ) → Operands (numbers_with true size) context left right l r
    → IsDeclared names (numbers_with true size) helper.Div context
    → ShowsGiven context (numbers_with true size) (exp.Call (helper_name names helper.Div (numbers_with true size)) (left ∷ right ∷ []))
    (binary operation.Div (hume true size) l r)
quotients_agree_at names size context left right l r p d word e =
    let s = file_sizes d.file size d.fine p.fine.least p.fine.most in
    let t = file_sizes d.first.file size d.first.fine p.fine.least p.fine.most in
    let u = file_sizes d.first.first.file size d.first.first.fine p.fine.least p.fine.most in
    let it = divides r (gives_number (hume true size) (int_div (number_at (hume true size) l) (number_at (hume true size) r))) word e in
    shows_number true size context (exp.Call (helper_name names helper.Div (numbers_with true size)) (left ∷ right ∷ []))
    (int_div (number_at (hume true size) l) (number_at (hume true size) r)) word p.fine.least p.fine.most
    (gives_call (numbers_with true size) context left right l r p names helper.Div d.file _ d.is
    (div_answers names size d.file d.fine s (number_at (hume true size) l) (number_at (hume true size) r) (word_range true size l p.first.is)
    (word_range true size r p.second.is) (no_zero true size r p.second.is it.some) d.first t u)) it.gives

pub quotients_agree : SignedCallGives helper.Div operation.Div
quotients_agree names numbers context left right l r signed p d =
    by numbers.signed signed p d
  where
    by : (sign : Bool) → sign ≡ true → Operands (numbers_with sign numbers.bits) context left right l r
        → IsDeclared names (numbers_with sign numbers.bits) helper.Div context
        → ShowsGiven context (numbers_with sign numbers.bits) (exp.Call (helper_name names helper.Div (numbers_with sign numbers.bits)) (left ∷ right ∷ []))
        (binary operation.Div (hume sign numbers.bits) l r)
    by true h o it = quotients_agree_at names numbers.bits context left right l r o it
    by false h o it = absurd (false≢true h)

pub rests_agree_at : (names : Names) (size : ℕ) (context : Context) (left right : CExp) (l r : ℕ) → Operands (numbers_with true size) context left right l r
    → IsDeclared names (numbers_with true size) helper.Mod context
    → ShowsGiven context (numbers_with true size) (exp.Call (helper_name names helper.Mod (numbers_with true size)) (left ∷ right ∷ []))
    (binary operation.Mod (hume true size) l r)
rests_agree_at names size context left right l r p d word e =
    let s = file_sizes d.file size d.fine p.fine.least p.fine.most in
    let it = divides r (gives_number (hume true size) (int_rem (number_at (hume true size) l) (number_at (hume true size) r))) word e in
    let x_range = word_range true size l p.first.is in
    let same : kept true size (int_rem (number_at (hume true size) l) (number_at (hume true size) r))
    ≡ int_rem (number_at (hume true size) l) (number_at (hume true size) r)
    = kept_itself true size _ p.fine.least (rest_range true size (number_at (hume true size) l) (number_at (hume true size) r) x_range) in
    shows_number true size context (exp.Call (helper_name names helper.Mod (numbers_with true size)) (left ∷ right ∷ []))
    (int_rem (number_at (hume true size) l) (number_at (hume true size) r)) word p.fine.least p.fine.most
    (gives_call (numbers_with true size) context left right l r p names helper.Mod d.file _ d.is
    (mod_answers names size d.file d.fine s (number_at (hume true size) l) (number_at (hume true size) r) x_range (word_range true size r p.second.is)
    (no_zero true size r p.second.is it.some))
    ∙ ap (λ k. Some (Numeric (of_type (held_in true size) k))) (sym same)) it.gives

pub rests_agree : SignedCallGives helper.Mod operation.Mod
rests_agree names numbers context left right l r signed p d =
    by numbers.signed signed p d
  where
    by : (sign : Bool) → sign ≡ true → Operands (numbers_with sign numbers.bits) context left right l r
        → IsDeclared names (numbers_with sign numbers.bits) helper.Mod context
        → ShowsGiven context (numbers_with sign numbers.bits) (exp.Call (helper_name names helper.Mod (numbers_with sign numbers.bits)) (left ∷ right ∷ []))
        (binary operation.Mod (hume sign numbers.bits) l r)
    by true h o it = rests_agree_at names numbers.bits context left right l r o it
    by false h o it = absurd (false≢true h)

-- ---- comparisons
shows_truth : (context : Context) (e : CExp) (holds : Bool) (word : ℕ) → (meant e).value context ≡ Some (Numeric (of_type Truth (pos (truth_word holds))))
    → gives_truth holds ≡ Gives (Word word) → ShowsTruth context e word
shows_truth context e holds word p g =
    let same : truth_word holds ≡ word = one_word g in
    subst (ShowsTruth context e) same (record { value = p })

pub less_agrees : CallTells helper.Less operation.Lt
less_agrees names numbers context left right l r p d word e =
    let s = file_sizes d.file numbers.bits d.fine p.fine.least p.fine.most in
    shows_truth context (exp.Call (helper_name names helper.Less numbers) (left ∷ right ∷ []))
    (int_lt (number_at (hume numbers.signed numbers.bits) l) (number_at (hume numbers.signed numbers.bits) r)) word
    (gives_call numbers context left right l r p names helper.Less d.file _ d.is
    (less_answers names numbers.signed numbers.bits d.file s _ _ (x_in numbers context left right l r p) (y_in numbers context left right l r p))) e

pub less_equal_agrees : CallTells helper.LessEqual operation.Le
less_equal_agrees names numbers context left right l r p d word e =
    let s = file_sizes d.file numbers.bits d.fine p.fine.least p.fine.most in
    shows_truth context (exp.Call (helper_name names helper.LessEqual numbers) (left ∷ right ∷ []))
    (int_le (number_at (hume numbers.signed numbers.bits) l) (number_at (hume numbers.signed numbers.bits) r)) word
    (gives_call numbers context left right l r p names helper.LessEqual d.file _ d.is
    (less_equal_answers names numbers.signed numbers.bits d.file s _ _ (x_in numbers context left right l r p) (y_in numbers context left right l r p))) e

pub equal_agrees : CallTells helper.Equal operation.Eq
equal_agrees names numbers context left right l r p d word e =
    let s = file_sizes d.file numbers.bits d.fine p.fine.least p.fine.most in
    let same = words_tell numbers.signed numbers.bits l r p.first.is p.second.is in
    shows_truth context (exp.Call (helper_name names helper.Equal numbers) (left ∷ right ∷ [])) (l == r) word
    (gives_call numbers context left right l r p names helper.Equal d.file _ d.is
    (equal_answers names numbers.signed numbers.bits d.file s _ _ (x_in numbers context left right l r p) (y_in numbers context left right l r p))
    ∙ ap (λ b. Some (Numeric (of_type Truth (pos (truth_word b))))) same) e
