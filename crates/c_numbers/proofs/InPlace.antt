-- C's own operators and casts give what operations of Hume give.
use Rattle.std.proofs.Common.{◌≡◌, ◌≢◌, ℕ, ◌+◌, ◌-◌, ◌^◌, ◌≤◌, ◌==◌, nat_lt, nat_le, Bool, true, false, not, ◌&&◌, ◌||◌, ℤ, pos, negsuc}
use Rattle.std.proofs.Common.{Some, if◌then◌else◌, refl, ap, sym, ◌∙◌, arith, inl, inr, eq-eqb}
use Rattle.std.specs.Int.RustNames.{int_lt, int_le, int_div, int_rem}
use Rattle.std.proofs.lemmas.Bool.{and_parts, cases_lt, ltb-true, leb-true, false≢true}
use Rattle.std.proofs.Math.Pow.{pow_mono}
use borrow.Author.Differences.{up, down, same_in}
use Rattle.hume_base.specs.declared.types.Value.TheVariants.{Word}
use Rattle.hume_base.specs.Values.{is_int_of}
use Rattle.hume_base.specs.Words.{int_of}
use Rattle.hume_model.specs.declared.core_tree.Op.TheVariants as operation
use Rattle.hume_model.specs.declared.outcome.Outcome.TheVariants.{Gives}
use Rattle.hume_model.specs.Operations.{number_at, gives_number, gives_truth}
use Rattle.c_tree.specs.declared.tree.COp.{COp}
use Rattle.c_tree.specs.declared.tree.COp.TheVariants as op
use Rattle.c_tree.specs.declared.tree.CExp.{CExp}
use Rattle.c_tree.specs.declared.tree.CExp.TheVariants as exp
use Rattle.c_arithmetic.specs.declared.functions.Numbers.{Numbers}
use Rattle.c_arithmetic.specs.Widths.{numbers_with, c_type, greatest, is_within}
use Rattle.c_meaning.specs.Numbers.{Signed, of_type, promoted}
use Rattle.c_meaning.specs.Operators.{truth, operated}
use Rattle.c_meaning.specs.Memories.{Numeric}
use Rattle.c_meaning.specs.Expressions.{Context, meant}
use Rattle.c_meaning.proofs.Ranges.{InRange, wider}
use Rattle.c_numbers.specs.Shown.{AreNumbers, IsTarget, is_word, Shows}
use Rattle.c_numbers.specs.Agreeing.{Operands, OperatorTells, OperatorDivides, CastConverts}
use Rattle.c_numbers.proofs.Congruences.{lt-yes, lt-no, le-yes, le-no, AreSame, back, fewer_bits, exact, kept, kept_same, kept_itself}
use Rattle.c_numbers.proofs.Conversions.{wider_signed, wider_unsigned}
use Rattle.c_numbers.proofs.Widths.{AreSizes, sizes}
use Rattle.c_numbers.proofs.Expressions.{Has, has_binary, has_cast}
use Rattle.c_numbers.proofs.Lowered.{held_in, stays_itself}
use Rattle.c_numbers.proofs.Divided.{number_type_of, quotient_is, rest_is, quotient_range, rest_range}
use Rattle.c_numbers.proofs.Compared.{IsTest, compared, less, less_equal, greater, greater_equal, equal, unequal, truth_word}
use Rattle.c_numbers.proofs.Words.{hume, word_range, words_tell, same_words}
use Rattle.c_numbers.proofs.Agreeing.{one_word, shows_number, divides, no_zero, same_word, word_less}

pub truth_number : (int : ℕ) (holds : Bool) → truth int holds ≡ of_type (Signed int) (pos (truth_word holds))
truth_number int true = refl
truth_number int false = refl

-- ---- comparisons
module _ (numbers : Numbers) (context : Context) (left right : CExp) (l r : ℕ) (target : IsTarget context.int)
    (p : Operands numbers context left right l r) where
  abbrev x : ℤ
  x = number_at (hume numbers.signed numbers.bits) l

  abbrev y : ℤ
  y = number_at (hume numbers.signed numbers.bits) r

  all_sizes : AreSizes context.int numbers.bits
  all_sizes = sizes context.int numbers.bits target.least target.most p.fine.least p.fine.most

  tells : (operator : COp) (holds : ℤ → ℤ → Bool) → IsTest operator holds → (told : Bool) → holds x y ≡ told → (word : ℕ) → gives_truth told ≡ Gives (Word word)
      → (meant (exp.Binary operator left right)).value context ≡ Some (Numeric (of_type (Signed context.int) (pos word)))
  tells operator holds test told e word g =
      let has : Has context (exp.Binary operator left right) (truth context.int (holds x y))
      = has_binary operator (record { is = p.first.value }) (record { is = p.second.value })
      (compared context.int numbers.signed numbers.bits operator holds x y all_sizes test (word_range numbers.signed numbers.bits l p.first.is)
      (word_range numbers.signed numbers.bits r p.second.is)) in
      has.is ∙ ap (λ b. Some (Numeric (truth context.int b))) e ∙ ap (λ k. Some (Numeric k)) (truth_number context.int told)
      ∙ ap (λ k. Some (Numeric (of_type (Signed context.int) (pos k)))) (one_word g)

pub less_tells : OperatorTells op.Less operation.Lt
less_tells numbers context left right l r target p word g = tells numbers context left right l r target p op.Less int_lt less _ refl word g

pub less_equal_tells : OperatorTells op.LessEqual operation.Le
less_equal_tells numbers context left right l r target p word g = tells numbers context left right l r target p op.LessEqual int_le less_equal _ refl word g

pub greater_tells : OperatorTells op.Greater operation.Gt
greater_tells numbers context left right l r target p word g = tells numbers context left right l r target p op.Greater
    (λ a b. int_lt b a) greater _ refl word g

pub greater_equal_tells : OperatorTells op.GreaterEqual operation.Ge
greater_equal_tells numbers context left right l r target p word g =
    tells numbers context left right l r target p op.GreaterEqual (λ a b. int_le b a) greater_equal _ refl word g

pub equal_tells : OperatorTells op.Equal operation.Eq
equal_tells numbers context left right l r target p word g =
    tells numbers context left right l r target p op.Equal (λ a b. int_le a b && int_le b a) equal (l == r)
    (words_tell numbers.signed numbers.bits l r p.first.is p.second.is) word g

unequal_is : (a b : ℤ) → (int_lt a b || int_lt b a) ≡ not (int_le a b && int_le b a)
unequal_is a b = elim (cases_lt (up a + down b) (up b + down a)) [
  | inl first ↦ rw (lt-yes a b first, le-yes a b (omega (arith, first)), le-no b a first) refl
  | inr other ↦ elim (cases_lt (up b + down a) (up a + down b)) [
    | inl second ↦ rw (lt-no a b other, lt-yes b a second, le-no a b second) refl
    | inr same ↦ rw (lt-no a b other, lt-no b a same, le-yes a b same, le-yes b a other) refl
  ]
]

pub unequal_tells : OperatorTells op.NotEqual operation.Ne
unequal_tells numbers context left right l r target p word g =
    tells numbers context left right l r target p op.NotEqual (λ a b. int_lt a b || int_lt b a) unequal (not (l == r))
    (unequal_is (number_at (hume numbers.signed numbers.bits) l) (number_at (hume numbers.signed numbers.bits) r)
    ∙ ap not (words_tell numbers.signed numbers.bits l r p.first.is p.second.is)) word g

-- ---- divisions
-- a divisor that isn't -1
other_divisor : (signed : Bool) (size r : ℕ) → is_word (numbers_with signed size) r ≡ true → (signed && (r == greatest 64)) ≡ false
    → up (number_at (hume signed size) r) + 1 ≢ down (number_at (hume signed size) r)
other_divisor true size r p n e =
    let less = ltb-true r (2 ^ 64) (and_parts (nat_lt r (2 ^ 64)) (is_int_of size (int_of r)) p).0 in
    let minus : int_of r ≡ negsuc 0 = one_less (int_of r) e in
    false≢true (sym n ∙ eq-eqb r (greatest 64) (same_words r (greatest 64) less (omega arith) minus))
  where
    one_less : (z : ℤ) → up z + 1 ≡ down z → z ≡ negsuc 0
    one_less z h = same_in z (negsuc 0) (omega (arith, h))
other_divisor false size r p n e = omega (arith, e)

module _ (numbers : Numbers) (context : Context) (left right : CExp) (l r : ℕ) (target : IsTarget context.int) (p : Operands numbers context left right l r)
    (other : (numbers.signed && (r == greatest 64)) ≡ false) (some : (r == 0) ≡ false) where
  abbrev signed : Bool
  signed = numbers.signed

  abbrev size : ℕ
  size = numbers.bits

  abbrev a : ℤ
  a = number_at (hume numbers.signed numbers.bits) l

  abbrev b : ℤ
  b = number_at (hume numbers.signed numbers.bits) r

  s : AreSizes context.int numbers.bits
  s = sizes context.int numbers.bits target.least target.most p.fine.least p.fine.most

  a_in : InRange (exact numbers.signed numbers.bits) a
  a_in = word_range numbers.signed numbers.bits l p.first.is

  b_in : InRange (exact numbers.signed numbers.bits) b
  b_in = word_range numbers.signed numbers.bits r p.second.is

  b_some : ¬ (b ≡ pos 0)
  b_some = no_zero numbers.signed numbers.bits r p.second.is some

  fits : InRange (exact numbers.signed numbers.bits) (int_div a b)
  fits = quotient_range numbers.signed numbers.bits a b a_in b_in b_some (other_divisor numbers.signed numbers.bits r p.second.is other)

  shown_cast : (operator : COp) (z : ℤ) (word : ℕ) → InRange (exact numbers.signed numbers.bits) z
      → operated context.int operator (of_type (held_in numbers.signed numbers.bits) a) (of_type (held_in numbers.signed numbers.bits) b)
      ≡ Some (of_type (promoted context.int (held_in numbers.signed numbers.bits)) z)
      → gives_number (hume numbers.signed numbers.bits) z ≡ Gives (Word word)
      → Shows context numbers (exp.Cast (c_type numbers) (exp.Binary operator left right)) word
  shown_cast operator z word w e g =
      let has = has_cast {context = context} (c_type numbers) {to = held_in numbers.signed numbers.bits}
      (has_binary operator (record { is = p.first.value }) (record { is = p.second.value }) e)
      (number_type_of context.types numbers.signed numbers.bits) (stays_itself context.int numbers.signed numbers.bits z s w) in
      shows_number numbers.signed numbers.bits context (exp.Cast (c_type numbers) (exp.Binary operator left right)) z word p.fine.least p.fine.most
      (has.is ∙ ap (λ k. Some (Numeric (of_type (held_in numbers.signed numbers.bits) k))) (sym (kept_itself numbers.signed numbers.bits z p.fine.least w))) g

  pub quotient_shown : (word : ℕ) → gives_number (hume numbers.signed numbers.bits) (int_div a b) ≡ Gives (Word word)
      → Shows context numbers (exp.Cast (c_type numbers) (exp.Binary op.Divide left right)) word
  quotient_shown word g = shown_cast op.Divide (int_div a b) word fits (quotient_is context.int numbers.signed numbers.bits s a b a_in b_in b_some fits) g

  pub rest_shown : (word : ℕ) → gives_number (hume numbers.signed numbers.bits) (int_rem a b) ≡ Gives (Word word)
      → Shows context numbers (exp.Cast (c_type numbers) (exp.Binary op.Remainder left right)) word
  rest_shown word g = shown_cast op.Remainder (int_rem a b) word (rest_range numbers.signed numbers.bits a b a_in)
      (rest_is context.int numbers.signed numbers.bits s a b a_in b_in b_some fits) g

pub quotients_in_place : OperatorDivides op.Divide operation.Div
quotients_in_place numbers context left right l r target p other word e =
    let it = divides r (gives_number (hume numbers.signed numbers.bits)
    (int_div (number_at (hume numbers.signed numbers.bits) l) (number_at (hume numbers.signed numbers.bits) r))) word e in
    quotient_shown numbers context left right l r target p other it.some word it.gives

pub rests_in_place : OperatorDivides op.Remainder operation.Mod
rests_in_place numbers context left right l r target p other word e =
    let it = divides r (gives_number (hume numbers.signed numbers.bits)
    (int_rem (number_at (hume numbers.signed numbers.bits) l) (number_at (hume numbers.signed numbers.bits) r))) word e in
    rest_shown numbers context left right l r target p other it.some word it.gives

-- ---- conversions
within_range : (from to : Numbers) (z : ℤ) → 1 ≤ to.bits → is_within from to ≡ true → InRange (exact from.signed from.bits) z
    → InRange (exact to.signed to.bits) z
within_range from to z some e w = by from.signed to.signed e w
  where
    by : (a b : Bool) → (if a then (if b then nat_le from.bits to.bits else false) else
        (if b then nat_lt from.bits to.bits else nat_le from.bits to.bits)) ≡ true
        → InRange (exact a from.bits) z → InRange (exact b to.bits) z
    by true true h v = wider_signed from.bits to.bits z (leb-true from.bits to.bits h) v
    by true false h v = absurd (false≢true h)
    by false true h v =
        let less = ltb-true from.bits to.bits h in
        let q : 2 ^ from.bits ≤ 2 ^ (to.bits - 1) = pow_mono (let k : from.bits ≤ to.bits - 1 = omega (arith, less) in k) in
        wider (omega arith) q v
    by false false h v = wider_unsigned from.bits to.bits z (leb-true from.bits to.bits h) v

few_sizes : (size : ℕ) → 1 ≤ size → size ≤ 64 → AreSizes 16 size
few_sizes size some few = sizes 16 size (omega arith) (omega arith) some few

-- numbers that have all those of the others among them keep a number of those
pub number_kept : (from to : Numbers) (word : ℕ) → AreNumbers from → AreNumbers to → is_within from to ≡ true → is_word from word ≡ true
    → kept to.signed to.bits (pos word) ≡ number_at (hume from.signed from.bits) word
number_kept from to word f t inside p =
    let y_in = within_range from to (number_at (hume from.signed from.bits) word) t.least inside (word_range from.signed from.bits word p) in
    let same : AreSame (2 ^ to.bits) (pos word) (number_at (hume from.signed from.bits) word)
    = back (2 ^ to.bits) (number_at (hume from.signed from.bits) word) (pos word)
    (fewer_bits to.bits 64 (number_at (hume from.signed from.bits) word) (pos word) t.most
    (same_word from.signed from.bits word (word_less from.signed from.bits word f.most p))) in
    kept_same to.signed to.bits (pos word) (number_at (hume from.signed from.bits) word) same
    ∙ kept_itself to.signed to.bits (number_at (hume from.signed from.bits) word) t.least y_in

pub casts_convert : CastConverts
casts_convert from to context part word f t inside p result e =
    let x_in = word_range from.signed from.bits word p.is in
    let y_in = within_range from to (number_at (hume from.signed from.bits) word) t.least inside x_in in
    let has : Has context part (of_type (held_in from.signed from.bits) (number_at (hume from.signed from.bits) word)) = record { is = p.value } in
    let cast = has_cast {context = context} (c_type to) {to = held_in to.signed to.bits} has (number_type_of context.types to.signed to.bits)
    (stays_itself 16 to.signed to.bits (number_at (hume from.signed from.bits) word) (few_sizes to.bits t.least t.most) y_in) in
    shows_number to.signed to.bits context (exp.Cast (c_type to) part) (pos word) result t.least t.most
    (cast.is ∙ ap (λ k. Some (Numeric (of_type (held_in to.signed to.bits) k))) (sym (number_kept from to word f t inside p.is))) e
