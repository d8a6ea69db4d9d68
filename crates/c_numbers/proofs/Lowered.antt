-- What the function gives that brings a number back to the bits of the type.
use Rattle.std.proofs.Common.{◌≡◌, ℕ, ◌+◌, ◌-◌, ◌%◌, ◌^◌, ◌<◌, ◌≤◌, nat_le, ◌==◌, Bool, true, false, ℤ, pos, neg_ℤ, ◌-ℤ◌, [], ◌∷◌, codes}
use Rattle.std.proofs.Common.{Some, None, if◌then◌else◌, refl, ap, sym, ◌∙◌, subst, arith, inl, inr}
use Rattle.std.specs.Int.RustNames.{int_lt}
use Rattle.std.proofs.lemmas.Int.{ints}
use Rattle.std.proofs.lemmas.Bool.{cases_lt, eqb-true}
use Rattle.std.proofs.lemmas.Nat.{pow_pos, and_mask}
use Rattle.std.proofs.Math.Nat.{mod-lt, mod-eq_of_lt}
use Rattle.std.proofs.Math.Pow.{pow_mono}
use borrow.Author.Differences.{up, down}
use Rattle.hume_model.specs.Operations.{from_low}
use Rattle.c_tree.specs.declared.tree.Width.{Width}
use Rattle.c_tree.specs.declared.tree.Width.TheVariants.{W32, W64}
use Rattle.c_tree.specs.declared.tree.CType.TheVariants as type
use Rattle.c_tree.specs.declared.tree.COp.TheVariants as op
use Rattle.c_tree.specs.declared.tree.CExp.{CExp}
use Rattle.c_tree.specs.declared.tree.CExp.TheVariants as exp
use Rattle.c_types.specs.Widths.{width_of}
use Rattle.c_names.specs.declared.names.Names.{Names}
use Rattle.c_arithmetic.specs.declared.functions.Helper.TheVariants as helper
use Rattle.c_arithmetic.specs.Widths.{numbers_with, c_type, greatest}
use Rattle.c_arithmetic.specs.Bodies.{helper_name, u, low, low_bits as masked, negative_low, signed_low, unsigned_low, signed_body, returned}
use Rattle.c_arithmetic.specs.Helpers.{helper_function}
use Rattle.c_meaning.specs.Numbers.{NumberType, Signed, Unsigned, CNumber, of_type, converted, promoted}
use Rattle.c_meaning.specs.Operators.{truth, operated}
use Rattle.c_meaning.specs.Objects.{Scalar}
use Rattle.c_meaning.specs.Memories.{Numeric, Memory, Rights}
use Rattle.c_meaning.specs.Expressions.{Context, Meant, Types, blank, meant}
use Rattle.c_meaning.specs.Statements.{with_name}
use Rattle.c_meaning.specs.Calls.{function_of}
use Rattle.c_meaning.proofs.Ranges.{InRange, conversion_keeps, promoted_holds}
use Rattle.c_meaning.proofs.Forms.{name_means, binary_means, cast_means}
use Rattle.c_numbers.specs.Shown.{number_type}
use Rattle.c_numbers.specs.Declared.{IsFile}
use Rattle.c_numbers.proofs.Congruences.{lt-yes, lt-no, exact, kept, kept_range, double}
use Rattle.c_numbers.proofs.Conversions.{natural_in, wider_signed, wider_unsigned, small_in, on_unsigned, on_signed, promoted_signed, masked_is}
use Rattle.c_numbers.proofs.Widths.{stored, worked, work_is_wide, worked_least, AreSizes}
use Rattle.c_numbers.proofs.Expressions.{Has, has_unsigned, has_one, has_cast, has_negative, has_binary, has_first, has_second, Answers, IsVariable}
use Rattle.c_numbers.proofs.Expressions.{has_variable}
use Rattle.c_numbers.proofs.Functions.{new_variable, returns_value, defines, then_returned, inside, with_one, answers_one}

abbrev pub wide : ℕ → Width
wide size = if nat_le size 32 then W32 else W64

-- the C type of the numbers
abbrev pub held_in : Bool → ℕ → NumberType
held_in signed size = number_type (numbers_with signed size)

pub blank_of : (types : Types) (signed : Bool) (size : ℕ) → blank types (c_type (numbers_with signed size)) ≡ Some (Scalar (held_in signed size) None)
blank_of types true size = refl
blank_of types false size = refl

-- numbers of the type of Hume are numbers of the C type
pub stays : (int : ℕ) (signed : Bool) (size : ℕ) (z : ℤ) → AreSizes int size → InRange (exact signed size) z → InRange (held_in signed size) z
stays int true size z s w = wider_signed size (stored size) z s.inside w
stays int false size z s w = wider_unsigned size (stored size) z s.inside w

pub stays_itself : (int : ℕ) (signed : Bool) (size : ℕ) (z : ℤ) → AreSizes int size → InRange (exact signed size) z
    → converted (held_in signed size) z ≡ Some (of_type (held_in signed size) z)
stays_itself int signed size z s w = conversion_keeps (held_in signed size) z (stays int signed size z s w)

-- a number below 2 to the bits, at the type of the work
pub lower : (int size r : ℕ) → AreSizes int size → r < 2 ^ size → r < 2 ^ worked size
lower int size r s less =
    let le : size ≤ worked size = (let a = s.inside in let b = s.below in omega (arith, a, b)) in
    let p : 2 ^ size ≤ 2 ^ worked size = pow_mono le in omega (arith, p, less)

greatest_fits : (int size : ℕ) → AreSizes int size → 2 ^ size - 1 < 2 ^ worked size
greatest_fits int size s = lower int size (2 ^ size - 1) s (let h = pow_pos size in omega (arith, h))

-- ---- the low bits of the parameter
module _ (context : Context) (signed : Bool) (size m : ℕ) (s : AreSizes context.int size) (less : m < 2 ^ worked size)
    (v : IsVariable context (codes "u") (of_type (Unsigned (worked size)) (pos m))) where
  abbrev both : CExp
  both = exp.Binary op.BitAnd u (exp.Unsigned (wide size) (greatest size))

  abbrev what : CNumber
  what = of_type (Unsigned (worked size)) (pos (m % 2 ^ size))

  remainder_less : m % 2 ^ size < 2 ^ size
  remainder_less = mod-lt m (pow_pos size)

  and_gives : operated context.int op.BitAnd (of_type (Unsigned (worked size)) (pos m)) (of_type (Unsigned (worked size)) (pos (2 ^ size - 1))) ≡ Some what
  and_gives =
      on_unsigned context.int (worked size) op.BitAnd m (2 ^ size - 1) s.wide less (greatest_fits context.int size s)
      ∙ masked_is (Unsigned (worked size)) (pos m) (pos (2 ^ size - 1)) (lt-no (pos m) (pos 0) (omega arith)) (lt-no (pos (2 ^ size - 1)) (pos 0) (omega arith))
      ∙ ap (λ k. converted (Unsigned (worked size)) (pos k)) (and_mask m size)
      ∙ conversion_keeps (Unsigned (worked size)) (pos (m % 2 ^ size))
      (natural_in (worked size) (m % 2 ^ size) (lower context.int size (m % 2 ^ size) s remainder_less))

  pub masked_gives : Has context (masked (numbers_with signed size)) what
  masked_gives = by (worked size == size) refl
    where
      by : (test : Bool) → (worked size == size) ≡ test → Has context (if test then u else both) what
      by true e =
          let same : worked size ≡ size = eqb-true (worked size) size e in
          let whole : m % 2 ^ size ≡ m = mod-eq_of_lt (subst (λ k. m < 2 ^ k) same less) in
          subst (λ k. Has context u (of_type (Unsigned (worked size)) (pos k))) (sym whole) (has_variable (codes "u") v)
      by false e = has_binary op.BitAnd (has_variable (codes "u") v)
          (has_unsigned context (wide size) (greatest size) (work_is_wide size) (greatest_fits context.int size s)) and_gives

pub masked_call : (signed : Bool) (size : ℕ) → (meant (masked (numbers_with signed size))).call ≡ None
masked_call signed size = by (worked size == size)
  where
    by : (test : Bool) → (meant (if test then u else exp.Binary op.BitAnd u (exp.Unsigned (wide size) (greatest size)))).call ≡ None
    by true = ap (λ (m : Meant). m.call) (name_means (codes "u"))
    by false = ap (λ (m : Meant). m.call) (binary_means op.BitAnd u (exp.Unsigned (wide size) (greatest size)))

-- ---- two's complement
module _ (context : Context) (size r : ℕ) (s : AreSizes context.int size) (less : r < 2 ^ size)
    (v : IsVariable context (codes "low") (of_type (Unsigned (worked size)) (pos r))) where
  abbrev half : ℕ
  half = 2 ^ (size - 1)

  -- as it is written
  abbrev middle : ℕ
  middle = 2 ^ (size - 1) - 1 + 1

  two : 2 ^ size ≡ half + half
  two = double size s.some

  middle_is : middle ≡ half
  middle_is = let h = pow_pos (size - 1) in omega (arith, h)

  half_fits : half ≤ 2 ^ (worked size - 1)
  half_fits = pow_mono (let l : size - 1 ≤ worked size - 1 = (let a = s.inside in let b = s.below in omega (arith, a, b)) in l)

  worked_in : (z : ℤ) → up z < down z + half → down z ≤ up z + half → InRange (Signed (worked size)) z
  worked_in z b a = record { above = omega (arith, a, half_fits); below = omega (arith, b, half_fits) }

  exact_in : (z : ℤ) → up z < down z + half → down z ≤ up z + half → InRange (Signed size) z
  exact_in z b a = record { above = omega (arith, a); below = omega (arith, b) }

  in_store : (z : ℤ) → up z < down z + half → down z ≤ up z + half → converted (Signed (stored size)) z ≡ Some (of_type (Signed (stored size)) z)
  in_store z b a = stays_itself context.int true size z s (exact_in z b a)

  in_work : (z : ℤ) → up z < down z + half → down z ≤ up z + half → converted (Signed (worked size)) z ≡ Some (of_type (Signed (worked size)) z)
  in_work z b a = conversion_keeps (Signed (worked size)) z (worked_in z b a)

  promoted_in : (z : ℤ) → up z < down z + half → down z ≤ up z + half
      → converted (promoted context.int (Signed (worked size))) z ≡ Some (of_type (promoted context.int (Signed (worked size))) z)
  promoted_in z b a = conversion_keeps (promoted context.int (Signed (worked size))) z
      (promoted_holds context.int (Signed (worked size)) z s.big (worked_in z b a))

  r_fits : r < 2 ^ worked size
  r_fits = lower context.int size r s less

  abbrev test : CExp
  test = exp.Binary op.Less low (exp.Unsigned (wide size) middle)

  test_gives : (b : Bool) → int_lt (pos r) (pos middle) ≡ b → Has context test (truth context.int b)
  test_gives b e =
      let fits : middle < 2 ^ worked size = lower context.int size middle s (let h = pow_pos (size - 1) in omega (arith, middle_is, two, h)) in
      has_binary op.Less (has_variable (codes "low") v) (has_unsigned context (wide size) middle (work_is_wide size) fits)
      (on_unsigned context.int (worked size) op.Less r middle s.wide r_fits fits ∙ ap (λ t. Some (truth context.int t)) e)

  abbrev turned : CExp
  turned = exp.Binary op.Subtract (exp.Unsigned (wide size) (greatest size)) low

  turned_gives : Has context turned (of_type (Unsigned (worked size)) (pos (2 ^ size - 1 - r)))
  turned_gives =
      let e : pos (2 ^ size - 1) -ℤ pos r ≡ pos (2 ^ size - 1 - r) = omega (arith, ints, less) in
      has_binary op.Subtract (has_unsigned context (wide size) (greatest size) (work_is_wide size) (greatest_fits context.int size s))
      (has_variable (codes "low") v)
      (on_unsigned context.int (worked size) op.Subtract (2 ^ size - 1) r s.wide (greatest_fits context.int size s) r_fits
      ∙ ap (converted (Unsigned (worked size))) e
      ∙ conversion_keeps (Unsigned (worked size)) (pos (2 ^ size - 1 - r)) (natural_in (worked size) (2 ^ size - 1 - r)
      (lower context.int size (2 ^ size - 1 - r) s (let h = pow_pos size in omega (arith, h)))))

  abbrev result : ℤ
  result = from_low size (pos r)

  gives_low : r < half → Has context (signed_low (numbers_with true size)) (of_type (Signed (stored size)) result)
  gives_low small =
      let e : result ≡ pos r = rw (lt-yes (pos r) (pos half) (omega (arith, small))) refl in
      let below : up (pos r) < down (pos r) + half = omega (arith, small) in
      let above : down (pos r) ≤ up (pos r) + half = omega arith in
      let first = has_cast {context = context} (type.Signed (wide size)) {to = Signed (worked size)} (has_variable (codes "low") v) refl
      (in_work (pos r) below above) in
      subst (λ z. Has context (signed_low (numbers_with true size)) (of_type (Signed (stored size)) z)) (sym e)
      (has_cast {context = context} (c_type (numbers_with true size)) {to = Signed (stored size)}
      (has_first {context = context} (type.Signed (wide size)) low (negative_low (numbers_with true size)) {to = Signed (worked size)} refl
      (test_gives true (lt-yes (pos r) (pos middle) (omega (arith, middle_is, small)))) refl first (promoted_in (pos r) below above))
      refl (in_store (pos r) below above))

  gives_high : half ≤ r → Has context (signed_low (numbers_with true size)) (of_type (Signed (stored size)) result)
  gives_high large =
      let z : ℤ = pos r -ℤ pos (2 ^ size) in
      let e : result ≡ pos r -ℤ pos (2 ^ size) = rw (lt-no (pos r) (pos half) (omega (arith, large))) refl in
      let d : ℕ = 2 ^ size - 1 - r in
      let small : 2 ^ size - 1 - r < half = omega (arith, two, large, less) in
      let below : up (pos r -ℤ pos (2 ^ size)) < down (pos r -ℤ pos (2 ^ size)) + half = omega (arith, ints, two, less) in
      let above : down (pos r -ℤ pos (2 ^ size)) ≤ up (pos r -ℤ pos (2 ^ size)) + half = omega (arith, ints, two, large) in
      let minus : neg_ℤ (pos (2 ^ size - 1 - r)) -ℤ pos 1 ≡ pos r -ℤ pos (2 ^ size) = omega (arith, ints, less) in
      let opposite_in : InRange (Signed (worked size)) (neg_ℤ (pos (2 ^ size - 1 - r)))
      = worked_in (neg_ℤ (pos (2 ^ size - 1 - r))) (let h = pow_pos (size - 1) in omega (arith, ints, h)) (omega (arith, ints, small)) in
      let one_in : InRange (Signed (worked size)) (pos 1)
      = small_in (worked size) (pos 1) (let h = worked_least size in omega (arith, h)) (omega arith) (omega arith) in
      let same = promoted_signed context.int (worked size) s.wide in
      let opposite = has_negative {context = context}
      (has_cast {context = context} (type.Signed (wide size)) {to = Signed (worked size)} turned_gives refl
      (in_work (pos (2 ^ size - 1 - r)) (omega (arith, small)) (omega arith)))
      (ap (λ (t : NumberType). converted t (neg_ℤ (pos (2 ^ size - 1 - r)))) same
      ∙ conversion_keeps (Signed (worked size)) (neg_ℤ (pos (2 ^ size - 1 - r))) opposite_in) in
      let difference = has_binary op.Subtract opposite (has_one context (wide size) (work_is_wide size) one_in)
      (on_signed context.int (worked size) op.Subtract (neg_ℤ (pos (2 ^ size - 1 - r))) (pos 1) s.wide opposite_in one_in
      ∙ ap (converted (Signed (worked size))) minus ∙ in_work (pos r -ℤ pos (2 ^ size)) below above) in
      let second = has_cast {context = context} (type.Signed (wide size)) {to = Signed (worked size)} difference refl
      (in_work (pos r -ℤ pos (2 ^ size)) below above) in
      subst (λ z. Has context (signed_low (numbers_with true size)) (of_type (Signed (stored size)) z)) (sym e)
      (has_cast {context = context} (c_type (numbers_with true size)) {to = Signed (stored size)}
      (has_second {context = context} (type.Signed (wide size)) low (negative_low (numbers_with true size)) {to = Signed (worked size)} refl
      (test_gives false (lt-no (pos r) (pos middle) (omega (arith, middle_is, large)))) refl second (promoted_in (pos r -ℤ pos (2 ^ size)) below above))
      refl (in_store (pos r -ℤ pos (2 ^ size)) below above))

  pub signed_low_gives : Has context (signed_low (numbers_with true size)) (of_type (Signed (stored size)) result)
  signed_low_gives = elim (cases_lt r half) [ inl small ↦ gives_low small | inr large ↦ gives_high large ]

-- ---- the function
module _ (names : Names) (size m : ℕ) (file : Context) (fine : IsFile file) (s : AreSizes file.int size) (less : m < 2 ^ worked size) where
  abbrev given : CNumber
  given = of_type (Unsigned (worked size)) (pos m)

  abbrev r : ℕ
  r = m % 2 ^ size

  r_less : m % 2 ^ size < 2 ^ size
  r_less = mod-lt m (pow_pos size)

  -- in the call
  abbrev first : Rights → Memory → Context
  first rights memory = with_one (inside file rights memory) (codes "u") (Unsigned (worked size)) (pos m)

  abbrev after : Rights → Memory → Context
  after rights memory = with_name (first rights memory) (codes "low") (Scalar (Unsigned (worked size)) (Some (pos r))) true

  parameter_of : (rights : Rights) (memory : Memory) → IsVariable (first rights memory) (codes "u") given
  parameter_of rights memory = new_variable (inside file rights memory) (codes "u") (Unsigned (worked size)) (pos m) false

  keeps_given : converted (Unsigned (worked size)) (pos m) ≡ Some given
  keeps_given = conversion_keeps (Unsigned (worked size)) (pos m) (natural_in (worked size) m less)

  pub to_signed : Answers (function_of file (helper_function names helper.To (numbers_with true size))) (Numeric given ∷ [])
      (Numeric (of_type (held_in true size) (kept true size (pos m))))
  to_signed =
      let number : InRange (Signed size) (kept true size (pos m)) = kept_range true size (pos m) s.some in
      answers_one file (helper_name names helper.To (numbers_with true size)) (c_type (numbers_with true size)) (held_in true size)
      (signed_body (numbers_with true size)) (of_type (held_in true size) (kept true size (pos m))) (of_type (held_in true size) (kept true size (pos m))) refl
      (stays_itself file.int true size (kept true size (pos m)) s number)
      (codes "u") (type.Unsigned (wide size)) (Unsigned (worked size)) given given refl keeps_given
      (λ rights memory. then_returned _ (returned (signed_low (numbers_with true size))) (first rights memory) (after rights memory) _
      (defines (first rights memory) (type.Unsigned (wide size)) (Unsigned (worked size)) (codes "low") (masked (numbers_with true size))
      (of_type (Unsigned (worked size)) (pos r)) (of_type (Unsigned (worked size)) (pos r)) refl (masked_call true size)
      (masked_gives (first rights memory) true size m s less (parameter_of rights memory))
      (conversion_keeps (Unsigned (worked size)) (pos r) (natural_in (worked size) r (lower file.int size r s r_less))) fine.free)
      (returns_value (after rights memory) (signed_low (numbers_with true size)) _ (ap (λ (k : Meant). k.call) (cast_means _ _))
      (signed_low_gives (after rights memory) size r s r_less (new_variable (first rights memory) (codes "low") (Unsigned (worked size)) (pos r) true))))

  -- a number without a sign
  unsigned_gives : (context : Context) → AreSizes context.int size → IsVariable context (codes "u") given
      → Has context (unsigned_low (numbers_with false size)) (of_type (Unsigned (stored size)) (pos r))
  unsigned_gives context t v = by (stored size == size) refl
    where
      by : (test : Bool) → (stored size == size) ≡ test
          → Has context (exp.Cast (type.Unsigned (width_of size)) (if test then u else masked (numbers_with false size)))
          (of_type (Unsigned (stored size)) (pos r))
      by true e =
          let same : stored size ≡ size = eqb-true (stored size) size e in
          has_cast {context = context} (type.Unsigned (width_of size)) {to = Unsigned (stored size)} (has_variable (codes "u") v) refl
          (ap (λ k. Some (of_type (Unsigned (stored size)) (pos (m % 2 ^ k)))) same)
      by false e =
          has_cast {context = context} (type.Unsigned (width_of size)) {to = Unsigned (stored size)} (masked_gives context false size m t less v) refl
          (conversion_keeps (Unsigned (stored size)) (pos r) (wider_unsigned size (stored size) (pos r) s.inside (natural_in size r r_less)))

  pub to_unsigned : Answers (function_of file (helper_function names helper.To (numbers_with false size))) (Numeric given ∷ [])
      (Numeric (of_type (held_in false size) (kept false size (pos m))))
  to_unsigned =
      let number : InRange (Unsigned size) (kept false size (pos m)) = kept_range false size (pos m) s.some in
      answers_one file (helper_name names helper.To (numbers_with false size)) (c_type (numbers_with false size)) (held_in false size)
      (returned (unsigned_low (numbers_with false size))) (of_type (held_in false size) (kept false size (pos m)))
      (of_type (held_in false size) (kept false size (pos m))) refl
      (stays_itself file.int false size (kept false size (pos m)) s number)
      (codes "u") (type.Unsigned (wide size)) (Unsigned (worked size)) given given refl keeps_given
      (λ rights memory. returns_value (first rights memory) (unsigned_low (numbers_with false size)) _ (ap (λ (k : Meant). k.call) (cast_means _ _))
      (unsigned_gives (first rights memory) s (parameter_of rights memory)))

-- what it gives, with a sign or without
pub to_answers : (names : Names) (signed : Bool) (size m : ℕ) (file : Context) → IsFile file → AreSizes file.int size → m < 2 ^ worked size
    → Answers (function_of file (helper_function names helper.To (numbers_with signed size))) (Numeric (of_type (Unsigned (worked size)) (pos m)) ∷ [])
    (Numeric (of_type (held_in signed size) (kept signed size (pos m))))
to_answers names true size m file fine s less = to_signed names size m file fine s less
to_answers names false size m file fine s less = to_unsigned names size m file fine s less
