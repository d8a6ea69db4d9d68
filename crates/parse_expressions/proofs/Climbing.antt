-- One loop over the operators does what the nested chains of the readers do.
use Rattle.std.proofs.Common.{◌≡◌, ◌≢◌, ℕ, zero, suc, ◌+◌, ◌-◌, ◌<◌, ◌≤◌, ◌==◌, inl, inr, List, [], ◌∷◌, length, Bool, true, false, cond, refl, sym, ap, ◌∙◌, subst, arith, eq-eqb}
use Rattle.std.specs.Prelude.{Result, Ok, Err, Option, Some, None, nat_le, is_some}
use Rattle.std.proofs.lemmas.Bool.{le-leb, lt-leb, leb-true, eqb-true, cases_eq, cases_Bool}
use native.Mathlib.Numerals.{unary_clauses}
use Rattle.hume_base.specs.declared.token.Kind.{Kind}
use Rattle.hume_base.specs.declared.token.Token.{Token}
use Rattle.hume_ast.specs.Places.{kinds}
use Rattle.hume_ast.specs.declared.tree.BinOp.{BinOp}
use Rattle.hume_ast.specs.declared.tree.Exp.{Exp, roll-Exp, out-Exp, roll-out-Exp, out-roll-Exp}
use Rattle.hume_ast.specs.declared.tree.Exp.TheOpen.{Exp-F}
use Rattle.hume_ast.specs.Depth.{exp_depth}
use Rattle.hume_ast.specs.Fits.{op_level}
use Rattle.parse_errors.specs.inner.Gives.{Fails}
use Rattle.parse_expressions.specs.inner.Climbing.{level_rest, climbed, within, operator_within, limit_behind, operand_level}
use Rattle.parse_errors.specs.declared.stop.Stop.{Stop}
use Rattle.parse_readers.specs.inner.Readers.{Reader, Wrong, ◌>>=◌, behind, made}
use Rattle.parse_readers.specs.inner.Types.{types}
use Rattle.parse_readers.specs.inner.Expressions.{exps, expressions_with, at_level, if_level, next_operator, one_operand, with_operator, operands, operator_of, app_layer, unary_layer}
use Rattle.parse_readers.proofs.Local.{bind_ok, bind_same, chosen_ok}
use Rattle.parse_readers.proofs.Chains.{turn_at, stop_at}
use Rattle.parse_readers.proofs.ExpressionsRead.{all_shrink}
use Rattle.parse_errors.proofs.ReportedPlaces.{kinds_length}
use Rattle.parse_expressions.proofs.Loops.{fails_on}

-- what is rolled, and what it was before
pub unrolled : (p : Reader (Exp-F Exp)) (ks ls : List Kind) (e : Exp) → made roll-Exp p ks ≡ Ok (e, ls) → p ks ≡ Ok (out-Exp e, ls)
unrolled p ks ls e h =
    let x = bind_ok (p ks) (λ x. Ok (roll-Exp x.0, x.1)) (e, ls) h in
    let is : (roll-Exp x.0.0, x.0.1) ≡ (e, ls) = (let f = x.2 in cc) in
    x.1 ∙ ap (λ (y : Exp-F Exp). Ok (y, x.0.1)) (sym (out-roll-Exp x.0.0)) ∙ ap (λ (y : Exp × List Kind). Ok (out-Exp y.0, y.1)) is

unrolled_by : (r : Result (Exp-F Exp × List Kind) Wrong) (n : Wrong) → made roll-Exp (λ ks. r) [] ≡ Err n → r ≡ Err n
unrolled_by (Ok x) n h = cc
unrolled_by (Err m) n h = (let f : ◌≡◌ {A = Result (Exp × List Kind) Wrong} (Err m) (Err n) = h in let g : m ≡ n = cc in ap Err g)

pub unrolled_err : (p : Reader (Exp-F Exp)) (ks : List Kind) (n : Wrong) → made roll-Exp p ks ≡ Err n → p ks ≡ Err n
unrolled_err p ks n h = unrolled_by (p ks) n h

behind_short : (ks : List Kind) → length (behind ks) ≤ length ks
behind_short [] = omega arith
behind_short (k ∷ ks) = omega arith

bind_assoc : {A B C : Type 0} (r : Result A Wrong) (f : A → Result B Wrong) (g : B → Result C Wrong) → ((r >>= f) >>= g) ≡ (r >>= λ x. f x >>= g)
bind_assoc (Ok x) f g = refl
bind_assoc (Err n) f g = refl

bind_give : {A B : Type 0} (r : Result (A × B) Wrong) → r ≡ (r >>= λ y. Ok (y.0, y.1))
bind_give (Ok x) = refl
bind_give (Err n) = refl

-- the operator is next
abbrev Comes : BinOp → List Kind → Type 0
Comes o ks = (i : ℕ) → next_operator i ks ≡ if_level i (Some o)

comes_at : (o : BinOp) (ks : List Kind) (i : ℕ) → Comes o ks → op_level o ≡ i → next_operator i ks ≡ Some o
comes_at o ks i h e = h i ∙ rw (eq-eqb (op_level o) i e)

comes_else : (o : BinOp) (ks : List Kind) (i : ℕ) → Comes o ks → op_level o ≢ i → next_operator i ks ≡ None
comes_else o ks i h e = h i ∙ other (op_level o == i) refl where
  other : (b : Bool) → (op_level o == i) ≡ b → if_level i (Some o) ≡ None
  other true f = absurd (e (eqb-true (op_level o) i f))
  other false f = rw f

-- how many levels from its own on are left behind an operator of the level
abbrev count_behind : ℕ → ℕ
count_behind l = cond (l == 4) 0 1

module _ (m : ℕ) where
  abbrev child : ℕ → Reader Exp
  child l = at_level (l + 1) (exps m)

  operand_by : (l : ℕ) (o : Option BinOp) (x : Exp-F Exp) (ks : List Kind) (y : Exp-F Exp × List Kind) → with_operator o m (child l) x ks ≡ Ok y → length y.1 < length ks
  operand_by l None x ks y e = cc
  operand_by l (Some o) x ks y e =
      let w = chosen_ok (nat_le (exp_depth (roll-Exp x)) m) (child l (behind ks) >>= λ right. Ok (Exp-F.Binary o (roll-Exp x) right.0, right.1)) (true, length ks) y e in
      let u = bind_ok (child l (behind ks)) (λ right. Ok (Exp-F.Binary o (roll-Exp x) right.0, right.1)) y w.1 in
      let is : (Exp-F.Binary o (roll-Exp x) u.0.0, u.0.1) ≡ y = (let f = u.2 in cc) in
      omega (arith, all_shrink 64 m (l + 1) (behind ks) u.0 u.1, behind_short ks, ap (λ (z : Exp-F Exp × List Kind). length z.1) is)

  shorter : (l : ℕ) (x : Exp-F Exp) (ks : List Kind) (y : Exp-F Exp × List Kind) → one_operand l m (child l) x ks ≡ Ok y → length y.1 < length ks
  shorter l x ks y e = operand_by l (next_operator l ks) x ks y e

  level_stop : (l : ℕ) (x : Exp-F Exp) (ks : List Kind) → next_operator l ks ≡ None → level_rest l m x ks ≡ Ok (x, ks)
  level_stop l x ks e = elim (cases_Bool (l == 4)) [
    | inl t ↦ rw (t, subst (λ i. next_operator i ks ≡ None) (eqb-true l 4 t) e)
    | inr f ↦ rw f (stop_at m l (child l) (shorter l) x ks e)
  ]

  level_four : (x : Exp-F Exp) (ks : List Kind) (o : BinOp) → next_operator 4 ks ≡ Some o
      → level_rest 4 m x ks ≡ (one_operand 4 m (child 4) x ks >>= λ y. climbed (count_behind 4) 4 m y.0 y.1)
  level_four x ks o e =
      ap (λ (n : Option BinOp). cond (is_some n) (one_operand 4 m (child 4) x ks) (Ok (x, ks))) e
      ∙ bind_give (one_operand 4 m (child 4) x ks)

  level_else : (l : ℕ) (x : Exp-F Exp) (ks : List Kind) → (l == 4) ≡ false → level_rest l m x ks ≡ operands l m (child l) x ks
  level_else l x ks t = rw t

  level_turn : (l : ℕ) (x : Exp-F Exp) (ks : List Kind) (o : BinOp) → next_operator l ks ≡ Some o
      → level_rest l m x ks ≡ (one_operand l m (child l) x ks >>= λ y. climbed (count_behind l) l m y.0 y.1)
  level_turn l x ks o e = elim (cases_eq l 4) [
    | inl t ↦ subst (λ i. next_operator i ks ≡ Some o → level_rest i m x ks ≡ (one_operand i m (child i) x ks >>= λ y. climbed (count_behind i) i m y.0 y.1)) (sym t) (level_four x ks o) e
    | inr f ↦ other (l == 4) refl f
  ] where
    other : (b : Bool) → (l == 4) ≡ b → l ≢ 4 → level_rest l m x ks ≡ (one_operand l m (child l) x ks >>= λ y. climbed (count_behind l) l m y.0 y.1)
    other true t f = absurd (f (eqb-true l 4 t))
    other false t f =
        level_else l x ks t
        ∙ turn_at m l (child l) (shorter l) x ks o e
        ∙ bind_same (one_operand l m (child l) x ks) (λ y. operands l m (child l) y.0 y.1) (λ y. climbed 1 l m y.0 y.1) (λ y is. sym (level_else l y.0 y.1 t))
        ∙ ap (λ (b : Bool). one_operand l m (child l) x ks >>= λ y. climbed (cond b 0 1) l m y.0 y.1) (sym t)

  climb_stop : (n l : ℕ) (x : Exp-F Exp) (ks : List Kind) → ((i : ℕ) → l ≤ i → i < l + n → next_operator i ks ≡ None) → climbed n l m x ks ≡ Ok (x, ks)
  climb_stop zero l x ks h = refl
  climb_stop (suc n) l x ks h = rw (climb_stop n (l + 1) x ks (λ i a b. h i (omega (arith, a)) (omega (arith, b)))) (level_stop l x ks (h l (omega arith) (omega arith)))

  -- an operator is taken at its level, and the levels from there on go on behind its right part
  climb_turn : (j n l k : ℕ) (x : Exp-F Exp) (ks : List Kind) (o : BinOp) → Comes o ks → op_level o ≡ l + j → j < n → k ≡ j + count_behind (op_level o)
      → climbed n l m x ks ≡ (one_operand (op_level o) m (child (op_level o)) x ks >>= λ y. climbed k l m y.0 y.1)
  climb_turn j zero l k x ks o c at h e = absurd (omega (arith, h))
  climb_turn zero (suc n) l k x ks o c at h e =
      rw (climb_stop n (l + 1) x ks (λ i a b. comes_else o ks i c (λ same. omega (arith, a, at, same)))) (
      level_turn l x ks o (comes_at o ks l c (omega (arith, at)))
      ∙ subst (λ i. (one_operand l m (child l) x ks >>= λ y. climbed (count_behind l) l m y.0 y.1) ≡ (one_operand i m (child i) x ks >>= λ y. climbed (count_behind i) l m y.0 y.1)) (let same : l ≡ op_level o = omega (arith, at) in same) refl
      ∙ ap (λ i. one_operand (op_level o) m (child (op_level o)) x ks >>= λ y. climbed i l m y.0 y.1) (let same : count_behind (op_level o) ≡ k = omega (arith, e) in same)
      )
  climb_turn (suc j) (suc n) l zero x ks o c at h e = absurd (omega (arith, e))
  climb_turn (suc j) (suc n) l (suc k) x ks o c at h e =
      rw (climb_turn j n (l + 1) k x ks o c (omega (arith, at)) (omega (arith, h)) (omega (arith, e)))
      (bind_assoc (one_operand (op_level o) m (child (op_level o)) x ks) (λ y. climbed k (l + 1) m y.0 y.1) (λ y. level_rest l m y.0 y.1))

-- which operator is next
module _ (level limit : ℕ) where
  within_some : (found : Option BinOp) (o : BinOp) → within level limit found ≡ Some o → (found ≡ Some o) × (level ≤ op_level o) × (op_level o < limit)
  within_some None o e = cc
  within_some (Some p) o e = by (nat_le level (op_level p)) (nat_le (op_level p + 1) limit) refl refl where
    by : (a b : Bool) → nat_le level (op_level p) ≡ a → nat_le (op_level p + 1) limit ≡ b → (Some p ≡ Some o) × (level ≤ op_level o) × (op_level o < limit)
    by true true f g =
        let same : Some p ≡ Some o = sym (rw (f, g)) ∙ e in
        let is : p ≡ o = cc in
        (same, subst (λ q. level ≤ op_level q) is (leb-true level (op_level p) f), subst (λ q. op_level q < limit) is (let h = leb-true (op_level p + 1) limit g in omega (arith, h)))
    by true false f g = absurd (let h : None ≡ Some o = sym (rw (f, g)) ∙ e in cc)
    by false b f g = absurd (let h : None ≡ Some o = sym (rw f) ∙ e in cc)

  within_none : (found : Option BinOp) → within level limit found ≡ None → (i : ℕ) → level ≤ i → i < limit → if_level i found ≡ None
  within_none None e i a b = refl
  within_none (Some p) e i a b = by (op_level p == i) refl where
    by : (t : Bool) → (op_level p == i) ≡ t → if_level i (Some p) ≡ None
    by false f = rw f
    by true f =
        let is = eqb-true (op_level p) i f in
        absurd (let h : Some p ≡ None = sym (rw (le-leb level (op_level p) (omega (arith, a, is)), le-leb (op_level p + 1) limit (omega (arith, b, is)))) ∙ e in cc)

  comes : (ks : List Kind) (o : BinOp) → operator_within level limit ks ≡ Some o → Comes o ks × (level ≤ op_level o) × (op_level o < limit)
  comes [] o e = cc
  comes (k ∷ ks) o e = let w = within_some (operator_of k) o e in (λ i. ap (if_level i) w.0, w.1, w.2)

  none_comes : (ks : List Kind) → operator_within level limit ks ≡ None → (i : ℕ) → level ≤ i → i < limit → next_operator i ks ≡ None
  none_comes [] e i a b = refl
  none_comes (k ∷ ks) e i a b = within_none (operator_of k) e i a b

-- an operator and its right part take a token
pub right_left : (o : BinOp) (m : ℕ) (x : Exp-F Exp) (ts ls : List Token) (e : Exp) → made roll-Exp (with_operator (Some o) m (at_level (op_level o + 1) (exps m)) x) (kinds ts) ≡ Ok (e, kinds ls) → length ls < length ts
right_left o m x ts ls e w =
    omega (arith, operand_by m (op_level o) (Some o) x (kinds ts) (out-Exp e, kinds ls) (unrolled (with_operator (Some o) m (at_level (op_level o + 1) (exps m)) x) (kinds ts) (kinds ls) e w), kinds_length ts, kinds_length ls)

behind_count : (o : BinOp) → limit_behind o ≡ op_level o + count_behind (op_level o)
behind_count o = by (op_level o == 4) refl where
  by : (b : Bool) → (op_level o == 4) ≡ b → limit_behind o ≡ op_level o + count_behind (op_level o)
  by true e = rw e (omega (arith, eqb-true (op_level o) 4 e))
  by false e = rw e

-- the loop
module _ (whole : Result (Exp × List Kind) Wrong) (level limit m : ℕ) (left : Exp) (ks : List Kind) (is : whole ≡ made roll-Exp (climbed (limit - level) level m (out-Exp left)) ks) (high : level ≤ limit) where
  pub loop_ends : operator_within level limit ks ≡ None → whole ≡ Ok (left, ks)
  loop_ends e = is ∙ rw (climb_stop m (limit - level) level (out-Exp left) ks (λ i a b. none_comes level limit ks e i a (omega (arith, b, high)))) (ap (λ y. Ok (y, ks)) (roll-out-Exp left))

  module _ (o : BinOp) (e : operator_within level limit ks ≡ Some o) where
    turned : climbed (limit - level) level m (out-Exp left) ks
        ≡ (with_operator (Some o) m (at_level (op_level o + 1) (exps m)) (out-Exp left) ks >>= λ y. climbed (limit_behind o - level) level m y.0 y.1)
    turned =
        let w = comes level limit ks o e in
        climb_turn m (op_level o - level) (limit - level) level (limit_behind o - level) (out-Exp left) ks o w.0 (omega (arith, w.1)) (omega (arith, w.1, w.2)) (omega (arith, w.1, behind_count o))
        ∙ rw (comes_at o ks (op_level o) w.0 refl)

    pub loop_limit : level ≤ limit_behind o
    loop_limit = omega (arith, (comes level limit ks o e).1, behind_count o)

    pub loop_turns : (next : Exp) (ls : List Kind) → made roll-Exp (with_operator (Some o) m (at_level (op_level o + 1) (exps m)) (out-Exp left)) ks ≡ Ok (next, ls)
        → whole ≡ made roll-Exp (climbed (limit_behind o - level) level m (out-Exp next)) ls
    loop_turns next ls g = is ∙ rw (turned, unrolled (with_operator (Some o) m (at_level (op_level o + 1) (exps m)) (out-Exp left)) ks ls next g)

    pub loop_stops : (stop : Stop) → Fails stop (made roll-Exp (with_operator (Some o) m (at_level (op_level o + 1) (exps m)) (out-Exp left)) ks) → Fails stop whole
    loop_stops stop g = fails_on stop (made roll-Exp (with_operator (Some o) m (at_level (op_level o + 1) (exps m)) (out-Exp left)) ks) whole
        (λ n h. is ∙ rw (turned, unrolled_err (with_operator (Some o) m (at_level (op_level o + 1) (exps m)) (out-Exp left)) ks n h)) g

-- the first part
module _ (m : ℕ) where
  abbrev Begins : ℕ → Type 0
  Begins level = (first : Reader (Exp-F Exp)) × (at_level (operand_level level) (exps (suc m)) ≡ made roll-Exp first)
      × ((ks : List Kind) → at_level level (exps (suc m)) ks ≡ made roll-Exp (λ ls. first ls >>= λ x. climbed (operand_level level - level) level m x.0 x.1) ks)

  abbrev o : ℕ → Exp-F Exp × List Kind → Result (Exp-F Exp × List Kind) Wrong
  o l x = level_rest l m x.0 x.1

  two : (r : Result (Exp-F Exp × List Kind) Wrong) → (((((r >>= o 6) >>= o 5) >>= o 4) >>= o 3) >>= o 2) ≡ (r >>= λ x. climbed 5 2 m x.0 x.1)
  two (Ok x) = refl
  two (Err n) = refl

  three : (r : Result (Exp-F Exp × List Kind) Wrong) → ((((r >>= o 6) >>= o 5) >>= o 4) >>= o 3) ≡ (r >>= λ x. climbed 4 3 m x.0 x.1)
  three (Ok x) = refl
  three (Err n) = refl

  four : (r : Result (Exp-F Exp × List Kind) Wrong) → (((r >>= o 6) >>= o 5) >>= o 4) ≡ (r >>= λ x. climbed 3 4 m x.0 x.1)
  four (Ok x) = refl
  four (Err n) = refl

  five : (r : Result (Exp-F Exp × List Kind) Wrong) → ((r >>= o 6) >>= o 5) ≡ (r >>= λ x. climbed 2 5 m x.0 x.1)
  five (Ok x) = refl
  five (Err n) = refl

  six : (r : Result (Exp-F Exp × List Kind) Wrong) → (r >>= o 6) ≡ (r >>= λ x. climbed 1 6 m x.0 x.1)
  six (Ok x) = refl
  six (Err n) = refl

  eight : (r : Result (Exp-F Exp × List Kind) Wrong) → (r >>= o 8) ≡ (r >>= λ x. climbed 1 8 m x.0 x.1)
  eight (Ok x) = refl
  eight (Err n) = refl

  abbrev roll_all : Result (Exp-F Exp × List Kind) Wrong → Result (Exp × List Kind) Wrong
  roll_all r = r >>= λ x. Ok (roll-Exp x.0, x.1)

  abbrev unary_first : Reader (Exp-F Exp)
  unary_first = unary_layer m (types 64) (exps m)

  abbrev app_first : Reader (Exp-F Exp)
  app_first = app_layer m (types 64) (exps m)

  begins_two : Begins 2
  unfolding expressions_with
  begins_two = (unary_first, refl, λ ks. ap roll_all (two (unary_first ks)))

  begins_three : Begins 3
  unfolding expressions_with
  begins_three = (unary_first, refl, λ ks. ap roll_all (three (unary_first ks)))

  begins_four : Begins 4
  unfolding expressions_with
  begins_four = (unary_first, refl, λ ks. ap roll_all (four (unary_first ks)))

  begins_five : Begins 5
  unfolding expressions_with
  begins_five = (unary_first, refl, λ ks. ap roll_all (five (unary_first ks)))

  begins_six : Begins 6
  unfolding expressions_with
  begins_six = (unary_first, refl, λ ks. ap roll_all (six (unary_first ks)))

  begins_seven : Begins 7
  unfolding expressions_with
  begins_seven = (unary_first, refl, λ ks. ap roll_all (bind_give (unary_first ks)))

  begins_eight : Begins 8
  unfolding expressions_with
  begins_eight = (app_first, refl, λ ks. ap roll_all (eight (app_first ks)))

  begins_nine : Begins 9
  unfolding expressions_with
  begins_nine = (app_first, refl, λ ks. ap roll_all (bind_give (app_first ks)))

  begins : (l : ℕ) → 2 ≤ l → l ≤ 9 → Begins l
  begins l low high =
      elim (cases_eq l 2) [
        | inl e ↦ subst Begins (sym e) begins_two
        | inr a ↦ elim (cases_eq l 3) [
          | inl e ↦ subst Begins (sym e) begins_three
          | inr b ↦ elim (cases_eq l 4) [
            | inl e ↦ subst Begins (sym e) begins_four
            | inr c ↦ elim (cases_eq l 5) [
              | inl e ↦ subst Begins (sym e) begins_five
              | inr d ↦ elim (cases_eq l 6) [
                | inl e ↦ subst Begins (sym e) begins_six
                | inr f ↦ elim (cases_eq l 7) [
                  | inl e ↦ subst Begins (sym e) begins_seven
                  | inr g ↦ elim (cases_eq l 8) [
                    | inl e ↦ subst Begins (sym e) begins_eight
                    | inr h ↦ (let e : l ≡ 9 = omega (arith, low, high, a, b, c, d, f, g, h) in subst Begins (sym e) begins_nine)
                  ]
                ]
              ]
            ]
          ]
        ]
      ]

pub loop_begins : (n level : ℕ) (ks ls : List Kind) (e : Exp) → 0 < n → 2 ≤ level → level ≤ 9 → at_level (operand_level level) (exps n) ks ≡ Ok (e, ls)
    → at_level level (exps n) ks ≡ made roll-Exp (climbed (operand_level level - level) level (n - 1) (out-Exp e)) ls
loop_begins zero level ks ls e some low high w = absurd (omega (arith, some))
loop_begins (suc m) level ks ls e some low high w =
    let b = begins m level low high in
    b.2 ks ∙ rw (unrolled b.0 ks ls e (sym (ap (λ (p : Reader Exp). p ks) b.1) ∙ w)) (simp unary_clauses)

pub loop_none : (n level : ℕ) (ks : List Kind) (stop : Stop) → 0 < n → 2 ≤ level → level ≤ 9 → Fails stop (at_level (operand_level level) (exps n) ks) → Fails stop (at_level level (exps n) ks)
loop_none zero level ks stop some low high w = absurd (omega (arith, some))
loop_none (suc m) level ks stop some low high w =
    let b = begins m level low high in
    fails_on stop (at_level (operand_level level) (exps (suc m)) ks) (at_level level (exps (suc m)) ks)
    (λ n h. b.2 ks ∙ rw (unrolled_err b.0 ks n (sym (ap (λ (p : Reader Exp). p ks) b.1) ∙ h))) w

pub operand_high : (level : ℕ) → level ≤ 9 → level ≤ operand_level level
operand_high level h = by (nat_le level 7) refl where
  by : (b : Bool) → nat_le level 7 ≡ b → level ≤ operand_level level
  by true e = rw e (leb-true level 7 e)
  by false e = rw e h

-- the tests of the code
pub within_in : (level limit : ℕ) (o : BinOp) → level ≤ op_level o → op_level o < limit → within level limit (Some o) ≡ Some o
within_in level limit o a b = rw (le-leb level (op_level o) a, le-leb (op_level o + 1) limit (omega (arith, b)))

pub within_high : (level limit : ℕ) (o : BinOp) → level ≤ op_level o → limit ≤ op_level o → within level limit (Some o) ≡ None
within_high level limit o a b = rw (le-leb level (op_level o) a, lt-leb (op_level o + 1) limit (omega (arith, b)))

pub within_low : (level limit : ℕ) (o : BinOp) → op_level o < level → within level limit (Some o) ≡ None
within_low level limit o a = rw (lt-leb level (op_level o) a)

pub ruleset within_steps = (within_in, within_high, within_low)
