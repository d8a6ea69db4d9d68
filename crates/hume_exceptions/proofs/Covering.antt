-- Whatever an expression raises, on values of its variables' types, it may raise.
use Rattle.std.proofs.Common.{◌≡◌, ℕ, zero, suc, ◌-◌, ◌<◌, ◌≤◌, ◌==◌, not, ◌&&◌, ◌||◌, Bool, true, false, if◌then◌else◌, List, [], ◌∷◌, ◌++◌, map, length, Option, Some, None, slice_get, refl, ap, sym, ◌∙◌, subst, arith}
use Rattle.std.proofs.lemmas.Bool.{and_parts, eq-eqb, eqb-true, leb-true}
use Rattle.std.specs.Option.{is_some}
use Rattle.std.specs.List.{list_any, filter_map}
use Rattle.hume_base.specs.declared.types.Ty.{Ty}
use Rattle.hume_base.specs.declared.types.Ty.TheVariants as shape
use Rattle.hume_base.specs.declared.types.Value.{Value, out-Value}
use Rattle.hume_base.specs.declared.types.Value.TheOpen.{Value-F}
use Rattle.hume_base.specs.declared.types.Value.TheVariants as value
use Rattle.hume_base.specs.Holding.{HoldSmaller}
use Rattle.hume_base.specs.Flat.{parts_in, word_in, word_of_value}
use Rattle.hume_base.specs.Values.{is_value, is_named_value, is_vector_of}
use Rattle.hume_model.specs.declared.core_tree.Op.{Op}
use Rattle.hume_model.specs.declared.core_tree.Op.TheVariants as op
use Rattle.hume_model.specs.declared.core_tree.PatC.{PatC}
use Rattle.hume_model.specs.declared.core_tree.Expr.{Expr, roll-Expr, out-Expr, roll-out-Expr}
use Rattle.hume_model.specs.declared.core_tree.Expr.TheOpen.{Expr-F}
use Rattle.hume_model.specs.declared.core_tree.Expr.TheVariants as expr
use Rattle.hume_model.specs.declared.core_tree.FunC.{FunC}
use Rattle.hume_model.specs.declared.core_tree.Core.{Core}
use Rattle.hume_model.specs.declared.exceptions.TheConstants.{DIV_ZERO, RANGE, NO_CASE}
use Rattle.hume_model.specs.declared.outcome.Outcome.{Outcome}
use Rattle.hume_model.specs.declared.outcome.Outcome.TheVariants.{Gives, Raises}
use Rattle.hume_model.specs.declared.outcome.Several.{Several}
use Rattle.hume_model.specs.declared.outcome.Several.TheVariants.{All, Raised}
use Rattle.hume_model.specs.Outcomes.{Meaning, and_then, with_all, in_order, then_rest, on_match}
use Rattle.hume_model.specs.Operations.{prim, unless_zero, item_of, item_or_raise, is_place, updated}
use Rattle.hume_model.specs.Patterns.{matches}
use Rattle.hume_model.specs.Meaning.{Calls, eval_with, first_arm}
use Rattle.hume_model.specs.Typing.{AreOf, HasType, HaveTypes, ArmsHaveType, is_outcome}
use Rattle.hume_model.specs.Completeness.{are_complete}
use Rattle.hume_model.specs.Raising.{may_be_zero, may_be_outside, raises_with}
use Rattle.hume_model.specs.inner.Arms.{arm_with}
use Rattle.hume_model.proofs.OwnExceptions.{AreRaised}
use Rattle.hume_model.proofs.Layers.{out-word, vector-value, eval-word, eval-variable, eval-con, eval-tuple, eval-vector, eval-prim, eval-index, eval-update, eval-choice, eval-case, eval-let, eval-call, eval-raise-none, eval-raise-some}
use Rattle.hume_model.proofs.PatternTypes.{both_true, of_both, one_of, pattern_typed}
use Rattle.hume_model.proofs.ExpressionTypes.{typed}
use Rattle.hume_exceptions.specs.Matched.{ArePatternsOf, is_matched}
use Rattle.hume_exceptions.specs.inner.Seen.{literal_in, literal_of, divisor_may_be_zero}
use Rattle.hume_exceptions.proofs.Completes.{or_left, or_right, complete_matched}
use Rattle.hume_exceptions.proofs.Forms.{raises-word, raises-var, raises-con, raises-tuple, raises-vect, raises-prim, raises-index, raises-update, raises-if, raises-case, raises-let, raises-call, raises-alone, raises-with}

-- if the exception is raised, it may be
pub record Covers (exn : ℕ) (may : Bool) (outcome : Outcome) : Type 0 where
  pub by : (carried : Option Value) → outcome ≡ Raises exn carried → may ≡ true

pub record CoversAll (exn : ℕ) (may : Bool) (several : Several) : Type 0 where
  pub by : (carried : Option Value) → several ≡ Raised exn carried → may ≡ true

or_none : (a : Bool) → (a || false) ≡ true → a ≡ true
or_none true p = refl
or_none false p = cc

all_same : (xs ys : List Value) → All xs ≡ All ys → xs ≡ ys
all_same xs ys e = cc

abbrev thrown_of : Several → Outcome
thrown_of (All vs) = Raises 0 None
thrown_of (Raised y x) = Raises y x

abbrev several_of : Outcome → Several
several_of (Gives v) = All []
several_of (Raises y x) = Raised y x

abbrev pub exn_of : Outcome → ℕ
exn_of (Gives v) = 0
exn_of (Raises y x) = y

module _ (exn : ℕ) where
  outcome_same : (y : ℕ) (x k : Option Value) → Raised y x ≡ Raised exn k → Raises y x ≡ Raises exn k
  outcome_same y x k e = ap thrown_of e

  number_same : (number : ℕ) (k : Option Value) → Raises number None ≡ Raises exn k → number ≡ exn
  number_same number k e = ap exn_of e

  gives_covers : (may : Bool) (v : Value) → Covers exn may (Gives v)
  gives_covers may v = record { by = λ k e. cc }

  pub weaker : (a b : Bool) (o : Outcome) → (a ≡ true → b ≡ true) → Covers exn a o → Covers exn b o
  weaker a b o go p = record { by = λ k e. go (p.by k e) }

  pub by_form : (a b : Bool) (o p : Outcome) → a ≡ b → o ≡ p → Covers exn b p → Covers exn a o
  by_form a b o p same is c = record { by = λ k e. same ∙ c.by k (sym is ∙ e) }

  then_covers : (a c : Bool) (o : Outcome) (go : Value → Outcome) → Covers exn a o → ((v : Value) → o ≡ Gives v → Covers exn c (go v)) → Covers exn (a || c) (and_then o go)
  then_covers a c (Gives v) go p q = record { by = λ k e. or_right a c ((q v refl).by k e) }
  then_covers a c (Raises y x) go p q = record { by = λ k e. or_left a c (p.by k e) }

  all_covers : (a c : Bool) (s : Several) (go : List Value → Outcome) → CoversAll exn a s → ((vs : List Value) → s ≡ All vs → Covers exn c (go vs)) → Covers exn (a || c) (with_all s go)
  all_covers a c (All vs) go p q = record { by = λ k e. or_right a c ((q vs refl).by k e) }
  all_covers a c (Raised y x) go p q = record { by = λ k e. or_left a c (p.by k (ap several_of e)) }

  rest_covers : (a b : Bool) (o : Outcome) (s : Several) → Covers exn a o → CoversAll exn b s → CoversAll exn (a || b) (then_rest o s)
  rest_covers a b (Gives v) (All vs) p q = record { by = λ k e. cc }
  rest_covers a b (Gives v) (Raised y x) p q = record { by = λ k e. or_right a b (q.by k e) }
  rest_covers a b (Raises y x) s p q = record { by = λ k e. or_left a b (p.by k (outcome_same y x k e)) }

  either : (c may : Bool) (x y : Outcome) → (c ≡ true → Covers exn may x) → (c ≡ false → Covers exn may y) → Covers exn may (if c then x else y)
  either true may x y p q = p refl
  either false may x y p q = q refl

  -- an exception that every program has
  pub own_covers : (number : ℕ) (may : Bool) → may ≡ true → Covers exn ((exn == number) && may) (Raises number None)
  own_covers number may is = record { by = λ k e. both_true _ _ (eq-eqb exn number (sym (number_same number k e))) is }

  taken_or_out : (o : Option Value) (may : Bool) → may ≡ true → Covers exn ((exn == RANGE) && may) (item_or_raise o)
  taken_or_out None may is = own_covers RANGE may is
  taken_or_out (Some v) may is = gives_covers _ v

  got : (vs : List Value) (k : ℕ) → k < length vs → (v : Value) × (slice_get vs k ≡ Some v)
  got [] k lt = absurd (omega arith)
  got (v ∷ vs) zero lt = (v, refl)
  got (v ∷ vs) (suc k) lt = got vs k (omega arith)

  item_there : (v : Value) (vs : List Value) (k count : ℕ) (may : Bool) → parts_in (out-Value v) ≡ vs → length vs ≡ count → is_place count k ≡ true
      → Covers exn may (item_or_raise (slice_get (parts_in (out-Value v)) (k - 1)))
  item_there v vs k count may is long e =
      let ps = and_parts _ _ e in
      let low : 1 ≤ k = leb-true 1 k ps.0 in
      let high : k ≤ count = leb-true k count ps.1 in
      let one = got vs (k - 1) (omega arith) in
      subst (λ o. Covers exn may (item_or_raise o)) (sym (ap (λ us. slice_get us (k - 1)) is ∙ one.1)) (gives_covers may one.0)

  item_covers : (count : ℕ) (lit : Option ℕ) (vs : List Value) (v p : Value) → parts_in (out-Value v) ≡ vs → length vs ≡ count → ((w : ℕ) → lit ≡ Some w → word_of_value p ≡ w)
      → Covers exn ((exn == RANGE) && may_be_outside count lit) (item_of count v p)
  item_covers count None vs v p is long known =
      either (is_place count (word_of_value p)) _ _ _ (λ e. taken_or_out (slice_get (parts_in (out-Value v)) (word_of_value p - 1)) true refl) (λ e. own_covers RANGE true refl)
  item_covers count (Some w) vs v p is long known =
      either (is_place count (word_of_value p)) _ _ _
      (λ e. item_there v vs (word_of_value p) count _ is long e)
      (λ e. own_covers RANGE (not (is_place count w)) (ap (λ k. not (is_place count k)) (sym (known w refl)) ∙ ap not e))

  update_covers : (count : ℕ) (lit : Option ℕ) (v p x : Value) → ((w : ℕ) → lit ≡ Some w → word_of_value p ≡ w)
      → Covers exn ((exn == RANGE) && may_be_outside count lit) (updated count v p x)
  update_covers count None v p x known = either (is_place count (word_of_value p)) _ _ _ (λ e. gives_covers _ _) (λ e. own_covers RANGE true refl)
  update_covers count (Some w) v p x known =
      either (is_place count (word_of_value p)) _ _ _ (λ e. gives_covers _ _)
      (λ e. own_covers RANGE (not (is_place count w)) (ap (λ k. not (is_place count k)) (sym (known w refl)) ∙ ap not e))

  divide_covers : (lit : Option ℕ) (b : ℕ) (v : Value) → ((w : ℕ) → lit ≡ Some w → b ≡ w) → Covers exn ((exn == DIV_ZERO) && may_be_zero lit) (unless_zero b (Gives v))
  divide_covers None b v known = either (b == 0) _ _ _ (λ e. own_covers DIV_ZERO true refl) (λ e. gives_covers _ v)
  divide_covers (Some w) b v known = either (b == 0) _ _ _ (λ e. own_covers DIV_ZERO (w == 0) (ap (λ k. k == 0) (sym (known w refl)) ∙ e)) (λ e. gives_covers _ v)

  two_covers : (o : Op) (t : Ty) (e f : Expr) (a b : Value) → ((w : ℕ) → literal_of f ≡ Some w → word_of_value b ≡ w)
      → Covers exn ((exn == DIV_ZERO) && divisor_may_be_zero o (e ∷ f ∷ [])) (prim o t (a ∷ b ∷ []))
  two_covers op.Div t e f a b known = divide_covers (literal_of f) (word_of_value b) _ known
  two_covers op.Mod t e f a b known = divide_covers (literal_of f) (word_of_value b) _ known
  two_covers op.Add t e f a b known = gives_covers _ _
  two_covers op.Sub t e f a b known = gives_covers _ _
  two_covers op.Mul t e f a b known = gives_covers _ _
  two_covers op.Eq t e f a b known = gives_covers _ _
  two_covers op.Ne t e f a b known = gives_covers _ _
  two_covers op.Lt t e f a b known = gives_covers _ _
  two_covers op.Le t e f a b known = gives_covers _ _
  two_covers op.Gt t e f a b known = gives_covers _ _
  two_covers op.Ge t e f a b known = gives_covers _ _
  two_covers op.Neg t e f a b known = gives_covers _ _
  two_covers op.Not t e f a b known = gives_covers _ _
  two_covers op.Convert t e f a b known = gives_covers _ _

  neg_covers : (t : Ty) (may : Bool) (vs : List Value) → Covers exn may (prim op.Neg t vs)
  neg_covers t may [] = gives_covers _ _
  neg_covers t may (v ∷ []) = gives_covers _ _
  neg_covers t may (v ∷ w ∷ []) = gives_covers _ _
  neg_covers t may (v ∷ w ∷ u ∷ vs) = gives_covers _ _

  not_covers : (t : Ty) (may : Bool) (vs : List Value) → Covers exn may (prim op.Not t vs)
  not_covers t may [] = gives_covers _ _
  not_covers t may (v ∷ []) = gives_covers _ _
  not_covers t may (v ∷ w ∷ []) = gives_covers _ _
  not_covers t may (v ∷ w ∷ u ∷ vs) = gives_covers _ _

  convert_covers : (t : Ty) (may : Bool) (vs : List Value) → Covers exn may (prim op.Convert t vs)
  convert_covers t may [] = gives_covers _ _
  convert_covers t may (v ∷ []) = gives_covers _ _
  convert_covers t may (v ∷ w ∷ []) = gives_covers _ _
  convert_covers t may (v ∷ w ∷ u ∷ vs) = gives_covers _ _

-- the two values of two parts
two_values : (o1 o2 : Outcome) (vs : List Value) → then_rest o1 (then_rest o2 (All [])) ≡ All vs → (a : Value) × (b : Value) × (o1 ≡ Gives a) × (o2 ≡ Gives b) × (a ∷ b ∷ [] ≡ vs)
two_values (Gives a) (Gives b) vs e = (a, b, refl, refl, all_same _ _ e)
two_values (Gives a) (Raises y x) vs e = cc
two_values (Raises y x) o2 vs e = cc

value_same : (a b : Value) → Gives a ≡ Gives b → a ≡ b
value_same a b e = cc

rest_of : (o : Outcome) (rest : Several) (vs : List Value) → then_rest o rest ≡ All vs → (v : Value) × (us : List Value) × (o ≡ Gives v) × (rest ≡ All us) × (v ∷ us ≡ vs)
rest_of (Gives v) (All us) vs e = (v, us, refl, refl, all_same _ _ e)
rest_of (Gives v) (Raised y x) vs e = cc
rest_of (Raises y x) rest vs e = cc

known_word : (o : Outcome) (b : Value) (w : ℕ) → o ≡ Gives b → o ≡ Gives (value.Word w) → word_of_value b ≡ w
known_word o b w p q = let same : b ≡ value.Word w = value_same _ _ (sym p ∙ q) in ap word_of_value same ∙ ap word_in (out-word w)

vector_long : (count : ℕ) (test : Value → Bool) (l : Value-F Value) → is_vector_of count test l ≡ true → length (parts_in l) ≡ count
vector_long count test (Value-F.Vector vs) is = eqb-true _ _ (and_parts _ _ is).0
vector_long count test (Value-F.Word w) is = cc
vector_long count test (Value-F.Tuple vs) is = cc
vector_long count test (Value-F.Con c vs) is = cc

pub none_left : (m : Option (List Value)) (b : Bool) → m ≡ None → b ≡ false → (is_some m || b) ≡ false
none_left None b e p = p
none_left (Some vs) b e p = cc

pub incomplete : (complete matched : Bool) → (complete ≡ true → matched ≡ true) → matched ≡ false → not complete ≡ true
incomplete true matched go e = let x = sym (go refl) ∙ e in cc
incomplete false matched go e = refl

pub or_assoc : (a b c : Bool) → (a || (b || c)) ≡ true → ((a || b) || c) ≡ true
or_assoc true b c h = refl
or_assoc false b c h = h

pub match_covers : (exn : ℕ) (m : Option (List Value)) (go : List Value → Outcome) (other : Outcome) (a b : Bool) → ((vs : List Value) → m ≡ Some vs → Covers exn a (go vs)) → (m ≡ None → Covers exn b other) → Covers exn (a || b) (on_match m go other)
match_covers exn None go other a b p q = record { by = λ k e. or_right a b ((q refl).by k e) }
match_covers exn (Some vs) go other a b p q = record { by = λ k e. or_left a b ((p vs refl).by k e) }

module _ (core : Core) (own : AreRaised core) (down : HoldSmaller core.types) (call : Calls)
    (called : (f : ℕ) (function : FunC) → slice_get core.funs f ≡ Some function → (args : List Value) → AreOf core.types function.params args → is_outcome core function.gives (call f args) ≡ true)
    (exn : ℕ) (raising : ℕ → Bool)
    (covered : (f : ℕ) (function : FunC) → slice_get core.funs f ≡ Some function → (args : List Value) → AreOf core.types function.params args → Covers exn (raising f) (call f args)) where
  abbrev pub meaning : Expr → Meaning
  meaning = eval_with call

  abbrev pub raises : Expr → Bool
  raises = raises_with core.types raising exn

  -- a literal gives its word
  literal_step : (e : Expr) (x : Expr-F Expr) → roll-Expr x ≡ e → (w : ℕ) (env : List Value) → literal_in x ≡ Some w → meaning e env ≡ Gives (value.Word w)
  literal_step e (Expr-F.Word u) is w env h =
      let same : u ≡ w = cc in
      ap (λ e. meaning e env) (sym is ∙ expr.rolls-Word u) ∙ eval-word call env u ∙ ap (λ k. Gives (value.Word k)) same
  literal_step e (Expr-F.Var n) is w env h = cc
  literal_step e (Expr-F.Con c ps) is w env h = cc
  literal_step e (Expr-F.Tuple ps) is w env h = cc
  literal_step e (Expr-F.Vect ps) is w env h = cc
  literal_step e (Expr-F.Prim o t ps) is w env h = cc
  literal_step e (Expr-F.Index n v p) is w env h = cc
  literal_step e (Expr-F.Update n v p x) is w env h = cc
  literal_step e (Expr-F.If test a b) is w env h = cc
  literal_step e (Expr-F.Case x t arms) is w env h = cc
  literal_step e (Expr-F.Let a b) is w env h = cc
  literal_step e (Expr-F.Call f ps) is w env h = cc
  literal_step e (Expr-F.Raise x part) is w env h = cc

  literal : (e : Expr) (w : ℕ) (env : List Value) → literal_of e ≡ Some w → meaning e env ≡ Gives (value.Word w)
  literal e w env h = literal_step e (out-Expr e) (roll-out-Expr e) w env h

  gives_of : {vars : List Ty} {e : Expr} {t : Ty} → HasType core vars e t → (env : List Value) → AreOf core.types vars env → (v : Value) → meaning e env ≡ Gives v → is_value core.types t v ≡ true
  gives_of {t = t} has env is v gives = subst (λ o. is_outcome core t o ≡ true) gives (typed core own down call called has env is)

  long_of : {vars : List Ty} {e : Expr} (count : ℕ) (item : Ty) → HasType core vars e (shape.Vector count item) → (env : List Value) → AreOf core.types vars env → (v : Value)
      → meaning e env ≡ Gives v → length (parts_in (out-Value v)) ≡ count
  long_of count item has env is v gives =
      vector_long count (is_value core.types item) (out-Value v) (sym (vector-value (is_named_value core.types (length core.types.sums)) v count item) ∙ gives_of has env is v gives)

  args_of : {vars : List Ty} {es : List Expr} {ts : List Ty} → HaveTypes core vars es ts → (env : List Value) → AreOf core.types vars env → (vs : List Value)
      → in_order (map meaning es) env ≡ All vs → AreOf core.types ts vs
  args_of HaveTypes.none env is vs e = rw (← all_same [] vs e) refl
  args_of {es = e ∷ es} (HaveTypes.one {tys = ts} first rest) env is vs all =
      let k = rest_of (meaning e env) (in_order (map meaning es) env) vs all in
      rw (← k.4) (both_true _ _ (gives_of first env is k.0 k.2) (args_of rest env is k.1 k.3))

  abbrev arm_patterns : List (PatC × Expr) → List PatC
  arm_patterns arms = filter_map (λ (arm : PatC × Expr). Some arm.0) arms

  patterns_of : {vars : List Ty} {of t : Ty} {arms : List (PatC × Expr)} → ArmsHaveType core vars of arms t → ArePatternsOf core.types of (arm_patterns arms)
  patterns_of ArmsHaveType.no_arm = ArePatternsOf.none
  patterns_of (ArmsHaveType.one_arm {bound = ys} pattern body rest) = ArePatternsOf.one ys pattern (patterns_of rest)

  abbrev some_arms : List (PatC × Expr) → Bool
  some_arms arms = list_any (λ (arm : PatC × Expr). raises arm.1) arms

  objects : (es : List Expr) (make : List Value → Value) (env : List Value) → CoversAll exn (list_any raises es) (in_order (map meaning es) env)
      → Covers exn (list_any raises es) (with_all (in_order (map meaning es) env) (λ vs. Gives (make vs)))
  objects es make env p = weaker exn (list_any raises es || false) _ _ (or_none _) (all_covers exn _ _ _ _ p (λ vs e. gives_covers exn _ _))

  pairs : (a b : Expr) (o : Op) (t : Ty) (env : List Value) → Covers exn (raises a) (meaning a env) → Covers exn (raises b) (meaning b env)
      → Covers exn (list_any raises (a ∷ b ∷ []) || ((exn == DIV_ZERO) && divisor_may_be_zero o (a ∷ b ∷ []))) (with_all (in_order (meaning a ∷ meaning b ∷ []) env) (prim o t))
  pairs a b o t env pa pb =
      all_covers exn _ _ _ _ (rest_covers exn _ _ _ _ pa (rest_covers exn _ _ _ _ pb (record { by = λ k e. cc })))
      (λ vs e. let k = two_values (meaning a env) (meaning b env) vs e in
      subst (λ us. Covers exn ((exn == DIV_ZERO) && divisor_may_be_zero o (a ∷ b ∷ [])) (prim o t us)) k.4
      (two_covers exn o t a b k.0 k.1 (λ w h. known_word (meaning b env) k.1 w k.3 (literal b w env h))))

  mutual
    pub covers : {vars : List Ty} {e : Expr} {t : Ty} → HasType core vars e t → (env : List Value) → AreOf core.types vars env → Covers exn (raises e) (meaning e env)
    covers (HasType.word w ok) env is = by_form exn _ _ _ _ (raises-word core.types raising exn w) (eval-word call env w) (gives_covers exn _ _)
    covers (HasType.variable n found) env is = by_form exn _ _ _ _ (raises-var core.types raising exn n) (eval-variable call env n) (gives_covers exn _ _)
    covers (HasType.con number c sum {parts = es} found within parts) env is =
        by_form exn _ _ _ _ (raises-con core.types raising exn c es) (eval-con call env c es) (objects es (λ vs. value.Con c vs) env (all_cover parts env is))
    covers (HasType.tuple {parts = es} parts) env is =
        by_form exn _ _ _ _ (raises-tuple core.types raising exn es) (eval-tuple call env es) (objects es (λ vs. value.Tuple vs) env (all_cover parts env is))
    covers (HasType.vector count item {parts = es} parts) env is =
        by_form exn _ _ _ _ (raises-vect core.types raising exn es) (eval-vector call env es) (objects es (λ vs. value.Vector vs) env (all_cover parts env is))
    covers (HasType.arithmetic o t arith_op num (HaveTypes.one {e = a} first (HaveTypes.one {e = b} second HaveTypes.none))) env is =
        by_form exn _ _ _ _ (raises-prim core.types raising exn o t (a ∷ b ∷ [])) (eval-prim call env o t (a ∷ b ∷ [])) (pairs a b o t env (covers first env is) (covers second env is))
    covers (HasType.comparison o t compares (HaveTypes.one {e = a} first (HaveTypes.one {e = b} second HaveTypes.none))) env is =
        by_form exn _ _ _ _ (raises-prim core.types raising exn o t (a ∷ b ∷ [])) (eval-prim call env o t (a ∷ b ∷ [])) (pairs a b o t env (covers first env is) (covers second env is))
    covers (HasType.negation t {parts = es} num parts) env is =
        by_form exn _ _ _ _ (raises-prim core.types raising exn op.Neg t es) (eval-prim call env op.Neg t es) (all_covers exn _ _ _ _ (all_cover parts env is) (λ vs e. neg_covers exn t _ vs))
    covers (HasType.opposite {parts = es} parts) env is =
        by_form exn _ _ _ _ (raises-prim core.types raising exn op.Not shape.Bool es) (eval-prim call env op.Not shape.Bool es)
        (all_covers exn _ _ _ _ (all_cover parts env is) (λ vs e. not_covers exn shape.Bool _ vs))
    covers (HasType.conversion from to {parts = es} from_num num parts) env is =
        by_form exn _ _ _ _ (raises-prim core.types raising exn op.Convert to es) (eval-prim call env op.Convert to es)
        (all_covers exn _ _ _ _ (all_cover parts env is) (λ vs e. convert_covers exn to _ vs))
    covers (HasType.index count places item {vector = v} {place = p} num whole at) env is =
        by_form exn _ _ _ _ (raises-index core.types raising exn count v p) (eval-index call env count v p)
        (then_covers exn _ _ _ _ (covers whole env is) (λ a ga. then_covers exn _ _ _ _ (covers at env is) (λ b gb.
        item_covers exn count (literal_of p) (parts_in (out-Value a)) a b refl (long_of count item whole env is a ga) (λ w h. known_word (meaning p env) b w gb (literal p w env h)))))
    covers (HasType.update count places item {vector = v} {place = p} {new_item = e} num whole at new) env is =
        by_form exn _ _ _ _ (raises-update core.types raising exn count v p e) (eval-update call env count v p e)
        (then_covers exn _ _ _ _ (covers whole env is) (λ a ga. then_covers exn _ _ _ _ (covers at env is) (λ b gb. then_covers exn _ _ _ _ (covers new env is) (λ c gc.
        update_covers exn count (literal_of p) a b c (λ w h. known_word (meaning p env) b w gb (literal p w env h))))))
    covers (HasType.choice {test = c} {when_true = a} {when_false = b} test first second) env is =
        by_form exn _ _ _ _ (raises-if core.types raising exn c a b) (eval-choice call env c a b)
        (then_covers exn _ _ _ _ (covers test env is) (λ v g. either exn (word_of_value v == 0) _ _ _
        (λ h. weaker exn _ _ _ (or_right (raises a) (raises b)) (covers second env is)) (λ h. weaker exn _ _ _ (or_left (raises a) (raises b)) (covers first env is))))
    covers (HasType.alternatives of {part = e} {forms = forms} {arms = ways} part is_of arms) env is =
        let complete = are_complete core.types forms (arm_patterns ways) in
        by_form exn _ _ _ _ (raises-case core.types raising exn e forms ways) (eval-case call env e forms ways)
        (then_covers exn _ _ _ _ (covers part env is) (λ v g.
        arms_cover arms env is v (gives_of part env is v g) (not complete)
        (incomplete complete (is_matched (arm_patterns ways) v) (λ h. complete_matched core.types down of (arm_patterns ways) (patterns_of arms) (subst (λ f. are_complete core.types f (arm_patterns ways) ≡ true) is_of h) v (gives_of part env is v g)))))
    covers (HasType.binding {vars = xs} of {part = a} {body = b} part body) env is =
        by_form exn _ _ _ _ (raises-let core.types raising exn a b) (eval-let call env a b)
        (then_covers exn _ _ _ _ (covers part env is) (λ v g. covers body (env ++ v ∷ []) (of_both core.types xs (of ∷ []) env (v ∷ []) is (one_of core.types of v (gives_of part env is v g)))))
    covers (HasType.call number function {parts = es} found parts) env is =
        by_form exn _ _ _ _ (raises-call core.types raising exn number es) (eval-call call env number es)
        (all_covers exn _ _ _ _ (all_cover parts env is) (λ vs e. covered number function found vs (args_of parts env is vs e)))
    covers (HasType.raise_alone number x found carries) env is =
        by_form exn _ _ _ _ (raises-alone core.types raising exn number) (eval-raise-none call env number) (record { by = λ k e. eq-eqb number exn (ap exn_of e) })
    covers (HasType.raise_with number x carried {part = p} found carries part) env is =
        by_form exn _ _ _ _ (raises-with core.types raising exn number p) (eval-raise-some call env number p)
        (then_covers exn _ _ _ _ (covers part env is) (λ v g. record { by = λ k e. eq-eqb number exn (ap exn_of e) }))

    pub all_cover : {vars : List Ty} {es : List Expr} {ts : List Ty} → HaveTypes core vars es ts → (env : List Value) → AreOf core.types vars env
        → CoversAll exn (list_any raises es) (in_order (map meaning es) env)
    all_cover HaveTypes.none env is = record { by = λ k e. cc }
    all_cover (HaveTypes.one first rest) env is = rest_covers exn _ _ _ _ (covers first env is) (all_cover rest env is)

    pub arms_cover : {vars : List Ty} {of : Ty} {arms : List (PatC × Expr)} {t : Ty} → ArmsHaveType core vars of arms t → (env : List Value) → AreOf core.types vars env → (v : Value)
        → is_value core.types of v ≡ true → (left : Bool) → (is_matched (arm_patterns arms) v ≡ false → left ≡ true)
        → Covers exn (some_arms arms || ((exn == NO_CASE) && left)) (first_arm (map (arm_with meaning) arms) v env)
    arms_cover ArmsHaveType.no_arm env is v is_v left go = own_covers exn NO_CASE left (go refl)
    arms_cover (ArmsHaveType.one_arm {vars = xs} {bound = ys} {p = p} {e = e} {arms = more} pattern body rest) env is v is_v left go =
        weaker exn _ _ _ (or_assoc (raises e) (some_arms more) ((exn == NO_CASE) && left))
        (match_covers exn (matches p v) _ _ (raises e) (some_arms more || ((exn == NO_CASE) && left))
        (λ vs found. covers body (env ++ vs) (of_both core.types xs ys env vs is (pattern_typed core.types down pattern v vs is_v found)))
        (λ none. arms_cover rest env is v is_v left (λ h. go (none_left (matches p v) _ none h))))
