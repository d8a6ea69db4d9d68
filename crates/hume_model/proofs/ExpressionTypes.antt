-- An expression of a type gives a value of the type, or raises an exception of the core with a value of what it carries.
use Rattle.std.proofs.Common.{◌≡◌, ℕ, zero, suc, ◌-◌, nat_lt, ◌==◌, ◌&&◌, not, Bool, true, false, if◌then◌else◌, pos, neg_ℤ, List, [], ◌∷◌, ◌++◌, map, length, replicate, Option, Some, None, slice_get, slice_set, refl, ap, sym, ◌∙◌, subst}
use Rattle.std.proofs.lemmas.Bool.{and_parts, eq-eqb, lt-ltb}
use Rattle.std.specs.List.{list_all}
use Rattle.std.specs.Int.RustNames.{int_lt, int_le, int_div, int_rem}
use Rattle.hume_base.specs.declared.types.Ty.{Ty, out-Ty}
use Rattle.hume_base.specs.declared.types.Ty.TheVariants as shape
use Rattle.hume_base.specs.declared.types.Value.{Value, out-Value}
use Rattle.hume_base.specs.declared.types.Value.TheOpen.{Value-F}
use Rattle.hume_base.specs.declared.types.Value.TheVariants as value
use Rattle.hume_base.specs.Flat.{parts_in}
use Rattle.hume_base.specs.Holding.{HoldSmaller}
use Rattle.hume_base.specs.Values.{is_value, is_named_value, all_pass, is_con_of, is_tuple_of, is_vector_of, is_word_of, fields_at}
use Rattle.hume_model.specs.declared.core_tree.Op.{Op}
use Rattle.hume_model.specs.declared.core_tree.Op.TheVariants as op
use Rattle.hume_model.specs.declared.core_tree.PatC.{PatC}
use Rattle.hume_model.specs.declared.core_tree.Expr.{Expr}
use Rattle.hume_model.specs.declared.core_tree.FunC.{FunC}
use Rattle.hume_model.specs.declared.core_tree.ExnDef.{ExnDef}
use Rattle.hume_model.specs.declared.core_tree.Core.{Core}
use Rattle.hume_model.specs.declared.outcome.Outcome.{Outcome}
use Rattle.hume_model.specs.declared.outcome.Outcome.TheVariants.{Gives, Raises}
use Rattle.hume_model.specs.declared.outcome.Several.{Several}
use Rattle.hume_model.specs.declared.outcome.Several.TheVariants.{All, Raised}
use Rattle.hume_model.specs.Outcomes.{and_then, with_all, in_order, then_rest, on_match}
use Rattle.hume_base.specs.Flat.{word_of_value}
use Rattle.hume_model.specs.Operations.{prim, binary, unary, gives_truth, number_at, is_place, item_of, item_or_raise, updated}
use Rattle.hume_model.specs.Patterns.{matches}
use Rattle.hume_model.specs.Meaning.{Calls, eval_with, variable, first_arm}
use Rattle.hume_model.specs.inner.Arms.{arm_with}
use Rattle.hume_model.specs.Typing.{AreOf, HasType, HaveTypes, ArmsHaveType, is_outcome, is_raised, is_number_type, is_arithmetic, is_comparison}
use Rattle.hume_model.proofs.OwnExceptions.{AreRaised}
use Rattle.hume_model.proofs.Layers.{out-word, out-tuple, out-vector, out-con, bool-value, tuple-value, vector-value, eval-word, eval-variable, eval-con, eval-tuple, eval-vector, eval-prim, eval-index, eval-update, eval-choice, eval-case, eval-let, eval-call, eval-raise-none, eval-raise-some}
use Rattle.hume_model.proofs.Fields.{data-value}
use Rattle.hume_model.proofs.PatternTypes.{both_true, of_both, one_of, pattern_typed}
use Rattle.hume_model.proofs.Widths.{number-value}

either : (P : Outcome → Type 0) (b : Bool) (x y : Outcome) → P x → P y → P (if b then x else y)
either P true x y p q = p
either P false x y p q = q

cc_false : (b : Bool) → (b && false) ≡ true → ⊥
cc_false true h = cc
cc_false false h = cc

all_set : (test : Value → Bool) (vs : List Value) (k : ℕ) (v : Value) → list_all test vs ≡ true → test v ≡ true → list_all test (slice_set vs k v) ≡ true
all_set test [] k v p q = refl
all_set test (u ∷ us) zero v p q = both_true _ _ q (and_parts _ _ p).1
all_set test (u ∷ us) (suc k) v p q = let ps = and_parts _ _ p in both_true _ _ ps.0 (all_set test us k v ps.1 q)

length_set : (vs : List Value) (k : ℕ) (v : Value) → length (slice_set vs k v) ≡ length vs
length_set [] k v = refl
length_set (u ∷ us) zero v = refl
length_set (u ∷ us) (suc k) v = ap suc (length_set us k v)

module _ (core : Core) where
  abbrev IsOf : Ty → Value → Type 0
  IsOf t v = is_value core.types t v ≡ true

  abbrev GivesOf : Ty → Outcome → Type 0
  GivesOf t o = is_outcome core t o ≡ true

  abbrev AllOf : List Ty → List Value → Type 0
  AllOf ts vs = AreOf core.types ts vs

  abbrev are_several : List Ty → Several → Bool
  are_several ts (All vs) = all_pass (map (is_value core.types) ts) vs
  are_several ts (Raised exn carried) = is_raised core.types (slice_get core.exns exn) carried

  and_then_typed : (s t : Ty) (o : Outcome) (go : Value → Outcome) → GivesOf s o → ((v : Value) → IsOf s v → GivesOf t (go v)) → GivesOf t (and_then o go)
  and_then_typed s t (Gives v) go p q = q v p
  and_then_typed s t (Raises exn carried) go p q = p

  with_all_typed : (ts : List Ty) (t : Ty) (s : Several) (go : List Value → Outcome) → are_several ts s ≡ true
      → ((vs : List Value) → AllOf ts vs → GivesOf t (go vs)) → GivesOf t (with_all s go)
  with_all_typed ts t (All vs) go p q = q vs p
  with_all_typed ts t (Raised exn carried) go p q = p

  then_rest_typed : (t : Ty) (ts : List Ty) (o : Outcome) (rest : Several) → GivesOf t o → are_several ts rest ≡ true → are_several (t ∷ ts) (then_rest o rest) ≡ true
  then_rest_typed t ts (Gives v) (All vs) p q = both_true _ _ p q
  then_rest_typed t ts (Gives v) (Raised exn carried) p q = q
  then_rest_typed t ts (Raises exn carried) rest p q = p

  variable_typed : (vars : List Ty) (env : List Value) (n : ℕ) (t : Ty) → slice_get vars n ≡ Some t → AllOf vars env → IsOf t (variable (slice_get env n))
  variable_typed [] env n t found is = cc
  variable_typed (s ∷ vars) [] n t found is = cc
  variable_typed (s ∷ vars) (v ∷ env) zero t found is = let same : s ≡ t = cc in subst (λ x. IsOf x v) same (and_parts _ _ is).0
  variable_typed (s ∷ vars) (v ∷ env) (suc n) t found is = variable_typed vars env n t found (and_parts _ _ is).1

  abbrev named : ℕ → Value → Bool
  named = is_named_value core.types (length core.types.sums)

  -- a vector of the type has elements of the type
  vector_items : (count : ℕ) (item : Ty) (l : Value-F Value) → is_vector_of count (is_value core.types item) l ≡ true
      → ((length (parts_in l) == count) ≡ true) × (list_all (is_value core.types item) (parts_in l) ≡ true)
  vector_items count item (Value-F.Vector vs) is = let ps = and_parts _ _ is in (ps.0, ps.1)
  vector_items count item (Value-F.Word w) is = cc
  vector_items count item (Value-F.Tuple vs) is = cc
  vector_items count item (Value-F.Con c vs) is = cc

  vector_of : (count : ℕ) (item : Ty) (vs : List Value) → (length vs == count) ≡ true → list_all (is_value core.types item) vs ≡ true
      → IsOf (shape.Vector count item) (value.Vector vs)
  vector_of count item vs long all =
      vector-value named (value.Vector vs) count item ∙ ap (is_vector_of count (is_value core.types item)) (out-vector vs) ∙ both_true _ _ long all

  replicated : (count : ℕ) (item : Ty) (vs : List Value) → AllOf (replicate {A = Ty} count item) vs → (length vs ≡ count) × (list_all (is_value core.types item) vs ≡ true)
  replicated zero item [] is = (refl, refl)
  replicated zero item (v ∷ vs) is = cc
  replicated (suc count) item [] is = cc
  replicated (suc count) item (v ∷ vs) is =
      let ps = and_parts _ _ is in
      let rest = replicated count item vs ps.1 in
      (ap suc rest.0, both_true _ _ ps.0 rest.1)

  module _ (own : AreRaised core) where
    item_typed : (item : Ty) (vs : List Value) (k : ℕ) → list_all (is_value core.types item) vs ≡ true → GivesOf item (item_or_raise (slice_get vs k))
    item_typed item [] k all = own.range
    item_typed item (v ∷ vs) zero all = (and_parts _ _ all).0
    item_typed item (v ∷ vs) (suc k) all = item_typed item vs k (and_parts _ _ all).1

    index_typed : (count : ℕ) (item : Ty) (v p : Value) → IsOf (shape.Vector count item) v → GivesOf item (item_of count v p)
    index_typed count item v p is =
        let parts = vector_items count item (out-Value v) (sym (vector-value named v count item) ∙ is) in
        either (GivesOf item) (is_place count (word_of_value p)) _ _ (item_typed item (parts_in (out-Value v)) (word_of_value p - 1) parts.1) own.range

    update_typed : (count : ℕ) (item : Ty) (v p x : Value) → IsOf (shape.Vector count item) v → IsOf item x → GivesOf (shape.Vector count item) (updated count v p x)
    update_typed count item v p x is new =
        let vs = parts_in (out-Value v) in
        let k = word_of_value p - 1 in
        let parts = vector_items count item (out-Value v) (sym (vector-value named v count item) ∙ is) in
        either (GivesOf (shape.Vector count item)) (is_place count (word_of_value p)) _ _
        (vector_of count item (slice_set vs k x) (ap (λ n. n == count) (length_set vs k x) ∙ parts.0) (all_set (is_value core.types item) vs k x parts.1 new))
        own.range

    truth_typed : (b : Bool) → GivesOf shape.Bool (gives_truth b)
    truth_typed true = bool-value named (value.Word 1) ∙ ap (is_word_of (λ word. nat_lt word 2)) (out-word 1)
    truth_typed false = bool-value named (value.Word 0) ∙ ap (is_word_of (λ word. nat_lt word 2)) (out-word 0)

    arithmetic_typed : (o : Op) (t : Ty) (a b : ℕ) → is_arithmetic o ≡ true → is_number_type t ≡ true → GivesOf t (binary o (out-Ty t) a b)
    arithmetic_typed op.Add t a b is num = number-value core.types t num _
    arithmetic_typed op.Sub t a b is num = number-value core.types t num _
    arithmetic_typed op.Mul t a b is num = number-value core.types t num _
    arithmetic_typed op.Div t a b is num = either (GivesOf t) (b == 0) _ _ own.div_zero (number-value core.types t num (int_div (number_at (out-Ty t) a) (number_at (out-Ty t) b)))
    arithmetic_typed op.Mod t a b is num = either (GivesOf t) (b == 0) _ _ own.div_zero (number-value core.types t num (int_rem (number_at (out-Ty t) a) (number_at (out-Ty t) b)))
    arithmetic_typed op.Neg t a b is num = cc
    arithmetic_typed op.Not t a b is num = cc
    arithmetic_typed op.Convert t a b is num = cc
    arithmetic_typed op.Eq t a b is num = cc
    arithmetic_typed op.Ne t a b is num = cc
    arithmetic_typed op.Lt t a b is num = cc
    arithmetic_typed op.Le t a b is num = cc
    arithmetic_typed op.Gt t a b is num = cc
    arithmetic_typed op.Ge t a b is num = cc

    comparison_typed : (o : Op) (t : Ty) (a b : ℕ) → is_comparison o t ≡ true → GivesOf shape.Bool (binary o (out-Ty t) a b)
    comparison_typed op.Eq t a b is = truth_typed (a == b)
    comparison_typed op.Ne t a b is = truth_typed (not (a == b))
    comparison_typed op.Lt t a b is = truth_typed (int_lt (number_at (out-Ty t) a) (number_at (out-Ty t) b))
    comparison_typed op.Le t a b is = truth_typed (int_le (number_at (out-Ty t) a) (number_at (out-Ty t) b))
    comparison_typed op.Gt t a b is = truth_typed (int_lt (number_at (out-Ty t) b) (number_at (out-Ty t) a))
    comparison_typed op.Ge t a b is = truth_typed (int_le (number_at (out-Ty t) b) (number_at (out-Ty t) a))
    comparison_typed op.Add t a b is = cc
    comparison_typed op.Sub t a b is = cc
    comparison_typed op.Mul t a b is = cc
    comparison_typed op.Div t a b is = cc
    comparison_typed op.Mod t a b is = cc
    comparison_typed op.Neg t a b is = cc
    comparison_typed op.Not t a b is = cc
    comparison_typed op.Convert t a b is = cc

    -- an operation on two operands, and on one
    on_two : (o : Op) (t u : Ty) (vs : List Value) → ((a b : ℕ) → GivesOf u (binary o (out-Ty t) a b)) → AllOf (t ∷ t ∷ []) vs → GivesOf u (prim o t vs)
    on_two o t u [] typed is = cc
    on_two o t u (v ∷ []) typed is = absurd (cc_false (is_value core.types t v) is)
    on_two o t u (v ∷ w ∷ []) typed is = typed (word_of_value v) (word_of_value w)
    on_two o t u (v ∷ w ∷ x ∷ vs) typed is = absurd (cc_false (is_value core.types t w) (and_parts _ _ is).1)

    on_one : (o : Op) (s t u : Ty) (vs : List Value) → ((a : ℕ) → GivesOf u (unary o (out-Ty t) a)) → AllOf (s ∷ []) vs → GivesOf u (prim o t vs)
    on_one o s t u [] typed is = cc
    on_one o s t u (v ∷ []) typed is = typed (word_of_value v)
    on_one o s t u (v ∷ w ∷ []) typed is = absurd (cc_false (is_value core.types s v) is)
    on_one o s t u (v ∷ w ∷ x ∷ vs) typed is = absurd (cc_false (is_value core.types s v) is)

    module _ (down : HoldSmaller core.types) (call : Calls)
        (called : (f : ℕ) (function : FunC) → slice_get core.funs f ≡ Some function → (args : List Value) → AllOf function.params args → GivesOf function.gives (call f args)) where
      pub matched_arm : (t : Ty) (m : Option (List Value)) (go : List Value → Outcome) (other : Outcome)
          → ((vs : List Value) → m ≡ Some vs → GivesOf t (go vs)) → GivesOf t other → GivesOf t (on_match m go other)
      matched_arm t None go other p q = q
      matched_arm t (Some vs) go other p q = p vs refl

      raised_alone : (o : Option ExnDef) (exn : ExnDef) → o ≡ Some exn → exn.carries ≡ None → is_raised core.types o None ≡ true
      raised_alone o exn found carries = rw (found, carries) refl

      raised_with : (o : Option ExnDef) (exn : ExnDef) (t : Ty) (v : Value) → o ≡ Some exn → exn.carries ≡ Some t → IsOf t v → is_raised core.types o (Some v) ≡ true
      raised_with o exn t v found carries is = rw (found, carries) is

      mutual
        pub typed : {vars : List Ty} {e : Expr} {t : Ty} → HasType core vars e t → (env : List Value) → AllOf vars env → GivesOf t (eval_with call e env)
        typed (HasType.word {ty = t} w ok) env is = ap (is_outcome core t) (eval-word call env w) ∙ ok
        typed (HasType.variable {vars = xs} {ty = t} n found) env is = ap (is_outcome core t) (eval-variable call env n) ∙ variable_typed xs env n t found is
        typed (HasType.con number place sum {parts = es} found within parts) env is =
            ap (is_outcome core (shape.Named number)) (eval-con call env place es)
            ∙ with_all_typed (fields_at sum place) (shape.Named number) _ _ (all_typed parts env is) (λ vs all.
            data-value core.types down number sum found (value.Con place vs) ∙ ap (is_con_of (is_value core.types) sum) (out-con place vs) ∙ both_true _ _ (lt-ltb place (length sum.cons) within) all)
        typed (HasType.tuple {parts = es} {tys = ts} parts) env is =
            ap (is_outcome core (shape.Tuple ts)) (eval-tuple call env es)
            ∙ with_all_typed ts (shape.Tuple ts) _ _ (all_typed parts env is) (λ vs all.
            tuple-value named (value.Tuple vs) ts ∙ ap (is_tuple_of (map (is_value core.types) ts)) (out-tuple vs) ∙ all)
        typed (HasType.vector count item {parts = es} parts) env is =
            ap (is_outcome core (shape.Vector count item)) (eval-vector call env es)
            ∙ with_all_typed (replicate {A = Ty} count item) (shape.Vector count item) _ _ (all_typed parts env is) (λ vs all.
            let items = replicated count item vs all in vector_of count item vs (eq-eqb (length vs) count items.0) items.1)
        typed (HasType.arithmetic o t {parts = es} arith_op num parts) env is =
            ap (is_outcome core t) (eval-prim call env o t es)
            ∙ with_all_typed (t ∷ t ∷ []) t _ _ (all_typed parts env is) (λ vs all. on_two o t t vs (λ a b. arithmetic_typed o t a b arith_op num) all)
        typed (HasType.comparison o t {parts = es} compares parts) env is =
            ap (is_outcome core shape.Bool) (eval-prim call env o t es)
            ∙ with_all_typed (t ∷ t ∷ []) shape.Bool _ _ (all_typed parts env is) (λ vs all. on_two o t shape.Bool vs (λ a b. comparison_typed o t a b compares) all)
        typed (HasType.negation t {parts = es} num parts) env is =
            ap (is_outcome core t) (eval-prim call env op.Neg t es)
            ∙ with_all_typed (t ∷ []) t _ _ (all_typed parts env is) (λ vs all. on_one op.Neg t t t vs (λ a. number-value core.types t num (neg_ℤ (number_at (out-Ty t) a))) all)
        typed (HasType.opposite {parts = es} parts) env is =
            ap (is_outcome core shape.Bool) (eval-prim call env op.Not shape.Bool es)
            ∙ with_all_typed (shape.Bool ∷ []) shape.Bool _ _ (all_typed parts env is) (λ vs all. on_one op.Not shape.Bool shape.Bool shape.Bool vs (λ a. truth_typed (a == 0)) all)
        typed (HasType.conversion from to {parts = es} from_num num parts) env is =
            ap (is_outcome core to) (eval-prim call env op.Convert to es)
            ∙ with_all_typed (from ∷ []) to _ _ (all_typed parts env is) (λ vs all. on_one op.Convert from to to vs (λ a. number-value core.types to num (pos a)) all)
        typed (HasType.index count places item {vector = v} {place = p} num whole at) env is =
            ap (is_outcome core item) (eval-index call env count v p)
            ∙ and_then_typed (shape.Vector count item) item _ _ (typed whole env is) (λ a is_a.
            and_then_typed places item _ _ (typed at env is) (λ b is_b. index_typed count item a b is_a))
        typed (HasType.update count places item {vector = v} {place = p} {new_item = e} num whole at new) env is =
            ap (is_outcome core (shape.Vector count item)) (eval-update call env count v p e)
            ∙ and_then_typed (shape.Vector count item) (shape.Vector count item) _ _ (typed whole env is) (λ a is_a.
            and_then_typed places (shape.Vector count item) _ _ (typed at env is) (λ b is_b.
            and_then_typed item (shape.Vector count item) _ _ (typed new env is) (λ x is_x. update_typed count item a b x is_a is_x)))
        typed (HasType.choice {ty = t} {test = c} {when_true = a} {when_false = b} test first second) env is =
            ap (is_outcome core t) (eval-choice call env c a b)
            ∙ and_then_typed shape.Bool t _ _ (typed test env is) (λ v is_v. either (GivesOf t) (word_of_value v == 0) _ _ (typed second env is) (typed first env is))
        typed (HasType.alternatives of {ty = t} {part = e} {forms = forms} {arms = ways} part is_of arms) env is =
            ap (is_outcome core t) (eval-case call env e forms ways)
            ∙ and_then_typed of t _ _ (typed part env is) (λ v is_v. arms_typed arms env is v is_v)
        typed (HasType.binding {vars = xs} of {ty = t} {part = a} {body = b} part body) env is =
            ap (is_outcome core t) (eval-let call env a b)
            ∙ and_then_typed of t _ _ (typed part env is) (λ v is_v. typed body (env ++ v ∷ []) (of_both core.types xs (of ∷ []) env (v ∷ []) is (one_of core.types of v is_v)))
        typed (HasType.call number function {parts = es} found parts) env is =
            ap (is_outcome core function.gives) (eval-call call env number es)
            ∙ with_all_typed function.params function.gives _ _ (all_typed parts env is) (λ vs all. called number function found vs all)
        typed (HasType.raise_alone {ty = t} number exn found carries) env is =
            ap (is_outcome core t) (eval-raise-none call env number) ∙ raised_alone (slice_get core.exns number) exn found carries
        typed (HasType.raise_with {ty = t} number exn carried {part = e} found carries part) env is =
            ap (is_outcome core t) (eval-raise-some call env number e)
            ∙ and_then_typed carried t _ _ (typed part env is) (λ v is_v. raised_with (slice_get core.exns number) exn carried v found carries is_v)

        pub all_typed : {vars : List Ty} {es : List Expr} {ts : List Ty} → HaveTypes core vars es ts → (env : List Value) → AllOf vars env
            → are_several ts (in_order (map (eval_with call) es) env) ≡ true
        all_typed HaveTypes.none env is = refl
        all_typed (HaveTypes.one {ty = t} {tys = ts} first rest) env is = then_rest_typed t ts _ _ (typed first env is) (all_typed rest env is)

        pub arms_typed : {vars : List Ty} {of : Ty} {arms : List (PatC × Expr)} {t : Ty} → ArmsHaveType core vars of arms t → (env : List Value) → AllOf vars env
            → (v : Value) → IsOf of v → GivesOf t (first_arm (map (arm_with (eval_with call)) arms) v env)
        arms_typed ArmsHaveType.no_arm env is v is_v = own.no_case
        arms_typed (ArmsHaveType.one_arm {vars = xs} {bound = ys} {ty = t} {p = p} pattern body rest) env is v is_v =
            matched_arm t (matches p v) _ _ (λ vs found. typed body (env ++ vs) (of_both core.types xs ys env vs is (pattern_typed core.types down pattern v vs is_v found)))
            (arms_typed rest env is v is_v)
