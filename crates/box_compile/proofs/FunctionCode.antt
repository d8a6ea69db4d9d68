-- The code of equations, and of functions one after another.
use Rattle.std.proofs.Common.{◌≡◌, ℕ, Bool, zero, suc, ◌+◌, ◌<◌, ◌≤◌, nat_lt, if◌then◌else◌, true, false, List, [], ◌∷◌, ◌++◌, length, Option, Some, None, slice_get, refl, ap, sym, ◌∙◌, subst, append_assoc, arith}
use Rattle.std.proofs.lemmas.Bool.{ltb-true, ltb-false}
use Rattle.std.proofs.lemmas.List.{length-append}
use Rattle.std.specs.Option.{option_and_then}
use Rattle.hume_model.specs.declared.core_tree.EqC.{EqC}
use Rattle.hume_model.specs.declared.core_tree.FunC.{FunC}
use Rattle.hume_model.specs.declared.core_tree.Core.{Core}
use Rattle.hume_model.specs.declared.exceptions.TheConstants.{NO_CASE}
use Rattle.box_code.specs.declared.instr.Instr.TheVariants.{Raise, Return}
use Rattle.box_code.specs.Words.{StandsAt}
use Rattle.box_code.specs.Paths.{Spot, Test, tests_from, spots_from}
use Rattle.box_code.specs.Represents.{counted, Represents, TestsStand, FieldsStand, EquationsStand, FunctionsStand, below}
use Rattle.box_compile.proofs.Lists.{append_nil, get_last}
use Rattle.box_compile.specs.inner.Emitted.{Emitted}
use Rattle.box_compile.specs.inner.Entries.{entry_in, EquationsBegin, FunctionStands}
use Rattle.box_compile.proofs.Appending.{grows_not, grows_more, still}
use Rattle.box_compile.proofs.Forms.{Done, Added}

module _ {entry : ℕ → Option ℕ} {count : ℕ} where
  pub no_equations : {a : List ℕ} → Emitted a a (λ code from to. EquationsBegin code entry count from to [])
  no_equations = record { grown = grows_not; stands = λ code grows. record { followed = λ others s. s } }

  pub equations_more : {a b c : List ℕ} (equations : List EqC) (equation : EqC) → Emitted a b
      (λ code from to. EquationsBegin code entry count from to equations)
      → Emitted b c (λ code from to. EquationsBegin code entry count from to (equation ∷ [])) → Emitted a c
      (λ code from to. EquationsBegin code entry count from to (equations ++ equation ∷ []))
  equations_more {a = a} equations equation e f = record {
    grown = grows_more e.grown f.grown;
    stands = λ code grows. record {
      followed = λ others s. subst (λ l. EquationsStand code entry count (length a) l) (sym (append_assoc equations (equation ∷ []) others))
          ((still e f.grown code grows).followed (equation ∷ others) ((f.stands code grows).followed others s));
    };
  }

  pub equations_done : {a b c : List ℕ} (equations : List EqC) → Emitted a b (λ code from to. EquationsBegin code entry count from to equations)
      → Added b c (Raise NO_CASE false) → Emitted a c (λ code from to. EquationsStand code entry count from equations)
  equations_done {a = a} {c = c} equations e f = record {
    grown = grows_more e.grown f.grown;
    stands = λ code grows. subst (λ l. EquationsStand code entry count (length a) l) (append_nil equations)
        ((still e f.grown code grows).followed [] (EquationsStand.none (length c) (f.stands code grows)));
  }

  pub equation_done : {a b c d f : List ℕ} (top variables inside other : ℕ) (places : List ℕ) (equation : EqC) (tests : List Test) (spots : List Spot)
      → top ≡ count + 2 → tests ≡ tests_from equation.pats 0 → spots ≡ spots_from equation.pats 0 → variables ≡ length spots → inside ≡ top + variables
      → places ≡ counted top variables
      → Emitted a b (λ code from to. TestsStand code top other from to tests) → Emitted b c (λ code from to. FieldsStand code top from to spots)
      → Done entry places inside c d equation.body → Added d f (Return count variables) → other ≡ length f
      → Emitted a f (λ code from to. EquationsBegin code entry count from to (equation ∷ []))
  equation_done {a = a} {b = b} {c = c} {d = d} {f = f} top variables inside other places equation tests spots top_is tests_is spots_is many inside_is
      places_is et ef eb er other_is =
      let after_body = er.grown in
      let after_fields = grows_more eb.grown after_body in
      let after_tests = grows_more ef.grown after_fields in
      let all : List Spot = spots_from equation.pats 0 in
      let variables_is : variables ≡ length all = many ∙ ap length spots_is in
      record {
        grown = grows_more et.grown after_tests;
        stands = λ code grows. record {
          followed = λ others s. EquationsStand.more (length b) (length c) (length d) other
              (subst (λ k. TestsStand code k other (length a) (length b) (tests_from equation.pats 0)) top_is (subst (λ k. TestsStand code top other
              (length a) (length b) k) tests_is (still et after_tests code grows)))
              (subst (λ k. FieldsStand code k (length b) (length c) all) top_is (subst (λ k. FieldsStand code top (length b) (length c) k) spots_is
              (still ef after_fields code grows)))
              (let x : places ≡ counted (count + 2) (length all) = places_is ∙ (λ i. counted (top_is i) (variables_is i)) in
              let y : inside ≡ count + 2 + length all = inside_is ∙ (λ i. top_is i + variables_is i) in
              subst (λ k. Represents code entry k (count + 2 + length all) (length c) (length d) equation.body) x
              (subst (λ k. Represents code entry places k (length c) (length d) equation.body) y (still eb after_body code grows)))
              (subst (λ k. StandsAt code (length d) (Return count k) other) variables_is (subst (λ k. StandsAt code (length d) (Return count variables) k)
              (sym other_is) (er.stands code grows)))
              (subst (λ k. EquationsStand code entry count k others) (sym other_is) s);
        };
      }

get_old : {X : Type 0} (xs ys : List X) (i : ℕ) → i < length xs → slice_get (xs ++ ys) i ≡ slice_get xs i
get_old [] ys i low = absurd (omega (arith, low))
get_old (x ∷ xs) ys zero low = refl
get_old (x ∷ xs) ys (suc i) low = get_old xs ys i (omega (arith, low))

get_past : {X : Type 0} (xs : List X) (i : ℕ) → length xs ≤ i → slice_get xs i ≡ None
get_past [] i past = refl
get_past (x ∷ xs) zero past = absurd (omega (arith, past))
get_past (x ∷ xs) (suc i) past = get_past xs i (omega (arith, past))

past_is_none : (entries : List (Option ℕ)) (i : ℕ) → length entries ≤ i → entry_in entries i ≡ None
past_is_none entries i past = ap (λ (o : Option (Option ℕ)). option_and_then (λ place. place) o) (get_past entries i past)

none_is_not : (place : ℕ) (o : Option ℕ) → o ≡ None → o ≡ Some place → ⊥
none_is_not place o e f = cc

same_function : (x y : FunC) (o : Option FunC) → o ≡ Some x → o ≡ Some y → x ≡ y
same_function x y o e f = cc

entry_old : (entries more : List (Option ℕ)) (g : ℕ) → g < length entries → entry_in (entries ++ more) g ≡ entry_in entries g
entry_old entries more g low = ap (λ (o : Option (Option ℕ)). option_and_then (λ place. place) o) (get_old entries more g low)

below_old : (entries more : List (Option ℕ)) (number : ℕ) → number ≤ length entries → below number (entry_in (entries ++ more)) ≡ below number
    (entry_in entries)
below_old entries more number low = λ i g. at g (nat_lt g number) refl i
  where
    at : (g : ℕ) (b : Bool) → nat_lt g number ≡ b → (if b then entry_in (entries ++ more) g else None) ≡ (if b then entry_in entries g else None)
    at g true e = entry_old entries more g (let l = ltb-true g number e in omega (arith, l, low))
    at g false e = refl

below_all : (entries : List (Option ℕ)) → below (length entries) (entry_in entries) ≡ entry_in entries
below_all entries = λ i g. at g (nat_lt g (length entries)) refl i
  where
    at : (g : ℕ) (b : Bool) → nat_lt g (length entries) ≡ b → (if b then entry_in entries g else None) ≡ entry_in entries g
    at g true e = refl
    at g false e = sym (past_is_none entries g (ltb-false g (length entries) e))

pub no_functions : {a : List ℕ} (core : Core) → Emitted a a (λ code from to. FunctionsStand code (entry_in []) core)
no_functions core = record {
  grown = grows_not;
  stands = λ code grows number place function found at. absurd (none_is_not place (entry_in [] number)
      (past_is_none [] number (omega arith)) at);
}

functions_last : (code : List ℕ) (core : Core) (entries : List (Option ℕ)) (entry : Option ℕ) (function : FunC)
    → slice_get core.funs (length entries) ≡ Some function
    → FunctionsStand code (entry_in entries) core → FunctionStands code (entry_in entries) entry function
    → FunctionsStand code (entry_in (entries ++ entry ∷ [])) core
functions_last code core entries entry function found old new number place f here at = by (nat_lt number (length entries)) refl (nat_lt
    (length entries) number) refl
  where
    longer : length (entries ++ entry ∷ []) ≡ length entries + 1
    longer = length-append entries (entry ∷ [])

    by : (b : Bool) → nat_lt number (length entries) ≡ b → (d : Bool) → nat_lt (length entries) number ≡ d
        → EquationsStand code (below number (entry_in (entries ++ entry ∷ []))) (length f.params) place f.equations
    by true e d _ =
        let low = ltb-true number (length entries) e in
        subst (λ k. EquationsStand code k (length f.params) place f.equations) (sym (below_old entries (entry ∷ []) number (omega (arith, low))))
        (old number place f here (sym (entry_old entries (entry ∷ []) number low) ∙ at))
    by false e true h =
        let past = ltb-true (length entries) number h in
        absurd (none_is_not place _ (past_is_none (entries ++ entry ∷ []) number (omega (arith, past, longer))) at)
    by false e false h =
        let past = ltb-false number (length entries) e in
        let low = ltb-false (length entries) number h in
        let is : number ≡ length entries = omega (arith, past, low) in
        let same : function ≡ f = same_function function f (slice_get core.funs number) (ap (slice_get core.funs) is ∙ found) here in
        let is_entry : entry ≡ Some place = sym (ap (λ (o : Option (Option ℕ)). option_and_then (λ place. place) o) (get_last entries entry number is)) ∙ at in
        let inside : below number (entry_in (entries ++ entry ∷ [])) ≡ entry_in entries =
        below_old entries (entry ∷ []) number (omega (arith, low)) ∙ ap (λ n. below n (entry_in entries)) is ∙ below_all entries in
        subst (λ k. EquationsStand code k (length f.params) place f.equations) (sym inside)
        (subst (λ (g : FunC). EquationsStand code (entry_in entries) (length g.params) place g.equations) same (new.stands place is_entry))

pub functions_more : {a b c : List ℕ} (core : Core) (entries new : List (Option ℕ)) (entry : Option ℕ) (function : FunC) → new ≡ entries ++ entry ∷ []
    → slice_get core.funs (length entries) ≡ Some function → Emitted a b (λ code from to. FunctionsStand code (entry_in entries) core)
    → Emitted b c (λ code from to. FunctionStands code (entry_in entries) entry function) → Emitted a c (λ code from to. FunctionsStand code
    (entry_in new) core)
functions_more core entries new entry function is found e f = record {
  grown = grows_more e.grown f.grown;
  stands = λ code grows. subst (λ (k : List (Option ℕ)). FunctionsStand code (entry_in k) core) (sym is)
      (functions_last code core entries entry function found (still e f.grown code grows) (f.stands code grows));
}

pub one_longer : {X : Type 0} (xs ys : List X) (x : X) (i : ℕ) → ys ≡ xs ++ x ∷ [] → length xs ≡ i → length ys ≡ i + 1
one_longer xs ys x i is long = ap length is ∙ length-append xs (x ∷ []) ∙ ap (λ k. k + 1) long
