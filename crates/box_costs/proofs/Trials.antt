-- What comes of trying a value: all tests pass where it matches, and then its variables have as many values.
use Rattle.std.proofs.Common.{◌≡◌, ℕ, ◌+◌, ◌==◌, ◌≤◌, Bool, true, false, if◌then◌else◌, List, [], ◌∷◌, ◌++◌, map, length, Option, Some, None, refl, ap, sym, ◌∙◌, subst, arith}
use Rattle.std.proofs.lemmas.List.{length-append}
use Rattle.std.proofs.lemmas.Option.{same_Some}
use Rattle.std.specs.List.{sum}
use Rattle.std.specs.Option.{is_some}
use Rattle.hume_base.specs.declared.types.Value.{Value, out-Value}
use Rattle.hume_base.specs.declared.types.Value.TheOpen.{Value-F}
use Rattle.hume_model.specs.declared.core_tree.PatC.{PatC, roll-PatC, map-PatC, fold-roll-PatC, ind-PatC}
use Rattle.hume_model.specs.declared.core_tree.PatC.TheOpen.{PatC-F}
use Rattle.hume_model.specs.Patterns.{Match, match_step, matches, matches_all, both_match, all_match, match_word, match_con, match_tuple}
use Rattle.box_costs.specs.PatternTests.{variables_step, variables_of, variables_of_all, tests_step, tests_of, tests_of_all, Tried, tried, then_tried, all_tried, word_tried, con_tried, tuple_tried, tried_step, tries, tries_all}
use Rattle.box_costs.proofs.CostSteps.{sum_more}

-- the tests that ran, of so many, and a match of so many variables
pub record IsTrial (t : Tried) (m : Option (List Value)) (tests variables : ℕ) : Type 0 where
  pub passed : t.passed ≡ is_some m
  pub few : t.tests ≤ tests
  pub whole : (vs : List Value) → m ≡ Some vs → t.tests ≡ tests
  pub count : (vs : List Value) → m ≡ Some vs → length vs ≡ variables

failed : (k tests variables : ℕ) → k ≤ tests → IsTrial (tried false k) None tests variables
failed k tests variables few = record { passed = refl; few = few; whole = λ vs e. cc; count = λ vs e. cc }

then_trial : (p q : Bool) (j k : ℕ) (m n : Option (List Value)) (a b c d : ℕ) → IsTrial (tried p j) m a b → IsTrial (tried q k) n c d
    → IsTrial (then_tried (tried p j) (tried q k)) (both_match m n) (a + c) (b + d)
then_trial false q j k None n a b c d x y = failed j (a + c) (b + d) (omega (arith, x.few))
then_trial true q j k None n a b c d x y = (let h : true ≡ false = x.passed in cc)
then_trial false q j k (Some xs) n a b c d x y = (let h : false ≡ true = x.passed in cc)
then_trial true q j k (Some xs) None a b c d x y = record { passed = y.passed; few = omega (arith, x.few, y.few); whole = λ vs e. cc; count = λ vs e. cc }
then_trial true q j k (Some xs) (Some ys) a b c d x y = record {
  passed = y.passed;
  few = omega (arith, x.few, y.few);
  whole = λ vs e. (let f = x.whole xs refl in let g = y.whole ys refl in omega (arith, f, g));
  count = λ vs e. (let f = x.count xs refl in let g = y.count ys refl in ap length (sym (same_Some (xs ++ ys) vs e)) ∙ length-append xs ys ∙ (omega (arith, f, g)));
}

chosen_trial : (b : Bool) (t : Tried) (m : Option (List Value)) (c d : ℕ) → IsTrial t m c d → IsTrial (then_tried (tried b 1) t) (if b then m else None) (1 + c) d
chosen_trial true t m c d x = record { passed = x.passed; few = omega (arith, x.few); whole = λ vs e. (let f = x.whole vs e in omega (arith, f)); count = x.count }
chosen_trial false t m c d x = failed 1 (1 + c) d (omega arith)

nothing_trial : IsTrial (tried true 0) (Some []) 0 0
nothing_trial = record { passed = refl; few = omega arith; whole = λ vs e. refl; count = λ vs e. ap length (sym (same_Some [] vs e)) }

one_trial : (v : Value) → IsTrial (tried true 0) (Some (v ∷ [])) 0 1
one_trial v = record { passed = refl; few = omega arith; whole = λ vs e. refl; count = λ vs e. ap length (sym (same_Some (v ∷ []) vs e)) }

test_trial : (b : Bool) → IsTrial (tried b 1) (if b then Some [] else None) 1 0
test_trial true = record { passed = refl; few = omega arith; whole = λ vs e. refl; count = λ vs e. ap length (sym (same_Some [] vs e)) }
test_trial false = failed 1 1 0 (omega arith)

abbrev pub Fits : PatC → Type 0
Fits p = (v : Value) → IsTrial (tries p v) (matches p v) (tests_of p) (variables_of p)

abbrev Part : Type 0
Part = (p : PatC) × Fits p

abbrev of_part : Part → PatC
of_part p = p.0

counted : (t : Tried) (m : Option (List Value)) (a b c d : ℕ) → a ≡ c → b ≡ d → IsTrial t m a b → IsTrial t m c d
counted t m a b c d e f x = subst (λ k. IsTrial t m k d) e (subst (λ k. IsTrial t m a k) f x)

parts_trial : (ps : List Part) (us : List Value)
    → IsTrial (all_tried (map tries (map of_part ps)) us) (all_match (map matches (map of_part ps)) us) (sum (map tests_of (map of_part ps))) (sum (map variables_of (map of_part ps)))
parts_trial [] us = nothing_trial
parts_trial (p ∷ ps) [] = failed 0 _ _ (omega arith)
parts_trial (p ∷ ps) (u ∷ us) =
    let first = tries p.0 u in
    let rest = all_tried (map tries (map of_part ps)) us in
    counted _ _ _ _ _ _ (sym (sum_more (tests_of p.0) (map tests_of (map of_part ps)))) (sym (sum_more (variables_of p.0) (map variables_of (map of_part ps))))
    (then_trial first.passed rest.passed first.tests rest.tests (matches p.0 u) _ (tests_of p.0) (variables_of p.0) _ _ (p.1 u) (parts_trial ps us))

word_trial : (w : ℕ) (l : Value-F Value) → IsTrial (word_tried w l) (match_word w l) 1 0
word_trial w (Value-F.Word x) = test_trial (x == w)
word_trial w (Value-F.Tuple us) = failed 1 1 0 (omega arith)
word_trial w (Value-F.Vector us) = failed 1 1 0 (omega arith)
word_trial w (Value-F.Con c us) = failed 1 1 0 (omega arith)

con_trial : (c : ℕ) (ps : List Part) (l : Value-F Value)
    → IsTrial (con_tried c (map tries (map of_part ps)) l) (match_con c (map matches (map of_part ps)) l) (1 + sum (map tests_of (map of_part ps))) (sum (map variables_of (map of_part ps)))
con_trial c ps (Value-F.Con d us) = chosen_trial (d == c) _ _ _ _ (parts_trial ps us)
con_trial c ps (Value-F.Word w) = failed 1 _ _ (omega arith)
con_trial c ps (Value-F.Tuple us) = failed 1 _ _ (omega arith)
con_trial c ps (Value-F.Vector us) = failed 1 _ _ (omega arith)

tuple_trial : (ps : List Part) (l : Value-F Value)
    → IsTrial (tuple_tried (map tries (map of_part ps)) l) (match_tuple (map matches (map of_part ps)) l) (sum (map tests_of (map of_part ps))) (sum (map variables_of (map of_part ps)))
tuple_trial ps (Value-F.Tuple us) = parts_trial ps us
tuple_trial ps (Value-F.Word w) = failed 0 _ _ (omega arith)
tuple_trial ps (Value-F.Vector us) = failed 0 _ _ (omega arith)
tuple_trial ps (Value-F.Con c us) = failed 0 _ _ (omega arith)

abbrev layer : PatC-F Part → PatC-F PatC
layer y = map-PatC Part PatC of_part y

step_trial : (y : PatC-F Part) (v : Value)
    → IsTrial (tried_step (map-PatC PatC (Value → Tried) tries (layer y)) v) (match_step (map-PatC PatC Match matches (layer y)) v)
    (tests_step (map-PatC PatC ℕ tests_of (layer y))) (variables_step (map-PatC PatC ℕ variables_of (layer y)))
step_trial PatC-F.Var v = one_trial v
step_trial PatC-F.Any v = nothing_trial
step_trial (PatC-F.Word w) v = word_trial w (out-Value v)
step_trial (PatC-F.Con c ps) v = con_trial c ps (out-Value v)
step_trial (PatC-F.Tuple ps) v = tuple_trial ps (out-Value v)

layer_trial : (y : PatC-F Part) → Fits (roll-PatC (layer y))
layer_trial y v =
    rw (fold-roll-PatC (Value → Tried) tried_step (layer y), fold-roll-PatC Match match_step (layer y), fold-roll-PatC ℕ tests_step (layer y), fold-roll-PatC ℕ variables_step (layer y))
    (step_trial y v)

-- a pattern and a value
pub trial : (p : PatC) → Fits p
trial = ind-PatC Fits (λ x y is. subst (λ z. Fits (roll-PatC z)) is (layer_trial y))

-- patterns and values
pub trials : (ps : List PatC) (us : List Value) → IsTrial (tries_all ps us) (matches_all ps us) (tests_of_all ps) (variables_of_all ps)
trials [] us = nothing_trial
trials (p ∷ ps) [] = failed 0 _ _ (omega arith)
trials (p ∷ ps) (u ∷ us) =
    let first = tries p u in
    let rest = tries_all ps us in
    counted _ _ _ _ _ _ (sym (sum_more (tests_of p) (map tests_of ps))) (sym (sum_more (variables_of p) (map variables_of ps)))
    (then_trial first.passed rest.passed first.tests rest.tests (matches p u) (matches_all ps us) (tests_of p) (variables_of p) (tests_of_all ps) (variables_of_all ps) (trial p u) (trials ps us))
