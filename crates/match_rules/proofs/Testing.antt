-- A pattern's test of the words of a value says whether the value matches.
use Rattle.std.proofs.Common.{◌≡◌, ℕ, zero, suc, ◌+◌, ◌-◌, ◌≤◌, ◌==◌, ◌&&◌, Bool, true, false, cond, if◌then◌else◌, List, [], ◌∷◌, ◌++◌, map, length, drop, sum, replicate, Option, Some, None, slice_get, refl, ap, sym, ◌∙◌, subst, append_assoc, arith, inl, inr}
use Rattle.std.proofs.Math.Seq.{drop-append_seam}
use Rattle.std.proofs.lemmas.Bool.{and_parts, cases_eq, eq-eqb, ne_eqb}
use Rattle.std.specs.Prelude.{⊤}
use Rattle.std.specs.Option.{is_some}
use Rattle.hume_base.specs.declared.limits.TheConstants.{MAX_TYPE_WORDS}
use Rattle.hume_base.specs.declared.types.Ty.{Ty, out-Ty, roll-Ty, roll-out-Ty, map-Ty, fold-roll-Ty}
use Rattle.hume_base.specs.declared.types.Ty.TheOpen.{Ty-F}
use Rattle.hume_base.specs.declared.types.Ty.TheVariants as shape
use Rattle.hume_base.specs.declared.types.Types.{Types}
use Rattle.hume_base.specs.declared.types.SumDef.{SumDef}
use Rattle.hume_base.specs.declared.types.Value.{Value, out-Value}
use Rattle.hume_base.specs.declared.types.Value.TheOpen.{Value-F}
use Rattle.hume_base.specs.declared.types.Value.TheVariants as value
use Rattle.hume_base.specs.Holding.{HoldSmaller}
use Rattle.hume_base.specs.Sizes.{size_of, size_with, size_step, size_of_sum, named_size, written_size}
use Rattle.hume_base.specs.Values.{is_value, is_value_with, value_step, is_word_of, is_con_of, is_tuple_of, is_sum_value, is_named_value, fields_of, fields_at}
use Rattle.hume_base.specs.Flat.{flat, flat_with, flat_step, named_words, joined, padded, con_words, word_in, parts_in}
use Rattle.hume_model.specs.declared.core_tree.PatC.{PatC, fold-roll-PatC}
use Rattle.hume_model.specs.declared.core_tree.PatC.TheOpen.{PatC-F}
use Rattle.hume_model.specs.declared.core_tree.PatC.TheVariants as pat
use Rattle.hume_model.specs.Patterns.{matches, matches_all, both_match, match_word, match_con, match_tuple}
use Rattle.hume_model.specs.Typing.{IsPattern, ArePatterns, AreOf}
use Rattle.hume_model.proofs.Layers.{out-word, variable-match, any-match, word-match, con-match, tuple-match, tuple-value}
use Rattle.hume_model.proofs.Fields.{data-value}
use Rattle.hume_base.proofs.FlatLengths.{flat_long}
use Rattle.box_costs.proofs.CostSteps.{sum_more}
use Rattle.match_rules.specs.inner.WordTests.{Test, begins_with, fields_in, con_fields, tuple_parts, tests_pass, test_step, word_test}
use Rattle.match_rules.proofs.FieldWords.{tuple_words, data_words, out-named, out-tuple}

-- one level of a pattern's test
module _ (types : Types) (ty : Ty) (words : List ℕ) where
  variable_test : word_test types pat.Var ty words ≡ true
  variable_test = ap (λ p. word_test types p ty words) (sym pat.rolls-Var) ∙ ap (λ (t : Test). t ty words) (fold-roll-PatC Test (test_step types) PatC-F.Var)

  any_test : word_test types pat.Any ty words ≡ true
  any_test = ap (λ p. word_test types p ty words) (sym pat.rolls-Any) ∙ ap (λ (t : Test). t ty words) (fold-roll-PatC Test (test_step types) PatC-F.Any)

  word_test_is : (w : ℕ) → word_test types (pat.Word w) ty words ≡ begins_with w words
  word_test_is w = ap (λ p. word_test types p ty words) (sym (pat.rolls-Word w))
      ∙ ap (λ (t : Test). t ty words) (fold-roll-PatC Test (test_step types) (PatC-F.Word w))

  con_test : (place : ℕ) (ps : List PatC) → word_test types (pat.Con place ps) ty words
      ≡ (begins_with place words && tests_pass types (map (word_test types) ps) (con_fields types (out-Ty ty) place) (drop 1 words))
  con_test place ps = ap (λ p. word_test types p ty words) (sym (pat.rolls-Con place ps))
      ∙ ap (λ (t : Test). t ty words) (fold-roll-PatC Test (test_step types) (PatC-F.Con place ps))

  tuple_test : (ps : List PatC) → word_test types (pat.Tuple ps) ty words ≡ tests_pass types (map (word_test types) ps) (tuple_parts (out-Ty ty)) words
  tuple_test ps = ap (λ p. word_test types p ty words) (sym (pat.rolls-Tuple ps))
      ∙ ap (λ (t : Test). t ty words) (fold-roll-PatC Test (test_step types) (PatC-F.Tuple ps))

-- words

chosen_some : (b : Bool) (m : Option (List Value)) → is_some (if b then m else None) ≡ (b && is_some m)
chosen_some true m = refl
chosen_some false m = refl

only : (b : Bool) → b ≡ (b && true)
only true = refl
only false = refl

word_tested : (test : ℕ → Bool) (w : ℕ) (l : Value-F Value) (r : List ℕ) → is_word_of test l ≡ true
    → begins_with w ((word_in l ∷ []) ++ r) ≡ is_some (match_word w l)
word_tested test w (Value-F.Word x) r is = only (x == w) ∙ sym (chosen_some (x == w) (Some []))
word_tested test w (Value-F.Tuple vs) r is = cc
word_tested test w (Value-F.Vector vs) r is = cc
word_tested test w (Value-F.Con c vs) r is = cc

-- a word is no value of a data type
no_sum_word : (test : Ty → Value → Bool) (o : Option SumDef) (w : ℕ) → is_sum_value test o (value.Word w) ≡ true → ⊥
no_sum_word test None w is = cc
no_sum_word test (Some sum) w is = let none : is_con_of test sum (Value-F.Word w) ≡ true = ap (is_con_of test sum) (sym (out-word w)) ∙ is in cc

no_data_word : (types : Types) (bound k w : ℕ) → is_named_value types bound k (value.Word w) ≡ true → ⊥
unfolding is_named_value
no_data_word types zero k w is = cc
no_data_word types (suc bound) k w is = by (k == bound) is (no_sum_word (is_value_with (is_named_value types bound)) (slice_get types.sums bound) w)
    (no_data_word types bound k w)
  where
    by : (b : Bool) {x y : Bool} → cond b x y ≡ true → (x ≡ true → ⊥) → (y ≡ true → ⊥) → ⊥
    by true is first second = first is
    by false is first second = second is

module _ (types : Types) (w : ℕ) (v : Value) (r : List ℕ) where
  abbrev named : ℕ → Value → Bool
  named = is_named_value types (length types.sums)

  abbrev words_of : ℕ → Value → List ℕ
  words_of = named_words types (length types.sums)

  layer_tested : (y : Ty-F Ty) → value_step named (map-Ty Ty (Value → Bool) (is_value_with named) y) (value.Word w) ≡ true
      → value_step named (map-Ty Ty (Value → Bool) (is_value_with named) y) v ≡ true
      → begins_with w (flat_step words_of (map-Ty Ty (Value → List ℕ) (flat_with words_of) y) v ++ r) ≡ is_some (match_word w (out-Value v))
  layer_tested Ty-F.Bool own is = word_tested _ w (out-Value v) r is
  layer_tested Ty-F.Char own is = word_tested _ w (out-Value v) r is
  layer_tested (Ty-F.Int bits) own is = word_tested _ w (out-Value v) r is
  layer_tested (Ty-F.Nat bits) own is = word_tested _ w (out-Value v) r is
  layer_tested (Ty-F.Tuple ts) own is = let none : is_tuple_of (map (is_value_with named) ts) (Value-F.Word w)
      ≡ true = ap (is_tuple_of (map (is_value_with named) ts)) (sym (out-word w)) ∙ own in cc
  layer_tested (Ty-F.Vector n t) own is = absurd (no_vector n (is_value_with named t) own)
    where
      no_vector : (n : ℕ) (test : Value → Bool) → value_step named (Ty-F.Vector n test) (value.Word w) ≡ true → ⊥
      no_vector n test own = let none : value_step named (Ty-F.Vector n test) (value.Word w) ≡ false = ap (λ l. vector_of n test l) (out-word w) in cc
        where
          vector_of : ℕ → (Value → Bool) → Value-F Value → Bool
          vector_of n test l = Rattle.hume_base.specs.Values.is_vector_of n test l
  layer_tested (Ty-F.Named k) own is = absurd (no_data_word types (length types.sums) k w own)

  -- a pattern of a word that is a value of the type
  scalar_tested : (t : Ty) → is_value types t (value.Word w) ≡ true → is_value types t v ≡ true
      → begins_with w (flat types t v ++ r) ≡ is_some (match_word w (out-Value v))
  scalar_tested t own is =
      let layer = out-Ty t in
      let again : t ≡ roll-Ty layer = sym (roll-out-Ty t) in
      let test = fold-roll-Ty (Value → Bool) (value_step named) layer in
      let words = fold-roll-Ty (Value → List ℕ) (flat_step words_of) layer in
      ap (λ (f : Value → List ℕ). begins_with w (f v ++ r)) (ap (flat_with words_of) again ∙ words)
      ∙ layer_tested layer (ap (λ (f : Value → Bool). f (value.Word w)) (sym test ∙ ap (is_value_with named) (sym again)) ∙ own)
      (ap (λ (f : Value → Bool). f v) (sym test ∙ ap (is_value_with named) (sym again)) ∙ is)

-- types whose words are few enough to be written
abbrev pub AreSmall : Types → List Ty → Type 0
AreSmall types [] = ⊤
AreSmall types (t ∷ ts) = (size_of types t ≤ MAX_TYPE_WORDS) × AreSmall types ts

tuple_size : (types : Types) (ts : List Ty) → size_of types (shape.Tuple ts) ≡ sum (map (size_of types) ts)
tuple_size types ts =
    let named = named_size types (length types.sums) in
    ap (size_with named) (sym (shape.rolls-Tuple ts)) ∙ fold-roll-Ty ℕ (size_step named) (Ty-F.Tuple ts)

parts_small : (types : Types) (ts : List Ty) → sum (map (size_of types) ts) ≤ MAX_TYPE_WORDS → AreSmall types ts
parts_small types [] small = tt
parts_small types (t ∷ ts) small =
    let both : sum (map (size_of types) (t ∷ ts)) ≡ size_of types t + sum (map (size_of types) ts) = sum_more (size_of types t) (map (size_of types) ts) in
    (omega (arith, small, both), parts_small types ts (omega (arith, small, both)))

both_some : (a b : Option (List Value)) → (is_some a && is_some b) ≡ is_some (both_match a b)
both_some None b = refl
both_some (Some x) None = refl
both_some (Some x) (Some y) = refl

-- the fields of each data type are such
abbrev pub FieldsAreSmall : Types → Type 0
FieldsAreSmall types = (number place : ℕ) (sum_type : SumDef) → slice_get types.sums number ≡ Some sum_type → AreSmall types (fields_at sum_type place)

module _ (types : Types) (down : HoldSmaller types) (small_fields : FieldsAreSmall types) where
  past_part : (t : Ty) (u : Value) (rest : List ℕ) → size_of types t ≤ MAX_TYPE_WORDS → is_value types t u ≡ true
      → drop (written_size (size_of types t)) (flat types t u ++ rest) ≡ rest
  past_part t u rest small is =
      let long = flat_long types t u is in
      let same : written_size (size_of types t) ≡ length (flat types t u) = omega (arith, long, small) in
      ap (λ n. drop n (flat types t u ++ rest)) same ∙ drop-append_seam (flat types t u) rest

  con_tested : (sum_type : SumDef) (place size : ℕ) (ps : List PatC) (l : Value-F Value) (r : List ℕ) → is_con_of (is_value types) sum_type l ≡ true
      → ((us : List Value) (rest : List ℕ) → AreOf types (fields_at sum_type place) us
      → tests_pass types (map (word_test types) ps) (fields_at sum_type place) (joined (map (flat types) (fields_at sum_type place)) us ++ rest)
      ≡ is_some (matches_all ps us))
      → (begins_with place (padded size (con_words (flat types) sum_type l) ++ r)
      && tests_pass types (map (word_test types) ps) (fields_at sum_type place) (drop 1 (padded size (con_words (flat types) sum_type l) ++ r)))
      ≡ is_some (match_con place (map matches ps) l)
  con_tested sum_type place size ps (Value-F.Con d us) r is fields = elim (cases_eq d place) [
    | inl same ↦ (let zeros = replicate {A = ℕ} (size - length (d ∷ joined (map (flat types) (fields_at sum_type d)) us)) 0 in
        let words = joined (map (flat types) (fields_at sum_type d)) us in
        let own = subst (λ k. AreOf types (fields_at sum_type k) us) same (and_parts _ _ is).1 in
        let named = ap (λ k. joined (map (flat types) (fields_at sum_type k)) us) same in
        ap (λ b. b && tests_pass types (map (word_test types) ps) (fields_at sum_type place) ((words ++ zeros) ++ r)) (eq-eqb d place same)
        ∙ ap (tests_pass types (map (word_test types) ps) (fields_at sum_type place)) (append_assoc words zeros r ∙ ap (λ ws. ws ++ (zeros ++ r)) named)
        ∙ fields us (zeros ++ r) own
        ∙ sym (ap (λ b. is_some (if b then matches_all ps us else None)) (eq-eqb d place same)))
    | inr other ↦ ap (λ b. b && tests_pass types (map (word_test types) ps) (fields_at sum_type place)
        (drop 1 (padded size (con_words (flat types) sum_type (Value-F.Con d us)) ++ r))) (ne_eqb d place other)
        ∙ sym (ap (λ b. is_some (if b then matches_all ps us else None)) (ne_eqb d place other))
  ]
  con_tested sum_type place size ps (Value-F.Word w) r is fields = cc
  con_tested sum_type place size ps (Value-F.Tuple us) r is fields = cc
  con_tested sum_type place size ps (Value-F.Vector us) r is fields = cc

  tuple_tested : (ts : List Ty) (ps : List PatC) (l : Value-F Value) (r : List ℕ) → is_tuple_of (map (is_value types) ts) l ≡ true
      → ((us : List Value) → AreOf types ts us → tests_pass types (map (word_test types) ps) ts (joined (map (flat types) ts) us ++ r)
      ≡ is_some (matches_all ps us))
      → tests_pass types (map (word_test types) ps) ts (joined (map (flat types) ts) (parts_in l) ++ r) ≡ is_some (match_tuple (map matches ps) l)
  tuple_tested ts ps (Value-F.Tuple us) r is parts = parts us is
  tuple_tested ts ps (Value-F.Word w) r is parts = cc
  tuple_tested ts ps (Value-F.Vector us) r is parts = cc
  tuple_tested ts ps (Value-F.Con c us) r is parts = cc

  mutual
    pub pattern_tested : {t : Ty} {p : PatC} {vars : List Ty} → IsPattern types t p vars → (v : Value) (r : List ℕ) → is_value types t v ≡ true
        → size_of types t ≤ MAX_TYPE_WORDS → word_test types p t (flat types t v ++ r) ≡ is_some (matches p v)
    pattern_tested (IsPattern.variable {ty = t}) v r is small = variable_test types t (flat types t v ++ r)
        ∙ sym (ap (λ (m : Option (List Value)). is_some m) (variable-match v))
    pattern_tested (IsPattern.anything {ty = t}) v r is small = any_test types t (flat types t v ++ r)
        ∙ sym (ap (λ (m : Option (List Value)). is_some m) (any-match v))
    pattern_tested (IsPattern.word {ty = t} w own) v r is small =
        word_test_is types t (flat types t v ++ r) w ∙ scalar_tested types w v r t own is ∙ sym (ap (λ (m : Option (List Value)). is_some m) (word-match v w))
    pattern_tested (IsPattern.con number place sum_type {pats = ps} found within parts) v r is small =
        let size = size_of_sum (named_size types number) (Some sum_type) in
        let t = shape.Named number in
        let layer = padded size (con_words (flat types) sum_type (out-Value v)) in
        let fields : con_fields types (out-Ty t) place ≡ fields_at sum_type place = ap (λ y. con_fields types y place) (out-named number)
        ∙ ap (λ o. fields_in o place) found in
        con_test types t (flat types t v ++ r) place ps
        ∙ ap (λ ts. begins_with place (flat types t v ++ r) && tests_pass types (map (word_test types) ps) ts (drop 1 (flat types t v ++ r))) fields
        ∙ ap (λ ws. begins_with place (ws ++ r) && tests_pass types (map (word_test types) ps) (fields_at sum_type place) (drop 1 (ws ++ r)))
        (data_words types down number sum_type found v)
        ∙ con_tested sum_type place size ps (out-Value v) r (sym (data-value types down number sum_type found v) ∙ is)
        (λ us rest of. patterns_tested parts us rest of (small_fields number place sum_type found))
        ∙ sym (ap (λ (m : Option (List Value)). is_some m) (con-match v place ps))
    pattern_tested (IsPattern.tuple {tys = ts} {pats = ps} parts) v r is small =
        let t = shape.Tuple ts in
        tuple_test types t (flat types t v ++ r) ps
        ∙ ap (λ y. tests_pass types (map (word_test types) ps) (tuple_parts y) (flat types t v ++ r)) (out-tuple ts)
        ∙ ap (λ ws. tests_pass types (map (word_test types) ps) ts (ws ++ r)) (tuple_words (named_words types (length types.sums)) ts v)
        ∙ tuple_tested ts ps (out-Value v) r (sym (tuple-value (is_named_value types (length types.sums)) v ts) ∙ is)
        (λ us of. patterns_tested parts us r of (parts_small types ts (let own = tuple_size types ts in omega (arith, own, small))))
        ∙ sym (ap (λ (m : Option (List Value)). is_some m) (tuple-match v ps))

    patterns_tested : {ts : List Ty} {ps : List PatC} {vars : List Ty} → ArePatterns types ts ps vars → (us : List Value) (r : List ℕ) → AreOf types ts us
        → AreSmall types ts → tests_pass types (map (word_test types) ps) ts (joined (map (flat types) ts) us ++ r) ≡ is_some (matches_all ps us)
    patterns_tested ArePatterns.none us r of small = refl
    patterns_tested (ArePatterns.one first rest) [] r of small = cc
    patterns_tested (ArePatterns.one {ty = t} {tys = ts} {p = p} {pats = ps} first rest) (u ∷ us) r of small =
        let parts = and_parts _ _ of in
        let later = joined (map (flat types) ts) us ++ r in
        ap (λ ws. word_test types p t ws && tests_pass types (map (word_test types) ps) ts (drop (written_size (size_of types t)) ws))
        (append_assoc (flat types t u) (joined (map (flat types) ts) us) r)
        ∙ ap (λ b. b && tests_pass types (map (word_test types) ps) ts (drop (written_size (size_of types t)) (flat types t u ++ later)))
        (pattern_tested first u later parts.0 small.0)
        ∙ ap (λ ws. is_some (matches p u) && tests_pass types (map (word_test types) ps) ts ws) (past_part t u later small.0 parts.0)
        ∙ ap (λ b. is_some (matches p u) && b) (patterns_tested rest us r parts.1 small.1)
        ∙ both_some (matches p u) (matches_all ps us)
