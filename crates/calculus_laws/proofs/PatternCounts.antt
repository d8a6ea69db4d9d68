-- A pattern that a value matches binds as many values as it has variables.
use Rattle.std.proofs.Common.{◌≡◌, ℕ, ◌+◌, ◌==◌, Bool, true, false, List, [], ◌∷◌, ◌++◌, map, length, sum, Option, Some, None, refl, ap, sym, ◌∙◌, subst, if◌then◌else◌}
use Rattle.std.proofs.lemmas.List.{length-append}
use Rattle.std.proofs.lemmas.List.Sums.{sum_by-cons}
use Rattle.hume_base.specs.declared.types.Value.{Value, out-Value}
use Rattle.hume_base.specs.declared.types.Value.TheOpen.{Value-F}
use Rattle.hume_model.specs.declared.core_tree.PatC.{PatC, fold-roll-PatC, ind-PatC, map-PatC, roll-PatC}
use Rattle.hume_model.specs.declared.core_tree.PatC.TheOpen.{PatC-F}
use Rattle.hume_model.specs.Patterns.{Match, all_match, both_match, match_con, match_step, match_tuple, match_word, matches}
use Rattle.calculus_laws.specs.Unfolding.{variables_in, variables_step}

pub sum_more : (n : ℕ) (ns : List ℕ) → sum (n ∷ ns) ≡ n + sum ns
sum_more n ns = sum_by-cons (λ x. x) n ns

abbrev Counts : PatC → Type 0
Counts p = (v : Value) (vs : List Value) → matches p v ≡ Some vs → length vs ≡ variables_in p

abbrev Part : Type 0
Part = (p : PatC) × Counts p

abbrev of_part : Part → PatC
of_part part = part.0

none_bound : (vs : List Value) → Some [] ≡ Some vs → length vs ≡ 0
none_bound vs is = (let same : [] ≡ vs = cc in ap length (sym same))

parts_count : (ps : List Part) (values vs : List Value) → all_match (map matches (map of_part ps)) values ≡ Some vs → length vs ≡ sum (map variables_in (map of_part ps))
parts_count [] values vs is = none_bound vs is
parts_count (p ∷ ps) [] vs is = cc
parts_count (p ∷ ps) (v ∷ values) vs is =
    by (matches p.0 v) (all_match (map matches (map of_part ps)) values) (p.1 v) (parts_count ps values) is
    ∙ sym (sum_more (variables_in p.0) (map variables_in (map of_part ps)))
  where
    by : (o rest : Option (List Value)) → ((xs : List Value) → o ≡ Some xs → length xs ≡ variables_in p.0)
        → ((ys : List Value) → rest ≡ Some ys → length ys ≡ sum (map variables_in (map of_part ps)))
        → both_match o rest ≡ Some vs → length vs ≡ variables_in p.0 + sum (map variables_in (map of_part ps))
    by None rest first others same = cc
    by (Some xs) None first others same = cc
    by (Some xs) (Some ys) first others same =
        let whole : xs ++ ys ≡ vs = cc in
        ap length (sym whole) ∙ length-append xs ys ∙ (λ i. first xs refl i + others ys refl i)

abbrev layer : PatC-F Part → PatC-F PatC
layer y = map-PatC Part PatC of_part y

word_count : (w : ℕ) (value : Value-F Value) (vs : List Value) → match_word w value ≡ Some vs → length vs ≡ 0
word_count w (Value-F.Word other) vs is = by (other == w) is
  where
    by : (b : Bool) → (if b then Some [] else None) ≡ Some vs → length vs ≡ 0
    by true same = none_bound vs same
    by false same = cc
word_count w (Value-F.Tuple values) vs is = cc
word_count w (Value-F.Vector values) vs is = cc
word_count w (Value-F.Con place values) vs is = cc

con_count : (c : ℕ) (ps : List Part) (value : Value-F Value) (vs : List Value) → match_con c (map matches (map of_part ps)) value ≡ Some vs
    → length vs ≡ sum (map variables_in (map of_part ps))
con_count c ps (Value-F.Word other) vs is = cc
con_count c ps (Value-F.Tuple values) vs is = cc
con_count c ps (Value-F.Vector values) vs is = cc
con_count c ps (Value-F.Con place values) vs is = by (place == c) is
  where
    by : (b : Bool) → (if b then all_match (map matches (map of_part ps)) values else None) ≡ Some vs → length vs ≡ sum (map variables_in (map of_part ps))
    by true same = parts_count ps values vs same
    by false same = cc

tuple_count : (ps : List Part) (value : Value-F Value) (vs : List Value) → match_tuple (map matches (map of_part ps)) value ≡ Some vs
    → length vs ≡ sum (map variables_in (map of_part ps))
tuple_count ps (Value-F.Word other) vs is = cc
tuple_count ps (Value-F.Tuple values) vs is = parts_count ps values vs is
tuple_count ps (Value-F.Vector values) vs is = cc
tuple_count ps (Value-F.Con place values) vs is = cc

step_counts : (y : PatC-F Part) (v : Value) (vs : List Value) → match_step (map-PatC PatC Match matches (layer y)) v ≡ Some vs
    → length vs ≡ variables_step (map-PatC PatC ℕ variables_in (layer y))
step_counts PatC-F.Var v vs is = (let same : v ∷ [] ≡ vs = cc in ap length (sym same))
step_counts PatC-F.Any v vs is = none_bound vs is
step_counts (PatC-F.Word w) v vs is = word_count w (out-Value v) vs is
step_counts (PatC-F.Con c ps) v vs is = con_count c ps (out-Value v) vs is
step_counts (PatC-F.Tuple ps) v vs is = tuple_count ps (out-Value v) vs is

layer_counts : (y : PatC-F Part) → Counts (roll-PatC (layer y))
layer_counts y v vs is =
    step_counts y v vs (sym (ap (λ (m : Match). m v) (fold-roll-PatC Match match_step (layer y))) ∙ is) ∙ sym (fold-roll-PatC ℕ variables_step (layer y))

pub match_count : (p : PatC) → Counts p
match_count = ind-PatC Counts (λ x y is. subst (λ z. Counts (roll-PatC z)) is (layer_counts y))
