-- Rules that are apart: no inputs fit both.
use Rattle.std.proofs.Common.{◌≡◌, ℕ, ◌==◌, not, ◌||◌, Bool, true, false, List, [], ◌∷◌, map, Option, Some, None, refl, ap, sym, ◌∙◌, subst, if◌then◌else◌, inl, inr}
use Rattle.std.proofs.lemmas.Bool.{and_parts, eqb-true, or_cases}
use Rattle.std.specs.Option.{is_some}
use Rattle.hume_base.specs.declared.types.Value.{Value, out-Value}
use Rattle.hume_base.specs.declared.types.Value.TheOpen.{Value-F}
use Rattle.hume_model.specs.declared.core_tree.PatC.{PatC, roll-PatC, out-PatC, roll-out-PatC, map-PatC, fold-roll-PatC, ind-PatC}
use Rattle.hume_model.specs.declared.core_tree.PatC.TheOpen.{PatC-F}
use Rattle.hume_model.specs.declared.core_tree.InPat.{InPat}
use Rattle.hume_model.specs.declared.core_tree.InPat.TheVariants.{Star, AnyStar, Any, Built}
use Rattle.hume_model.specs.Patterns.{Match, matches, match_step, match_word, match_con, match_tuple, all_match, both_match}
use Rattle.hume_model.specs.Matching.{fits, fits_at}
use Rattle.calculus_laws.specs.Apart.{Apart, apart, apart_step, some_apart, word_apart, con_apart, tuple_apart, apart_at, some_apart_at}

-- no value matches both the pattern and one that it is apart from
abbrev Clashes : PatC → Type 0
Clashes p = (q : PatC) → apart p q ≡ true → (v : Value) → is_some (matches p v) ≡ true → is_some (matches q v) ≡ true → ⊥

abbrev Part : Type 0
Part = (p : PatC) × Clashes p

abbrev of_part : Part → PatC
of_part part = part.0

both_there : (m n : Option (List Value)) → is_some (both_match m n) ≡ true → (is_some m ≡ true) × (is_some n ≡ true)
both_there None n h = cc
both_there (Some vs) None h = cc
both_there (Some vs) (Some us) h = (refl, refl)

chosen_there : (b : Bool) (m : Option (List Value)) → is_some (if b then m else None) ≡ true → (b ≡ true) × (is_some m ≡ true)
chosen_there true m h = (refl, h)
chosen_there false m h = cc

parts_clash : (ps : List Part) (qs : List PatC) → some_apart (map apart (map of_part ps)) qs ≡ true → (us : List Value)
    → is_some (all_match (map matches (map of_part ps)) us) ≡ true → is_some (all_match (map matches qs) us) ≡ true → ⊥
parts_clash [] qs h us a b = cc
parts_clash (p ∷ ps) [] h us a b = cc
parts_clash (p ∷ ps) (q ∷ qs) h [] a b = cc
parts_clash (p ∷ ps) (q ∷ qs) h (u ∷ us) a b =
    let mine = both_there _ _ a in
    let others = both_there _ _ b in
    elim (or_cases _ _ h) [
      | inl first ↦ p.1 q first u mine.0 others.0
      | inr rest ↦ parts_clash ps qs rest us mine.1 others.1
    ]

differ : (a b c : ℕ) → not (b == a) ≡ true → (c == a) ≡ true → (c == b) ≡ true → ⊥
differ a b c h p q =
    let one : c ≡ a = eqb-true c a p in
    let two : c ≡ b = eqb-true c b q in
    let same : (b == a) ≡ true = subst (λ k. (k == a) ≡ true) two p in
    cc

words_clash : (w x : ℕ) → not (x == w) ≡ true → (u : Value-F Value) → is_some (match_word w u) ≡ true → is_some (match_word x u) ≡ true → ⊥
words_clash w x h (Value-F.Word y) a b = differ w x y h (chosen_there (y == w) _ a).0 (chosen_there (y == x) _ b).0
words_clash w x h (Value-F.Tuple us) a b = cc
words_clash w x h (Value-F.Vector us) a b = cc
words_clash w x h (Value-F.Con c us) a b = cc

word_clashes : (w : ℕ) (l : PatC-F PatC) → word_apart w l ≡ true → (v : Value) → is_some (match_word w (out-Value v)) ≡ true
    → is_some (match_step (map-PatC PatC Match matches l) v) ≡ true → ⊥
word_clashes w PatC-F.Var h v a b = cc
word_clashes w PatC-F.Any h v a b = cc
word_clashes w (PatC-F.Word x) h v a b = words_clash w x h (out-Value v) a b
word_clashes w (PatC-F.Con d qs) h v a b = cc
word_clashes w (PatC-F.Tuple qs) h v a b = cc

cons_clash : (c d : ℕ) (ps : List Part) (qs : List PatC) → (not (d == c) || some_apart (map apart (map of_part ps)) qs) ≡ true → (u : Value-F Value)
    → is_some (match_con c (map matches (map of_part ps)) u) ≡ true → is_some (match_con d (map matches qs) u) ≡ true → ⊥
cons_clash c d ps qs h (Value-F.Con e us) a b =
    let mine = chosen_there (e == c) _ a in
    let others = chosen_there (e == d) _ b in
    elim (or_cases _ _ h) [
      | inl other ↦ differ c d e other mine.0 others.0
      | inr rest ↦ parts_clash ps qs rest us mine.1 others.1
    ]
cons_clash c d ps qs h (Value-F.Word w) a b = cc
cons_clash c d ps qs h (Value-F.Tuple us) a b = cc
cons_clash c d ps qs h (Value-F.Vector us) a b = cc

con_clashes : (c : ℕ) (ps : List Part) (l : PatC-F PatC) → con_apart c (map apart (map of_part ps)) l ≡ true → (v : Value)
    → is_some (match_con c (map matches (map of_part ps)) (out-Value v)) ≡ true → is_some (match_step (map-PatC PatC Match matches l) v) ≡ true → ⊥
con_clashes c ps PatC-F.Var h v a b = cc
con_clashes c ps PatC-F.Any h v a b = cc
con_clashes c ps (PatC-F.Word x) h v a b = cc
con_clashes c ps (PatC-F.Con d qs) h v a b = cons_clash c d ps qs h (out-Value v) a b
con_clashes c ps (PatC-F.Tuple qs) h v a b = cc

tuples_clash : (ps : List Part) (qs : List PatC) → some_apart (map apart (map of_part ps)) qs ≡ true → (u : Value-F Value)
    → is_some (match_tuple (map matches (map of_part ps)) u) ≡ true → is_some (match_tuple (map matches qs) u) ≡ true → ⊥
tuples_clash ps qs h (Value-F.Tuple us) a b = parts_clash ps qs h us a b
tuples_clash ps qs h (Value-F.Word w) a b = cc
tuples_clash ps qs h (Value-F.Vector us) a b = cc
tuples_clash ps qs h (Value-F.Con c us) a b = cc

tuple_clashes : (ps : List Part) (l : PatC-F PatC) → tuple_apart (map apart (map of_part ps)) l ≡ true → (v : Value)
    → is_some (match_tuple (map matches (map of_part ps)) (out-Value v)) ≡ true → is_some (match_step (map-PatC PatC Match matches l) v) ≡ true → ⊥
tuple_clashes ps PatC-F.Var h v a b = cc
tuple_clashes ps PatC-F.Any h v a b = cc
tuple_clashes ps (PatC-F.Word x) h v a b = cc
tuple_clashes ps (PatC-F.Con d qs) h v a b = cc
tuple_clashes ps (PatC-F.Tuple qs) h v a b = tuples_clash ps qs h (out-Value v) a b

abbrev layer : PatC-F Part → PatC-F PatC
layer y = map-PatC Part PatC of_part y

step_clashes : (y : PatC-F Part) (q : PatC) → apart_step (map-PatC PatC Apart apart (layer y)) q ≡ true → (v : Value)
    → is_some (match_step (map-PatC PatC Match matches (layer y)) v) ≡ true → is_some (match_step (map-PatC PatC Match matches (out-PatC q)) v) ≡ true → ⊥
step_clashes PatC-F.Var q h v a b = cc
step_clashes PatC-F.Any q h v a b = cc
step_clashes (PatC-F.Word w) q h v a b = word_clashes w (out-PatC q) h v a b
step_clashes (PatC-F.Con c ps) q h v a b = con_clashes c ps (out-PatC q) h v a b
step_clashes (PatC-F.Tuple ps) q h v a b = tuple_clashes ps (out-PatC q) h v a b

-- what a pattern matches, by its form
matched_by_form : (q : PatC) (v : Value) → matches q v ≡ match_step (map-PatC PatC Match matches (out-PatC q)) v
matched_by_form q v =
    ap (λ p. matches p v) (sym (roll-out-PatC q)) ∙ ap (λ (m : Match). m v) (fold-roll-PatC Match match_step (out-PatC q))

layer_clashes : (y : PatC-F Part) → Clashes (roll-PatC (layer y))
layer_clashes y q h v a b =
    step_clashes y q (ap (λ (t : Apart). t q) (sym (fold-roll-PatC Apart apart_step (layer y))) ∙ h) v
    (ap (λ (m : Match). is_some (m v)) (sym (fold-roll-PatC Match match_step (layer y))) ∙ a)
    (ap is_some (sym (matched_by_form q v)) ∙ b)

-- no value matches two patterns that are apart
pub clashes : (p : PatC) → Clashes p
clashes = ind-PatC Clashes (λ x y is. subst (λ z. Clashes (roll-PatC z)) is (layer_clashes y))

position_clashes : (p q : InPat) → apart_at p q ≡ true → (input : Option Value) → fits_at p input ≡ true → fits_at q input ≡ true → ⊥
position_clashes (Built p) (Built q) h None a b = cc
position_clashes (Built p) (Built q) h (Some v) a b = clashes p q h v a b
position_clashes (Built p) Star h input a b = cc
position_clashes (Built p) AnyStar h input a b = cc
position_clashes (Built p) Any h input a b = cc
position_clashes Star q h input a b = cc
position_clashes AnyStar q h input a b = cc
position_clashes Any q h input a b = cc

-- no inputs fit two rules that are apart
pub rules_clash : (pats others : List InPat) → some_apart_at pats others ≡ true → (ins : List (Option Value)) → fits pats ins ≡ true → fits others ins ≡ true → ⊥
rules_clash [] others h ins a b = cc
rules_clash (p ∷ pats) [] h ins a b = cc
rules_clash (p ∷ pats) (q ∷ others) h [] a b = cc
rules_clash (p ∷ pats) (q ∷ others) h (input ∷ ins) a b =
    let mine = and_parts _ _ a in
    let theirs = and_parts _ _ b in
    elim (or_cases _ _ h) [
      | inl first ↦ position_clashes p q first input mine.0 theirs.0
      | inr rest ↦ rules_clash pats others rest ins mine.1 theirs.1
    ]
