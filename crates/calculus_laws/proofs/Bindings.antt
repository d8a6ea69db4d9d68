-- The variables of typed patterns: how many values they bind, and of which types.
use Rattle.std.proofs.Common.{◌≡◌, ℕ, ◌==◌, Bool, true, false, List, [], ◌∷◌, ◌++◌, length, map, Option, Some, None, refl, ap, sym, ◌∙◌, arith, if◌then◌else◌}
use Rattle.std.specs.Option.{is_some, unwrap_or}
use Rattle.std.proofs.lemmas.Bool.{and_parts}
use Rattle.std.proofs.lemmas.List.{length-append}
use Rattle.hume_base.specs.declared.types.Ty.{Ty, out-Ty, out-roll-Ty}
use Rattle.hume_base.specs.declared.types.Ty.TheOpen.{Ty-F}
use Rattle.hume_base.specs.declared.types.Ty.TheVariants as shape
use Rattle.hume_base.specs.declared.types.Types.{Types}
use Rattle.hume_base.specs.declared.types.Value.{Value, out-Value}
use Rattle.hume_base.specs.declared.types.Value.TheOpen.{Value-F}
use Rattle.hume_model.specs.declared.core_tree.PatC.{PatC, fold-roll-PatC}
use Rattle.hume_model.specs.declared.core_tree.PatC.TheOpen.{PatC-F}
use Rattle.hume_model.specs.declared.core_tree.PatC.TheVariants as pat
use Rattle.hume_model.specs.declared.core_tree.InPat.{InPat}
use Rattle.hume_model.specs.Patterns.{Match, all_match, both_match, match_con, match_tuple, match_word, matches, matches_all}
use Rattle.hume_model.specs.Matching.{bound, fits}
use Rattle.hume_model.specs.Typing.{IsPattern, ArePatterns}
use Rattle.hume_model.specs.BoxTyping.{PositionsHave}
use Rattle.hume_model.proofs.Layers.{variable-match, any-match, word-match, con-match, tuple-match}
use Rattle.calculus_laws.specs.VariableTypes.{Binds, binds_step, con_binds, fields_of_sum, parts_bind, pattern_binds, rule_binds, tuple_binds}

unwrap : {X : Type 0} (x y : X) → Some x ≡ Some y → x ≡ y
unwrap x y e = cc

both_some : (a b : Option (List Value)) (vs : List Value) → both_match a b ≡ Some vs
    → (x : List Value) × (y : List Value) × (a ≡ Some x) × (b ≡ Some y) × (x ++ y ≡ vs)
both_some None b vs h = cc
both_some (Some x) None vs h = cc
both_some (Some x) (Some y) vs h = (x, y, refl, refl, unwrap _ _ h)

chosen : (b : Bool) (m : Option (List Value)) (vs : List Value) → (if b then m else None) ≡ Some vs → m ≡ Some vs
chosen true m vs h = h
chosen false m vs h = cc

word_binds : (w : ℕ) (l : Value-F Value) (vs : List Value) → match_word w l ≡ Some vs → vs ≡ []
word_binds w (Value-F.Word x) vs h = sym (unwrap _ _ (chosen (x == w) (Some []) vs h))
word_binds w (Value-F.Tuple us) vs h = cc
word_binds w (Value-F.Vector us) vs h = cc
word_binds w (Value-F.Con c us) vs h = cc

con_parts : (c : ℕ) (ms : List Match) (l : Value-F Value) (vs : List Value) → match_con c ms l ≡ Some vs → (us : List Value) × (all_match ms us ≡ Some vs)
con_parts c ms (Value-F.Con d us) vs h = (us, chosen (d == c) (all_match ms us) vs h)
con_parts c ms (Value-F.Word w) vs h = cc
con_parts c ms (Value-F.Tuple us) vs h = cc
con_parts c ms (Value-F.Vector us) vs h = cc

tuple_parts : (ms : List Match) (l : Value-F Value) (vs : List Value) → match_tuple ms l ≡ Some vs → (us : List Value) × (all_match ms us ≡ Some vs)
tuple_parts ms (Value-F.Tuple us) vs h = (us, h)
tuple_parts ms (Value-F.Word w) vs h = cc
tuple_parts ms (Value-F.Vector us) vs h = cc
tuple_parts ms (Value-F.Con c us) vs h = cc

longer : {X Y : Type 0} (xs ys zs : List X) (ts us : List Y) → xs ++ ys ≡ zs → length xs ≡ length ts → length ys ≡ length us → length zs ≡ length (ts ++ us)
longer xs ys zs ts us is first second =
    let all = ap length (sym is) ∙ length-append xs ys in
    let types = length-append ts us in
    omega (arith, all, types, first, second)

module _ (types : Types) where
  mutual
    bound_count : {t : Ty} {p : PatC} {vars : List Ty} → IsPattern types t p vars → (v : Value) (vs : List Value) → matches p v ≡ Some vs → length vs ≡ length vars
    bound_count IsPattern.variable v vs h = ap length (sym (unwrap _ _ (sym (variable-match v) ∙ h)))
    bound_count IsPattern.anything v vs h = ap length (sym (unwrap _ _ (sym (any-match v) ∙ h)))
    bound_count (IsPattern.word w ok) v vs h = ap length (word_binds w (out-Value v) vs (sym (word-match v w) ∙ h))
    bound_count (IsPattern.con number place sum {pats = ps} found within parts) v vs h =
        let fields = con_parts place (map matches ps) (out-Value v) vs (sym (con-match v place ps) ∙ h) in
        bound_counts parts fields.0 vs fields.1
    bound_count (IsPattern.tuple {tys = ts} {pats = ps} parts) v vs h =
        let fields = tuple_parts (map matches ps) (out-Value v) vs (sym (tuple-match v ps) ∙ h) in
        bound_counts parts fields.0 vs fields.1

    bound_counts : {ts : List Ty} {ps : List PatC} {vars : List Ty} → ArePatterns types ts ps vars → (us vs : List Value) → matches_all ps us ≡ Some vs → length vs ≡ length vars
    bound_counts ArePatterns.none us vs h = ap length (sym (unwrap _ _ h))
    bound_counts (ArePatterns.one first rest) [] vs h = cc
    bound_counts (ArePatterns.one {vars = xs} {more = ys} first rest) (u ∷ us) vs h =
        let hs = both_some _ _ vs h in
        longer hs.0 hs.1 vs xs ys hs.4 (bound_count first u hs.0 hs.2) (bound_counts rest us hs.1 hs.3)

  -- a position that fits binds as many values as its pattern has variables
  built_count : {t : Ty} {p : PatC} {vars : List Ty} → IsPattern types t p vars → (v : Value) (o : Option (List Value)) → matches p v ≡ o → is_some o ≡ true
      → length (unwrap_or o []) ≡ length vars
  built_count pattern v None is fit = cc
  built_count pattern v (Some vs) is fit = bound_count pattern v vs is

  -- a rule that fits binds a value for each of its variables
  pub rule_count : {tys : List Ty} {pats : List InPat} {vars : List Ty} → PositionsHave types tys pats vars → (ins : List (Option Value)) → fits pats ins ≡ true
      → length (bound pats ins) ≡ length vars
  rule_count PositionsHave.none ins fit = refl
  rule_count (PositionsHave.star rest) [] fit = cc
  rule_count (PositionsHave.star rest) (input ∷ ins) fit = rule_count rest ins fit
  rule_count (PositionsHave.any_star rest) [] fit = cc
  rule_count (PositionsHave.any_star rest) (input ∷ ins) fit = rule_count rest ins fit
  rule_count (PositionsHave.any rest) [] fit = cc
  rule_count (PositionsHave.any rest) (input ∷ ins) fit = rule_count rest ins (and_parts _ _ fit).1
  rule_count (PositionsHave.built pattern rest) [] fit = cc
  rule_count (PositionsHave.built pattern rest) (None ∷ ins) fit = cc
  rule_count (PositionsHave.built {vars = xs} {more = ys} {p = p} {pats = pats} pattern rest) (Some v ∷ ins) fit =
      let both = and_parts _ _ fit in
      longer (unwrap_or (matches p v) []) (bound pats ins) _ xs ys refl (built_count pattern v (matches p v) refl both.0) (rule_count rest ins both.1)

  mutual
    pattern_types : {t : Ty} {p : PatC} {vars : List Ty} → IsPattern types t p vars → pattern_binds types p t ≡ vars
    pattern_types (IsPattern.variable {ty = t}) =
        ap (λ p. pattern_binds types p t) (sym pat.rolls-Var) ∙ ap (λ (m : Binds). m t) (fold-roll-PatC Binds (binds_step types) PatC-F.Var)
    pattern_types (IsPattern.anything {ty = t}) =
        ap (λ p. pattern_binds types p t) (sym pat.rolls-Any) ∙ ap (λ (m : Binds). m t) (fold-roll-PatC Binds (binds_step types) PatC-F.Any)
    pattern_types (IsPattern.word {ty = t} w ok) =
        ap (λ p. pattern_binds types p t) (sym (pat.rolls-Word w)) ∙ ap (λ (m : Binds). m t) (fold-roll-PatC Binds (binds_step types) (PatC-F.Word w))
    pattern_types (IsPattern.con number place sum {pats = ps} found within parts) =
        ap (λ p. pattern_binds types p (shape.Named number)) (sym (pat.rolls-Con place ps))
        ∙ ap (λ (m : Binds). m (shape.Named number)) (fold-roll-PatC Binds (binds_step types) (PatC-F.Con place ps))
        ∙ ap (con_binds types place (map (pattern_binds types) ps)) (ap out-Ty (sym (shape.rolls-Named number)) ∙ out-roll-Ty (Ty-F.Named number))
        ∙ ap (λ o. parts_bind (map (pattern_binds types) ps) (fields_of_sum o place)) found
        ∙ patterns_types parts
    pattern_types (IsPattern.tuple {tys = ts} {pats = ps} parts) =
        ap (λ p. pattern_binds types p (shape.Tuple ts)) (sym (pat.rolls-Tuple ps))
        ∙ ap (λ (m : Binds). m (shape.Tuple ts)) (fold-roll-PatC Binds (binds_step types) (PatC-F.Tuple ps))
        ∙ ap (tuple_binds (map (pattern_binds types) ps)) (ap out-Ty (sym (shape.rolls-Tuple ts)) ∙ out-roll-Ty (Ty-F.Tuple ts))
        ∙ patterns_types parts

    patterns_types : {ts : List Ty} {ps : List PatC} {vars : List Ty} → ArePatterns types ts ps vars → parts_bind (map (pattern_binds types) ps) ts ≡ vars
    patterns_types ArePatterns.none = refl
    patterns_types (ArePatterns.one first rest) = λ i. pattern_types first i ++ patterns_types rest i

  -- the variables of a rule have the types that its positions give them
  pub rule_types : {tys : List Ty} {pats : List InPat} {vars : List Ty} → PositionsHave types tys pats vars → rule_binds types pats tys ≡ vars
  rule_types PositionsHave.none = refl
  rule_types (PositionsHave.star rest) = rule_types rest
  rule_types (PositionsHave.any_star rest) = rule_types rest
  rule_types (PositionsHave.any rest) = rule_types rest
  rule_types (PositionsHave.built pattern rest) = λ i. pattern_types pattern i ++ rule_types rest i
