-- Complete patterns leave no value of the type out.
use Rattle.std.proofs.Common.{◌≡◌, ℕ, zero, suc, ◌==◌, ◌<◌, nat_lt, ◌&&◌, ◌||◌, Bool, true, false, if◌then◌else◌, List, [], ◌∷◌, map, length, Option, Some, None, slice_get, refl, ap, sym, ◌∙◌, subst, arith, ◌⊎◌, inl, inr}
use Rattle.std.proofs.lemmas.Bool.{and_parts, cases_eq, eq-eqb, eqb-true, ltb-true}
use Rattle.std.specs.Option.{is_some}
use Rattle.std.specs.List.{list_all, list_any}
use Rattle.hume_base.specs.declared.types.Ty.{Ty, roll-Ty, out-Ty, roll-out-Ty, fold-roll-Ty}
use Rattle.hume_base.specs.declared.types.Ty.TheOpen.{Ty-F}
use Rattle.hume_base.specs.declared.types.Ty.TheVariants as shape
use Rattle.hume_base.specs.declared.types.SumDef.{SumDef}
use Rattle.hume_base.specs.declared.types.Types.{Types}
use Rattle.hume_base.specs.declared.types.Value.{Value, out-Value}
use Rattle.hume_base.specs.declared.types.Value.TheOpen.{Value-F}
use Rattle.hume_base.specs.Holding.{HoldSmaller}
use Rattle.hume_base.specs.Values.{is_value, value_step, is_named_value, is_con_of, is_tuple_of, is_word_of, fields_at}
use Rattle.hume_model.specs.declared.core_tree.PatC.{PatC, out-PatC}
use Rattle.hume_model.specs.Patterns.{matches, matches_all, both_match, all_match, match_con, match_word, match_tuple}
use Rattle.hume_model.specs.Typing.{IsPattern, ArePatterns, AreOf}
use Rattle.hume_model.specs.Completeness.{is_irrefutable, last_passes, takes_con, takes_word, all_below, are_of_data, are_all, are_complete}
use Rattle.hume_model.specs.Forms.{forms_in, forms_of}
use Rattle.hume_model.proofs.Layers.{variable-match, any-match, word-match, con-match, tuple-match, tuple-value}
use Rattle.hume_model.proofs.Fields.{data-value}
use Rattle.hume_exceptions.specs.Matched.{ArePatternsOf, is_matched}
use Rattle.hume_exceptions.proofs.PatternForms.{irrefutable-word, irrefutable-con, irrefutable-tuple, out-word, out-con, out-tuple}

pub or_left : (a b : Bool) → a ≡ true → (a || b) ≡ true
or_left a b p = rw p refl

pub or_right : (a b : Bool) → b ≡ true → (a || b) ≡ true
or_right true b p = refl
or_right false b p = p

pub either_way : (a b : Bool) → (a || b) ≡ true → (a ≡ true) ⊎ (b ≡ true)
either_way true b h = inl refl
either_way false b h = inr h

both_there : (a b : Option (List Value)) → is_some a ≡ true → is_some b ≡ true → is_some (both_match a b) ≡ true
both_there None b p q = cc
both_there (Some x) None p q = cc
both_there (Some x) (Some y) p q = refl

taken_way : (b : Bool) (m : Option (List Value)) → b ≡ true → is_some m ≡ true → is_some (if b then m else None) ≡ true
taken_way true m p q = q
taken_way false m p q = cc

below_passes : (bound : ℕ) (test : ℕ → Bool) → all_below bound test ≡ true → (k : ℕ) → k < bound → test k ≡ true
below_passes zero test h k lt = absurd (omega arith)
below_passes (suc bound) test h k lt = elim (cases_eq k bound) [
  | inl same ↦ ap test same ∙ (and_parts _ _ h).1
  | inr other ↦ below_passes bound test (and_parts _ _ h).0 k (omega arith)
]

module _ (types : Types) (down : HoldSmaller types) where
  in_tuple : (ts : List Ty) (l : Value-F Value) → is_tuple_of (map (is_value types) ts) l ≡ true → (us : List Value) × (l ≡ Value-F.Tuple us) × AreOf types ts us
  in_tuple ts (Value-F.Tuple us) is = (us, refl, is)
  in_tuple ts (Value-F.Word w) is = cc
  in_tuple ts (Value-F.Vector us) is = cc
  in_tuple ts (Value-F.Con c us) is = cc

  mutual
    -- an irrefutable pattern matches each value of its type
    pub surely_matches : {t : Ty} {p : PatC} {vars : List Ty} → IsPattern types t p vars → is_irrefutable p ≡ true → (v : Value) → is_value types t v ≡ true → is_some (matches p v) ≡ true
    surely_matches IsPattern.variable h v is = ap is_some (variable-match v)
    surely_matches IsPattern.anything h v is = ap is_some (any-match v)
    surely_matches (IsPattern.word w ok) h v is = let e = sym (irrefutable-word w) ∙ h in cc
    surely_matches (IsPattern.con number place sum {pats = ps} found within parts) h v is = let e = sym (irrefutable-con place ps) ∙ h in cc
    surely_matches (IsPattern.tuple {tys = ts} {pats = ps} parts) h v is =
        let us = in_tuple ts (out-Value v) (sym (tuple-value (is_named_value types (length types.sums)) v ts) ∙ is) in
        ap is_some (tuple-match v ps) ∙ ap (λ l. is_some (match_tuple (map matches ps) l)) us.1 ∙ all_surely_match parts (sym (irrefutable-tuple ps) ∙ h) us.0 us.2

    pub all_surely_match : {ts : List Ty} {ps : List PatC} {vars : List Ty} → ArePatterns types ts ps vars → list_all is_irrefutable ps ≡ true → (us : List Value)
        → AreOf types ts us → is_some (matches_all ps us) ≡ true
    all_surely_match ArePatterns.none h us is = refl
    all_surely_match (ArePatterns.one first rest) h [] is = cc
    all_surely_match (ArePatterns.one {p = p} {pats = ps} first rest) h (u ∷ us) is =
        let hs = and_parts _ _ h in
        let ws = and_parts _ _ is in
        both_there (matches p u) (matches_all ps us) (surely_matches first hs.0 u ws.0) (all_surely_match rest hs.1 us ws.1)

  con_matched : (c : ℕ) {ts : List Ty} {ps : List PatC} {vars : List Ty} → ArePatterns types ts ps vars → (place : ℕ) → ((c == place) && list_all is_irrefutable ps) ≡ true
      → (l : Value-F Value) (us : List Value) → l ≡ Value-F.Con place us → AreOf types ts us → is_some (match_con c (map matches ps) l) ≡ true
  con_matched c {ps = ps} parts place h l us e is =
      let hs = and_parts _ _ h in
      let same : (place == c) ≡ true = eq-eqb place c (sym (eqb-true c place hs.0)) in
      ap (λ l. is_some (match_con c (map matches ps) l)) e ∙ taken_way (place == c) (all_match (map matches ps) us) same (all_surely_match parts hs.1 us is)

  last_matched : (t : Ty) (ps : List PatC) → ArePatternsOf types t ps → last_passes is_irrefutable ps ≡ true → (v : Value) → is_value types t v ≡ true → is_matched ps v ≡ true
  last_matched t [] are h v is = cc
  last_matched t (p ∷ []) (ArePatternsOf.one vars first rest) h v is = or_left _ _ (surely_matches first h v is)
  last_matched t (p ∷ q ∷ ps) (ArePatternsOf.one vars first rest) h v is = or_right (is_some (matches p v)) _ (last_matched t (q ∷ ps) rest h v is)

  -- where a pattern passes a test that only matching ones pass, one matches
  some_matched : (t : Ty) (test : PatC → Bool) (v : Value) → ((p : PatC) (vars : List Ty) → IsPattern types t p vars → test p ≡ true → is_some (matches p v) ≡ true)
      → (ps : List PatC) → ArePatternsOf types t ps → list_any test ps ≡ true → is_matched ps v ≡ true
  some_matched t test v go [] are h = cc
  some_matched t test v go (p ∷ ps) (ArePatternsOf.one vars first rest) h = elim (either_way (test p) (list_any test ps) h) [
    | inl here ↦ or_left _ _ (go p vars first here)
    | inr later ↦ or_right (is_some (matches p v)) _ (some_matched t test v go ps rest later)
  ]

  takes_matched : (place : ℕ) (v : Value) (us : List Value) → out-Value v ≡ Value-F.Con place us → {t : Ty} {p : PatC} {vars : List Ty} → IsPattern types t p vars
      → is_value types t v ≡ true → takes_con place (out-PatC p) ≡ true → is_some (matches p v) ≡ true
  takes_matched place v us e IsPattern.variable is h = ap is_some (variable-match v)
  takes_matched place v us e IsPattern.anything is h = ap is_some (any-match v)
  takes_matched place v us e (IsPattern.word w ok) is h = let x = sym (ap (takes_con place) (out-word w)) ∙ h in cc
  takes_matched place v us e (IsPattern.tuple {pats = ps} parts) is h = let x = sym (ap (takes_con place) (out-tuple ps)) ∙ h in cc
  takes_matched place v us e (IsPattern.con number c sum {pats = ps} found within parts) is h =
      let taken = sym (ap (takes_con place) (out-con c ps)) ∙ h in
      let same : c ≡ place = eqb-true c place (and_parts _ _ taken).0 in
      let whole = sym (data-value types down number sum found v) ∙ is in
      let fields = and_parts _ _ (sym (ap (is_con_of (is_value types) sum) e) ∙ whole) in
      ap is_some (con-match v c ps) ∙ con_matched c parts place taken (out-Value v) us e (subst (λ k. AreOf types (fields_at sum k) us) (sym same) fields.1)

  word_matched : (w : ℕ) (v : Value) → out-Value v ≡ Value-F.Word w → {t : Ty} {p : PatC} {vars : List Ty} → IsPattern types t p vars
      → takes_word w (out-PatC p) ≡ true → is_some (matches p v) ≡ true
  word_matched w v e IsPattern.variable h = ap is_some (variable-match v)
  word_matched w v e IsPattern.anything h = ap is_some (any-match v)
  word_matched w v e (IsPattern.tuple {pats = ps} parts) h = let x = sym (ap (takes_word w) (out-tuple ps)) ∙ h in cc
  word_matched w v e (IsPattern.con number c sum {pats = ps} found within parts) h = let x = sym (ap (takes_word w) (out-con c ps)) ∙ h in cc
  word_matched w v e (IsPattern.word u ok) h =
      let same : u ≡ w = eqb-true u w (sym (ap (takes_word w) (out-word u)) ∙ h) in
      ap is_some (word-match v u) ∙ ap (λ l. is_some (match_word u l)) e ∙ taken_way (w == u) (Some []) (eq-eqb w u (sym same)) refl

  cons_matched : (number : ℕ) (sum : SumDef) → slice_get types.sums number ≡ Some sum → (ps : List PatC) → ArePatternsOf types (shape.Named number) ps
      → all_below (length sum.cons) (λ place. list_any (λ p. takes_con place (out-PatC p)) ps) ≡ true
      → (v : Value) → is_value types (shape.Named number) v ≡ true → (l : Value-F Value) → out-Value v ≡ l → is_con_of (is_value types) sum l ≡ true → is_matched ps v ≡ true
  cons_matched number sum found ps are h v is (Value-F.Con place us) e whole =
      let here = below_passes (length sum.cons) (λ place. list_any (λ p. takes_con place (out-PatC p)) ps) h place (ltb-true _ _ (and_parts _ _ whole).0) in
      some_matched (shape.Named number) (λ p. takes_con place (out-PatC p)) v (λ p vars has taken. takes_matched place v us e has is taken) ps are here
  cons_matched number sum found ps are h v is (Value-F.Word w) e whole = cc
  cons_matched number sum found ps are h v is (Value-F.Tuple us) e whole = cc
  cons_matched number sum found ps are h v is (Value-F.Vector us) e whole = cc

  truths_matched : (t : Ty) (ps : List PatC) → ArePatternsOf types t ps → all_below 2 (λ word. list_any (λ p. takes_word word (out-PatC p)) ps) ≡ true
      → (v : Value) (l : Value-F Value) → out-Value v ≡ l → is_word_of (λ word. nat_lt word 2) l ≡ true → is_matched ps v ≡ true
  truths_matched t ps are h v (Value-F.Word w) e is =
      let here = below_passes 2 (λ word. list_any (λ p. takes_word word (out-PatC p)) ps) h w (ltb-true _ _ is) in
      some_matched t (λ p. takes_word w (out-PatC p)) v (λ p vars has taken. word_matched w v e has taken) ps are here
  truths_matched t ps are h v (Value-F.Con place us) e is = cc
  truths_matched t ps are h v (Value-F.Tuple us) e is = cc
  truths_matched t ps are h v (Value-F.Vector us) e is = cc

  named_matched : (number : ℕ) (o : Option SumDef) → slice_get types.sums number ≡ o → (ps : List PatC) → ArePatternsOf types (shape.Named number) ps → are_of_data o ps ≡ true
      → (v : Value) → is_value types (shape.Named number) v ≡ true → is_matched ps v ≡ true
  named_matched number None found ps are h v is = cc
  named_matched number (Some sum) found ps are h v is =
      cons_matched number sum found ps are (and_parts _ _ h).1 v is (out-Value v) refl (sym (data-value types down number sum found v) ∙ is)

  all_matched : (x : Ty-F Ty) (ps : List PatC) → ArePatternsOf types (roll-Ty x) ps → are_all types (forms_in x) ps ≡ true → (v : Value) → is_value types (roll-Ty x) v ≡ true → is_matched ps v ≡ true
  all_matched Ty-F.Bool ps are h v is =
      truths_matched (roll-Ty Ty-F.Bool) ps are (and_parts _ _ h).1 v (out-Value v) refl
      (sym (ap (λ (t : Value → Bool). t v) (fold-roll-Ty (Value → Bool) (value_step (is_named_value types (length types.sums))) Ty-F.Bool)) ∙ is)
  all_matched (Ty-F.Named number) ps are h v is =
      named_matched number (slice_get types.sums number) refl ps (subst (λ t. ArePatternsOf types t ps) (shape.rolls-Named number) are) h v
      (subst (λ t. is_value types t v ≡ true) (shape.rolls-Named number) is)
  all_matched Ty-F.Char ps are h v is = cc
  all_matched (Ty-F.Int bits) ps are h v is = cc
  all_matched (Ty-F.Nat bits) ps are h v is = cc
  all_matched (Ty-F.Tuple ts) ps are h v is = cc
  all_matched (Ty-F.Vector count item) ps are h v is = cc

  pub complete_matched : (t : Ty) (ps : List PatC) → ArePatternsOf types t ps → are_complete types (forms_of t) ps ≡ true → (v : Value) → is_value types t v ≡ true → is_matched ps v ≡ true
  complete_matched t ps are h v is = elim (either_way (last_passes is_irrefutable ps) (are_all types (forms_of t) ps) h) [
    | inl last ↦ last_matched t ps are last v is
    | inr all ↦ all_matched (out-Ty t) ps (subst (λ u. ArePatternsOf types u ps) (sym (roll-out-Ty t)) are) all v (subst (λ u. is_value types u v ≡ true) (sym (roll-out-Ty t)) is)
  ]
