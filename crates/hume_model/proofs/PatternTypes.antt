-- The variables of a pattern that a value matches have values of their types.
use Rattle.std.proofs.Common.{◌≡◌, ℕ, ◌==◌, ◌&&◌, Bool, true, false, if◌then◌else◌, List, [], ◌∷◌, ◌++◌, map, length, Option, Some, None, refl, sym, ◌∙◌, subst}
use Rattle.std.proofs.lemmas.Bool.{and_parts, eqb-true}
use Rattle.hume_base.specs.declared.types.Ty.{Ty}
use Rattle.hume_base.specs.declared.types.Types.{Types}
use Rattle.hume_base.specs.declared.types.SumDef.{SumDef}
use Rattle.hume_base.specs.declared.types.Value.{Value, out-Value}
use Rattle.hume_base.specs.declared.types.Value.TheOpen.{Value-F}
use Rattle.hume_base.specs.Holding.{HoldSmaller}
use Rattle.hume_base.specs.Values.{is_value, is_named_value, is_con_of, is_tuple_of, fields_at}
use Rattle.hume_model.specs.declared.core_tree.PatC.{PatC}
use Rattle.hume_model.specs.Patterns.{Match, matches, matches_all, both_match, all_match, match_word, match_con, match_tuple}
use Rattle.hume_model.specs.Typing.{IsPattern, ArePatterns, AreOf}
use Rattle.hume_model.proofs.Layers.{variable-match, any-match, word-match, con-match, tuple-match, tuple-value}
use Rattle.hume_model.proofs.Fields.{data-value}

pub both_true : (a b : Bool) → a ≡ true → b ≡ true → (a && b) ≡ true
both_true a b p q = rw (p, q) refl

pub of_both : (types : Types) (ts us : List Ty) (vs ws : List Value) → AreOf types ts vs → AreOf types us ws → AreOf types (ts ++ us) (vs ++ ws)
of_both types [] us [] ws p q = q
of_both types [] us (v ∷ vs) ws p q = cc
of_both types (t ∷ ts) us [] ws p q = cc
of_both types (t ∷ ts) us (v ∷ vs) ws p q =
    let ps = and_parts _ _ p in
    both_true _ _ ps.0 (of_both types ts us vs ws ps.1 q)

pub one_of : (types : Types) (t : Ty) (v : Value) → is_value types t v ≡ true → AreOf types (t ∷ []) (v ∷ [])
one_of types t v p = both_true _ _ p refl

unwrap : {X : Type 0} (x y : X) → Some x ≡ Some y → x ≡ y
unwrap x y e = cc

both_some : (a b : Option (List Value)) (vs : List Value) → both_match a b ≡ Some vs
    → (x : List Value) × (y : List Value) × (a ≡ Some x) × (b ≡ Some y) × (x ++ y ≡ vs)
both_some None b vs h = cc
both_some (Some x) None vs h = cc
both_some (Some x) (Some y) vs h = (x, y, refl, refl, unwrap _ _ h)

chosen : (b : Bool) (m : Option (List Value)) (vs : List Value) → (if b then m else None) ≡ Some vs → (b ≡ true) × (m ≡ Some vs)
chosen true m vs h = (refl, h)
chosen false m vs h = cc

word_binds : (w : ℕ) (l : Value-F Value) (vs : List Value) → match_word w l ≡ Some vs → vs ≡ []
word_binds w (Value-F.Word x) vs h = sym (unwrap _ _ (chosen (x == w) (Some []) vs h).1)
word_binds w (Value-F.Tuple us) vs h = cc
word_binds w (Value-F.Vector us) vs h = cc
word_binds w (Value-F.Con c us) vs h = cc

module _ (types : Types) (down : HoldSmaller types) where
  con_fields : (sum : SumDef) (c : ℕ) (ms : List Match) (l : Value-F Value) (vs : List Value) → is_con_of (is_value types) sum l ≡ true → match_con c ms l ≡ Some vs
      → (us : List Value) × AreOf types (fields_at sum c) us × (all_match ms us ≡ Some vs)
  con_fields sum c ms (Value-F.Con d us) vs p h =
      let hs = chosen (d == c) (all_match ms us) vs h in
      let same : d ≡ c = eqb-true d c hs.0 in
      (us, subst (λ k. AreOf types (fields_at sum k) us) same (and_parts _ _ p).1, hs.1)
  con_fields sum c ms (Value-F.Word w) vs p h = cc
  con_fields sum c ms (Value-F.Tuple us) vs p h = cc
  con_fields sum c ms (Value-F.Vector us) vs p h = cc

  tuple_parts : (ts : List Ty) (ms : List Match) (l : Value-F Value) (vs : List Value) → is_tuple_of (map (is_value types) ts) l ≡ true → match_tuple ms l ≡ Some vs
      → (us : List Value) × AreOf types ts us × (all_match ms us ≡ Some vs)
  tuple_parts ts ms (Value-F.Tuple us) vs p h = (us, p, h)
  tuple_parts ts ms (Value-F.Word w) vs p h = cc
  tuple_parts ts ms (Value-F.Vector us) vs p h = cc
  tuple_parts ts ms (Value-F.Con c us) vs p h = cc

  mutual
    pub pattern_typed : {t : Ty} {p : PatC} {vars : List Ty} → IsPattern types t p vars → (v : Value) (vs : List Value)
        → is_value types t v ≡ true → matches p v ≡ Some vs → AreOf types vars vs
    pattern_typed (IsPattern.variable {ty = t}) v vs is h =
        subst (λ us. AreOf types (t ∷ []) us) (unwrap _ _ (sym (variable-match v) ∙ h)) (one_of types t v is)
    pattern_typed IsPattern.anything v vs is h =
        subst (λ us. AreOf types [] us) (unwrap _ _ (sym (any-match v) ∙ h)) refl
    pattern_typed (IsPattern.word w ok) v vs is h =
        subst (λ us. AreOf types [] us) (sym (word_binds w (out-Value v) vs (sym (word-match v w) ∙ h))) refl
    pattern_typed (IsPattern.con number place sum {pats = ps} found within parts) v vs is h =
        let fields = con_fields sum place (map matches ps) (out-Value v) vs (sym (data-value types down number sum found v) ∙ is) (sym (con-match v place ps) ∙ h) in
        patterns_typed parts fields.0 vs fields.1 fields.2
    pattern_typed (IsPattern.tuple {tys = ts} {pats = ps} parts) v vs is h =
        let fields = tuple_parts ts (map matches ps) (out-Value v) vs (sym (tuple-value (is_named_value types (length types.sums)) v ts) ∙ is) (sym (tuple-match v ps) ∙ h) in
        patterns_typed parts fields.0 vs fields.1 fields.2

    pub patterns_typed : {ts : List Ty} {ps : List PatC} {vars : List Ty} → ArePatterns types ts ps vars → (us vs : List Value)
        → AreOf types ts us → matches_all ps us ≡ Some vs → AreOf types vars vs
    patterns_typed ArePatterns.none us vs is h = subst (λ ws. AreOf types [] ws) (unwrap _ _ h) refl
    patterns_typed (ArePatterns.one first rest) [] vs is h = cc
    patterns_typed (ArePatterns.one {vars = xs} {more = ys} first rest) (u ∷ us) vs is h =
        let hs = both_some _ _ vs h in
        let ps = and_parts _ _ is in
        subst (λ ws. AreOf types (xs ++ ys) ws) hs.4
        (of_both types xs ys hs.0 hs.1 (pattern_typed first u hs.0 ps.0 hs.2) (patterns_typed rest us hs.1 ps.1 hs.3))
