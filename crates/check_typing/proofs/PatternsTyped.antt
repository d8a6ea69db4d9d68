-- The core of a pattern is one for values of the type, if no literal in it is out of range.
use Rattle.std.proofs.Common.{◌≡◌, ℕ, List, [], ◌∷◌, ◌++◌, map, Option, Some, None, refl, ap, sym, subst, ◌∙◌, false}
use Rattle.std.proofs.lemmas.Bool.{or_parts}
use Rattle.std.proofs.lemmas.List.{map-append}
use Rattle.hume_base.specs.declared.types.Ty.{Ty, out-Ty, roll-Ty, roll-out-Ty, Named as NamedTy, Tuple as TupleTy, Char as CharTy, Bool as BoolTy}
use Rattle.hume_base.specs.declared.types.Ty.TheOpen.{Ty-F}
use Rattle.hume_base.specs.declared.types.Ty.TheVariants.{rolls-Named, rolls-Tuple, rolls-Char, rolls-Bool}
use Rattle.hume_ast.specs.declared.tree.Pat.{Pat, out-Pat, roll-Pat, map-Pat, fold-roll-Pat, ind-Pat}
use Rattle.hume_ast.specs.declared.tree.Pat.TheOpen.{Pat-F}
use Rattle.hume_model.specs.declared.core_tree.PatC.{Var, Any, Word, Con, Tuple}
use Rattle.hume_model.specs.declared.core_tree.InPat.{InPat}
use Rattle.hume_model.specs.declared.core_tree.InPat.TheVariants as in_pat
use Rattle.hume_model.specs.Typing.{is_number_type, IsPattern, ArePatterns}
use Rattle.hume_model.specs.BoxTyping.{PositionsHave}
use Rattle.check_typing.specs.Partial.{given}
use Rattle.check_typing.specs.Signatures.{Scope, Constructor, con_named}
use Rattle.check_typing.specs.Patterns.{literal_word, is_too_wide, is_no_char, word_of_truth, is_bool, is_char, is_named, CoredPat, pat_cores, some_pat_too_wide, Bound, all_bound, tuple_bound, con_bound, pattern_step, pattern, patterns, CoredPosition, built, position_step, position, positions}
use Rattle.check_typing.specs.CoreSignatures.{scope_types}
use Rattle.check_typing.specs.Declarations.{some_so}
use Rattle.check_typing.specs.declared.signatures.Signatures.{Signatures}
use Rattle.check_typing.proofs.Maybe.{given-inv, when-inv, some-same}
use Rattle.check_typing.proofs.SameTypes.{bool_true, char_true, named_true}
use Rattle.check_typing.proofs.LiteralTypes.{literal-value, letter-value, truth-value}
use Rattle.check_typing.proofs.NamesFound.{ConstructorIs, con_stands}

module _ (s : Signatures) where
  -- what is bound is a pattern, and so is what is equal to it
  abbrev IsTypedPattern : Ty → Bound → Type 0
  IsTypedPattern t b = b.1.1 ≡ false → IsPattern s.types t b.1.0 (scope_types b.0)

  abbrev Typed : (Ty → Option Bound) → Type 0
  Typed p = (t : Ty) (b : Bound) → p t ≡ Some b → IsTypedPattern t b

  abbrev AllTyped : List (Ty → Option Bound) → Type 0
  AllTyped [] = Unit {0}
  AllTyped (p ∷ ps) = Typed p × AllTyped ps

  all_typed : (ps : List (Ty → Option Bound)) → AllTyped ps → (ts : List Ty) (b : Scope × List CoredPat) → all_bound ps ts ≡ Some b
      → some_pat_too_wide b.1 ≡ false
      → ArePatterns s.types ts (pat_cores b.1) (scope_types b.0)
  all_typed [] g [] b h off = subst (λ r. ArePatterns s.types [] (pat_cores r.1) (scope_types r.0)) (some-same ([], []) b h) ArePatterns.none
  all_typed [] g (t ∷ ts) b h off = cc
  all_typed (p ∷ ps) g [] b h off = cc
  all_typed (p ∷ ps) g (t ∷ ts) b h off =
      let k = given-inv (p t) (λ first. given (all_bound ps ts) (λ others. Some (first.0 ++ others.0, first.1 ∷ others.1))) b h in
      let m = given-inv (all_bound ps ts) (λ others. Some (k.0.0 ++ others.0, k.0.1 ∷ others.1)) b k.2 in
      let e : (k.0.0 ++ m.0.0, k.0.1 ∷ m.0.1) ≡ b = some-same _ _ m.2 in
      let flags = or_parts k.0.1.1 (some_pat_too_wide m.0.1) (ap (λ r. some_pat_too_wide r.1) e ∙ off) in
      let first = g.0 t k.0 k.1 flags.0 in
      let others = all_typed ps g.1 ts m.0 m.1 flags.1 in
      subst (λ r. ArePatterns s.types (t ∷ ts) (pat_cores r.1) (scope_types r.0)) e
      (subst (ArePatterns s.types (t ∷ ts) (k.0.1.0 ∷ pat_cores m.0.1)) (sym (map-append (λ (v : List ℕ
      × Ty). v.1) k.0.0 m.0.0)) (ArePatterns.one first others))

  con_typed : (o : Option Constructor) → ((con : Constructor) → o ≡ Some con → ConstructorIs s.types.sums con) → (ps : List (Ty → Option Bound))
      → AllTyped ps → Typed (con_bound o ps)
  con_typed None found ps g t b h off = cc
  con_typed (Some con) found ps g t b h off =
      let k = when-inv (is_named con.sum (out-Ty t)) (given (all_bound ps con.fields)
      (λ all. Some (all.0, (Con con.place (pat_cores all.1), some_pat_too_wide all.1)))) b h in
      let m = given-inv (all_bound ps con.fields) (λ all. Some (all.0, (Con con.place (pat_cores all.1), some_pat_too_wide all.1))) b k.1 in
      let e : (m.0.0, (Con con.place (pat_cores m.0.1), some_pat_too_wide m.0.1)) ≡ b = some-same _ _ m.2 in
      let is : NamedTy con.sum ≡ t = sym (rolls-Named con.sum) ∙ ap roll-Ty (named_true con.sum (out-Ty t) k.0) ∙ roll-out-Ty t in
      let c = found con refl in
      let parts = all_typed ps g con.fields m.0 m.1 (ap (λ r. r.1.1) e ∙ off) in
      subst (λ u. IsPattern s.types u b.1.0 (scope_types b.0)) is
      (subst (λ r. IsPattern s.types (NamedTy con.sum) r.1.0 (scope_types r.0)) e
      (IsPattern.con con.sum con.place c.sum c.there c.within
      (subst (λ ts. ArePatterns s.types ts (pat_cores m.0.1) (scope_types m.0.0)) (sym c.fields) parts)))

  tuple_typed : (ps : List (Ty → Option Bound)) → AllTyped ps → (layer : Ty-F Ty) (b : Bound) → tuple_bound ps layer ≡ Some b → b.1.1 ≡ false
      → IsPattern s.types (roll-Ty layer) b.1.0 (scope_types b.0)
  tuple_typed ps g (Ty-F.Tuple ts) b h off =
      let k = given-inv (all_bound ps ts) (λ all. Some (all.0, (Tuple (pat_cores all.1), some_pat_too_wide all.1))) b h in
      let e : (k.0.0, (Tuple (pat_cores k.0.1), some_pat_too_wide k.0.1)) ≡ b = some-same _ _ k.2 in
      subst (λ u. IsPattern s.types u b.1.0 (scope_types b.0)) (sym (rolls-Tuple ts))
      (subst (λ r. IsPattern s.types (TupleTy ts) r.1.0 (scope_types r.0)) e (IsPattern.tuple (all_typed ps g ts k.0 k.1 (ap (λ r. r.1.1) e ∙ off))))
  tuple_typed ps g _ b h off = cc

  abbrev Known : Type 0
  Known = (p : Pat) × Typed (pattern s p)

  all_known : (ps : List Known) → AllTyped (map (pattern s) (map (λ p. p.0) ps))
  all_known [] = tt
  all_known (p ∷ ps) = (p.1, all_known ps)

  level : (y : Pat-F Known) → Typed (pattern_step s (map-Pat Pat (Ty → Option Bound) (pattern s) (map-Pat Known Pat (λ p. p.0) y)))
  level (Pat-F.Name x) t b h off =
      subst (λ (r : Bound). IsPattern s.types t r.1.0 (scope_types r.0)) (some-same ((x, t) ∷ [], (Var, false)) b h) IsPattern.variable
  level Pat-F.Any t b h off = subst (λ (r : Bound). IsPattern s.types t r.1.0 (scope_types r.0)) (some-same ([], (Any, false)) b h) IsPattern.anything
  level (Pat-F.Num negative n) t b h off =
      let k = when-inv (is_number_type t) (Some ([], (Word (literal_word negative n), is_too_wide negative n t))) b h in
      let e : ([], (Word (literal_word negative n), is_too_wide negative n t)) ≡ b = some-same _ _ k.1 in
      subst (λ (r : Bound). IsPattern s.types t r.1.0 (scope_types r.0)) e
      (IsPattern.word (literal_word negative n) (literal-value s.types t negative n k.0 (ap (λ (r : Bound). r.1.1) e ∙ off)))
  level (Pat-F.Letter byte) t b h off =
      let k = when-inv (is_char (out-Ty t)) (Some ([], (Word byte, is_no_char byte))) b h in
      let e : ([], (Word byte, is_no_char byte)) ≡ b = some-same _ _ k.1 in
      let is : CharTy ≡ t = sym rolls-Char ∙ ap roll-Ty (char_true (out-Ty t) k.0) ∙ roll-out-Ty t in
      subst (λ (r : Bound). IsPattern s.types t r.1.0 (scope_types r.0)) e
      (subst (λ u. IsPattern s.types u (Word byte) []) is (IsPattern.word byte (letter-value s.types byte (ap (λ (r : Bound). r.1.1) e ∙ off))))
  level (Pat-F.Truth truth) t b h off =
      let k = when-inv (is_bool (out-Ty t)) (Some ([], (Word (word_of_truth truth), false))) b h in
      let e : ([], (Word (word_of_truth truth), false)) ≡ b = some-same _ _ k.1 in
      let is : BoolTy ≡ t = sym rolls-Bool ∙ ap roll-Ty (bool_true (out-Ty t) k.0) ∙ roll-out-Ty t in
      subst (λ (r : Bound). IsPattern s.types t r.1.0 (scope_types r.0)) e
      (subst (λ u. IsPattern s.types u (Word (word_of_truth truth)) []) is (IsPattern.word (word_of_truth truth) (truth-value s.types truth)))
  level (Pat-F.Con name ps) t b h off = con_typed (con_named name s) (con_stands name s.types.sums) _ (all_known ps) t b h off
  level (Pat-F.Paren p) t b h off = p.1 t b h off
  level (Pat-F.Tuple ps) t b h off =
      subst (λ u. IsPattern s.types u b.1.0 (scope_types b.0)) (roll-out-Ty t) (tuple_typed _ (all_known ps) (out-Ty t) b h off)
  level Pat-F.Star t b h off = cc
  level Pat-F.AnyStar t b h off = cc

  rolled : (y : Pat-F Known) → Typed (pattern s (roll-Pat (map-Pat Known Pat (λ p. p.0) y)))
  rolled y = subst Typed (sym (fold-roll-Pat (Ty → Option Bound) (pattern_step s) (map-Pat Known Pat (λ p. p.0) y))) (level y)

  pub pattern_typed : (p : Pat) → Typed (pattern s p)
  pattern_typed = ind-Pat (λ p. Typed (pattern s p)) (λ x y is. subst (λ x. Typed (pattern s (roll-Pat x))) is (rolled y))

  several : (ps : List Pat) → AllTyped (map (pattern s) ps)
  several [] = tt
  several (p ∷ ps) = (pattern_typed p, several ps)

  pub patterns_typed : (ps : List Pat) (ts : List Ty) (b : Scope × List CoredPat) → patterns s ps ts ≡ Some b → some_pat_too_wide b.1 ≡ false
      → ArePatterns s.types ts (pat_cores b.1) (scope_types b.0)
  patterns_typed ps = all_typed (map (pattern s) ps) (several ps)

  -- a position before others
  before : (ty : Ty) (tys vars : List Ty) (pats : List InPat) (bound : Option Bound) → ((b : Bound) → bound ≡ Some b → IsTypedPattern ty b)
      → (layer : Pat-F Pat) (r : Scope × CoredPosition)
      → position_step bound layer ≡ Some r → r.1.1 ≡ false → PositionsHave s.types tys pats vars → PositionsHave s.types (ty ∷ tys) (r.1.0 ∷ pats) (scope_types r.0 ++ vars)
  before ty tys vars pats bound typed layer r h off others = by layer h
    where
      Goal : Scope × CoredPosition → Type 0
      Goal r = PositionsHave s.types (ty ∷ tys) (r.1.0 ∷ pats) (scope_types r.0 ++ vars)

      as_built : built bound ≡ Some r → Goal r
      as_built h =
          let k = given-inv bound (λ b. Some (b.0, (in_pat.Built b.1.0, b.1.1))) r h in
          let e : (k.0.0, (in_pat.Built k.0.1.0, k.0.1.1)) ≡ r = some-same _ _ k.2 in
          subst Goal e (PositionsHave.built (typed k.0 k.1 (ap (λ r. r.1.1) e ∙ off)) others)

      by : (layer : Pat-F Pat) → position_step bound layer ≡ Some r → Goal r
      by Pat-F.Star h = subst Goal (some-same ([], (in_pat.Star, false)) r h) (PositionsHave.star others)
      by Pat-F.AnyStar h = subst Goal (some-same ([], (in_pat.AnyStar, false)) r h) (PositionsHave.any_star others)
      by Pat-F.Any h = subst Goal (some-same ([], (in_pat.Any, false)) r h) (PositionsHave.any others)
      by _ h = as_built h

  pub positions_typed : (ps : List Pat) (ts : List Ty) (b : Scope × List CoredPosition) → positions s ps ts ≡ Some b → some_so b.1 ≡ false
      → PositionsHave s.types ts (map (λ (p : CoredPosition). p.0) b.1) (scope_types b.0)
  positions_typed [] [] b h off = subst (λ (r : Scope
      × List CoredPosition). PositionsHave s.types [] (map
      (λ (p : CoredPosition). p.0) r.1) (scope_types r.0)) (some-same ([], []) b h) PositionsHave.none
  positions_typed [] (t ∷ ts) b h off = cc
  positions_typed (p ∷ ps) [] b h off = cc
  positions_typed (p ∷ ps) (t ∷ ts) b h off =
      let k = given-inv (position s p t) (λ first. given (positions s ps ts) (λ others. Some (first.0 ++ others.0, first.1 ∷ others.1))) b h in
      let m = given-inv (positions s ps ts) (λ others. Some (k.0.0 ++ others.0, k.0.1 ∷ others.1)) b k.2 in
      let e : (k.0.0 ++ m.0.0, k.0.1 ∷ m.0.1) ≡ b = some-same _ _ m.2 in
      let flags = or_parts k.0.1.1 (some_so m.0.1) (ap (λ r. some_so r.1) e ∙ off) in
      let others = positions_typed ps ts m.0 m.1 flags.1 in
      let pats : List InPat = map (λ (p : CoredPosition). p.0) m.0.1 in
      subst (λ (r : Scope × List CoredPosition). PositionsHave s.types (t ∷ ts) (map (λ (p : CoredPosition). p.0) r.1) (scope_types r.0)) e
      (subst (PositionsHave s.types (t ∷ ts) (k.0.1.0 ∷ pats)) (sym (map-append (λ (v : List ℕ × Ty). v.1) k.0.0 m.0.0))
      (before t ts (scope_types m.0.0) pats (pattern s p t) (pattern_typed p t) (out-Pat p) k.0 k.1 flags.0 others))
