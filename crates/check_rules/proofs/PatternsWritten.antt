-- The core of a pattern against a type is as a source may write it, and its variables have types.
use Rattle.std.proofs.Common.{◌≡◌, ℕ, zero, suc, Bool, true, false, List, [], ◌∷◌, ◌++◌, map, length, Option, Some, None, slice_get, refl, ap, sym, subst, ◌∙◌}
use Rattle.std.specs.List.{list_all}
use Rattle.std.proofs.lemmas.Bool.{and_parts}
use Rattle.std.proofs.lemmas.List.{length-map}
use Rattle.hume_base.specs.declared.limits.TheConstants.{MAX_PARTS}
use Rattle.hume_base.specs.declared.types.Ty.{Ty, out-Ty, roll-out-Ty, map-Ty, fold-roll-Ty}
use Rattle.hume_base.specs.declared.types.Ty.TheOpen.{Ty-F}
use Rattle.hume_base.specs.declared.types.SumDef.{SumDef}
use Rattle.hume_base.specs.Values.{fields_at}
use Rattle.hume_ast.specs.declared.tree.Pat.{Pat, out-Pat, roll-Pat, map-Pat, fold-roll-Pat, ind-Pat}
use Rattle.hume_ast.specs.declared.tree.Pat.TheOpen.{Pat-F}
use Rattle.hume_model.specs.declared.core_tree.PatC.{PatC, roll-PatC, map-PatC, fold-roll-PatC, Var, Any, Word, Con, Tuple}
use Rattle.hume_model.specs.declared.core_tree.PatC.TheOpen.{PatC-F}
use Rattle.hume_model.specs.declared.core_tree.PatC.TheVariants.{rolls-Var, rolls-Any, rolls-Word, rolls-Con, rolls-Tuple}
use Rattle.hume_model.specs.declared.core_tree.InPat.TheVariants as in_pat
use Rattle.hume_model.specs.Calls.{all_true}
use Rattle.hume_model.specs.TypeLimits.{is_between, type_step, is_type}
use Rattle.hume_model.specs.PartLimits.{is_written_pattern, is_written_position}
use Rattle.hume_model.specs.PartLimits as model
use Rattle.hume_model.specs.Typing.{is_number_type}
use Rattle.check_typing.specs.Partial.{given}
use Rattle.check_typing.specs.Signatures.{Scope, Constructor, con_named}
use Rattle.check_typing.specs.Patterns.{literal_word, is_too_wide, is_no_char, word_of_truth, is_bool, is_char, is_named, CoredPat, pat_cores, some_pat_too_wide, Bound, all_bound, tuple_bound, con_bound, pattern_step, pattern, patterns, CoredPosition, built, position_step, position, positions}
use Rattle.check_typing.specs.CoreSignatures.{scope_types}
use Rattle.check_typing.specs.declared.signatures.Signatures.{Signatures}
use Rattle.check_typing.proofs.Maybe.{given-inv, when-inv, some-same}
use Rattle.check_typing.proofs.NamesFound.{con_stands}
use Rattle.check_rules.proofs.TypesWritten.{both}

-- an answer of a pattern's core
rolled : (x : PatC-F PatC) (p : PatC) → roll-PatC x ≡ p → model.pattern_step (map-PatC PatC Bool is_written_pattern x) ≡ true
    → is_written_pattern p ≡ true
rolled x p r h = ap is_written_pattern (sym r) ∙ fold-roll-PatC Bool model.pattern_step x ∙ h

module _ (s : Signatures) where
  abbrev pub IsTy : Ty → Type 0
  IsTy t = is_type s.types t ≡ true

  abbrev pub AreTys : List Ty → Type 0
  AreTys ts = list_all (λ b. b) (map (is_type s.types) ts) ≡ true

  -- the variables have types
  abbrev pub HasTypes : Scope → Type 0
  HasTypes [] = Unit {0}
  HasTypes (v ∷ vs) = IsTy v.1 × HasTypes vs

  pub types_append : (a b : Scope) → HasTypes a → HasTypes b → HasTypes (a ++ b)
  types_append [] b p q = q
  types_append (v ∷ vs) b p q = (p.0, types_append vs b p.1 q)

  pub type_at : (scope : Scope) → HasTypes scope → (i : ℕ) (t : Ty) → slice_get (scope_types scope) i ≡ Some t → IsTy t
  type_at [] h i t e = cc
  type_at (v ∷ vs) h zero t e = subst IsTy (some-same _ _ e) h.0
  type_at (v ∷ vs) h (suc i) t e = type_at vs h.1 i t e

  -- the layer of a type has types in it
  pub layer_types : (t : Ty) → IsTy t → type_step (length s.types.sums) (map-Ty Ty Bool (is_type s.types) (out-Ty t)) ≡ true
  layer_types t h = sym (fold-roll-Ty Bool (type_step (length s.types.sums)) (out-Ty t)) ∙ ap (is_type s.types) (roll-out-Ty t) ∙ h

  pub record IsFineBound (b : Bound) : Type 0 where
    pub vars : HasTypes b.0
    pub pat : is_written_pattern b.1.0 ≡ true

  pub record AreFineBound (count : ℕ) (b : Scope × List CoredPat) : Type 0 where
    pub vars : HasTypes b.0
    pub pats : all_true (map is_written_pattern (pat_cores b.1)) ≡ true
    pub long : length b.1 ≡ count

  module _ (fields : (k : ℕ) (sum : SumDef) → slice_get s.types.sums k ≡ Some sum → (place : ℕ) → AreTys (fields_at sum place)) where
    abbrev Written : (Ty → Option Bound) → Type 0
    Written p = (t : Ty) (b : Bound) → IsTy t → p t ≡ Some b → IsFineBound b

    abbrev AllWritten : List (Ty → Option Bound) → Type 0
    AllWritten [] = Unit {0}
    AllWritten (p ∷ ps) = Written p × AllWritten ps

    all_written : (ps : List (Ty → Option Bound)) → AllWritten ps → (ts : List Ty) (b : Scope × List CoredPat) → AreTys ts
        → all_bound ps ts ≡ Some b → AreFineBound (length ts) b
    all_written [] g [] b are h = subst (AreFineBound 0) (some-same ([], []) b h) (record { vars = tt; pats = refl; long = refl })
    all_written [] g (t ∷ ts) b are h = cc
    all_written (p ∷ ps) g [] b are h = cc
    all_written (p ∷ ps) g (t ∷ ts) b are h =
        let k = given-inv (p t) (λ first. given (all_bound ps ts) (λ others. Some (first.0 ++ others.0, first.1 ∷ others.1))) b h in
        let m = given-inv (all_bound ps ts) (λ others. Some (k.0.0 ++ others.0, k.0.1 ∷ others.1)) b k.2 in
        let hs = and_parts (is_type s.types t) (list_all (λ b. b) (map (is_type s.types) ts)) are in
        let first = g.0 t k.0 hs.0 k.1 in
        let others = all_written ps g.1 ts m.0 hs.1 m.1 in
        subst (AreFineBound (length (t ∷ ts))) (some-same _ _ m.2) (record {
          vars = types_append k.0.0 m.0.0 first.vars others.vars;
          pats = both _ _ first.pat others.pats;
          long = ap suc others.long;
        })

    con_written : (o : Option Constructor) → ((con : Constructor) → o ≡ Some con → AreTys con.fields) → (ps : List (Ty → Option Bound))
        → AllWritten ps → Written (con_bound o ps)
    con_written None found ps g t b is h = cc
    con_written (Some con) found ps g t b is h =
        let k = when-inv (is_named con.sum (out-Ty t)) (given (all_bound ps con.fields) (λ all. Some (all.0, (Con con.place (pat_cores all.1), some_pat_too_wide all.1)))) b h in
        let m = given-inv (all_bound ps con.fields) (λ all. Some (all.0, (Con con.place (pat_cores all.1), some_pat_too_wide all.1))) b k.1 in
        let parts = all_written ps g con.fields m.0 (found con refl) m.1 in
        subst IsFineBound (some-same _ _ m.2) (record {
          vars = parts.vars;
          pat = rolled (PatC-F.Con con.place (pat_cores m.0.1)) _ (rolls-Con con.place (pat_cores m.0.1)) parts.pats;
        })

    tuple_written : (ps : List (Ty → Option Bound)) → AllWritten ps → (layer : Ty-F Ty) (b : Bound)
        → type_step (length s.types.sums) (map-Ty Ty Bool (is_type s.types) layer) ≡ true
        → tuple_bound ps layer ≡ Some b → IsFineBound b
    tuple_written ps g (Ty-F.Tuple ts) b is h =
        let k = given-inv (all_bound ps ts) (λ all. Some (all.0, (Tuple (pat_cores all.1), some_pat_too_wide all.1))) b h in
        let hs = and_parts (is_between 2 MAX_PARTS (length (map (is_type s.types) ts))) (list_all (λ b. b) (map (is_type s.types) ts)) is in
        let parts = all_written ps g ts k.0 hs.1 k.1 in
        let long : length (map (is_type s.types) ts) ≡ length (map is_written_pattern (pat_cores k.0.1)) =
        length-map ts (is_type s.types) ∙ sym (length-map (pat_cores k.0.1) is_written_pattern ∙ length-map k.0.1 (λ (c : CoredPat). c.0) ∙ parts.long) in
        subst IsFineBound (some-same _ _ k.2) (record {
          vars = parts.vars;
          pat = rolled (PatC-F.Tuple (pat_cores k.0.1)) _ (rolls-Tuple (pat_cores k.0.1)) (both _ _ (subst (λ n. is_between 2 MAX_PARTS n ≡ true) long hs.0) parts.pats);
        })
    tuple_written ps g _ b is h = cc

    abbrev Known : Type 0
    Known = (p : Pat) × Written (pattern s p)

    all_known : (ps : List Known) → AllWritten (map (pattern s) (map (λ p. p.0) ps))
    all_known [] = tt
    all_known (p ∷ ps) = (p.1, all_known ps)

    constructor_types : (name : List ℕ) (con : Constructor) → con_named name s ≡ Some con → AreTys con.fields
    constructor_types name con e = let is = con_stands name s.types.sums con e in subst AreTys is.fields (fields con.sum is.sum is.there con.place)

    word_written : (w : ℕ) → is_written_pattern (Word w) ≡ true
    word_written w = rolled (PatC-F.Word w) (Word w) (rolls-Word w) refl

    level : (y : Pat-F Known) → Written (pattern_step s (map-Pat Pat (Ty → Option Bound) (pattern s) (map-Pat Known Pat (λ p. p.0) y)))
    level (Pat-F.Name x) t b is h = subst IsFineBound (some-same ((x, t) ∷ [], (Var, false)) b h) (record { vars = (is, tt); pat = rolled PatC-F.Var Var rolls-Var refl })
    level Pat-F.Any t b is h = subst IsFineBound (some-same ([], (Any, false)) b h) (record { vars = tt; pat = rolled PatC-F.Any Any rolls-Any refl })
    level (Pat-F.Num negative n) t b is h =
        let k = when-inv (is_number_type t) (Some ([], (Word (literal_word negative n), is_too_wide negative n t))) b h in
        subst IsFineBound (some-same _ _ k.1) (record { vars = tt; pat = word_written (literal_word negative n) })
    level (Pat-F.Letter byte) t b is h =
        let k = when-inv (is_char (out-Ty t)) (Some ([], (Word byte, is_no_char byte))) b h in
        subst IsFineBound (some-same _ _ k.1) (record { vars = tt; pat = word_written byte })
    level (Pat-F.Truth truth) t b is h =
        let k = when-inv (is_bool (out-Ty t)) (Some ([], (Word (word_of_truth truth), false))) b h in
        subst IsFineBound (some-same _ _ k.1) (record { vars = tt; pat = word_written (word_of_truth truth) })
    level (Pat-F.Con name ps) t b is h = con_written (con_named name s) (constructor_types name) _ (all_known ps) t b is h
    level (Pat-F.Paren p) t b is h = p.1 t b is h
    level (Pat-F.Tuple ps) t b is h = tuple_written _ (all_known ps) (out-Ty t) b (layer_types t is) h
    level Pat-F.Star t b is h = cc
    level Pat-F.AnyStar t b is h = cc

    at_roll : (y : Pat-F Known) → Written (pattern s (roll-Pat (map-Pat Known Pat (λ p. p.0) y)))
    at_roll y = subst Written (sym (fold-roll-Pat (Ty → Option Bound) (pattern_step s) (map-Pat Known Pat (λ p. p.0) y))) (level y)

    pub pattern_written : (p : Pat) → Written (pattern s p)
    pattern_written = ind-Pat (λ p. Written (pattern s p)) (λ x y is. subst (λ x. Written (pattern s (roll-Pat x))) is (at_roll y))

    several : (ps : List Pat) → AllWritten (map (pattern s) ps)
    several [] = tt
    several (p ∷ ps) = (pattern_written p, several ps)

    pub patterns_written : (ps : List Pat) (ts : List Ty) (b : Scope × List CoredPat) → AreTys ts → patterns s ps ts ≡ Some b
        → AreFineBound (length ts) b
    patterns_written ps ts b are h = all_written (map (pattern s) ps) (several ps) ts b are h

    -- positions of a rule
    pub record IsFinePosition (r : Scope × CoredPosition) : Type 0 where
      pub vars : HasTypes r.0
      pub pat : is_written_position r.1.0 ≡ true

    position_at : (bound : Option Bound) → ((b : Bound) → bound ≡ Some b → IsFineBound b) → (layer : Pat-F Pat) (r : Scope × CoredPosition)
        → position_step bound layer ≡ Some r → IsFinePosition r
    position_at bound fine layer r h = by layer h
      where
        as_built : built bound ≡ Some r → IsFinePosition r
        as_built h =
            let k = given-inv bound (λ b. Some (b.0, (in_pat.Built b.1.0, b.1.1))) r h in
            let b = fine k.0 k.1 in
            subst IsFinePosition (some-same _ _ k.2) (record { vars = b.vars; pat = b.pat })

        by : (layer : Pat-F Pat) → position_step bound layer ≡ Some r → IsFinePosition r
        by Pat-F.Star h = subst IsFinePosition (some-same ([], (in_pat.Star, false)) r h) (record { vars = tt; pat = refl })
        by Pat-F.AnyStar h = subst IsFinePosition (some-same ([], (in_pat.AnyStar, false)) r h) (record { vars = tt; pat = refl })
        by Pat-F.Any h = subst IsFinePosition (some-same ([], (in_pat.Any, false)) r h) (record { vars = tt; pat = refl })
        by _ h = as_built h

    pub record AreFinePositions (b : Scope × List CoredPosition) : Type 0 where
      pub vars : HasTypes b.0
      pub pats : list_all is_written_position (map (λ (p : CoredPosition). p.0) b.1) ≡ true

    pub positions_written : (ps : List Pat) (ts : List Ty) (b : Scope × List CoredPosition) → AreTys ts → positions s ps ts ≡ Some b
        → AreFinePositions b
    positions_written [] [] b are h = subst AreFinePositions (some-same ([], []) b h) (record { vars = tt; pats = refl })
    positions_written [] (t ∷ ts) b are h = cc
    positions_written (p ∷ ps) [] b are h = cc
    positions_written (p ∷ ps) (t ∷ ts) b are h =
        let k = given-inv (position s p t) (λ first. given (positions s ps ts) (λ others. Some (first.0 ++ others.0, first.1 ∷ others.1))) b h in
        let m = given-inv (positions s ps ts) (λ others. Some (k.0.0 ++ others.0, k.0.1 ∷ others.1)) b k.2 in
        let hs = and_parts (is_type s.types t) (list_all (λ b. b) (map (is_type s.types) ts)) are in
        let first = position_at (pattern s p t) (λ b e. pattern_written p t b hs.0 e) (out-Pat p) k.0 k.1 in
        let others = positions_written ps ts m.0 hs.1 m.1 in
        subst AreFinePositions (some-same _ _ m.2) (record { vars = types_append k.0.0 m.0.0 first.vars others.vars; pats = both _ _ first.pat others.pats })
