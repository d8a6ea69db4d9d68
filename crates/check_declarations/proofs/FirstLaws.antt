-- A search of the declarations for the first that breaks a rule.
use Rattle.std.proofs.Common.{◌≡◌, ◌≤◌, ◌<◌, ◌+◌, ℕ, ◌⊎◌, inl, inr, true, false, List, [], ◌∷◌, ◌++◌, length, take, Option, Some, None, Result, Ok, Err, IsTrue, slice_get, get_or, ap, sym, subst, ◌∙◌, arith}
use Rattle.std.proofs.lemmas.Bool.{cases_lt}
use Rattle.std.proofs.lemmas.Bool.Decides.{nat_tests}
use Rattle.std.proofs.lemmas.List.{take_more}
use Rattle.std.proofs.lemmas.Option.{slice_get_within}
use Rattle.hume_base.specs.declared.rule.Rule.{Rule}
use Rattle.hume_base.specs.declared.finding.Finding.{Finding}
use Rattle.hume_base.specs.Rules.{phase_of, code_of}
use Rattle.hume_base.specs.Least.{goes_first, precedes, IsLeast}
use Rattle.hume_ast.specs.declared.tree.Decl.{Decl}
use Rattle.typed_core.specs.declared.typed_tree.TypedDeclaration.{TypedDeclaration}
use Rattle.check_typing.specs.Declarations.{CoredDeclaration, InPlaces}
use Rattle.check_typing.specs.inner.DeclarationWalk.{declaration_walk}
use Rattle.check_typing.specs.declared.signatures.Signatures.{Signatures}
use Rattle.check_typing.proofs.Maybe.{some-same}
use Rattle.check_declarations.specs.inner.Verdicts.{verdict_on, verdict_by, Breaks, AreTrees}

abbrev broken : Rule → Result TypedDeclaration Rule
broken rule = Err rule

abbrev sound : TypedDeclaration → Result TypedDeclaration Rule
sound trees = Ok trees

-- one declaration breaks one rule
pub rule-same : (x y : Rule) → broken x ≡ broken y → x ≡ y
rule-same x y h = cc

not_broken : (trees : TypedDeclaration) (rule : Rule) → sound trees ≡ broken rule → ⊥
not_broken trees rule h = cc

-- both rules are of one phase
phase_is : (o : Option CoredDeclaration) (rule : Rule) → verdict_on o ≡ Err rule → phase_of rule ≡ 6
phase_is None rule h = ap phase_of (sym (rule-same _ rule h))
phase_is (Some (trees, true)) rule h = ap phase_of (sym (rule-same _ rule h))
phase_is (Some (trees, false)) rule h = cc

later : (x y : ℕ × ℕ × ℕ) → x.0 ≡ y.0 → x.1 < y.1 → goes_first x y ≡ true
unfolding goes_first
later x y e h = grind (arith, nat_tests)

same_one : (x y : ℕ × ℕ × ℕ) → x.0 ≡ y.0 → x.1 ≡ y.1 → x.2 ≡ y.2 → goes_first x y ≡ true
unfolding goes_first
same_one x y a b c = grind (arith, nat_tests)

module _ (s : Signatures) (decls : List (ℕ × Decl)) where
  -- no declaration before this one breaks a rule
  abbrev pub NoneBefore : ℕ → Type 0
  NoneBefore i = (f : Finding) → f.declaration < i → Breaks s decls f → ⊥

  pub least_none : (i : ℕ) → length decls ≤ i → NoneBefore i → IsLeast (Breaks s decls) None
  least_none i le none = λ f b. none f (within f (slice_get_within decls f.declaration b.decl b.there)) b
    where
      within : (f : Finding) → f.declaration < length decls → f.declaration < i
      within f lt = omega arith

  module _ (i : ℕ) (decl : ℕ × Decl) (at : slice_get decls i ≡ Some decl) where
    -- a finding of this declaration is of what is found here
    here : (f : Finding) → f.declaration ≡ i → Breaks s decls f → verdict_by s decl ≡ Err f.rule
    here f e b =
        let same = some-same decl b.decl (sym at ∙ ap (slice_get decls) (sym e) ∙ b.there) in
        ap (verdict_by s) same ∙ b.broken

    pub none_more : (trees : TypedDeclaration) → verdict_by s decl ≡ Ok trees → NoneBefore i → NoneBefore (i + 1)
    none_more trees h none f lt b = elim (cases_lt f.declaration i) [
      | inl before ↦ none f before b
      | inr le ↦ not_broken trees f.rule (sym h ∙ here f (equal le) b)
    ]
      where
        equal : i ≤ f.declaration → f.declaration ≡ i
        equal le = omega arith

    pub least_here : (rule : Rule) → verdict_by s decl ≡ Err rule → NoneBefore i
        → IsLeast (Breaks s decls) (Some (record { rule = rule; declaration = i }))
    least_here rule h none = (record { decl = decl; there = at; broken = h }, λ f b. by f b (cases_lt f.declaration i) (cases_lt i f.declaration))
      where
        phases : (f : Finding) → Breaks s decls f → phase_of rule ≡ phase_of f.rule
        phases f b = phase_is (declaration_walk s decl.1) rule h ∙ sym (phase_is (declaration_walk s b.decl.1) f.rule b.broken)

        equal : (f : Finding) → i ≤ f.declaration → f.declaration ≤ i → f.declaration ≡ i
        equal f le ge = omega arith

        by : (f : Finding) → Breaks s decls f → (f.declaration < i) ⊎ (i ≤ f.declaration) → (i < f.declaration) ⊎ (f.declaration ≤ i)
            → IsTrue (precedes (record { rule = rule; declaration = i }) f)
        by f b (inl before) other = absurd (none f before b)
        by f b (inr le) (inl behind) = later (phase_of rule, i, code_of rule) (phase_of f.rule, f.declaration, code_of f.rule) (phases f b) behind
        by f b (inr le) (inr ge) =
            same_one (phase_of rule, i, code_of rule) (phase_of f.rule, f.declaration, code_of f.rule) (phases f b) (sym (equal f le ge))
            (ap code_of (rule-same rule f.rule (sym h ∙ here f (equal f le ge) b)))

-- one more in each of the lists
in_places_more : {A B : Type 0} (R : A → B → Type 0) (xs : List A) (ys : List B) (x : A) (y : B) → InPlaces R xs ys → R x y
    → InPlaces R (xs ++ x ∷ []) (ys ++ y ∷ [])
in_places_more R [] [] x y h r = (r, tt)
in_places_more R [] (z ∷ ys) x y h r = absurd h
in_places_more R (w ∷ xs) [] x y h r = absurd h
in_places_more R (w ∷ xs) (z ∷ ys) x y h r = (h.0, in_places_more R xs ys x y h.1 r)

-- the trees of one more declaration
pub trees_more : (s : Signatures) (decls : List (ℕ × Decl)) (trees : List TypedDeclaration) (i : ℕ) (decl : ℕ × Decl) (tree : TypedDeclaration)
    → i < length decls → decl ≡ get_or decls i decl → verdict_by s decl ≡ Ok tree → AreTrees s (take i decls) trees
    → AreTrees s (take (i + 1) decls) (trees ++ tree ∷ [])
trees_more s decls trees i decl tree lt is h so_far =
    subst (λ ds. AreTrees s ds (trees ++ tree ∷ [])) (ap (λ d. take i decls ++ d ∷ []) is ∙ sym (take_more decls i decl lt))
    (in_places_more (λ (d : ℕ × Decl) t. verdict_by s d ≡ Ok t) (take i decls) trees decl tree so_far h)
