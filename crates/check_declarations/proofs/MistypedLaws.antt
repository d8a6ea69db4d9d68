-- What breaks a rule by the signatures of the program is what is mistyped, and what breaks none has its trees.
use Rattle.std.proofs.Common.{◌≡◌, ◌↔◌, ℕ, true, false, List, [], ◌∷◌, Option, Some, None, Result, Ok, Err, slice_get, refl, ap, sym, subst, ◌∙◌}
use Rattle.std.specs.Prelude.{OnOk, IfOk, IfErr}
use Rattle.hume_base.specs.declared.finding.Finding.{Finding}
use Rattle.hume_base.specs.declared.rule.Rule.{Rule}
use Rattle.hume_base.specs.Least.{IsLeast}
use Rattle.hume_base.proofs.Least.{IsLeast-same}
use Rattle.hume_ast.specs.declared.tree.Decl.{Decl}
use Rattle.typed_core.specs.declared.typed_tree.TypedDeclaration.{TypedDeclaration}
use Rattle.check_typing.specs.Declarations.{CoredDeclaration, InPlaces, IsTyped, HasNoType, HasWideLiteral, HasTrees}
use Rattle.check_typing.specs.inner.DeclarationWalk.{declaration_walk}
use Rattle.check_typing.specs.declared.signatures.Signatures.{Signatures}
use Rattle.check_rules.specs.Declared.{Decls}
use Rattle.check_rules.specs.SignaturesOf.{AreSignatures}
use Rattle.check_declarations.specs.Mistyped.{IsMistyped}
use Rattle.check_declarations.specs.inner.Verdicts.{verdict_on, Breaks, AreTrees, AreVerdicts}
use Rattle.check_declarations.proofs.FirstLaws.{rule-same}

-- where there are trees, they are found, and no literal is out of range
trees_found : (o : Option CoredDeclaration) (trees : TypedDeclaration) → verdict_on o ≡ Ok trees → o ≡ Some (trees, false)
trees_found None trees h = cc
trees_found (Some (others, true)) trees h = cc
trees_found (Some (others, false)) trees h = cc

module _ (decls : Decls) (s : Signatures) (are : AreSignatures decls s) (once : (t : Signatures) → AreSignatures decls t → t ≡ s)
    (typed : (decl : Decl) (c : CoredDeclaration) → IsTyped s decl c ↔ (declaration_walk s decl ≡ Some c))
    (untyped : (decl : Decl) → HasNoType s decl ↔ (declaration_walk s decl ≡ None)) where
  of_found : (f : Finding) (decl : ℕ × Decl) → slice_get decls f.declaration ≡ Some decl
      → (o : Option CoredDeclaration) → declaration_walk s decl.1 ≡ o → verdict_on o ≡ Err f.rule → IsMistyped decls f
  of_found f decl there None found broken = IsMistyped.untyped
      (sym (rule-same _ f.rule broken), record { signatures = s; are = are; decl = decl; there = there; none = (untyped decl.1).1 found })
  of_found f decl there (Some (trees, true)) found broken = IsMistyped.out_of_range (
    sym (rule-same _ f.rule broken),
    record { signatures = s; are = are; decl = decl; there = there; wide = (trees, (typed decl.1 (trees, true)).1 found) },
  )
  of_found f decl there (Some (trees, false)) found broken = cc

  broken_is_mistyped : (f : Finding) → Breaks s decls f → IsMistyped decls f
  broken_is_mistyped f b = of_found f b.decl b.there (declaration_walk s b.decl.1) refl b.broken

  mistyped_is_broken : (f : Finding) → IsMistyped decls f → Breaks s decls f
  mistyped_is_broken f (IsMistyped.untyped p) =
      let none = subst (λ (t : Signatures). HasNoType t p.1.decl.1) (once p.1.signatures p.1.are) p.1.none in
      record {
        decl = p.1.decl;
        there = p.1.there;
        broken = ap verdict_on ((untyped p.1.decl.1).0 none) ∙ ap (λ (rule : Rule). Err rule) (sym p.0);
      }
  mistyped_is_broken f (IsMistyped.out_of_range p) =
      let wide = subst (λ (t : Signatures). HasWideLiteral t p.1.decl.1) (once p.1.signatures p.1.are) p.1.wide in
      record {
        decl = p.1.decl;
        there = p.1.there;
        broken = ap verdict_on ((typed p.1.decl.1 (wide.0, true)).0 wide.1) ∙ ap (λ (rule : Rule). Err rule) (sym p.0);
      }

  least_mistyped : (o : Option Finding) → IsLeast (Breaks s decls) o → IsLeast (IsMistyped decls) o
  least_mistyped o h = IsLeast-same (Breaks s decls) (IsMistyped decls) o (λ f. (broken_is_mistyped f, mistyped_is_broken f)) h

  they_have : (ds : Decls) (trees : List TypedDeclaration) → AreTrees s ds trees → InPlaces (λ (d : ℕ × Decl) t. HasTrees s d.1 t) ds trees
  they_have [] [] h = tt
  they_have [] (tree ∷ trees) h = absurd h
  they_have (d ∷ ds) [] h = absurd h
  they_have (d ∷ ds) (tree ∷ trees) h = ((typed d.1 (tree, false)).1 (trees_found (declaration_walk s d.1) tree h.0), they_have ds trees h.1)

  pub fine_where_trees : (r : Result (List TypedDeclaration) Finding) → AreVerdicts s decls r → OnOk r (IsLeast (IsMistyped decls) None)
  fine_where_trees (Ok trees) h = least_mistyped None h.1
  fine_where_trees (Err f) h = tt

  pub trees_have : (r : Result (List TypedDeclaration) Finding) → AreVerdicts s decls r
      → IfOk r (λ trees. InPlaces (λ (d : ℕ × Decl) t. HasTrees s d.1 t) decls trees)
  trees_have (Ok trees) h = they_have decls trees h.0
  trees_have (Err f) h = tt

  pub least_is_mistyped : (r : Result (List TypedDeclaration) Finding) → AreVerdicts s decls r
      → IfErr r (λ f. IsLeast (IsMistyped decls) (Some f))
  least_is_mistyped (Ok trees) h = tt
  least_is_mistyped (Err f) h = least_mistyped (Some f) h
