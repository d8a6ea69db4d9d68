-- Gathering the wires, declaration by declaration.
use Rattle.std.proofs.Common.{◌≡◌, ℕ, suc, List, [], ◌∷◌, ◌++◌, Option, Some, None, option_map, refl, ap, sym, ◌∙◌, append_assoc, append-nil}
use Rattle.std.specs.List.{filter_map, cons_option}
use Rattle.std.proofs.lemmas.Grind.{common_steps}
use Rattle.hume_ast.specs.declared.tree.Decl.{Decl}
use Rattle.hume_model.specs.declared.core_tree.WireC.{WireC}
use Rattle.check_typing.specs.Partial.{given}
use Rattle.check_typing.specs.inner.DeclarationWalk.{found_of_all}
use Rattle.check_rules.specs.Declared.{Decls, Numbered, numbered_from, WireDecl, wire_of, wires_in}
use Rattle.check_wires.specs.cores.inner.FoundWires.{numbered}

-- the wires of declarations, the first of which has number n
abbrev wires_from : ℕ → Decls → List WireDecl
wires_from n decls = filter_map (λ (d : Numbered). wire_of d d.decl) (numbered_from n decls)

module _ (find : WireDecl → Option WireC) where
  -- what is found so far, and what there is in what is left
  abbrev pub with_rest : ℕ → Decls → List WireC → Option (List WireC)
  with_rest n decls wires = given (found_of_all find (wires_from n decls)) (λ others. Some (wires ++ others))

  pub nothing_left : (n : ℕ) (wires : List WireC) → with_rest n [] wires ≡ Some wires
  nothing_left n wires = ap Some (append-nil wires)

  pub nothing_yet : (decls : Decls) → with_rest 0 decls [] ≡ found_of_all find (wires_in decls)
  nothing_yet decls = by (found_of_all find (wires_in decls))
    where
      by : (o : Option (List WireC)) → given o (λ others. Some ([] ++ others)) ≡ o
      by None = refl
      by (Some wires) = refl

  module _ (n : ℕ) (d : ℕ × Decl) (decls : Decls) (wires : List WireC) where
    abbrev with_one : Option WireDecl → Option (List WireC)
    with_one o = given (found_of_all find (cons_option o (wires_from (suc n) decls))) (λ others. Some (wires ++ others))

    pub passed : option_map find (wire_of (numbered n d) d.1) ≡ None → with_rest n (d ∷ decls) wires ≡ with_rest (suc n) decls wires
    passed h = by (wire_of (numbered n d) d.1) h
      where
        by : (o : Option WireDecl) → option_map find o ≡ None → with_one o ≡ with_rest (suc n) decls wires
        by None h = refl
        by (Some w) h = cc

    abbrev after : Option WireC → Option (List WireC)
    after o = given (given o (λ first. given (found_of_all find (wires_from (suc n) decls)) (λ others. Some (first ∷ others)))) (λ others. Some (wires ++ others))

    pub failed : option_map find (wire_of (numbered n d) d.1) ≡ Some None → with_rest n (d ∷ decls) wires ≡ None
    failed h = by (wire_of (numbered n d) d.1) h
      where
        by : (o : Option WireDecl) → option_map find o ≡ Some None → with_one o ≡ None
        by None h = cc
        by (Some w) h = let none : find w ≡ None = cc in ap after none

    pub pushed : (wire : WireC) → option_map find (wire_of (numbered n d) d.1) ≡ Some (Some wire)
        → with_rest n (d ∷ decls) wires ≡ with_rest (suc n) decls (wires ++ wire ∷ [])
    pushed wire h = by (wire_of (numbered n d) d.1) h
      where
        last : (o : Option (List WireC)) → given (given o (λ others. Some (wire ∷ others))) (λ others. Some (wires ++ others))
            ≡ given o (λ others. Some ((wires ++ wire ∷ []) ++ others))
        last None = refl
        last (Some others) = ap Some (sym (append_assoc wires (wire ∷ []) others))

        by : (o : Option WireDecl) → option_map find o ≡ Some (Some wire) → with_one o ≡ with_rest (suc n) decls (wires ++ wire ∷ [])
        by None h = cc
        by (Some w) h = let there : find w ≡ Some wire = cc in ap after there ∙ last (found_of_all find (wires_from (suc n) decls))

pub ruleset gathered_steps = (common_steps, nothing_left, nothing_yet, passed, failed, pushed)
