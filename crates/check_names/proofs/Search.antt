-- A search of the declarations, one after another.
use Rattle.std.proofs.Common.{◌≡◌, ℕ, ◌+◌, ◌<◌, ◌≤◌, Bool, true, false, IsTrue, List, length, Some, None, slice_get, sym, subst, ◌∙◌, arith}
use Rattle.std.proofs.lemmas.Bool.{false≢true}
use Rattle.std.proofs.lemmas.Option.{slice_get_within}
use borrow.Author.Count.{below_more}
use Rattle.hume_ast.specs.declared.tree.Decl.{Decl}
use Rattle.hume_base.specs.Least.{IsFirst}
use Rattle.hume_base.proofs.Least.{IsFirst-none, IsFirst-here}
use Rattle.check_names.specs.Names.{OfDecl}

module _ (decls : List (ℕ × Decl)) (test : ℕ → Decl → Bool) where
  abbrev Breaks : ℕ → Type 0
  Breaks i = OfDecl decls i (λ decl. IsTrue (test i decl))

  decl_breaks : (i : ℕ) (d : ℕ × Decl) → slice_get decls i ≡ Some d → Breaks i → IsTrue (test i d.1)
  decl_breaks i d at o = let same : o.decl ≡ d = let e = o.at in cc in subst (λ (x : ℕ × Decl). IsTrue (test i x.1)) same o.holds

  -- the step of the search, its end, and the end of the list
  pub search_more : (i : ℕ) (d : ℕ × Decl) (t : Bool) → slice_get decls i ≡ Some d → t ≡ test i d.1 → t ≡ false → ((j : ℕ) → j < i → Breaks j → ⊥) → (j : ℕ) → j < i + 1 → Breaks j → ⊥
  search_more i d t at h off none = below_more _ _ none (λ o. false≢true (sym off ∙ h ∙ decl_breaks i d at o))

  pub search_here : (i : ℕ) (d : ℕ × Decl) (t : Bool) → slice_get decls i ≡ Some d → t ≡ test i d.1 → t ≡ true → ((j : ℕ) → j < i → Breaks j → ⊥) → IsFirst Breaks (Some i)
  search_here i d t at h on none = IsFirst-here Breaks i none (record { decl = d; at = at; holds = sym h ∙ on })

  pub search_none : (i : ℕ) → length decls ≤ i → ((j : ℕ) → j < i → Breaks j → ⊥) → IsFirst Breaks None
  search_none i le none = IsFirst-none Breaks i none (λ j o. omega (arith, slice_get_within decls j o.decl o.at))
