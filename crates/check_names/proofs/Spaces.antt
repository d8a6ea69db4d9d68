-- The names of the spaces, one declaration after another.
use Rattle.std.proofs.Common.{◌≡◌, ℕ, ◌+◌, List, [], ◌∷◌, ◌++◌, Some, slice_get, take, ap, sym, subst, ◌∙◌, ◌||◌}
use Rattle.std.proofs.lemmas.List.{flat_map_more, take_more}
use Rattle.std.proofs.lemmas.Option.{slice_get_within, get_or_from_slice_get}
use Rattle.hume_ast.specs.declared.tree.Decl.{Decl}
use Rattle.check_names.specs.DeclaredNames.{types_of, functions_of, nodes_of, given_exceptions}
use Rattle.check_names.specs.Repeated.{Spaces, spaces_in, capitals_of, repeats_shared}
use Rattle.check_names.specs.inner.Spaces.{SameSpaces, with_declared}
use Rattle.check_names.proofs.Repeats.{same_append, same_then, repeats_same}

pub repeats_shared_same : (a b : Spaces) (decl : Decl) → SameSpaces a b → repeats_shared a decl ≡ repeats_shared b decl
repeats_shared_same a b decl same = λ i.
    repeats_same a.types b.types same.types (types_of decl) i
    || (repeats_same a.capitals b.capitals same.capitals (capitals_of decl) i
    || (repeats_same a.functions b.functions same.functions (functions_of decl) i
    || repeats_same a.nodes b.nodes same.nodes (nodes_of decl) i))

pub taken_more : (decls : List (ℕ × Decl)) (i : ℕ) (d : ℕ × Decl) → slice_get decls i ≡ Some d → take (i + 1) decls ≡ take i decls ++ d ∷ []
taken_more decls i d at = take_more decls i d (slice_get_within decls i d at) ∙ ap (λ x. take i decls ++ x ∷ []) (get_or_from_slice_get decls i d d at)

spaces_push : (decls : List (ℕ × Decl)) (d : ℕ × Decl) → with_declared (spaces_in decls) d.1 ≡ spaces_in (decls ++ d ∷ [])
spaces_push decls d = λ i. record {
  types = flat_map_more (λ d. types_of d.1) [] decls d i;
  capitals = flat_map_more (λ d. capitals_of d.1) given_exceptions decls d i;
  functions = flat_map_more (λ d. functions_of d.1) [] decls d i;
  nodes = flat_map_more (λ d. nodes_of d.1) [] decls d i;
}

pub spaces_more : (decls : List (ℕ × Decl)) (i : ℕ) (d : ℕ × Decl) (old new : Spaces) → slice_get decls i ≡ Some d → SameSpaces old (spaces_in (take i decls)) → SameSpaces new (with_declared old d.1)
    → SameSpaces new (spaces_in (take (i + 1) decls))
spaces_more decls i d old new at same added = subst (SameSpaces new) (spaces_push (take i decls) d ∙ ap spaces_in (sym (taken_more decls i d at))) (record {
  types = same_then new.types (old.types ++ types_of d.1) ((spaces_in (take i decls)).types ++ types_of d.1) added.types (same_append old.types (spaces_in (take i decls)).types (types_of d.1) same.types);
  capitals = same_then new.capitals (old.capitals ++ capitals_of d.1) ((spaces_in (take i decls)).capitals ++ capitals_of d.1) added.capitals (same_append old.capitals (spaces_in (take i decls)).capitals (capitals_of d.1) same.capitals);
  functions = same_then new.functions (old.functions ++ functions_of d.1) ((spaces_in (take i decls)).functions ++ functions_of d.1) added.functions (same_append old.functions (spaces_in (take i decls)).functions (functions_of d.1) same.functions);
  nodes = same_then new.nodes (old.nodes ++ nodes_of d.1) ((spaces_in (take i decls)).nodes ++ nodes_of d.1) added.nodes (same_append old.nodes (spaces_in (take i decls)).nodes (nodes_of d.1) same.nodes);
})
