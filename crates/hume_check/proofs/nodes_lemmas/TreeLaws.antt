-- The trees in the place of a declaration.
use Rattle.std.proofs.Common.{◌≡◌, ℕ, ◌<◌, List, length, get_or, Option, Some, slice_get, refl, sym, subst, ◌∙◌}
use Rattle.std.proofs.lemmas.Option.{slice_get_read, slice_get_within, get_or_from_slice_get}
use Rattle.hume_ast.specs.declared.tree.Decl.{Decl}
use Rattle.typed_core.specs.declared.typed_tree.TypedDeclaration.{TypedDeclaration}
use Rattle.check_typing.specs.Partial.{given}
use Rattle.check_typing.specs.Declarations.{HasTrees}
use Rattle.check_typing.specs.declared.signatures.Signatures.{Signatures}
use Rattle.check_rules.specs.Declared.{Decls, function_of}
use Rattle.check_rules.proofs.Stands.{from_left}
use Rattle.hume_check.specs.inner.Trees.{HaveTrees}
use Rattle.hume_check.specs.declared.nodes.declared.FunctionParts.{FunctionParts}
use Rattle.hume_check.specs.nodes.inner.Parts.{HasPartsIfOne}

module _ (s : Signatures) (decls : Decls) (place : ℕ) (d : ℕ × Decl) (within : place < length decls) (at : d ≡ get_or decls place d) where
  declared : slice_get decls place ≡ Some d
  declared = slice_get_read decls (length decls) place d refl within at

  pub function_parts : (parts : Option FunctionParts) → HasPartsIfOne s (function_of d) parts
      → HasPartsIfOne s (given (slice_get decls place) function_of) parts
  function_parts parts h = subst (λ o. HasPartsIfOne s (given o function_of) parts) (sym declared) h

  module _ (trees : List TypedDeclaration) (have : HaveTrees s decls trees) where
    there : (t : TypedDeclaration) × (slice_get trees place ≡ Some t) × HasTrees s d.1 t
    there = from_left (λ (d : ℕ × Decl) t. HasTrees s d.1 t) decls trees have place d declared

    pub tree_within : place < length trees
    tree_within = slice_get_within trees place there.0 there.1

    pub tree_at : (here : TypedDeclaration) → here ≡ get_or trees place here → HasTrees s d.1 here
    tree_at here is = subst (HasTrees s d.1) (sym (is ∙ get_or_from_slice_get trees place there.0 here there.1)) there.2
