-- What is said of a function and its trees is what its core has.
use Rattle.std.proofs.Common.{◌≡◌, ℕ, suc, ◌+◌, ◌<◌, ◌≤◌, List, [], ◌∷◌, ◌++◌, length, drop, map, get_or, Option, Some, None, slice_get, refl, ap, sym, subst, ◌∙◌, add-one}
use Rattle.std.specs.List.{cons_option}
use Rattle.std.proofs.lemmas.Grind.{common_steps}
use Rattle.std.proofs.lemmas.List.{length-append, drop_all}
use Rattle.hume_base.specs.Places.{line_at}
use Rattle.hume_base.specs.declared.types.Types.{Types}
use Rattle.hume_ast.specs.declared.tree.TyExp.{TyExp}
use Rattle.hume_ast.specs.declared.tree.Decl.{Decl}
use Rattle.hume_ast.specs.declared.tree.Decl.TheVariants.{Fun, BoxD}
use Rattle.hume_model.specs.declared.core_tree.FunC.{FunC}
use Rattle.typed_core.specs.declared.typed_tree.TypedEquation.{TypedEquation}
use Rattle.typed_core.specs.declared.typed_tree.TypedDeclaration.{TypedDeclaration}
use Rattle.typed_core.specs.declared.typed_tree.TypedDeclaration.TheVariants.{Equations}
use Rattle.typed_core.specs.Erasing.{erased_equation}
use Rattle.check_typing.specs.Partial.{given}
use Rattle.check_typing.specs.WrittenTypes.{all_written}
use Rattle.check_typing.specs.Declarations.{InPlaces, CoredDeclaration, cores_alone, parted, signature_written, HasTrees}
use Rattle.check_typing.specs.declared.signatures.Signature.{Signature}
use Rattle.check_typing.specs.declared.signatures.Signatures.{Signatures}
use Rattle.check_typing.proofs.Maybe.{given-inv, some-same}
use Rattle.check_rules.specs.Declared.{Decls, FunctionDecl, function_of, in_order}
use Rattle.check_rules.specs.CoreOf.{IsFunctionOf}
use Rattle.hume_check.specs.declared.nodes.declared.FunctionParts.{FunctionParts}
use Rattle.hume_check.specs.nodes.inner.Parts.{IsSignature, AreSigned, HasParts, HasPartsIfOne, function_from}
use Rattle.hume_check.proofs.nodes_lemmas.Gathered.{split_at, GoesOn, nothing_yet, one_more, nothing_left, first_belongs, first_within, others_left}

-- a signature has the name that it is written for
pub signature_name : (types : Types) (name : List ℕ) (tys : List TyExp) (signature : Signature) → signature_written types name tys ≡ Some signature
    → signature.name ≡ name
signature_name types name tys signature h =
    let k = given-inv (all_written types tys) _ signature h in
    let l = given-inv (parted k.0) _ signature k.2 in
    ap (λ (s : Signature). s.name) (sym (some-same _ signature l.2))

same_equations : (equations others : List TypedEquation) → Equations equations ≡ Equations others → equations ≡ others
same_equations equations others h = cc

module _ (s : Signatures) where
  -- only a function has trees of equations
  pub of_equations : (d : ℕ × Decl) (trees : TypedDeclaration) (parts : FunctionParts) → trees ≡ Equations parts.equations.now → parts.place ≡ d.0
      → HasTrees s d.1 trees → HasPartsIfOne s (function_of d) (Some parts)
  of_equations (place, Fun name types equations) trees parts is at h = record {
    place = at;
    cores = h.0;
    typed = h.1;
    equations = same_equations parts.equations.now (cores_alone h.0) (sym is ∙ ap (λ (c : CoredDeclaration). c.0) h.2);
  }
  of_equations (place, BoxD name ins outs fair rules handlers) trees parts is at h = let e = ap (λ (c : CoredDeclaration). c.0) h.3 in cc
  of_equations (place, _) trees parts is at h = let e = ap (λ (c : CoredDeclaration). c.0) h in cc

  -- a function has no other trees
  pub of_others : (d : ℕ × Decl) (trees : TypedDeclaration) → ((equations : List TypedEquation) → trees ≡ Equations equations → ⊥)
      → HasTrees s d.1 trees → HasPartsIfOne s (function_of d) None
  of_others (place, Fun name types equations) trees not h = absurd (not (cores_alone h.0) (ap (λ (c : CoredDeclaration). c.0) h.2))
  of_others (place, _) trees not h = tt

  pub is_function : (o : Option FunctionDecl) (parts : FunctionParts) → HasPartsIfOne s o (Some parts) → (f : FunctionDecl) × (o ≡ Some f) × HasParts s f parts
  is_function None parts h = absurd h
  is_function (Some f) parts h = (f, refl, h)

  pub is_none : (o : Option FunctionDecl) → HasPartsIfOne s o None → o ≡ None
  is_none None h = refl
  is_none (Some f) h = absurd h

module _ (text : List ℕ) (s : Signatures) (f : FunctionDecl) (parts : FunctionParts) (signature : Signature) where
  pub function_made : signature_written s.types f.name f.types ≡ Some signature → HasParts s f parts
      → IsFunctionOf text s f (function_from text parts signature)
  function_made signed has =
      let named = signature_name s.types f.name f.types signature signed in
      record {
        name = named;
        line = ap (line_at text) has.place;
        signature = signed ∙ ap (λ (n : List ℕ). Some (record { name = n; params = signature.params; gives = signature.gives })) named;
        cores = has.cores;
        typed = has.typed;
        equations = ap (map erased_equation) has.equations;
      }

module _ (text : List ℕ) (s : Signatures) (decls : Decls) (order : List ℕ) where
  abbrev pub functions_at : List ℕ → List FunctionDecl
  functions_at numbers = in_order function_of numbers decls

  -- the functions up to a place of the order are made, and the signatures of the others follow
  pub record AreMade (place : ℕ) (found : List FunC) : Type 0 where
    pub made : GoesOn (IsFunctionOf text s) (functions_at order) (functions_at (drop place order)) found
    pub signed : InPlaces (IsSignature s.types) (functions_at (drop place order)) (drop (length found) s.funs)

  pub none_made : AreSigned s.types (functions_at order) s.funs → AreMade 0 []
  none_made signed = record { made = nothing_yet (IsFunctionOf text s) (functions_at order); signed = signed }

  pub all_made : (place : ℕ) (found : List FunC) → length order ≤ place → AreMade place found → InPlaces (IsFunctionOf text s) (functions_at order) found
  all_made place found h are = nothing_left (IsFunctionOf text s) (functions_at order) found
      (subst (λ (numbers : List ℕ). GoesOn (IsFunctionOf text s) (functions_at order) (functions_at numbers) found) (drop_all place order h) are.made)

  module _ (place number : ℕ) (found : List FunC) (within : place < length order) (at : number ≡ get_or order place 0) (are : AreMade place found) where
    left_at : (o : Option FunctionDecl) → given (slice_get decls number) function_of ≡ o
        → functions_at (drop place order) ≡ cons_option o (functions_at (drop (place + 1) order))
    left_at o h = ap functions_at (split_at order place number 0 within at) ∙ ap (λ o. cons_option o (functions_at (drop (place + 1) order))) h

    pub other_passed : given (slice_get decls number) function_of ≡ None → AreMade (place + 1) found
    other_passed h = record {
      made = subst (λ left. GoesOn (IsFunctionOf text s) (functions_at order) left found) (left_at None h) are.made;
      signed = subst (λ left. InPlaces (IsSignature s.types) left (drop (length found) s.funs)) (left_at None h) are.signed;
    }

    module _ (f : FunctionDecl) (h : given (slice_get decls number) function_of ≡ Some f) where
      next_signed : InPlaces (IsSignature s.types) (f ∷ functions_at (drop (place + 1) order)) (drop (length found) s.funs)
      next_signed = subst (λ left. InPlaces (IsSignature s.types) left (drop (length found) s.funs)) (left_at (Some f) h) are.signed

      pub has_place : length found < length s.funs
      has_place = first_within (IsSignature s.types) f (functions_at (drop (place + 1) order)) s.funs (length found) next_signed

      pub has_signature : (signature : Signature) → signature ≡ get_or s.funs (length found) signature → IsSignature s.types f signature
      has_signature signature e = first_belongs (IsSignature s.types) f (functions_at (drop (place + 1) order)) s.funs (length found) signature next_signed e

      pub function_added : (function : FunC) (new : List FunC) → IsFunctionOf text s f function → new ≡ found ++ function ∷ [] → AreMade (place + 1) new
      function_added function new is e =
          let long : suc (length found) ≡ length new = sym (add-one (length found)) ∙ sym (length-append found (function ∷ [])) ∙ ap length (sym e) in
          record {
            made = subst (GoesOn (IsFunctionOf text s) (functions_at order) (functions_at (drop (place + 1) order))) (sym e)
                (one_more (IsFunctionOf text s) (functions_at order) (functions_at (drop (place + 1) order)) found f function
                (subst (λ left. GoesOn (IsFunctionOf text s) (functions_at order) left found) (left_at (Some f) h) are.made) is);
            signed = subst (λ n. InPlaces (IsSignature s.types) (functions_at (drop (place + 1) order)) (drop n s.funs)) long
                (others_left (IsSignature s.types) f (functions_at (drop (place + 1) order)) s.funs (length found) next_signed);
          }

pub ruleset order_steps = (common_steps, none_made)
