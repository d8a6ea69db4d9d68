-- Inputs and outputs with the types that are written.
use native.Mathlib.Omega.{arith}
use Rattle.std.proofs.Common.{◌≡◌, ℕ, zero, suc, ◌<◌, List, [], ◌∷◌, length, get_or, Some, ap, ◌∙◌}
use Rattle.hume_base.specs.declared.types.Types.{Types}
use Rattle.hume_ast.specs.declared.tree.TyExp.{TyExp}
use Rattle.check_typing.specs.Partial.{given}
use Rattle.check_typing.specs.WrittenTypes.{written}
use Rattle.check_typing.specs.Declarations.{ports_written}
use Rattle.check_typing.proofs.Maybe.{given-inv}
use Rattle.hume_check.specs.nodes.inner.Parts.{HaveTypes, HasType}

module _ (types : Types) (first : List ℕ × TyExp) (places : List (List ℕ × TyExp)) (h : HaveTypes types (first ∷ places)) where
  first_has : HasType types first
  first_has =
      let k = given-inv (written types first.1) (λ ty. given (ports_written types places) (λ tys. Some (ty ∷ tys))) h.0 h.1 in
      (k.0, k.1)

  others_have : HaveTypes types places
  others_have =
      let k = given-inv (written types first.1) (λ ty. given (ports_written types places) (λ tys. Some (ty ∷ tys))) h.0 h.1 in
      let others = given-inv (ports_written types places) (λ tys. Some (k.0 ∷ tys)) h.0 k.2 in
      (others.0, others.1)

-- where all have types each has one
pub has_type : (types : Types) (places : List (List ℕ × TyExp)) (at : ℕ) (place : List ℕ × TyExp) → at < length places → place ≡ get_or places at place
    → HaveTypes types places → HasType types place
has_type types [] at place lt e h = absurd (omega arith)
has_type types (first ∷ places) zero place lt e h =
    let k = first_has types first places h in
    (k.0, ap (λ (p : List ℕ × TyExp). written types p.1) e ∙ k.1)
has_type types (first ∷ places) (suc at) place lt e h = has_type types places at place (omega arith) e (others_have types first places h)
