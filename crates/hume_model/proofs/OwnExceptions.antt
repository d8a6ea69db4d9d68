-- The exceptions that every program has may be raised with nothing.
use Rattle.std.proofs.Common.{◌≡◌, ℕ, zero, suc, ◌<◌, true, List, [], ◌∷◌, None, slice_get, take, refl, ap, sym, ◌∙◌, arith}
use Rattle.hume_model.specs.declared.core_tree.Core.{Core}
use Rattle.hume_model.specs.declared.exceptions.TheConstants.{DIV_ZERO, RANGE, NO_CASE}
use Rattle.hume_model.specs.OwnExceptions.{own_exceptions, HasOwnExceptions}
use Rattle.hume_model.specs.Typing.{is_raised}

pub record AreRaised (core : Core) : Type 0 where
  pub div_zero : is_raised core.types (slice_get core.exns DIV_ZERO) None ≡ true
  pub range : is_raised core.types (slice_get core.exns RANGE) None ≡ true
  pub no_case : is_raised core.types (slice_get core.exns NO_CASE) None ≡ true

in_front : {X : Type 0} (count i : ℕ) (xs : List X) → i < count → slice_get (take count xs) i ≡ slice_get xs i
in_front zero i xs below = absurd (omega arith)
in_front (suc count) i [] below = refl
in_front (suc count) zero (x ∷ xs) below = refl
in_front (suc count) (suc i) (x ∷ xs) below = in_front count i xs (omega arith)

pub own_raised : (core : Core) → HasOwnExceptions core → AreRaised core
own_raised core own =
    let at : (i : ℕ) → i < 3 → slice_get core.exns i ≡ slice_get own_exceptions i =
    λ i below. sym (in_front 3 i core.exns below) ∙ ap (λ exns. slice_get exns i) own in
    record {
      div_zero = ap (λ exn. is_raised core.types exn None) (at 0 (omega arith));
      range = ap (λ exn. is_raised core.types exn None) (at 1 (omega arith));
      no_case = ap (λ exn. is_raised core.types exn None) (at 2 (omega arith));
    }
