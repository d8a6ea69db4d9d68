-- Results in whose first alternatives no call can be unfolded.
use Rattle.std.proofs.Common.{◌≡◌, ℕ, zero, suc, ◌∷◌, List, [], take, set, Option, None, refl, ap, ◌∙◌}
use Rattle.std.proofs.lemmas.Grind.{common_steps}
use Rattle.std.proofs.lemmas.List.{take_all}
use Rattle.hume_model.specs.declared.core_tree.Res.{Res, out-Res}
use Rattle.hume_model.specs.declared.core_tree.Res.TheOpen.{Res-F}
use Rattle.hume_model.specs.declared.core_tree.Core.{Core}
use Rattle.calculus_unfolding.specs.inner.Changes.{first_changed}
use Rattle.calculus_unfolding.specs.inner.Clear.{ClearLayer, IsClear}
use Rattle.calculus_unfolding.proofs.Changes.{changed_here, none_further}

module _ (core : Core) (scope : ℕ) where
  clear_layer : (layer : Res-F Res) → ClearLayer core scope 0 layer
  clear_layer (Res-F.Outs outs) = tt
  clear_layer (Res-F.If test when_true when_false) = tt
  clear_layer (Res-F.Case part forms arms) = refl
  clear_layer (Res-F.Let part body) = tt
  clear_layer (Res-F.Raise exn part) = tt

  -- of no alternatives nothing is said
  pub nothing_clear : (result : Res) → IsClear core scope 0 result
  nothing_clear result = clear_layer (out-Res result)

take_set : {X : Type 0} (xs : List X) (i : ℕ) (new : X) → take i (set xs i new) ≡ take i xs
take_set [] zero new = refl
take_set [] (suc i) new = refl
take_set (x ∷ xs) zero new = refl
take_set (x ∷ xs) (suc i) new = ap (λ ys. x ∷ ys) (take_set xs i new)

-- the elements before a changed one stay
pub clear_before : {X : Type 0} (change : X → Option X) (xs : List X) (i : ℕ) (new : X) → first_changed change (take i xs) ≡ None
    → first_changed change (take i (set xs i new)) ≡ None
clear_before change xs i new none = ap (first_changed change) (take_set xs i new) ∙ none

pub ruleset clear_steps = (common_steps, nothing_clear)

pub ruleset way_steps = (common_steps, changed_here, none_further, take_all, clear_before)
