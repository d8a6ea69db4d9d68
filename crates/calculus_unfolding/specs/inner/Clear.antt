-- Results in whose first alternatives no call can be unfolded.
use Rattle.std.specs.Prelude.{◌≡◌, ℕ, None, take, ⊤}
use Rattle.hume_model.specs.declared.core_tree.Res.{Res, out-Res}
use Rattle.hume_model.specs.declared.core_tree.Res.TheOpen.{Res-F}
use Rattle.hume_model.specs.declared.core_tree.Core.{Core}
use Rattle.calculus_unfolding.specs.inner.Changes.{arm_changed, first_changed, result_changed}

-- No call can be unfolded in so many first alternatives, if the level is a `case`, where so many variables are in scope. Of other
-- levels this says nothing.
abbrev pub ClearLayer : Core → ℕ → ℕ → Res-F Res → Type 0
ClearLayer core scope count (Res-F.Case part forms arms) = first_changed (arm_changed (result_changed core) scope) (take count arms) ≡ None
ClearLayer core scope count _ = ⊤

-- the same of a result
abbrev pub IsClear : Core → ℕ → ℕ → Res → Type 0
IsClear core scope count result = ClearLayer core scope count (out-Res result)
