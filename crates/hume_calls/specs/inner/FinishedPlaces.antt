-- Which ports a run finishes, by their places.
use Rattle.std.specs.Prelude.{◌==◌, ℕ, List, [], ◌∷◌, Option, None, Some, if◌then◌else◌}
use Rattle.hume_model.specs.declared.core_tree.StreamC.{StreamC}

-- The place of a port that is finished for a node: that of an output stream, unless it is the last one.
abbrev pub finish_at : Option StreamC → ℕ → ℕ → List ℕ
finish_at None at out = []
finish_at (Some stream) at out = if at == out then [] else at ∷ []
