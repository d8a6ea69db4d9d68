-- Stacks of cores: lists of them, the last one first.
use Rattle.std.specs.Prelude.{ℕ, suc, Bool, false, List, [], ◌∷◌, ◌++◌, take, drop}
use Rattle.hume_model.specs.declared.core_tree.PatC.{Any}
use Rattle.check_typing.specs.Patterns.{CoredPat}
use Rattle.check_typing.specs.Cores.{Cored, truth_core}

-- the last core
abbrev pub top_core : List Cored → Cored
top_core [] = truth_core false
top_core (c ∷ cs) = c

-- the last pattern
abbrev pub top_pattern : List CoredPat → CoredPat
top_pattern [] = (Any, false)
top_pattern (p ∷ ps) = p

-- with the item below so many others in front
abbrev pub lifted : {A : Type 0} → ℕ → List A → List A
lifted others items = take 1 (drop others items) ++ (take others items ++ drop (suc others) items)
