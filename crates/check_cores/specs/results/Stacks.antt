-- Stacks of cores of results: lists of them, the last one first.
use Rattle.std.specs.Prelude.{List, [], ◌∷◌}
use Rattle.check_typing.specs.Results.{CoredRes, outs_core}

-- the last result
abbrev pub top_result : List CoredRes → CoredRes
top_result [] = outs_core []
top_result (c ∷ cs) = c
