use Rattle.std.proofs.Common.{◌≡◌, take}
use Rattle.hume_check.proofs.nodes.functions.parameters.Given as goal

abbrev pub invariant-loop-ty : goal.invariant-loop-ty
invariant-loop-ty l = l.copies ≡ take l.ty-index l.params
