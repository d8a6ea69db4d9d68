use Rattle.std.proofs.Common.{◌≡◌, take}
use Rattle.model_bare.proofs.types.copy_cons.Given as goal

abbrev pub invariant-loop-con : goal.invariant-loop-con
invariant-loop-con l = l.copies ≡ take l.con-index l.cons
