use Rattle.std.proofs.Common.{◌≡◌, take}
use Rattle.model_bare.proofs.types.copy_exceptions.Given as goal

abbrev pub invariant-loop-exn : goal.invariant-loop-exn
invariant-loop-exn l = l.copies ≡ take l.exn-index l.exns
