use Rattle.std.proofs.Common.{◌≡◌, take, map}
use Rattle.std.specs.Option.{option_map}
use Rattle.typed_core.specs.Erasing.{erased}
use Rattle.typed_core.proofs.results.erase_outs.Given as goal

abbrev pub invariant-loop-out : goal.invariant-loop-out
invariant-loop-out l = l.core ≡ map (option_map erased) (take l.out-index l.outs)
