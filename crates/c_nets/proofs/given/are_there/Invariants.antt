use Rattle.std.proofs.Common.{◌≡◌, drop, is_some}
use Rattle.std.specs.List.{list_all}
use Rattle.c_nets.proofs.given.are_there.Given as goal

abbrev pub invariant-loop-out : goal.invariant-loop-out
invariant-loop-out l = list_all is_some (drop l.out-index l.outs) ≡ list_all is_some l.outs
