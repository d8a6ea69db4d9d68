use Rattle.std.proofs.Common.{◌≡◌, take, map}
use Rattle.union_laws.specs.Moving.{moved_data}
use Rattle.std.specs.Prelude.{IfOk}
use Rattle.net_union.proofs.types.move_sums.Given as goal

abbrev pub invariant-loop-sum : goal.invariant-loop-sum
invariant-loop-sum l = IfOk l.higher (λ made. made ≡ map (moved_data l.fn.moves) (take l.sum-index l.sums))
