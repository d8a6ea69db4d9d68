use Rattle.std.proofs.Common.{◌≡◌, take, map}
use Rattle.union_laws.specs.Moving.{moved_con}
use Rattle.std.specs.Prelude.{IfOk}
use Rattle.net_union.proofs.types.move_cons.Given as goal

abbrev pub invariant-loop-con : goal.invariant-loop-con
invariant-loop-con l = IfOk l.higher (λ made. made ≡ map (moved_con l.fn.moves) (take l.con-index l.cons))
