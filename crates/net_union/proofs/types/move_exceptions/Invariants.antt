use Rattle.std.proofs.Common.{◌≡◌, take, map}
use Rattle.union_laws.specs.Moving.{moved_exception}
use Rattle.std.specs.Prelude.{IfOk}
use Rattle.net_union.proofs.types.move_exceptions.Given as goal

abbrev pub invariant-loop-exn : goal.invariant-loop-exn
invariant-loop-exn l = IfOk l.higher (λ made. made ≡ map (moved_exception l.fn.moves) (take l.exn-index l.exns))
