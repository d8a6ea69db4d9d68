use Rattle.std.proofs.Common.{◌≡◌, take, map}
use Rattle.union_laws.specs.Moving.{moved_type}
use Rattle.std.specs.Prelude.{IfOk}
use Rattle.net_union.proofs.types.move_types.Given as goal

abbrev pub invariant-loop-ty : goal.invariant-loop-ty
invariant-loop-ty l = IfOk l.higher (λ made. made ≡ map (moved_type l.fn.moves) (take l.ty-index l.tys))
