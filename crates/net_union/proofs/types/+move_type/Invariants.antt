use Rattle.std.proofs.Common.{◌≡◌, ◌+◌, ◌*◌, take, map}
use Rattle.std.specs.Prelude.{IfOk}
use denote.Param.Weighed.{most}
use Rattle.hume_base.specs.declared.types.Ty.{size-Ty}
use Rattle.union_laws.specs.Moving.{moved_type}
use Rattle.net_union.proofs.types.+move_type.Given as goal

abbrev pub decreases-move_type : goal.decreases-move_type
decreases-move_type l = 4 * size-Ty l.ty.now

abbrev pub decreases-move_shared : goal.decreases-move_shared
decreases-move_shared l = 4 * size-Ty l.ty.now + 1

abbrev pub decreases-move_parts : goal.decreases-move_parts
decreases-move_parts l = 4 * most size-Ty l.tys.now + 2

abbrev pub invariant-move_parts-loop-ty : goal.invariant-move_parts-loop-ty
invariant-move_parts-loop-ty l = IfOk l.higher (λ made. made ≡ map (moved_type l.fn.moves) (take l.ty-index l.tys))
