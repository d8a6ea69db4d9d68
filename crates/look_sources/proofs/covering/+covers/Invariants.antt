use Rattle.std.proofs.Common.{◌+◌, ◌*◌}
use denote.Param.Weighed.{most}
use Rattle.hume_ast.specs.declared.tree.Pat.{size-Pat}
use Rattle.look_sources.proofs.covering.+covers.Given as goal

abbrev pub decreases-all_cover : goal.decreases-all_cover
decreases-all_cover l = 3 * (most size-Pat l.first.now + most size-Pat l.second.now) + 1

abbrev pub decreases-covers : goal.decreases-covers
decreases-covers l = 3 * (size-Pat l.first.now + size-Pat l.second.now)

abbrev pub decreases-covers_constructor : goal.decreases-covers_constructor
decreases-covers_constructor l = 3 * (most size-Pat l.parts.now + size-Pat l.second.now) + 2

abbrev pub decreases-covers_tuple : goal.decreases-covers_tuple
decreases-covers_tuple l = 3 * (most size-Pat l.parts.now + size-Pat l.second.now) + 2
