use Rattle.std.proofs.Common.{◌≡◌, ◌+◌, ◌*◌, take}
use denote.Param.Weighed.{most}
use Rattle.c_tree.specs.declared.tree.CExp.{size-CExp}
use Rattle.c_forms.proofs.copies.+copy_exp.Given as goal

abbrev pub decreases-copy_exp : goal.decreases-copy_exp
decreases-copy_exp l = 2 * size-CExp l.exp.now

abbrev pub decreases-copy_parts : goal.decreases-copy_parts
decreases-copy_parts l = 2 * most size-CExp l.parts.now + 1

abbrev pub invariant-copy_parts-loop-part : goal.invariant-copy_parts-loop-part
invariant-copy_parts-loop-part l = l.copies ≡ take l.part-index l.parts
