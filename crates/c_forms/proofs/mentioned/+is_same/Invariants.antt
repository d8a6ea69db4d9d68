use Rattle.std.proofs.Common.{◌+◌, ◌*◌, max}
use Rattle.c_tree.specs.declared.tree.CExp.{size-CExp}
use Rattle.c_forms.proofs.mentioned.+is_same.Given as goal

abbrev pub decreases-is_same : goal.decreases-is_same
decreases-is_same l = 4 * size-CExp l.left.now

abbrev pub decreases-is_member : goal.decreases-is_member
decreases-is_member l = 4 * size-CExp l.object.now + 2

abbrev pub decreases-is_element : goal.decreases-is_element
decreases-is_element l = 4 * max (size-CExp l.array.now) (size-CExp l.index.now) + 2
