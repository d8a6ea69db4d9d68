use Rattle.std.proofs.Common.{◌+◌, ◌*◌}
use Rattle.look_cores.proofs.left_out.+put_part.Given as goal

abbrev pub decreases-put_part : goal.decreases-put_part
decreases-put_part l = 2 * l.depth

abbrev pub decreases-put_shown : goal.decreases-put_shown
decreases-put_shown l = 2 * l.depth + 1

abbrev pub decreases-put_tuple : goal.decreases-put_tuple
decreases-put_tuple l = 2 * l.depth + 1
