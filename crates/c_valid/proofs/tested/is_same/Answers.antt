use Rattle.std.proofs.lemmas.Bool.Decides.{same_from_decides}
use Rattle.c_types.specs.inner.SameTypes.{is_same}
use Rattle.c_types.proofs.SameTypes.{is_same-Decides}
use Rattle.c_valid.proofs.tested.is_same.Goals as goal

pub returns : goal.returns
returns c = same_from_decides c.same_ty.result (is_same c.args.left.now c.args.right.now) c.same_ty.ensures (is_same-Decides c.args.left.now c.args.right.now)
