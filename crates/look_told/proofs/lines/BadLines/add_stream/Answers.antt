use Rattle.look_told.proofs.WireTypes.{printable_wire, small_wire}
use Rattle.look_told.proofs.lines.BadLines.add_stream.Goals as goal

pub first_bad-requires-clause-printable : goal.first_bad-requires-clause-printable
first_bad-requires-clause-printable g c = printable_wire c.args.core.now c.requires _ c.deref.ensures _ c.in-Ok-Some.ensures' _

pub first_bad-requires-clause-small : goal.first_bad-requires-clause-small
first_bad-requires-clause-small g c = small_wire c.args.core.now c.requires _ c.deref.ensures _ c.in-Ok-Some.ensures' _
