use Rattle.std.proofs.Common.{sym}
use Rattle.check_names.proofs.repeated.first_repeated.Goals as goal

pub first_repeated_over-first-requires-clause-few : goal.first_repeated_over-first-requires-clause-few
first_repeated_over-first-requires-clause-few c = rw (sym c.as_slice.ensures) at c.requires
