-- Forms that name something.
use Rattle.std.proofs.lemmas.Grind.{common_steps}
use Rattle.hume_base.specs.declared.types.Ty.{the_lemmas as ty_lemmas}
use Rattle.check_tasks.proofs.WholeLaws.{call_own, con_own, raise_with, opened_own, cast_own}

pub ruleset named_steps = (common_steps, call_own, con_own, raise_with, cast_own)

pub ruleset opened_steps = (common_steps, ty_lemmas, opened_own)
