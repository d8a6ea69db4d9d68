use Rattle.std.proofs.Common.{sym, ap, ◌∙◌}
use mathlib.Core.Option.{some}
use Rattle.turn_locker.proofs.Steps.{may_put_back}
use Rattle.turn_locker.proofs.locker.Locker.place.Goals as goal

pub put_back-requires-clause-may : goal.put_back-requires-clause-may
put_back-requires-clause-may g c = λ κs le. may_put_back _ _ _ _ (c.requires.vacant.0 ∙ ap some (sym c.requires.value.1)) c.requires.vacant.1
