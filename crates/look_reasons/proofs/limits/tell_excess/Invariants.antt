use Rattle.std.proofs.Common.{◌≡◌}
use Rattle.look_sources.specs.Pages.{Grows}
use Rattle.look_reasons.proofs.limits.tell_excess.Given as goal

abbrev pub invariant-loop-i : goal.invariant-loop-i
invariant-loop-i l = record { head : l.reason.head ≡ l.fn.reason.head; note : Grows l.fn.reason.note l.reason.note }
