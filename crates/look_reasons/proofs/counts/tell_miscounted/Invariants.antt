use Rattle.std.proofs.Common.{◌≡◌}
use Rattle.look_sources.specs.Pages.{Grows}
use Rattle.look_reasons.proofs.counts.tell_miscounted.Given as goal

abbrev pub invariant-loop-span : goal.invariant-loop-span
invariant-loop-span l = record { head : l.reason.head ≡ l.fn.reason.head; note : Grows l.fn.reason.note l.reason.note }
