use Rattle.std.proofs.Common.{◌≡◌}
use Rattle.look_sources.specs.Lines.{AreInLaterLines}
use Rattle.look_sources.specs.inner.Lines.{last_line}
use Rattle.look_reasons.proofs.limits.breaks_limits.Given as goal

abbrev pub invariant-loop-i : goal.invariant-loop-i
invariant-loop-i l = record { later : AreInLaterLines l.site.refusal.line l.found.items; last : last_line l.site.refusal.line l.found.items ≡ l.line }
