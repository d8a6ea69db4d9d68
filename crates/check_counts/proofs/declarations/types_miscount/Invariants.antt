use Rattle.std.proofs.Common.{◌≡◌, drop}
use Rattle.check_counts.specs.CountRules.{places_miscount}
use Rattle.check_counts.proofs.declarations.types_miscount.Given as goal

abbrev pub invariant-loop-place : goal.invariant-loop-place
invariant-loop-place l = places_miscount (drop l.place-index l.places) ≡ places_miscount l.places
