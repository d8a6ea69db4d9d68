use Rattle.std.proofs.Common.{◌≡◌, drop}
use Rattle.check_names.specs.Unknown.{mentions_unknown}
use Rattle.check_names.specs.inner.KnownTables.{known_of}
use Rattle.check_names.proofs.known.KnownNames.lacks_one.Given as goal

abbrev pub invariant-loop-at : goal.invariant-loop-at
invariant-loop-at l = mentions_unknown (known_of l.self) (drop l.at l.mentions) ≡ mentions_unknown (known_of l.self) l.mentions
