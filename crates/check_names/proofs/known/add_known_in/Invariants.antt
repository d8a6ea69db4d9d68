use Rattle.std.proofs.Common.{take}
use Rattle.check_names.specs.Unknown.{known_in}
use Rattle.check_names.specs.inner.KnownTables.{SameKnown, known_of}
use Rattle.check_names.proofs.known.add_known_in.Given as goal

abbrev pub invariant-loop-d : goal.invariant-loop-d
invariant-loop-d l = SameKnown (known_of l.known) (known_in (take l.d-index l.decls))
