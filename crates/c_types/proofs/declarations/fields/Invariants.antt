use Rattle.std.proofs.Common.{◌≡◌, ◌++◌, drop}
use Rattle.c_types.specs.Gathered.{gathered}
use Rattle.c_types.specs.Declarations.{fields, fields_from}
use Rattle.c_types.proofs.declarations.fields.Given as goal

abbrev pub invariant-loop-place : goal.invariant-loop-place
invariant-loop-place l = l.members ++ fields_from (gathered l.types) l.place (drop l.place l.tys) ≡ fields (gathered l.types) l.tys
