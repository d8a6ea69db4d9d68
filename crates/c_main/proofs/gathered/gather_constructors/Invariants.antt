use Rattle.std.proofs.Common.{◌≡◌, drop}
use Rattle.c_types.specs.Gathered.{with_each}
use Rattle.c_main.specs.Found.{fields_parts}
use Rattle.c_main.proofs.gathered.gather_constructors.Given as goal

abbrev pub invariant-loop-con : goal.invariant-loop-con
invariant-loop-con l = with_each l.found (fields_parts (drop l.con-index l.cons)) ≡ with_each l.initial.found (fields_parts l.cons)
