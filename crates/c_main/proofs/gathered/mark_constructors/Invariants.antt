use Rattle.std.proofs.Common.{◌≡◌, drop}
use Rattle.c_main.specs.Found.{fields_data}
use Rattle.c_main.specs.inner.Marks.{with_marks}
use Rattle.c_main.proofs.gathered.mark_constructors.Given as goal

abbrev pub invariant-loop-con : goal.invariant-loop-con
invariant-loop-con l = with_marks l.marks (fields_data (drop l.con-index l.cons)) ≡ with_marks l.initial.marks (fields_data l.cons)
