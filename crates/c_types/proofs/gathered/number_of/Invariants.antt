use Rattle.std.proofs.Common.{◌≡◌, ◌+◌, ◌≤◌, drop}
use Rattle.c_types.specs.Gathered.{number_of}
use Rattle.c_types.proofs.gathered.number_of.Given as goal

abbrev pub invariant-loop-other : goal.invariant-loop-other
invariant-loop-other l = record {
  few : l.number ≤ l.other-index;
  all : l.number + number_of (drop l.other-index l.tys) l.ty ≡ number_of l.tys l.ty;
}
