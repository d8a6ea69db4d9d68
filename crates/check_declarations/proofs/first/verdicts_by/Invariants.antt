use Rattle.std.proofs.Common.{◌≡◌, take}
use Rattle.check_declarations.specs.inner.Verdicts.{AreTrees}
use Rattle.check_declarations.proofs.FirstLaws.{NoneBefore}
use Rattle.check_declarations.proofs.first.verdicts_by.Given as goal

-- the elaboration stays, no declaration so far breaks a rule, and those so far have the trees
abbrev pub invariant-loop-i : goal.invariant-loop-i
invariant-loop-i l = record {
  same : l.at ≡ l.fn.at;
  none : NoneBefore l.fn.at.0.0.2 l.decls l.i;
  so_far : AreTrees l.fn.at.0.0.2 (take l.i l.decls) l.all;
}
