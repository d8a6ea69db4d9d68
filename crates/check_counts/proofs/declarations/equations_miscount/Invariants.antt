use Rattle.std.proofs.Common.{◌≡◌, drop}
use Rattle.std.specs.List.{list_any}
use Rattle.check_counts.specs.CountRules.{equation_miscounts}
use Rattle.check_counts.proofs.declarations.equations_miscount.Given as goal

abbrev pub invariant-loop-equation : goal.invariant-loop-equation
invariant-loop-equation l = list_any (equation_miscounts l.counts l.parameters) (drop l.equation-index l.equations) ≡ list_any (equation_miscounts l.counts l.parameters) l.equations
