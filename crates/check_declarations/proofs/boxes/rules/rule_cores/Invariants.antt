use Rattle.std.proofs.Common.{◌≡◌, [], false, drop}
use Rattle.check_declarations.specs.boxes.inner.Rules.{rules_at, together}
use Rattle.check_declarations.proofs.boxes.rules.rule_cores.Given as goal

-- the cores so far and those of what is left are those of all
abbrev pub invariant-loop-rule : goal.invariant-loop-rule
invariant-loop-rule l = record {
  state : l.at ≡ l.fn.at;
  so_far : together (l.cores, l.some_too_wide) (rules_at l.fn.at (drop l.rule-index l.rules)) ≡ together ([], false) (rules_at l.fn.at l.rules);
}
