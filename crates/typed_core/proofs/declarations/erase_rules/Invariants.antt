use Rattle.std.proofs.Common.{◌≡◌, take, map}
use Rattle.typed_core.specs.Erasing.{erased_rule}
use Rattle.typed_core.proofs.declarations.erase_rules.Given as goal

abbrev pub invariant-loop-rule : goal.invariant-loop-rule
invariant-loop-rule l = l.core ≡ map erased_rule (take l.rule-index l.rules)
