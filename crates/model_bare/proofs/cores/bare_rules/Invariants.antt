use Rattle.std.proofs.Common.{◌≡◌, take, map}
use Rattle.model_bare.specs.Bare.{bare_rule}
use Rattle.model_bare.proofs.cores.bare_rules.Given as goal

abbrev pub invariant-loop-rule : goal.invariant-loop-rule
invariant-loop-rule l = l.copies ≡ map bare_rule (take l.rule-index l.rules)
