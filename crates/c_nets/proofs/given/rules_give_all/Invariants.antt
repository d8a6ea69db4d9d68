use Rattle.std.proofs.Common.{◌≡◌, drop}
use Rattle.std.specs.List.{list_all}
use Rattle.c_nets.specs.GivenOutputs.{gives_all}
use Rattle.c_nets.proofs.given.rules_give_all.Given as goal

abbrev pub invariant-loop-rule : goal.invariant-loop-rule
invariant-loop-rule l = list_all (λ rule. gives_all rule.result) (drop l.rule-index l.rules) ≡ list_all (λ rule. gives_all rule.result) l.rules
