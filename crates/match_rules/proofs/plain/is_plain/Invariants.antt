use Rattle.std.proofs.Common.{◌≡◌, drop}
use Rattle.std.specs.List.{list_all}
use Rattle.hume_model.specs.BoxTyping.{port_types}
use Rattle.match_rules.specs.Plain.{plain_rule}
use Rattle.match_rules.proofs.plain.is_plain.Given as goal

abbrev pub invariant-loop-rule : goal.invariant-loop-rule
invariant-loop-rule l = list_all (plain_rule (port_types l.b.ins)) (drop l.rule-index l.b.rules) ≡ list_all (plain_rule (port_types l.b.ins)) l.b.rules
