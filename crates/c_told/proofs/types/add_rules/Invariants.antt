use Rattle.std.proofs.Common.{◌≡◌, drop}
use Rattle.std.specs.List.{flat_map}
use Rattle.c_types.specs.Gathered.{gathered}
use Rattle.c_told.specs.Told.{result_tells, with_all}
use Rattle.c_told.proofs.types.add_rules.Given as goal

abbrev pub invariant-loop-rule : goal.invariant-loop-rule
invariant-loop-rule l =
    with_all (gathered l.types) (flat_map (λ rule. result_tells rule.result) (drop l.rule-index l.rules))
    ≡ with_all (gathered l.initial.types) (flat_map (λ rule. result_tells rule.result) l.rules)
