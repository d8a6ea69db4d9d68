use Rattle.std.proofs.Common.{◌≡◌, take, map}
use Rattle.union_laws.specs.Moving.{moved_rule}
use Rattle.std.specs.Prelude.{IfOk}
use Rattle.net_union.proofs.boxes.move_rules.Given as goal

abbrev pub invariant-loop-rule : goal.invariant-loop-rule
invariant-loop-rule l = IfOk l.higher (λ made. made ≡ map (moved_rule l.fn.moves) (take l.rule-index l.rules))
