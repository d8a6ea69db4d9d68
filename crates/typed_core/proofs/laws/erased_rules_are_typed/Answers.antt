use Rattle.typed_core.proofs.TypedResults.{rule_typed}
use Rattle.typed_core.proofs.laws.erased_rules_are_typed.Goals as goal

pub returns : goal.returns
returns c = rule_typed
