use Rattle.std.proofs.Common.{◌≡◌, map, drop}
use Rattle.hume_model.specs.Calls.{all_true}
use Rattle.check_rules.specs.Constants.{is_built}
use Rattle.check_wires.proofs.constants.built.+is_built.Given as goal

abbrev pub invariant-are_built-loop-part : goal.invariant-are_built-loop-part
invariant-are_built-loop-part l = all_true (map is_built (drop l.part-index l.parts)) ≡ all_true (map is_built l.parts)
