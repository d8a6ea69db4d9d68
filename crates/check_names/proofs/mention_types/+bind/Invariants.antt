use Rattle.std.proofs.Common.{◌≡◌, ◌++◌, drop}
use Rattle.check_names.specs.Mentions.{bound_by}
use Rattle.check_names.proofs.mention_types.+bind.Given as goal

abbrev pub invariant-bind_all-loop-pattern : goal.invariant-bind_all-loop-pattern
invariant-bind_all-loop-pattern l = l.scope ++ bound_by (drop l.pattern-index l.patterns) ≡ l.fn.scope ++ bound_by l.patterns
