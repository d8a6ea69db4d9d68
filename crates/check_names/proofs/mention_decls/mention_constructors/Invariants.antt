use Rattle.std.proofs.Common.{◌≡◌, ◌++◌, map, drop}
use Rattle.check_names.specs.Names.{joined}
use Rattle.check_names.specs.Mentions.{types_mentions}
use Rattle.check_names.proofs.mention_decls.mention_constructors.Given as goal

abbrev pub invariant-loop-constructor : goal.invariant-loop-constructor
invariant-loop-constructor l = l.out ++ joined (map (λ constructor. types_mentions constructor.1) (drop l.constructor-index l.constructors)) ≡ l.fn.out ++ joined (map (λ constructor. types_mentions constructor.1) l.constructors)
