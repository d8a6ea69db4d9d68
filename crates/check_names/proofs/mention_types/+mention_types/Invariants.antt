use Rattle.std.proofs.Common.{◌≡◌, ◌++◌, drop}
use Rattle.check_names.specs.Mentions.{types_mentions}
use Rattle.check_names.proofs.mention_types.+mention_types.Given as goal

abbrev pub invariant-mention_types-loop-ty : goal.invariant-mention_types-loop-ty
invariant-mention_types-loop-ty l = l.out ++ types_mentions (drop l.ty-index l.types) ≡ l.fn.out ++ types_mentions l.types
