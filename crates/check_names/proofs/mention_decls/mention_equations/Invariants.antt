use Rattle.std.proofs.Common.{◌≡◌, ◌++◌, map, drop}
use Rattle.check_names.specs.Names.{joined}
use Rattle.check_names.specs.Mentions.{clause_mentions}
use Rattle.check_names.proofs.mention_decls.mention_equations.Given as goal

abbrev pub invariant-loop-equation : goal.invariant-loop-equation
invariant-loop-equation l = l.out ++ joined (map (λ equation. clause_mentions equation.1 equation.2) (drop l.equation-index l.equations)) ≡ l.fn.out ++ joined (map (λ equation. clause_mentions equation.1 equation.2) l.equations)
