-- Alternatives of a `case`, with the mentions of their expressions.
use Rattle.std.specs.Prelude.{Bool}
use Rattle.hume_ast.specs.declared.tree.Pat.{Pat}
use Rattle.hume_ast.specs.declared.tree.Exp.{Exp}
use Rattle.check_names.specs.Mentions.{ByScope, mentions}
use Rattle.check_names.specs.Twice.{exp_binds_twice}

abbrev pub alternative_with : Pat × Exp → Pat × ByScope
alternative_with alternative = (alternative.0, mentions alternative.1)

-- whether there is a pattern in their expressions that binds a variable twice
abbrev pub alternative_twice : Pat × Exp → Pat × Bool
alternative_twice alternative = (alternative.0, exp_binds_twice alternative.1)
