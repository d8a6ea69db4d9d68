-- The tokens of parts of a list, by their places.
use Rattle.std.specs.Prelude.{ℕ, zero, suc, List, [], ◌∷◌}
use Rattle.hume_base.specs.declared.symbol.Symbol.{Symbol}
use Rattle.hume_base.specs.declared.token.Kind.{Kind}
use Rattle.hume_base.specs.declared.token.Kind.TheVariants.{Sign}
use Rattle.hume_ast.specs.declared.tree.Pat.{Pat}
use Rattle.hume_ast.specs.declared.tree.Exp.{Exp}
use Rattle.hume_ast.specs.Spelling.{spell_alternative, spelled_exp}

-- the sign, but not before the first
abbrev pub between : Symbol → ℕ → List Kind
between sign zero = []
between sign (suc at) = Sign sign ∷ []

-- an alternative of a `case`
abbrev pub spelled_alternative : Pat × Exp → List Kind
spelled_alternative alternative = spell_alternative (alternative.0, spelled_exp alternative.1)
