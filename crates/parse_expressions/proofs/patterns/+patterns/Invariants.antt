use Rattle.std.proofs.Common.{◌≡◌, ◌+◌, ◌-◌, ◌<◌, ◌*◌, length}
use Rattle.hume_base.specs.declared.symbol.Symbol.TheVariants.{CloseParen, Comma}
use Rattle.hume_base.specs.declared.token.Kind.TheVariants.{Sign}
use Rattle.hume_ast.specs.declared.tree.Pat.{roll-Pat}
use Rattle.hume_ast.specs.Places.{kinds}
use Rattle.parse_readers.specs.inner.Readers.{many, led, is_sign, made, both, closed}
use Rattle.parse_readers.specs.inner.Patterns.{patterns, con_pat, starts_pat, pat_in_parens}
use Rattle.parse_expressions.proofs.Loops.{joined}
use Rattle.parse_expressions.proofs.PatternSteps.{con_from, parens_from}
use Rattle.parse_expressions.proofs.patterns.+patterns.Given as goal

abbrev pub decreases-pattern : goal.decreases-pattern
decreases-pattern l = 4 * l.room + 2

abbrev pub decreases-con : goal.decreases-con
decreases-con l = 4 * l.room + 1

abbrev pub decreases-pat_atom : goal.decreases-pat_atom
decreases-pat_atom l = 4 * l.room + 1

abbrev pub decreases-parens : goal.decreases-parens
decreases-parens l = 4 * l.room

abbrev pub invariant-con-parts : goal.invariant-con-parts
invariant-con-parts l = record {
  reads : made roll-Pat (con_pat (patterns (l.room - 1)).atom) (kinds l.fn.tokens) ≡ con_from l.name-inside.bytes.items (joined l.parts (many starts_pat (patterns (l.room - 1)).atom (kinds l.rest)));
  shorter : length l.rest < length l.fn.tokens;
}

abbrev pub decreases-con-parts : goal.decreases-con-parts
decreases-con-parts l = length l.rest

abbrev pub invariant-parens-others : goal.invariant-parens-others
invariant-parens-others l = record {
  reads : made roll-Pat (made pat_in_parens (both (patterns (l.room - 1)).whole (closed (many (is_sign Comma) (led (Sign Comma) (patterns (l.room - 1)).whole)) (Sign CloseParen)))) (kinds l.fn.tokens)
      ≡ parens_from l.first (joined l.others (many (is_sign Comma) (led (Sign Comma) (patterns (l.room - 1)).whole) (kinds l.rest)));
  shorter : length l.rest < length l.fn.tokens;
}

abbrev pub decreases-parens-others : goal.decreases-parens-others
decreases-parens-others l = length l.rest
