use Rattle.std.proofs.Common.{◌≡◌, ◌+◌, ◌-◌, ◌≤◌, ◌*◌, ◌∷◌, length}
use Rattle.hume_base.specs.declared.keyword.Keyword.TheVariants.{End}
use Rattle.hume_base.specs.declared.symbol.Symbol.TheVariants.{Comma, Bar}
use Rattle.hume_base.specs.declared.token.Kind.TheVariants.{Word, Sign}
use Rattle.hume_base.specs.declared.limits.TheConstants.{MAX_DEPTH}
use Rattle.hume_ast.specs.declared.tree.Exp.{roll-Exp, out-Exp}
use Rattle.hume_ast.specs.Places.{kinds}
use Rattle.parse_expressions.specs.inner.Climbing.{climbed}
use Rattle.parse_expressions.specs.inner.Parts.{case_alternatives, other_parts}
use Rattle.parse_readers.specs.inner.Readers.{many, led, is_sign, made}
use Rattle.parse_readers.specs.inner.Patterns.{patterns}
use Rattle.parse_readers.specs.inner.Expressions.{exps, at_level, starts_atom, alternative}
use Rattle.parse_expressions.proofs.Loops.{joined}
use Rattle.parse_expressions.proofs.ExpLoops.{closing}
use Rattle.parse_expressions.proofs.expressions.+expressions.Given as goal

abbrev pub decreases-exp : goal.decreases-exp
decreases-exp l = 40 * l.room + 35

abbrev pub decreases-exp_before : goal.decreases-exp_before
decreases-exp_before l = 40 * l.room + 36

abbrev pub decreases-let_exp : goal.decreases-let_exp
decreases-let_exp l = 40 * l.room + 37

abbrev pub decreases-if_exp : goal.decreases-if_exp
decreases-if_exp l = 40 * l.room + 37

abbrev pub decreases-case_exp : goal.decreases-case_exp
decreases-case_exp l = 40 * l.room + 38

abbrev pub decreases-alternatives : goal.decreases-alternatives
decreases-alternatives l = 40 * l.room + 37

abbrev pub decreases-alternative : goal.decreases-alternative
decreases-alternative l = 40 * l.room + 36

abbrev pub decreases-raise_exp : goal.decreases-raise_exp
decreases-raise_exp l = 40 * l.room + 36

abbrev pub decreases-operation : goal.decreases-operation
decreases-operation l = 40 * l.room + 3 * (11 - l.level) + 7

abbrev pub decreases-operand : goal.decreases-operand
decreases-operand l = 40 * l.room + 3 * (11 - l.level) + 6

abbrev pub decreases-with_right : goal.decreases-with_right
decreases-with_right l = 40 * l.room + 36

abbrev pub decreases-unary : goal.decreases-unary
decreases-unary l = 40 * l.room + 17

abbrev pub decreases-minus : goal.decreases-minus
decreases-minus l = 40 * l.room + 18

abbrev pub decreases-app : goal.decreases-app
decreases-app l = 40 * l.room + 5

abbrev pub decreases-arguments : goal.decreases-arguments
decreases-arguments l = 40 * l.room + 3

abbrev pub decreases-update : goal.decreases-update
decreases-update l = 40 * l.room + 3

abbrev pub decreases-atom : goal.decreases-atom
decreases-atom l = 40 * l.room + 2

abbrev pub decreases-parens : goal.decreases-parens
decreases-parens l = 40 * l.room + 37

abbrev pub decreases-vect : goal.decreases-vect
decreases-vect l = 40 * l.room + 37

abbrev pub decreases-others : goal.decreases-others
decreases-others l = 40 * l.room + 36

abbrev pub invariant-operation-operators : goal.invariant-operation-operators
invariant-operation-operators l = record {
  reads : at_level l.level (exps l.room) (kinds l.fn.tokens) ≡ made roll-Exp (climbed (l.limit - l.level) l.level (l.room - 1) (out-Exp l.left.exp)) (kinds l.rest);
  within : l.level ≤ l.limit;
}

abbrev pub decreases-operation-operators : goal.decreases-operation-operators
decreases-operation-operators l = length l.rest

abbrev pub invariant-arguments-items : goal.invariant-arguments-items
invariant-arguments-items l = many starts_atom (exps l.room).atom (kinds l.fn.tokens) ≡ joined l.items.items (many starts_atom (exps l.room).atom (kinds l.rest))

abbrev pub decreases-arguments-items : goal.decreases-arguments-items
decreases-arguments-items l = length l.rest

abbrev pub invariant-others-items : goal.invariant-others-items
invariant-others-items l = made (λ parts. l.fn.first.exp ∷ parts) (other_parts l.close l.room) (kinds l.fn.tokens) ≡ closing (Sign l.close) (joined l.items.items (many (is_sign Comma) (led (Sign Comma) (exps l.room).whole) (kinds l.rest)))

abbrev pub decreases-others-items : goal.decreases-others-items
decreases-others-items l = length l.rest

abbrev pub invariant-alternatives-items : goal.invariant-alternatives-items
invariant-alternatives-items l = case_alternatives l.room (kinds l.fn.tokens) ≡ closing (Word End) (joined l.found.items (many (is_sign Bar) (led (Sign Bar) (alternative (patterns MAX_DEPTH).whole (exps l.room).whole)) (kinds l.rest)))

abbrev pub decreases-alternatives-items : goal.decreases-alternatives-items
decreases-alternatives-items l = length l.rest
