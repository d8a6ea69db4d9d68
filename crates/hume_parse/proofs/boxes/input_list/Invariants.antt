use Rattle.std.proofs.Common.{◌≡◌, ◌<◌, length}
use Rattle.hume_base.specs.declared.limits.TheConstants.{MAX_DEPTH}
use Rattle.hume_base.specs.declared.symbol.Symbol.TheVariants.{Comma}
use Rattle.hume_base.specs.declared.token.Kind.TheVariants.{Sign}
use Rattle.hume_ast.specs.Places.{kinds}
use Rattle.parse_readers.specs.inner.Readers.{listed, many, led, is_sign}
use Rattle.parse_readers.specs.inner.Patterns.{input_pattern}
use Rattle.parse_expressions.proofs.Loops.{joined}
use Rattle.hume_parse.proofs.boxes.input_list.Given as goal

abbrev pub invariant-items : goal.invariant-items
invariant-items l = record {
  reads : listed Comma (input_pattern MAX_DEPTH) (kinds l.fn.tokens) ≡ joined l.items (many (is_sign Comma) (led (Sign Comma) (input_pattern MAX_DEPTH)) (kinds l.rest));
  shorter : length l.rest < length l.fn.tokens;
}

abbrev pub decreases-items : goal.decreases-items
decreases-items l = length l.rest
