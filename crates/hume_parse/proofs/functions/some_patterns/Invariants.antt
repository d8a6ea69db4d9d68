use Rattle.std.proofs.Common.{◌≡◌, ◌<◌, length}
use Rattle.hume_base.specs.declared.limits.TheConstants.{MAX_DEPTH}
use Rattle.hume_ast.specs.Places.{kinds}
use Rattle.parse_readers.specs.inner.Readers.{many}
use Rattle.parse_readers.specs.inner.Patterns.{patterns, starts_pat}
use Rattle.parse_readers.specs.inner.Declarations.{some_patterns}
use Rattle.parse_expressions.proofs.Loops.{joined}
use Rattle.hume_parse.proofs.functions.some_patterns.Given as goal

abbrev pub invariant-items : goal.invariant-items
invariant-items l = record {
  reads : some_patterns MAX_DEPTH (kinds l.fn.tokens) ≡ joined l.items (many starts_pat (patterns MAX_DEPTH).atom (kinds l.rest));
  shorter : length l.rest < length l.fn.tokens;
}

abbrev pub decreases-items : goal.decreases-items
decreases-items l = length l.rest
