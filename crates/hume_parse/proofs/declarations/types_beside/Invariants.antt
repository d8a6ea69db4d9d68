use Rattle.std.proofs.Common.{◌≡◌, ◌≤◌, length}
use Rattle.hume_base.specs.declared.limits.TheConstants.{MAX_DEPTH}
use Rattle.hume_ast.specs.Places.{kinds}
use Rattle.parse_readers.specs.inner.Readers.{many}
use Rattle.parse_readers.specs.inner.Types.{types}
use Rattle.parse_readers.specs.inner.Declarations.{starts_type}
use Rattle.parse_expressions.proofs.Loops.{joined}
use Rattle.hume_parse.proofs.declarations.types_beside.Given as goal

abbrev pub invariant-items : goal.invariant-items
invariant-items l = record {
  reads : many starts_type (types MAX_DEPTH) (kinds l.fn.tokens) ≡ joined l.items (many starts_type (types MAX_DEPTH) (kinds l.rest));
  shorter : length l.rest ≤ length l.fn.tokens;
}

abbrev pub decreases-items : goal.decreases-items
decreases-items l = length l.rest
