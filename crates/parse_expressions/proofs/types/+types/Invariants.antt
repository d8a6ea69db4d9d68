use Rattle.std.proofs.Common.{◌≡◌, ◌+◌, ◌-◌, ◌<◌, ◌*◌, length}
use Rattle.hume_base.specs.declared.token.Kind.TheVariants.{Sign}
use Rattle.hume_ast.specs.Places.{kinds}
use Rattle.parse_readers.specs.inner.Readers.{listed, many, led, is_sign}
use Rattle.parse_readers.specs.inner.Types.{types}
use Rattle.parse_expressions.proofs.Loops.{joined}
use Rattle.parse_expressions.proofs.types.+types.Given as goal

abbrev pub decreases-ty : goal.decreases-ty
decreases-ty l = 3 * l.room

abbrev pub decreases-vector : goal.decreases-vector
decreases-vector l = 3 * l.room - 1

abbrev pub decreases-tuple : goal.decreases-tuple
decreases-tuple l = 3 * l.room - 1

abbrev pub decreases-type_list : goal.decreases-type_list
decreases-type_list l = 3 * l.room + 1

abbrev pub invariant-type_list-items : goal.invariant-type_list-items
invariant-type_list-items l = record {
  reads : listed l.symbol (types l.room) (kinds l.fn.tokens) ≡ joined l.items (many (is_sign l.symbol) (led (Sign l.symbol) (types l.room)) (kinds l.rest));
  shorter : length l.rest < length l.fn.tokens;
}

abbrev pub decreases-type_list-items : goal.decreases-type_list-items
decreases-type_list-items l = length l.rest
