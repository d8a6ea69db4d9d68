-- What the next token says of an item.
use Rattle.std.specs.Prelude.{List, Bool, true, false}
use Rattle.hume_base.specs.declared.symbol.Symbol.TheVariants.{DoubleColon}
use Rattle.hume_base.specs.declared.token.Kind.{Kind}
use Rattle.parse_readers.specs.inner.Readers.{next, is_sign}
use Rattle.parse_readers.specs.inner.Expressions.{is_lower}
use Rattle.parse_readers.specs.inner.Items.{Expecting as Place, Outside, Wanting, Within}

-- whether an item begins with a name
abbrev pub named : Place → List Kind → Bool
named Outside ks = next is_lower ks
named Wanting ks = true
named Within ks = next is_lower ks

-- whether behind its name an item goes on as a signature
abbrev pub signed : Place → List Kind → Bool
signed Outside ks = true
signed Wanting ks = false
signed Within ks = next (is_sign DoubleColon) ks
