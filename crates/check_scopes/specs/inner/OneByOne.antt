-- Types that go on the stack one after the other.
use Rattle.std.specs.Prelude.{List, [], ◌∷◌, Option, Some}
use Rattle.hume_ast.specs.declared.tree.TyExp.{TyExp}
use Rattle.check_typing.specs.Partial.{given}
use Rattle.check_scopes.specs.Known.{Known}
use Rattle.check_scopes.specs.Written.{with_written}

-- the types that are written on the stack, the last of them last, if each is one
abbrev pub with_each_written : List TyExp → Known → Option Known
with_each_written [] known = Some known
with_each_written (type ∷ types) known = given (with_written type known) (with_each_written types)
