-- The types that are written, on the stack.
use Rattle.std.specs.Prelude.{List, Option, Some}
use Rattle.hume_base.specs.declared.types.Ty.{Tuple as TupleTy}
use Rattle.hume_ast.specs.declared.tree.TyExp.{TyExp}
use Rattle.check_typing.specs.Partial.{given}
use Rattle.check_typing.specs.WrittenTypes.{written, all_written}
use Rattle.check_scopes.specs.Known.{Known, with_type}

-- the type that is written on the stack, if it is one
abbrev pub with_written : TyExp → Known → Option Known
with_written type known = given (written known.2.types type) (λ ty. Some (with_type ty known))

-- the types that are written on the stack as one tuple, if each is one
abbrev pub with_written_tuple : List TyExp → Known → Option Known
with_written_tuple types known = given (all_written known.2.types types) (λ tys. Some (with_type (TupleTy tys) known))
