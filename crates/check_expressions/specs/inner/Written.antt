-- Types of numbers as they are written.
use Rattle.std.specs.Prelude.{◌≡◌, [], Some, true, false}
use Rattle.hume_base.specs.declared.types.Ty.{Ty}
use Rattle.hume_base.specs.declared.types.Types.{Types}
use Rattle.hume_ast.specs.declared.tree.TyExp.{TyExp}
use Rattle.hume_model.specs.Typing.{is_number_type}
use Rattle.check_scopes.specs.declared.types.node.Node.{Node}
use Rattle.check_scopes.specs.types.Nodes.{IsWithin, ty_of}
use Rattle.check_typing.specs.WrittenTypes.{written}

-- the type that is written, whatever the data types, is the one of the node
pub record IsWrittenNumber (type : TyExp) (node : Node) : Type 0 where
  pub within : IsWithin 0 node
  pub is : (types : Types) → written types type ≡ Some (ty_of [] node)
  pub number : is_number_type (ty_of [] node) ≡ true

-- no type of numbers is written
abbrev pub IsNoWrittenNumber : TyExp → Type 0
IsNoWrittenNumber type = (types : Types) (ty : Ty) → written types type ≡ Some ty → is_number_type ty ≡ false
