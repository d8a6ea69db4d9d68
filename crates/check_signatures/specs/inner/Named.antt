-- What is written, by the numbers of names of data types.
use Rattle.std.specs.Prelude.{◌≡◌, ℕ, List, [], ◌++◌, map, Option, Some, None}
use Rattle.std.specs.List.{filter_map}
use Rattle.hume_base.specs.declared.types.Ty.{Ty, Named}
use Rattle.hume_base.specs.declared.types.ConDef.{ConDef}
use Rattle.hume_base.specs.declared.types.SumDef.{SumDef}
use Rattle.hume_base.specs.Sizes.{HaveTheirSizes}
use Rattle.hume_ast.specs.declared.tree.TyExp.{TyExp, fold-TyExp}
use Rattle.hume_ast.specs.declared.tree.TyExp.TheOpen.{TyExp-F}
use Rattle.hume_model.specs.declared.core_tree.ExnDef.{ExnDef}
use Rattle.hume_model.specs.OwnExceptions.{own_exceptions}
use Rattle.check_typing.specs.Partial.{given}
use Rattle.check_typing.specs.WrittenTypes.{all_there, written_step}
use Rattle.check_typing.specs.Declarations.{parted}
use Rattle.check_typing.specs.declared.signatures.Signature.{Signature}
use Rattle.check_typing.specs.declared.signatures.Signatures.{Signatures}
use Rattle.check_tables.specs.names.Names.{number_of}
use Rattle.check_scopes.specs.signatures.inner.Tables.{table_of}
use Rattle.check_rules.specs.Declared.{Decls, DataDecl, data_of, ExceptionDecl, exception_of, FunctionDecl, function_of, in_order}

-- names with numbers
abbrev pub Numbers : Type 0
Numbers = List (List ℕ × ℕ)

-- one level of a type: a name asks the numbers, and no other level asks which data types there are
abbrev pub named_step : Numbers → TyExp-F (Option Ty) → Option Ty
named_step numbers (TyExp-F.Named name) = given (number_of name numbers) (λ number. Some (Named number))
named_step numbers level = written_step (record { sums = [] }) level

abbrev pub written_by : Numbers → TyExp → Option Ty
written_by numbers = fold-TyExp (Option Ty) (named_step numbers)

abbrev pub all_by : Numbers → List TyExp → Option (List Ty)
all_by numbers tys = all_there (map (written_by numbers) tys)

abbrev pub constructor_by : Numbers → List ℕ × List TyExp → Option ConDef
constructor_by numbers con = given (all_by numbers con.1) (λ tys. Some (record { name = con.0; fields = tys }))

-- a data type without its size
abbrev pub DataType : Type 0
DataType = List ℕ × List ConDef

abbrev pub data_type_by : Numbers → DataDecl → Option DataType
data_type_by numbers d = given (all_there (map (constructor_by numbers) d.1)) (λ cons. Some (d.0, cons))

abbrev pub carried_by : Numbers → Option TyExp → Option (Option Ty)
carried_by numbers None = Some None
carried_by numbers (Some ty) = given (written_by numbers ty) (λ t. Some (Some t))

abbrev pub exception_by : Numbers → ExceptionDecl → Option ExnDef
exception_by numbers d = given (carried_by numbers d.1) (λ carried. Some (record { name = d.0; carries = carried }))

abbrev pub signature_of : List ℕ → List Ty → Ty → Signature
signature_of title tys ty = record { name = title; params = tys; gives = ty }

-- the last type is that of what the function gives
abbrev pub with_types : List ℕ → Option (List Ty) → Option Signature
with_types title tys = given tys (λ all. given (parted all) (λ p. Some (signature_of title p.0 p.1)))

abbrev pub signature_by : Numbers → List ℕ → List TyExp → Option Signature
signature_by numbers title tys = with_types title (all_by numbers tys)

abbrev pub function_by : Numbers → FunctionDecl → Option Signature
function_by numbers f = signature_by numbers f.name f.types

-- the data types in the order of their numbers, each without its size
abbrev pub data_types_in : Numbers → Decls → List ℕ → Option (List DataType)
data_types_in numbers decls order = all_there (map (data_type_by numbers) (in_order data_of order decls))

abbrev pub exceptions_in : Numbers → Decls → Option (List ExnDef)
exceptions_in numbers decls = all_there (map (exception_by numbers) (filter_map exception_of decls))

abbrev pub functions_in : Numbers → Decls → List ℕ → Option (List Signature)
functions_in numbers decls order = all_there (map (function_by numbers) (in_order function_of order decls))

abbrev pub data_type_name : DataDecl → List ℕ
data_type_name d = d.0

-- the numbers of the names of data types
abbrev pub numbers_in : Decls → List ℕ → Numbers
numbers_in decls order = table_of data_type_name (in_order data_of order decls)

abbrev pub without_size : SumDef → DataType
without_size sum = (sum.name, sum.cons)

-- the signatures have what is written, and their data types have their sizes
pub record AreWritten (numbers : Numbers) (decls : Decls) (data_order function_order : List ℕ) (signatures : Signatures) : Type 0 where
  pub data_types : data_types_in numbers decls data_order ≡ Some (map without_size signatures.types.sums)
  pub sizes : HaveTheirSizes signatures.types
  pub declared : List ExnDef
  pub exceptions : exceptions_in numbers decls ≡ Some declared
  pub all_exceptions : signatures.exns ≡ own_exceptions ++ declared
  pub functions : functions_in numbers decls function_order ≡ Some signatures.funs

-- something that is written has no type
pub data IsUnwritten (numbers : Numbers) (decls : Decls) (data_order function_order : List ℕ) : Type 0 where
  no_data_types : data_types_in numbers decls data_order ≡ None → IsUnwritten numbers decls data_order function_order
  no_exceptions : exceptions_in numbers decls ≡ None → IsUnwritten numbers decls data_order function_order
  no_functions : functions_in numbers decls function_order ≡ None → IsUnwritten numbers decls data_order function_order
