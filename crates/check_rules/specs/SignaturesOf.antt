-- The data types, exceptions and functions of a program, each in the order of its numbers.
use Rattle.std.specs.Prelude.{◌≡◌, ℕ, List, ◌++◌, Option, Some, None}
use Rattle.std.specs.List.{filter_map}
use Rattle.hume_base.specs.declared.types.Ty.{Ty}
use Rattle.hume_base.specs.declared.types.ConDef.{ConDef}
use Rattle.hume_base.specs.declared.types.SumDef.{SumDef}
use Rattle.hume_base.specs.declared.types.Types.{Types}
use Rattle.hume_base.specs.Sizes.{HaveTheirSizes}
use Rattle.hume_ast.specs.declared.tree.TyExp.{TyExp}
use Rattle.hume_model.specs.declared.core_tree.ExnDef.{ExnDef}
use Rattle.hume_model.specs.OwnExceptions.{own_exceptions}
use Rattle.check_tables.specs.graph.Orders.{IsOrder}
use Rattle.check_names.specs.declared.mention_list.NameKind.TheVariants.{DataType, Function}
use Rattle.check_names.specs.Leading.{graph_of}
use Rattle.check_typing.specs.WrittenTypes.{written, all_written}
use Rattle.check_typing.specs.Declarations.{InPlaces, signature_written}
use Rattle.check_typing.specs.declared.signatures.Signature.{Signature}
use Rattle.check_typing.specs.declared.signatures.Signatures.{Signatures}
use Rattle.check_rules.specs.Declared.{Decls, DataDecl, data_of, ExceptionDecl, exception_of, FunctionDecl, function_of, in_order}

-- a constructor has its name, and the types that are written as those of its fields
pub record IsConstructor (types : Types) (con_decl : List ℕ × List TyExp) (con : ConDef) : Type 0 where
  pub name : con.name ≡ con_decl.0
  pub fields : all_written types con_decl.1 ≡ Some con.fields

-- a data type has its name and its constructors
pub record IsDataType (types : Types) (data_decl : DataDecl) (sum : SumDef) : Type 0 where
  pub name : sum.name ≡ data_decl.0
  pub constructors : InPlaces (IsConstructor types) data_decl.1 sum.cons

-- Each next number goes to the first data type that has none and holds only numbered ones. The size of each is written beside it.
pub record AreTypes (decls : Decls) (types : Types) : Type 0 where
  pub order : List ℕ
  pub numbered : IsOrder (graph_of DataType decls) order
  pub each : InPlaces (IsDataType types) (in_order data_of order decls) types.sums
  pub sizes : HaveTheirSizes types

-- what an exception carries is the type that is written, if one is
abbrev pub Carries : Types → Option TyExp → Option Ty → Type 0
Carries types None carried = carried ≡ None
Carries types (Some ty) carried = (t : Ty) × (written types ty ≡ Some t) × (carried ≡ Some t)

-- an exception has its name and what it carries
pub record IsException (types : Types) (exn_decl : ExceptionDecl) (exn : ExnDef) : Type 0 where
  pub name : exn.name ≡ exn_decl.0
  pub carries : Carries types exn_decl.1 exn.carries

-- the exceptions that every program has, and after them those that are declared, in the order of their declarations
pub record AreExceptions (decls : Decls) (types : Types) (exns : List ExnDef) : Type 0 where
  pub declared : List ExnDef
  pub each : InPlaces (IsException types) (filter_map exception_of decls) declared
  pub all : exns ≡ own_exceptions ++ declared

-- each next number goes to the first function that has none and calls only numbered ones
pub record AreFunctions (decls : Decls) (types : Types) (funs : List Signature) : Type 0 where
  pub order : List ℕ
  pub numbered : IsOrder (graph_of Function decls) order
  pub each : InPlaces (λ (f : FunctionDecl) signature. signature_written types f.name f.types ≡ Some signature) (in_order function_of order decls) funs

-- what the expressions of the program may use
pub record AreSignatures (decls : Decls) (signatures : Signatures) : Type 0 where
  pub types : AreTypes decls signatures.types
  pub exns : AreExceptions decls signatures.types signatures.exns
  pub funs : AreFunctions decls signatures.types signatures.funs
