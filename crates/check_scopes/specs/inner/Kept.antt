-- The types of signatures in the order in which they are kept: of functions, of what exceptions carry, of fields.
use Rattle.std.specs.Prelude.{List, [], ◌++◌, ◌∷◌, map, Option, Some, None}
use Rattle.hume_base.specs.declared.types.Ty.{Ty, Bool as BoolTy, Tuple as TupleTy}
use Rattle.hume_base.specs.declared.types.ConDef.{ConDef}
use Rattle.hume_base.specs.declared.types.SumDef.{SumDef}
use Rattle.hume_model.specs.declared.core_tree.ExnDef.{ExnDef}
use Rattle.check_typing.specs.declared.signatures.Signatures.{Signatures}
use Rattle.check_scopes.specs.Known.{signature_type}

abbrev pub type_or_bool : Option Ty → Ty
type_or_bool None = BoolTy
type_or_bool (Some ty) = ty

-- what an exception carries; where it carries nothing, `bool` keeps its place
abbrev pub carried_type : ExnDef → Ty
carried_type exn = type_or_bool exn.carries

abbrev pub fields_type : ConDef → Ty
fields_type con = TupleTy con.fields

abbrev pub constructor_types : List SumDef → List Ty
constructor_types [] = []
constructor_types (sum ∷ sums) = map fields_type sum.cons ++ constructor_types sums

abbrev pub kept_types : Signatures → List Ty
kept_types signatures = map signature_type signatures.funs ++ (map carried_type signatures.exns ++ constructor_types signatures.types.sums)
