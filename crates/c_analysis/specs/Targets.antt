-- What expressions are written by.
use Rattle.std.specs.Prelude.{ℕ, not, ◌&&◌, Bool, List, Option, Some, None, slice_get}
use Rattle.hume_base.specs.declared.types.Ty.{Ty, out-Ty}
use Rattle.hume_base.specs.declared.types.Ty.TheOpen.{Ty-F}
use Rattle.hume_base.specs.declared.types.Types.{Types}
use Rattle.hume_base.specs.declared.types.SumDef.{SumDef}
use Rattle.hume_base.specs.declared.types.ConDef.{ConDef}
use Rattle.hume_model.specs.declared.core_tree.Core.{Core}
use Rattle.hume_model.specs.declared.core_tree.FunC.{FunC}
use Rattle.c_tree.specs.declared.tree.CType.{CType}
use Rattle.c_tree.specs.declared.tree.CExp.{CExp}
use Rattle.c_types.specs.Gathered.{Gathered, c_type, gathered, tag as gathered_tag}
use Rattle.c_types.specs.Shapes.{is_scalar}
use Rattle.c_analysis.specs.declared.setting.Called.{Called}
use Rattle.c_analysis.specs.declared.setting.Callee.{Callee}
use Rattle.c_analysis.specs.declared.setting.Setting.{Setting}

-- the core, the types of the file with its names, and what calls need to know of the functions that are written
pub record Target : Type 0 where
  pub core : Core
  pub file : Gathered
  pub called : List Called

-- what a setting shows
abbrev pub target : Setting → Target
target s = record { core = s.core.now; file = gathered s.types.now; called = s.called.now }

abbrev pub is_number : Target → Ty → Bool
is_number t ty = is_scalar t.file.types ty

abbrev pub sum_in : Types → Ty-F Ty → Option SumDef
sum_in types (Ty-F.Named number) = slice_get types.sums number
sum_in types _ = None

-- the data type that a type is
abbrev pub sum_of : Target → Ty → Option SumDef
sum_of t ty = sum_in t.file.types (out-Ty ty)

abbrev pub con_in : ℕ → Option SumDef → Option ConDef
con_in place None = None
con_in place (Some sum) = slice_get sum.cons place

-- its constructor of a place
abbrev pub con_of : Target → Ty → ℕ → Option ConDef
con_of t ty place = con_in place (sum_of t ty)

-- a function that is written already, in the core and in the file
pub record Known : Type 0 where
  pub function : FunC
  pub called : Called

abbrev pub known : Callee → Known
known callee = record { function = callee.function.now; called = callee.called.now }

abbrev pub known_as : Option FunC → Option Called → Option Known
known_as (Some function) (Some called) = Some (record { function = function; called = called })
known_as _ _ = None

-- the function of a number
abbrev pub callee_of : Target → ℕ → Option Known
callee_of t number = known_as (slice_get t.core.funs number) (slice_get t.called number)

-- whether a function gives its result as a value of C, and not through a pointer
abbrev pub gives_value : Target → Known → Bool
gives_value t callee = not callee.called.raises && is_number t callee.function.gives

-- the constant of a constructor
abbrev pub tag : Target → SumDef → ℕ → CExp
tag t sum place = gathered_tag t.file.names sum place

-- the type of C of a type
abbrev pub type_of : Target → Ty → CType
type_of t ty = c_type t.file ty
