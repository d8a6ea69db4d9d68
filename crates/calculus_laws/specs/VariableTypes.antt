-- The types of the variables of patterns and rules, by the types of what they match.
use Rattle.std.specs.Prelude.{ℕ, List, [], ◌∷◌, ◌++◌, Option, Some, None, slice_get}
use Rattle.hume_base.specs.declared.types.Ty.{Ty, out-Ty}
use Rattle.hume_base.specs.declared.types.Ty.TheOpen.{Ty-F}
use Rattle.hume_base.specs.declared.types.SumDef.{SumDef}
use Rattle.hume_base.specs.declared.types.Types.{Types}
use Rattle.hume_base.specs.Values.{fields_at}
use Rattle.hume_model.specs.declared.core_tree.PatC.{PatC, fold-PatC}
use Rattle.hume_model.specs.declared.core_tree.PatC.TheOpen.{PatC-F}
use Rattle.hume_model.specs.declared.core_tree.InPat.{InPat}
use Rattle.hume_model.specs.declared.core_tree.InPat.TheVariants.{Built}

-- the types of the variables, by the type of the value
abbrev pub Binds : Type 0
Binds = Ty → List Ty

-- the variables of several parts, the left ones first
abbrev pub parts_bind : List Binds → List Ty → List Ty
parts_bind [] tys = []
parts_bind (part ∷ parts) [] = []
parts_bind (part ∷ parts) (ty ∷ tys) = part ty ++ parts_bind parts tys

-- the types of the fields of a constructor; none where there is no such data type
abbrev pub fields_of_sum : Option SumDef → ℕ → List Ty
fields_of_sum None place = []
fields_of_sum (Some sum) place = fields_at sum place

-- the variables of the fields of a constructor
abbrev pub con_binds : Types → ℕ → List Binds → Ty-F Ty → List Ty
con_binds types place parts (Ty-F.Named number) = parts_bind parts (fields_of_sum (slice_get types.sums number) place)
con_binds types place parts _ = []

-- the variables of the parts of a tuple
abbrev pub tuple_binds : List Binds → Ty-F Ty → List Ty
tuple_binds parts (Ty-F.Tuple tys) = parts_bind parts tys
tuple_binds parts _ = []

-- one level of a pattern, with the variables of its parts in their places
abbrev pub binds_step : Types → PatC-F Binds → Binds
binds_step types PatC-F.Var ty = ty ∷ []
binds_step types PatC-F.Any ty = []
binds_step types (PatC-F.Word word) ty = []
binds_step types (PatC-F.Con place parts) ty = con_binds types place parts (out-Ty ty)
binds_step types (PatC-F.Tuple parts) ty = tuple_binds parts (out-Ty ty)

-- the types of the variables of a pattern for values of the type
abbrev pub pattern_binds : Types → PatC → Binds
pattern_binds types = fold-PatC Binds (binds_step types)

-- the types of the variables of a position
abbrev pub position_binds : Types → InPat → Binds
position_binds types (Built pattern) ty = pattern_binds types pattern ty
position_binds types _ ty = []

-- the types of a rule's variables, position by position
abbrev pub rule_binds : Types → List InPat → List Ty → List Ty
rule_binds types [] tys = []
rule_binds types (pat ∷ pats) [] = []
rule_binds types (pat ∷ pats) (ty ∷ tys) = position_binds types pat ty ++ rule_binds types pats tys
