-- Of which forms the values are that a `case` tells apart.
use Rattle.std.specs.Prelude.{nat_lt, Bool, true, length}
use Rattle.hume_base.specs.declared.types.Ty.{Ty, out-Ty}
use Rattle.hume_base.specs.declared.types.Ty.TheOpen.{Ty-F}
use Rattle.hume_base.specs.declared.types.Types.{Types}
use Rattle.hume_model.specs.declared.core_tree.Forms.{Forms}
use Rattle.hume_model.specs.declared.core_tree.Forms.TheVariants.{Truths, Constructors, Others}

-- one level of a type
abbrev pub forms_in : Ty-F Ty → Forms
forms_in Ty-F.Bool = Truths
forms_in (Ty-F.Named number) = Constructors number
forms_in _ = Others

-- the forms of the values of a type
abbrev pub forms_of : Ty → Forms
forms_of ty = forms_in (out-Ty ty)

-- the data type whose constructors they are is there
abbrev pub are_there : Types → Forms → Bool
are_there types Truths = true
are_there types (Constructors number) = nat_lt number (length types.sums)
are_there types Others = true
