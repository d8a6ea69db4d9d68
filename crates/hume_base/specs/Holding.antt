-- Which data types a type holds.
use Rattle.std.specs.Prelude.{◌≡◌, ℕ, nat_lt, Bool, true, slice_get, Some}
use Rattle.std.specs.List.{list_all}
use Rattle.hume_base.specs.declared.types.Ty.{Ty, fold-Ty}
use Rattle.hume_base.specs.declared.types.Ty.TheOpen.{Ty-F}
use Rattle.hume_base.specs.declared.types.Types.{Types}
use Rattle.hume_base.specs.declared.types.SumDef.{SumDef}
use Rattle.hume_base.specs.declared.types.ConDef.{ConDef}

-- one level of a type, with whether its parts hold only data types of numbers below the bound
abbrev pub holds_step : ℕ → Ty-F Bool → Bool
holds_step bound Ty-F.Bool = true
holds_step bound Ty-F.Char = true
holds_step bound (Ty-F.Int bits) = true
holds_step bound (Ty-F.Nat bits) = true
holds_step bound (Ty-F.Tuple parts) = list_all (λ part. part) parts
holds_step bound (Ty-F.Vector count item) = item
holds_step bound (Ty-F.Named number) = nat_lt number bound

-- the type holds only data types of numbers below the bound
abbrev pub holds_below : ℕ → Ty → Bool
holds_below bound = fold-Ty Bool (holds_step bound)

abbrev pub con_holds : ℕ → ConDef → Bool
con_holds bound con = list_all (holds_below bound) con.fields

-- each data type holds only data types of smaller numbers
abbrev pub HoldSmaller : Types → Type 0
HoldSmaller types = (number : ℕ) (sum : SumDef) → slice_get types.sums number ≡ Some sum → list_all (con_holds number) sum.cons ≡ true
