-- Which types have texts that aren't longer than a buffer for them.
use Rattle.std.specs.Prelude.{◌≡◌, ℕ, ◌+◌, ◌≤◌, ◌&&◌, nat_le, Bool, true, length, Some, slice_get}
use Rattle.std.specs.List.{list_all, AllByRecursion}
use Rattle.hume_base.specs.declared.limits.TheConstants.{MAX_DEPTH, MAX_NAME_BYTES, MAX_TYPE_WORDS, MAX_WIDTH}
use Rattle.hume_base.specs.declared.types.Ty.{Ty, fold-Ty}
use Rattle.hume_base.specs.declared.types.Ty.TheOpen.{Ty-F}
use Rattle.hume_base.specs.declared.types.Types.{Types}
use Rattle.hume_base.specs.declared.types.SumDef.{SumDef}
use Rattle.hume_base.specs.declared.types.ConDef.{ConDef}
use Rattle.hume_base.specs.Sizes.{greatest, named_size}

-- no data type is larger than the size that is written beside it can tell
abbrev pub HaveWrittenSizes : Types → Type 0
HaveWrittenSizes types = (number : ℕ) (sum : SumDef) → slice_get types.sums number ≡ Some sum → named_size types (length types.sums) number ≤ MAX_TYPE_WORDS + 1

-- one level of a written type, with the depths of its parts in their places
abbrev pub depth_step : Ty-F ℕ → ℕ
depth_step (Ty-F.Tuple parts) = 1 + greatest parts
depth_step (Ty-F.Vector count item) = 1 + item
depth_step _ = 1

-- how deep a type is written
abbrev pub depth_of : Ty → ℕ
depth_of = fold-Ty ℕ depth_step

-- one level of a type: numbers aren't too wide, and no tuple or vector is empty
abbrev pub limits_step : Ty-F Bool → Bool
limits_step (Ty-F.Int bits) = nat_le bits MAX_WIDTH
limits_step (Ty-F.Nat bits) = nat_le bits MAX_WIDTH
limits_step (Ty-F.Tuple parts) = nat_le 1 (length parts) && list_all (λ part. part) parts
limits_step (Ty-F.Vector count item) = nat_le 1 count && item
limits_step _ = true

abbrev pub keeps_limits : Ty → Bool
keeps_limits = fold-Ty Bool limits_step

-- the type is one that a source may write: not too deep, and within the limits of its numbers, tuples and vectors
pub record IsWritable (ty : Ty) : Type 0 where
  pub depth : depth_of ty ≤ MAX_DEPTH
  pub limits : keeps_limits ty ≡ true

pub record IsWritableCon (con : ConDef) : Type 0 where
  pub name : length con.name ≤ MAX_NAME_BYTES
  pub fields : AllByRecursion IsWritable con.fields

-- so are the fields of all constructors, whose names aren't too long
abbrev pub AreWritable : Types → Type 0
AreWritable types = (number : ℕ) (sum : SumDef) → slice_get types.sums number ≡ Some sum → AllByRecursion IsWritableCon sum.cons

-- a type whose texts have a bound: it and what its data types hold keep the limits, and their sizes are written down
pub record IsPrintable (types : Types) (ty : Ty) : Type 0 where
  pub own : IsWritable ty
  pub others : AreWritable types
  pub sizes : HaveWrittenSizes types
