-- Which types a source may write down.
use Rattle.std.specs.Prelude.{◌≡◌, ℕ, ◌+◌, nat_lt, nat_le, ◌≤◌, ◌&&◌, Bool, true, length}
use Rattle.std.specs.List.{list_all}
use Rattle.hume_base.specs.declared.limits.TheConstants.{MAX_DEPTH, MAX_WIDTH, MAX_LENGTH, MAX_PARTS, MAX_TYPE_WORDS}
use Rattle.hume_base.specs.declared.types.Ty.{Ty, fold-Ty}
use Rattle.hume_base.specs.declared.types.Ty.TheOpen.{Ty-F}
use Rattle.hume_base.specs.declared.types.Types.{Types}
use Rattle.hume_base.specs.Sizes.{greatest, size_of}

-- the number is neither below the one nor above the other
abbrev pub is_between : ℕ → ℕ → ℕ → Bool
is_between least most number = nat_le least number && nat_le number most

-- One level of a type among so many data types, with whether its parts are types. A tuple has two parts, and a vector an
-- element, and no more than are allowed.
abbrev pub type_step : ℕ → Ty-F Bool → Bool
type_step count Ty-F.Bool = true
type_step count Ty-F.Char = true
type_step count (Ty-F.Int bits) = is_between 1 MAX_WIDTH bits
type_step count (Ty-F.Nat bits) = is_between 1 MAX_WIDTH bits
type_step count (Ty-F.Tuple parts) = is_between 2 MAX_PARTS (length parts) && list_all (λ part. part) parts
type_step count (Ty-F.Vector elements item) = is_between 1 MAX_LENGTH elements && item
type_step count (Ty-F.Named number) = nat_lt number count

-- the type has no width, length or number of parts that is out of bounds, and its data types are there
abbrev pub is_type : Types → Ty → Bool
is_type types = fold-Ty Bool (type_step (length types.sums))

-- 1 for a leaf, and else 1 and the greatest depth of a part
abbrev pub depth_step : Ty-F ℕ → ℕ
depth_step (Ty-F.Tuple parts) = 1 + greatest parts
depth_step (Ty-F.Vector elements item) = 1 + item
depth_step _ = 1

-- how many types stand in one another
abbrev pub type_depth : Ty → ℕ
type_depth = fold-Ty ℕ depth_step

-- a type that stands in a source
pub record IsWrittenType (types : Types) (ty : Ty) : Type 0 where
  pub parts : is_type types ty ≡ true
  pub depth : type_depth ty ≤ MAX_DEPTH
  pub words : size_of types ty ≤ MAX_TYPE_WORDS
