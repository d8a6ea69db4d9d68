-- What is asked of the names of constructors, so that a text has one meaning.
use Rattle.std.specs.Prelude.{◌≡◌, ℕ, ◌≤◌, nat_le, ◌&&◌, Bool, true, false, List, [], ◌∷◌, length, Some, slice_get}
use Rattle.std.specs.List.{list_all}
use Rattle.hume_base.specs.declared.limits.TheConstants.{MAX_NAME_BYTES}
use Rattle.hume_base.specs.declared.types.Types.{Types}
use Rattle.hume_base.specs.declared.types.SumDef.{SumDef}
use Rattle.hume_base.specs.declared.types.ConDef.{ConDef}
use Rattle.hume_text.specs.Read.{is_name_byte}

-- a letter A to Z, and then letters, digits and `_`
abbrev pub is_con_name : List ℕ → Bool
is_con_name [] = false
is_con_name (byte ∷ bytes) = nat_le 65 byte && nat_le byte 90 && list_all is_name_byte bytes

pub record IsConName (name : List ℕ) : Type 0 where
  pub form : is_con_name name ≡ true
  pub short : length name ≤ MAX_NAME_BYTES

-- the constructors of a data type have names, and no two the same
pub record HasNames (sum : SumDef) : Type 0 where
  pub names : (place : ℕ) (con : ConDef) → slice_get sum.cons place ≡ Some con → IsConName con.name
  pub differ : (i j : ℕ) (first second : ConDef) → slice_get sum.cons i ≡ Some first → slice_get sum.cons j ≡ Some second → first.name ≡ second.name → i ≡ j

abbrev pub HaveNames : Types → Type 0
HaveNames types = (number : ℕ) (sum : SumDef) → slice_get types.sums number ≡ Some sum → HasNames sum
