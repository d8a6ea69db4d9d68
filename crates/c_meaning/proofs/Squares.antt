-- What the file of `Example.antt` writes.
use Rattle.std.proofs.Common.{◌≡◌, pos, [], ◌∷◌, Some, None, refl}
use Rattle.c_meaning.specs.Numbers.{Unsigned, of_type}
use Rattle.c_meaning.specs.Memories.{Numeric}
use Rattle.c_meaning.specs.Example.{short_product, wide_product, written_of}
use Rattle.c_meaning.proofs.Forms.{form_steps}

pub wide_at_16 : written_of 16 wide_product (pos 65535) ≡ Some (Numeric (of_type (Unsigned 16) (pos 1)) ∷ [])
wide_at_16 = simp form_steps refl

pub wide_at_32 : written_of 32 wide_product (pos 65535) ≡ Some (Numeric (of_type (Unsigned 16) (pos 1)) ∷ [])
wide_at_32 = simp form_steps refl

pub short_at_16 : written_of 16 short_product (pos 65535) ≡ Some (Numeric (of_type (Unsigned 16) (pos 1)) ∷ [])
short_at_16 = simp form_steps refl

pub short_at_32 : written_of 32 short_product (pos 65535) ≡ None
short_at_32 = simp form_steps refl

pub small_at_32 : written_of 32 short_product (pos 12) ≡ Some (Numeric (of_type (Unsigned 16) (pos 144)) ∷ [])
small_at_32 = simp form_steps refl
