-- What may be missing, and what is so of one of several.
use Rattle.std.proofs.Common.{◌≡◌, ◌||◌, Bool, true, false, Option, Some, None, refl}
use Rattle.check_typing.specs.Partial.{given}

-- what has nothing for one has nothing for another
pub nothing : {A B C : Type 0} (o : Option A) (f : A → B) (g : A → Option C) → given o (λ x. Some (f x)) ≡ None → given o g ≡ None
nothing None f g h = refl
nothing (Some x) f g h = cc

pub or_assoc : (a b c : Bool) → (a || b) || c ≡ a || (b || c)
or_assoc true b c = refl
or_assoc false b c = refl

pub or_false : (a : Bool) → a || false ≡ a
or_false true = refl
or_false false = refl
