-- Whether two types are the same, by the form of the first one.
use Rattle.std.specs.Prelude.{ℕ, ◌==◌, ◌&&◌, Bool, true, false, List, [], ◌∷◌}
use Rattle.hume_base.specs.declared.types.Ty.{Ty, out-Ty, fold-Ty}
use Rattle.hume_base.specs.declared.types.Ty.TheOpen.{Ty-F}

abbrev pub all_same : List (Ty → Bool) → List Ty → Bool
all_same [] [] = true
all_same [] (ty ∷ tys) = false
all_same (test ∷ tests) [] = false
all_same (test ∷ tests) (ty ∷ tys) = test ty && all_same tests tys

abbrev pub is_bool : Ty-F Ty → Bool
is_bool Ty-F.Bool = true
is_bool _ = false

abbrev pub is_char : Ty-F Ty → Bool
is_char Ty-F.Char = true
is_char _ = false

abbrev pub is_int : ℕ → Ty-F Ty → Bool
is_int bits (Ty-F.Int other) = bits == other
is_int bits _ = false

abbrev pub is_nat : ℕ → Ty-F Ty → Bool
is_nat bits (Ty-F.Nat other) = bits == other
is_nat bits _ = false

abbrev pub is_tuple : List (Ty → Bool) → Ty-F Ty → Bool
is_tuple tests (Ty-F.Tuple tys) = all_same tests tys
is_tuple tests _ = false

abbrev pub is_vector : ℕ → (Ty → Bool) → Ty-F Ty → Bool
is_vector count test (Ty-F.Vector other item) = (count == other) && test item
is_vector count test _ = false

abbrev pub is_named : ℕ → Ty-F Ty → Bool
is_named number (Ty-F.Named other) = number == other
is_named number _ = false

abbrev pub same_step : Ty-F (Ty → Bool) → Ty → Bool
same_step Ty-F.Bool other = is_bool (out-Ty other)
same_step Ty-F.Char other = is_char (out-Ty other)
same_step (Ty-F.Int bits) other = is_int bits (out-Ty other)
same_step (Ty-F.Nat bits) other = is_nat bits (out-Ty other)
same_step (Ty-F.Tuple tests) other = is_tuple tests (out-Ty other)
same_step (Ty-F.Vector count test) other = is_vector count test (out-Ty other)
same_step (Ty-F.Named number) other = is_named number (out-Ty other)

-- whether two types are the same
abbrev pub is_same : Ty → Ty → Bool
is_same = fold-Ty (Ty → Bool) same_step
