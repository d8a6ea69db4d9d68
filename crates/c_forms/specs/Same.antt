-- Whether two expressions name one object, or are one constant.
use Rattle.std.specs.Prelude.{ℕ, ◌==◌, ◌&&◌, Bool, true, false, List}
use Rattle.std.specs.Str.{bytes_eq}
use Rattle.c_tree.specs.declared.tree.CExp.{CExp, out-CExp, fold-CExp}
use Rattle.c_tree.specs.declared.tree.CExp.TheOpen.{CExp-F}

abbrev pub same_truth : Bool → Bool → Bool
same_truth true true = true
same_truth false false = true
same_truth _ _ = false

abbrev pub is_truth : Bool → CExp-F CExp → Bool
is_truth holds (CExp-F.Truth other) = same_truth holds other
is_truth holds _ = false

abbrev pub is_unsigned : ℕ → CExp-F CExp → Bool
is_unsigned amount (CExp-F.Unsigned width other) = amount == other
is_unsigned amount _ = false

abbrev pub is_signed : Bool → ℕ → CExp-F CExp → Bool
is_signed negative amount (CExp-F.Signed width sign other) = same_truth negative sign && (amount == other)
is_signed negative amount _ = false

abbrev pub is_name : List ℕ → CExp-F CExp → Bool
is_name name (CExp-F.Name other) = bytes_eq name other
is_name name _ = false

abbrev pub is_pointed : List ℕ → CExp-F CExp → Bool
is_pointed name (CExp-F.Pointed other) = bytes_eq name other
is_pointed name _ = false

abbrev pub is_member : (CExp → Bool) → List ℕ → CExp-F CExp → Bool
is_member object name (CExp-F.Member other it) = bytes_eq name it && object other
is_member object name _ = false

abbrev pub is_element : (CExp → Bool) → (CExp → Bool) → CExp-F CExp → Bool
is_element array index (CExp-F.Element other at) = array other && index at
is_element array index _ = false

abbrev pub same_step : CExp-F (CExp → Bool) → CExp → Bool
same_step (CExp-F.Truth holds) other = is_truth holds (out-CExp other)
same_step (CExp-F.Unsigned width amount) other = is_unsigned amount (out-CExp other)
same_step (CExp-F.Signed width negative amount) other = is_signed negative amount (out-CExp other)
same_step (CExp-F.Name name) other = is_name name (out-CExp other)
same_step (CExp-F.Pointed name) other = is_pointed name (out-CExp other)
same_step (CExp-F.Member object name) other = is_member object name (out-CExp other)
same_step (CExp-F.Element array index) other = is_element array index (out-CExp other)
same_step _ other = false

-- whether both name one object, or are one constant
abbrev pub is_same : CExp → CExp → Bool
is_same = fold-CExp (CExp → Bool) same_step
