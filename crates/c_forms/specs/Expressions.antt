-- Expressions from their parts.
use Rattle.std.specs.Prelude.{ℕ, ◌&&◌, Bool, true, false, List, ◌++◌, decimal}
use Rattle.c_tree.specs.declared.tree.CType.{CType}
use Rattle.c_tree.specs.declared.tree.CExp.{CExp, out-CExp, fold-CExp}
use Rattle.c_tree.specs.declared.tree.CExp.TheOpen.{CExp-F}
use Rattle.c_tree.specs.declared.tree.CExp.TheVariants as exp

-- a word with a number behind it
abbrev pub numbered : List ℕ → ℕ → List ℕ
numbered word number = word ++ decimal number

-- `(type)(test ? (type)first : (type)second)`, with types of the two sides
abbrev pub choice : CType → (CType × CType) → CExp → CExp → CExp → CExp
choice type inner test first second = exp.Cast type (exp.Choice test (exp.Cast inner.0 first) (exp.Cast inner.1 second))

abbrev read_form : CExp → CExp-F CExp → CExp
read_form place (CExp-F.Pointed name) = exp.Name name
read_form place _ = exp.Address place

-- how an object is passed by a pointer: what a pointer points to, by that pointer
abbrev pub read_of : CExp → CExp
read_of place = read_form place (out-CExp place)

abbrev pub lasting_step : CExp-F Bool → Bool
lasting_step (CExp-F.Truth holds) = true
lasting_step (CExp-F.Unsigned width amount) = true
lasting_step (CExp-F.Signed width negative amount) = true
lasting_step (CExp-F.Name name) = true
lasting_step (CExp-F.Pointed name) = true
lasting_step (CExp-F.Member object name) = object
lasting_step (CExp-F.Element array index) = array && index
lasting_step _ = false

-- whether the expression names an object or is a constant
abbrev pub is_lasting : CExp → Bool
is_lasting = fold-CExp Bool lasting_step
