-- Names that a function may have.
use Rattle.std.specs.Prelude.{ℕ, ◌==◌, nat_le, ◌&&◌, ◌||◌, Bool, false, List, [], ◌∷◌, length, bytes_eq, is_none}
use Rattle.std.specs.List.{list_all, list_any}
use Rattle.hume_base.specs.declared.limits.TheConstants.{MAX_NAME_BYTES}
use Rattle.hume_base.specs.Keywords.{keyword_of}
use Rattle.hume_model.specs.declared.core_tree.FunC.{FunC}

-- the byte is a letter a to z
abbrev pub is_small : ℕ → Bool
is_small byte = nat_le 97 byte && nat_le byte 122

-- the byte is a letter, a digit or an underscore
abbrev pub is_name_byte : ℕ → Bool
is_name_byte byte = is_small byte || ((nat_le 65 byte && nat_le byte 90) || ((nat_le 48 byte && nat_le byte 57) || (byte == 95)))

-- the bytes begin with a small letter and go on with letters, digits and underscores
abbrev pub has_form : List ℕ → Bool
has_form [] = false
has_form (first ∷ later) = is_small first && list_all is_name_byte later

-- the bytes are a name that a source may give a function: in that form, not too long and no keyword
abbrev pub is_function_name : List ℕ → Bool
is_function_name name = has_form name && (nat_le (length name) MAX_NAME_BYTES && is_none (keyword_of name))

-- one of the functions has the name
abbrev pub is_taken : List FunC → List ℕ → Bool
is_taken funs name = list_any (λ (function : FunC). bytes_eq function.name name) funs
