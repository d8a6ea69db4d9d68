-- Values that are written down: the first values of wires.
use Rattle.std.specs.Prelude.{◌==◌, ◌&&◌, Bool, true, false, List, [], ◌∷◌, length, Option, Some, None}
use Rattle.hume_base.specs.declared.types.Ty.{Ty, out-Ty}
use Rattle.hume_base.specs.declared.types.Ty.TheOpen.{Ty-F}
use Rattle.hume_base.specs.declared.types.Value.{Value, Word, Tuple, Vector, Con}
use Rattle.hume_base.specs.Values.{is_char_word}
use Rattle.hume_ast.specs.declared.tree.Exp.{Exp, fold-Exp}
use Rattle.hume_ast.specs.declared.tree.Exp.TheOpen.{Exp-F}
use Rattle.hume_model.specs.Calls.{all_true}
use Rattle.check_typing.specs.Partial.{given, when}
use Rattle.check_typing.specs.Signatures.{Constructor, con_named}
use Rattle.check_typing.specs.Patterns.{literal_number, literal_word, is_number_of, word_of_truth, is_bool, is_char, is_named}
use Rattle.check_typing.specs.declared.signatures.Signatures.{Signatures}

-- one level of an expression: its form is allowed, and its parts are built so
abbrev pub built_step : Exp-F Bool → Bool
built_step (Exp-F.Num negative amount) = true
built_step (Exp-F.Letter byte) = true
built_step (Exp-F.Truth truth) = true
built_step (Exp-F.Con name parts) = all_true parts
built_step (Exp-F.Paren part) = part
built_step (Exp-F.Tuple parts) = all_true parts
built_step (Exp-F.Vect parts) = all_true parts
built_step _ = false

-- the expression is built of literals, constructors, tuples, vectors and parentheses alone
abbrev pub is_built : Exp → Bool
is_built = fold-Exp Bool built_step

-- the values of parts, each of the type in its place
abbrev pub values_of : List (Ty → Option Value) → List Ty → Option (List Value)
values_of [] [] = Some []
values_of [] (ty ∷ tys) = None
values_of (part ∷ parts) [] = None
values_of (part ∷ parts) (ty ∷ tys) = given (part ty) (λ first. given (values_of parts tys) (λ others. Some (first ∷ others)))

-- the values of parts, all of one type
abbrev pub values_alike : List (Ty → Option Value) → Ty → Option (List Value)
values_alike [] ty = Some []
values_alike (part ∷ parts) ty = given (part ty) (λ first. given (values_alike parts ty) (λ others. Some (first ∷ others)))

-- a constructor with its fields, if the type is its data type
abbrev pub con_value : Option Constructor → List (Ty → Option Value) → Ty → Option Value
con_value None parts ty = None
con_value (Some con) parts ty = when (is_named con.sum (out-Ty ty)) (given (values_of parts con.fields) (λ values. Some (Con con.place values)))

-- a tuple, if the type is one of as many parts
abbrev pub tuple_value : List (Ty → Option Value) → Ty-F Ty → Option Value
tuple_value parts (Ty-F.Tuple tys) = given (values_of parts tys) (λ values. Some (Tuple values))
tuple_value parts _ = None

-- a vector, if the type is one of as many elements
abbrev pub vector_value : List (Ty → Option Value) → Ty-F Ty → Option Value
vector_value parts (Ty-F.Vector count item) = when (length parts == count) (given (values_alike parts item) (λ values. Some (Vector values)))
vector_value parts _ = None

-- one level of an expression, with the values of its parts as ones of a type
abbrev pub value_step : Signatures → Exp-F (Ty → Option Value) → Ty → Option Value
value_step signatures (Exp-F.Num negative amount) ty =
    when (is_number_of (literal_number negative amount) (out-Ty ty)) (Some (Word (literal_word negative amount)))
value_step signatures (Exp-F.Letter byte) ty = when (is_char (out-Ty ty) && is_char_word byte) (Some (Word byte))
value_step signatures (Exp-F.Truth truth) ty = when (is_bool (out-Ty ty)) (Some (Word (word_of_truth truth)))
value_step signatures (Exp-F.Con name parts) ty = con_value (con_named name signatures) parts ty
value_step signatures (Exp-F.Paren part) ty = part ty
value_step signatures (Exp-F.Tuple parts) ty = tuple_value parts (out-Ty ty)
value_step signatures (Exp-F.Vect parts) ty = vector_value parts (out-Ty ty)
value_step signatures _ ty = None

-- the value of the type that the expression writes down, if it is one
abbrev pub constant : Signatures → Exp → Ty → Option Value
constant signatures = fold-Exp (Ty → Option Value) (value_step signatures)
