-- Patterns against the types of what they match.
use Rattle.std.specs.Prelude.{ℕ, ◌^◌, ◌==◌, ◌&&◌, not, Bool, true, false, ℤ, pos, neg_ℤ, List, [], ◌∷◌, ◌++◌, map, Option, Some, None, if◌then◌else◌}
use Rattle.std.specs.Int.RustNames.{int_le, int_lt}
use Rattle.std.specs.List.{list_any}
use Rattle.hume_base.specs.declared.types.Ty.{Ty, out-Ty}
use Rattle.hume_base.specs.declared.types.Ty.TheOpen.{Ty-F}
use Rattle.hume_base.specs.Values.{is_int_of, is_char_word}
use Rattle.hume_base.specs.Words.{word_of}
use Rattle.hume_ast.specs.declared.tree.Pat.{Pat, out-Pat, fold-Pat}
use Rattle.hume_ast.specs.declared.tree.Pat.TheOpen.{Pat-F}
use Rattle.hume_model.specs.declared.core_tree.PatC.{PatC, Var, Any, Word, Con, Tuple}
use Rattle.hume_model.specs.declared.core_tree.InPat.{InPat}
use Rattle.hume_model.specs.declared.core_tree.InPat.TheVariants as in_pat
use Rattle.hume_model.specs.Typing.{is_number_type}
use Rattle.check_typing.specs.Partial.{given, when}
use Rattle.check_typing.specs.Signatures.{Scope, Constructor, con_named}
use Rattle.check_typing.specs.declared.signatures.Signatures.{Signatures}

-- the number of a literal
abbrev pub literal_number : Bool → ℕ → ℤ
literal_number negative amount = if negative then neg_ℤ (pos amount) else pos amount

-- its word
abbrev pub literal_word : Bool → ℕ → ℕ
literal_word negative amount = word_of (literal_number negative amount)

-- the number is one of the type
abbrev pub is_number_of : ℤ → Ty-F Ty → Bool
is_number_of number (Ty-F.Int bits) = is_int_of bits number
is_number_of number (Ty-F.Nat bits) = int_le (pos 0) number && int_lt number (pos (2 ^ bits))
is_number_of number _ = false

-- the literal is out of the range of the type
abbrev pub is_too_wide : Bool → ℕ → Ty → Bool
is_too_wide negative amount ty = not (is_number_of (literal_number negative amount) (out-Ty ty))

-- the letter is no character
abbrev pub is_no_char : ℕ → Bool
is_no_char byte = not (is_char_word byte)

-- the word of `true` or `false`
abbrev pub word_of_truth : Bool → ℕ
word_of_truth truth = if truth then 1 else 0

-- the type is `bool`
abbrev pub is_bool : Ty-F Ty → Bool
is_bool Ty-F.Bool = true
is_bool _ = false

-- the type is `char`
abbrev pub is_char : Ty-F Ty → Bool
is_char Ty-F.Char = true
is_char _ = false

-- the type is the data type of the number
abbrev pub is_named : ℕ → Ty-F Ty → Bool
is_named number (Ty-F.Named other) = number == other
is_named number _ = false

-- the core of a pattern, and whether a literal in it is out of the range of its type
abbrev pub CoredPat : Type 0
CoredPat = PatC × Bool

-- the cores alone
abbrev pub pat_cores : List CoredPat → List PatC
pat_cores cores = map (λ c. c.0) cores

-- a literal in one of them is out of range
abbrev pub some_pat_too_wide : List CoredPat → Bool
some_pat_too_wide cores = list_any (λ c. c.1) cores

-- the variables that a pattern binds, from left to right, and its core
abbrev pub Bound : Type 0
Bound = Scope × CoredPat

-- patterns against the types in their places
abbrev pub all_bound : List (Ty → Option Bound) → List Ty → Option (Scope × List CoredPat)
all_bound [] [] = Some ([], [])
all_bound [] (ty ∷ tys) = None
all_bound (pat ∷ pats) [] = None
all_bound (pat ∷ pats) (ty ∷ tys) = given (pat ty) (λ first. given (all_bound pats tys) (λ others. Some (first.0 ++ others.0, first.1 ∷ others.1)))

-- patterns against the parts of a tuple
abbrev pub tuple_bound : List (Ty → Option Bound) → Ty-F Ty → Option Bound
tuple_bound pats (Ty-F.Tuple tys) = given (all_bound pats tys) (λ all. Some (all.0, (Tuple (pat_cores all.1), some_pat_too_wide all.1)))
tuple_bound pats _ = None

-- patterns against the fields of a constructor, if the type is its data type
abbrev pub con_bound : Option Constructor → List (Ty → Option Bound) → Ty → Option Bound
con_bound None pats ty = None
con_bound (Some con) pats ty =
    when (is_named con.sum (out-Ty ty)) (given (all_bound pats con.fields) (λ all.
    Some (all.0, (Con con.place (pat_cores all.1), some_pat_too_wide all.1))))

-- one level of a pattern, against the type of what it matches
abbrev pub pattern_step : Signatures → Pat-F (Ty → Option Bound) → Ty → Option Bound
pattern_step signatures (Pat-F.Name name) ty = Some ((name, ty) ∷ [], (Var, false))
pattern_step signatures Pat-F.Any ty = Some ([], (Any, false))
pattern_step signatures (Pat-F.Num negative amount) ty =
    when (is_number_type ty) (Some ([], (Word (literal_word negative amount), is_too_wide negative amount ty)))
pattern_step signatures (Pat-F.Letter byte) ty = when (is_char (out-Ty ty)) (Some ([], (Word byte, is_no_char byte)))
pattern_step signatures (Pat-F.Truth truth) ty = when (is_bool (out-Ty ty)) (Some ([], (Word (word_of_truth truth), false)))
pattern_step signatures (Pat-F.Con name pats) ty = con_bound (con_named name signatures) pats ty
pattern_step signatures (Pat-F.Paren pat) ty = pat ty
pattern_step signatures (Pat-F.Tuple pats) ty = tuple_bound pats (out-Ty ty)
pattern_step signatures Pat-F.Star ty = None
pattern_step signatures Pat-F.AnyStar ty = None

-- the variables of a pattern with their types, and its core
abbrev pub pattern : Signatures → Pat → Ty → Option Bound
pattern signatures = fold-Pat (Ty → Option Bound) (pattern_step signatures)

-- the same of several patterns, of which the variables of the first ones come first
abbrev pub patterns : Signatures → List Pat → List Ty → Option (Scope × List CoredPat)
patterns signatures pats tys = all_bound (map (pattern signatures) pats) tys

-- the core of a position of a rule, and whether a literal in it is out of the range of its type
abbrev pub CoredPosition : Type 0
CoredPosition = InPat × Bool

-- a pattern at a position
abbrev pub built : Option Bound → Option (Scope × CoredPosition)
built bound = given bound (λ b. Some (b.0, (in_pat.Built b.1.0, b.1.1)))

-- what stands at a position, against the type of the input: a bare `_` is no pattern
abbrev pub position_step : Option Bound → Pat-F Pat → Option (Scope × CoredPosition)
position_step bound Pat-F.Star = Some ([], (in_pat.Star, false))
position_step bound Pat-F.AnyStar = Some ([], (in_pat.AnyStar, false))
position_step bound Pat-F.Any = Some ([], (in_pat.Any, false))
position_step bound _ = built bound

-- a position of a rule, against the type of the input
abbrev pub position : Signatures → Pat → Ty → Option (Scope × CoredPosition)
position signatures pat ty = position_step (pattern signatures pat ty) (out-Pat pat)

-- the positions of a rule, against the types of the box's inputs
abbrev pub positions : Signatures → List Pat → List Ty → Option (Scope × List CoredPosition)
positions signatures [] [] = Some ([], [])
positions signatures [] (ty ∷ tys) = None
positions signatures (pat ∷ pats) [] = None
positions signatures (pat ∷ pats) (ty ∷ tys) =
    given (position signatures pat ty) (λ first. given (positions signatures pats tys) (λ others. Some (first.0 ++ others.0, first.1 ∷ others.1)))
