-- What the functions that read expressions read, behind the token that decides. The room is that of the parts.
use Rattle.std.specs.Prelude.{ℕ, ◌==◌, ◌∷◌, [], List, Bool, true, false, if◌then◌else◌, Option, Some, None}
use Rattle.hume_base.specs.declared.keyword.Keyword.TheVariants as word
use Rattle.hume_base.specs.declared.symbol.Symbol.{Symbol}
use Rattle.hume_base.specs.declared.symbol.Symbol.TheVariants as symbol
use Rattle.hume_base.specs.declared.token.Kind.{Kind}
use Rattle.hume_base.specs.declared.token.Kind.TheVariants.{Lower, Upper, Word, Sign}
use Rattle.hume_base.specs.declared.limits.TheConstants.{MAX_DEPTH}
use Rattle.hume_ast.specs.declared.tree.Pat.{Pat}
use Rattle.hume_ast.specs.declared.tree.Exp.{Exp, roll-Exp}
use Rattle.hume_ast.specs.declared.tree.Exp.TheOpen.{Exp-F}
use Rattle.parse_expressions.specs.declared.trees.Head.{Head}
use Rattle.parse_expressions.specs.declared.trees.Head.TheVariants.{Function, Constructor}
use Rattle.parse_readers.specs.inner.Readers.{Reader, stop, too_deep as deeper, choice, next, is_word, is_sign, any_token, made, both, closed, led, listed, many, maybe, pick, give, alternatives, lower_name, upper_name}
use Rattle.parse_readers.specs.inner.Types.{types}
use Rattle.parse_readers.specs.inner.Patterns.{patterns, starts_pat}
use Rattle.parse_readers.specs.inner.Expressions.{exps, let_of, if_of, case_of, alternative, raise_of, update_of, exp_in_parens, tail_ways, starts_atom, begins_part, exp_leaf, minus_ways}

abbrev pub let_parts : ℕ → Reader Exp
let_parts room =
    made roll-Exp (made let_of (both (closed (pick lower_name) (Sign symbol.Equals)) (both (closed (exps room).whole (Word word.In)) (exps room).whole)))

abbrev pub if_parts : ℕ → Reader Exp
if_parts room =
    made roll-Exp (made if_of (both (closed (exps room).whole (Word word.Then)) (both (closed (exps room).whole (Word word.Else)) (exps room).whole)))

abbrev pub case_alternatives : ℕ → Reader (List (Pat × Exp))
case_alternatives room = closed (listed symbol.Bar (alternative (patterns MAX_DEPTH).whole (exps room).whole)) (Word word.End)

abbrev pub case_parts : ℕ → Reader Exp
case_parts room = made roll-Exp (made case_of (both (closed (exps room).whole (Word word.Of)) (case_alternatives room)))

abbrev pub raise_parts : ℕ → Reader Exp
raise_parts room = made roll-Exp (made raise_of (both (pick upper_name) (maybe starts_atom (exps room).atom)))

abbrev pub minus_parts : ℕ → Reader Exp
minus_parts room = made roll-Exp (alternatives (minus_ways (exps room).unary))

abbrev pub update_parts : ℕ → Reader Exp
update_parts room = made roll-Exp (made update_of (both (exps room).atom (both (exps room).atom (exps room).atom)))

-- behind the first part, the others and what closes them
abbrev pub other_parts : Symbol → ℕ → Reader (List Exp)
other_parts close room = closed (many (is_sign symbol.Comma) (led (Sign symbol.Comma) (exps room).whole)) (Sign close)

abbrev pub parens_parts : ℕ → Reader Exp
parens_parts room = made roll-Exp (made exp_in_parens (both (exps room).whole (alternatives (tail_ways (types MAX_DEPTH) (exps room).whole))))

abbrev pub vect_parts : ℕ → Reader Exp
vect_parts room = made roll-Exp (made Exp-F.Vect (closed (listed symbol.Comma (exps room).whole) (Sign symbol.CloseAngles)))

-- what stands in parentheses: one expression, or several
abbrev pub in_list : List Exp → Exp-F Exp
in_list [] = Exp-F.Tuple []
in_list (first ∷ []) = Exp-F.Paren first
in_list (first ∷ second ∷ others) = Exp-F.Tuple (first ∷ second ∷ others)

-- the name that arguments stand behind
abbrev pub head_of : Kind → Option Head
head_of (Lower name) = Some (Function name)
head_of (Upper name) = Some (Constructor name)
head_of _ = None

abbrev pub is_name : Kind → Bool
is_name (Lower name) = true
is_name (Upper name) = true
is_name _ = false

abbrev pub call_of : Head → List Exp → Exp-F Exp
call_of (Function name) arguments = Exp-F.App name arguments
call_of (Constructor name) arguments = Exp-F.Con name arguments

abbrev pub call_with : Head → ℕ → Reader Exp
call_with head room = made roll-Exp (made (call_of head) (many starts_atom (exps room).atom))

-- whether an expression begins so that is more than one deep
abbrev pub opens_form : Kind → Bool
opens_form k = if is_word word.Let k then true else (if is_word word.If k then true else is_word word.Case k)

-- whether an atom begins so that is more than one deep
abbrev pub opens_parts : Kind → Bool
opens_parts k = if is_sign symbol.OpenParen k then true else is_sign symbol.OpenAngles k

-- whether what begins so is deeper than there is room
abbrev pub too_deep : (Kind → Bool) → ℕ → List Kind → Bool
too_deep opens room ks = if room == 1 then next opens ks else false

-- an atom without parts
abbrev pub plain_atom : Reader Exp
plain_atom = made roll-Exp (alternatives (
    (is_word word.True, led (Word word.True) (give (Exp-F.Truth true)))
    ∷ (is_word word.False, led (Word word.False) (give (Exp-F.Truth false)))
    ∷ (any_token, pick exp_leaf)
    ∷ []))

-- where nothing may be deeper, no part behind a sign
abbrev pub no_part : Reader Exp
no_part = choice begins_part deeper stop

-- no atom
abbrev pub no_atom : Reader Exp
no_atom = choice starts_atom deeper stop

-- and no pattern
abbrev pub no_pattern : Reader Pat
no_pattern = choice starts_pat deeper stop
