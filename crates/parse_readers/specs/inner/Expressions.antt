-- Reading expressions. In all of these, child and others like it read parts that are one level deeper.
use Rattle.std.specs.Prelude.{ℕ, zero, suc, ◌==◌, nat_le, List, [], ◌∷◌, length, Bool, true, false, if◌then◌else◌, is_some, Option, Some, None, Ok}
use Rattle.hume_base.specs.declared.limits.TheConstants.{MAX_DEPTH}
use Rattle.hume_base.specs.declared.keyword.Keyword.TheVariants as word
use Rattle.hume_base.specs.declared.symbol.Symbol.TheVariants as symbol
use Rattle.hume_base.specs.declared.token.Kind.{Kind}
use Rattle.hume_base.specs.declared.token.Kind.TheVariants.{Lower, Upper, Number, Letter, Word, Sign}
use Rattle.hume_ast.specs.declared.tree.TyExp.{TyExp}
use Rattle.hume_ast.specs.declared.tree.Pat.{Pat}
use Rattle.hume_ast.specs.declared.tree.BinOp.{BinOp}
use Rattle.hume_ast.specs.declared.tree.BinOp.TheVariants as op
use Rattle.hume_ast.specs.declared.tree.Exp.{Exp, roll-Exp}
use Rattle.hume_ast.specs.declared.tree.Exp.TheOpen.{Exp-F}
use Rattle.hume_ast.specs.Fits.{op_level}
use Rattle.hume_ast.specs.Depth.{exp_depth}
use Rattle.parse_readers.specs.inner.Readers.{Reader, ◌>>=◌, stop, too_deep, choice, behind, is_word, is_sign, led, closed, give, both, made, alternatives, any_token, pick, opens, many, listed, maybe, number_of, lower_name, upper_name}
use Rattle.parse_readers.specs.inner.Types.{types}
use Rattle.parse_readers.specs.inner.Patterns.{is_upper, patterns}

-- an expression of one token, if the token says all of it
abbrev pub exp_leaf : Kind → Option (Exp-F Exp)
exp_leaf (Lower name) = Some (Exp-F.App name [])
exp_leaf (Upper name) = Some (Exp-F.Con name [])
exp_leaf (Number amount) = Some (Exp-F.Num false amount)
exp_leaf (Letter byte) = Some (Exp-F.Letter byte)
exp_leaf _ = None

-- whether an atom begins so
abbrev pub starts_atom : Kind → Bool
starts_atom (Lower name) = true
starts_atom (Upper name) = true
starts_atom (Number amount) = true
starts_atom (Letter byte) = true
starts_atom (Word word.True) = true
starts_atom (Word word.False) = true
starts_atom (Sign symbol.OpenParen) = true
starts_atom (Sign symbol.OpenAngles) = true
starts_atom _ = false

-- whether a part behind a sign begins so
abbrev pub begins_part : Kind → Bool
begins_part (Word word.True) = true
begins_part (Word word.False) = true
begins_part (Word word.Not) = true
begins_part (Word word.Update) = true
begins_part (Sign symbol.OpenParen) = true
begins_part (Sign symbol.OpenAngles) = true
begins_part (Sign symbol.Minus) = true
begins_part (Sign symbol.Star) = true
begins_part (Lower name) = true
begins_part (Upper name) = true
begins_part (Number amount) = true
begins_part (Letter byte) = true
begins_part _ = false

abbrev pub is_lower : Kind → Bool
is_lower (Lower name) = true
is_lower _ = false

abbrev pub is_number : Kind → Bool
is_number (Number amount) = true
is_number _ = false

-- behind a parenthesis and an expression: a type, or the other parts
abbrev pub Tail : Type 0
Tail = Option TyExp × List Exp

abbrev pub cast_tail : TyExp → Tail
cast_tail type = (Some type, [])

abbrev pub parts_tail : List Exp → Tail
parts_tail parts = (None, parts)

abbrev pub exp_in_parens : Exp × Tail → Exp-F Exp
exp_in_parens (inner, (Some type, parts)) = Exp-F.Cast inner type
exp_in_parens (inner, (None, [])) = Exp-F.Paren inner
exp_in_parens (inner, (None, second ∷ parts)) = Exp-F.Tuple (inner ∷ second ∷ parts)

abbrev pub tail_ways : Reader TyExp → Reader Exp → List ((Kind → Bool) × Reader Tail)
tail_ways type child =
    (is_word word.As, made cast_tail (led (Word word.As) (closed type (Sign symbol.CloseParen))))
    ∷ (any_token, made parts_tail (closed (many (is_sign symbol.Comma) (led (Sign symbol.Comma) child)) (Sign symbol.CloseParen)))
    ∷ []

abbrev pub parens_exp : Reader TyExp → Reader Exp → Reader (Exp-F Exp)
parens_exp type child = made exp_in_parens (led (Sign symbol.OpenParen) (both child (alternatives (tail_ways type child))))

abbrev pub vect_exp : Reader Exp → Reader (Exp-F Exp)
vect_exp child = made Exp-F.Vect (led (Sign symbol.OpenAngles) (closed (listed symbol.Comma child) (Sign symbol.CloseAngles)))

-- an atom
abbrev pub atom_ways : ℕ → Reader TyExp → Reader Exp → List ((Kind → Bool) × Reader (Exp-F Exp))
atom_ways room type child =
    (is_word word.True, led (Word word.True) (give (Exp-F.Truth true)))
    ∷ (is_word word.False, led (Word word.False) (give (Exp-F.Truth false)))
    ∷ (is_sign symbol.OpenParen, opens room (parens_exp type child))
    ∷ (is_sign symbol.OpenAngles, opens room (vect_exp child))
    ∷ (any_token, pick exp_leaf)
    ∷ []

abbrev pub app_of : List ℕ × List Exp → Exp-F Exp
app_of parts = Exp-F.App parts.0 parts.1

abbrev pub con_exp_of : List ℕ × List Exp → Exp-F Exp
con_exp_of parts = Exp-F.Con parts.0 parts.1

abbrev pub app_exp : Reader Exp → Reader (Exp-F Exp)
app_exp atom = made app_of (both (pick lower_name) (many starts_atom atom))

abbrev pub con_exp : Reader Exp → Reader (Exp-F Exp)
con_exp atom = made con_exp_of (both (pick upper_name) (many starts_atom atom))

abbrev pub update_of : Exp × (Exp × Exp) → Exp-F Exp
update_of parts = Exp-F.Update parts.0 parts.1.0 parts.1.1

abbrev pub update_exp : Reader Exp → Reader (Exp-F Exp)
update_exp atom = made update_of (led (Word word.Update) (both atom (both atom atom)))

-- a name with its arguments, or an atom
abbrev pub app_ways : ℕ → Reader TyExp → Reader Exp → Reader Exp → List ((Kind → Bool) × Reader (Exp-F Exp))
app_ways room type child atom =
    (is_lower, app_exp atom)
    ∷ (is_upper, con_exp atom)
    ∷ (is_word word.Update, opens room (update_exp atom))
    ∷ (is_sign symbol.Star, led (Sign symbol.Star) (give Exp-F.Star))
    ∷ atom_ways room type child

-- the operator that the token is
abbrev pub operator_of : Kind → Option BinOp
operator_of (Word word.Or) = Some op.Or
operator_of (Word word.And) = Some op.And
operator_of (Sign symbol.DoubleEquals) = Some op.Eq
operator_of (Sign symbol.SlashEquals) = Some op.Ne
operator_of (Sign symbol.Less) = Some op.Lt
operator_of (Sign symbol.LessEquals) = Some op.Le
operator_of (Sign symbol.Greater) = Some op.Gt
operator_of (Sign symbol.GreaterEquals) = Some op.Ge
operator_of (Sign symbol.Plus) = Some op.Add
operator_of (Sign symbol.Minus) = Some op.Sub
operator_of (Sign symbol.Star) = Some op.Mul
operator_of (Word word.Div) = Some op.Div
operator_of (Word word.Mod) = Some op.Mod
operator_of (Sign symbol.At) = Some op.At
operator_of _ = None

abbrev pub if_level : ℕ → Option BinOp → Option BinOp
if_level level None = None
if_level level (Some operator) = if op_level operator == level then Some operator else None

-- the operator of the level that the token is
abbrev pub operator_at : ℕ → Kind → Option BinOp
operator_at level k = if_level level (operator_of k)

-- an operator and its right part, if the left part leaves room for both
abbrev pub with_operator : Option BinOp → ℕ → Reader Exp → Exp-F Exp → Reader (Exp-F Exp)
with_operator None room child left ks = stop ks
with_operator (Some operator) room child left ks =
    if nat_le (exp_depth (roll-Exp left)) room
    then (child (behind ks) >>= λ right. Ok (Exp-F.Binary operator (roll-Exp left) right.0, right.1))
    else too_deep ks

abbrev pub next_operator : ℕ → List Kind → Option BinOp
next_operator level [] = None
next_operator level (k ∷ ks) = operator_at level k

abbrev pub one_operand : ℕ → ℕ → Reader Exp → Exp-F Exp → Reader (Exp-F Exp)
one_operand level room child left ks = with_operator (next_operator level ks) room child left ks

-- operand by operand, as long as the next token is an operator of the level; a bound on how many first
abbrev pub operands_by : ℕ → ℕ → ℕ → Reader Exp → Exp-F Exp → Reader (Exp-F Exp)
operands_by zero level room child left ks = Ok (left, ks)
operands_by (suc n) level room child left ks =
    if is_some (next_operator level ks)
    then (one_operand level room child left ks >>= λ x. operands_by n level room child x.0 x.1)
    else Ok (left, ks)

unfoldable pub operands : ℕ → ℕ → Reader Exp → Exp-F Exp → Reader (Exp-F Exp)
operands level room child left ks = operands_by (length ks) level room child left ks

-- parts of a level with its operators between them, which group to the left
abbrev pub chain : ℕ → ℕ → Reader Exp → Reader (Exp-F Exp) → Reader (Exp-F Exp)
chain level room child first ks = first ks >>= λ x. operands level room child x.0 x.1

-- two parts with a comparison between them, or one
abbrev pub comparison : ℕ → ℕ → Reader Exp → Reader (Exp-F Exp) → Reader (Exp-F Exp)
comparison level room child first ks =
    first ks >>= λ x. if is_some (next_operator level x.1) then one_operand level room child x.0 x.1 else Ok (x.0, x.1)

-- behind a minus, a number or another part
abbrev pub minus_ways : Reader Exp → List ((Kind → Bool) × Reader (Exp-F Exp))
minus_ways child = (is_number, made (Exp-F.Num true) (pick number_of)) ∷ (any_token, made Exp-F.Neg child) ∷ []

abbrev pub unary_ways : ℕ → Reader Exp → Reader (Exp-F Exp) → List ((Kind → Bool) × Reader (Exp-F Exp))
unary_ways room child index =
    (is_sign symbol.Minus, led (Sign symbol.Minus) (alternatives (minus_ways child)))
    ∷ (is_word word.Not, opens room (made Exp-F.Not (led (Word word.Not) child)))
    ∷ (any_token, index)
    ∷ []

abbrev pub let_of : List ℕ × (Exp × Exp) → Exp-F Exp
let_of parts = Exp-F.Let parts.0 parts.1.0 parts.1.1

abbrev pub let_exp : Reader Exp → Reader (Exp-F Exp)
let_exp child = made let_of (led (Word word.Let) (both (closed (pick lower_name) (Sign symbol.Equals)) (both (closed child (Word word.In)) child)))

abbrev pub if_of : Exp × (Exp × Exp) → Exp-F Exp
if_of parts = Exp-F.If parts.0 parts.1.0 parts.1.1

abbrev pub if_exp : Reader Exp → Reader (Exp-F Exp)
if_exp child = made if_of (led (Word word.If) (both (closed child (Word word.Then)) (both (closed child (Word word.Else)) child)))

abbrev pub case_of : Exp × List (Pat × Exp) → Exp-F Exp
case_of parts = Exp-F.Case parts.0 parts.1

abbrev pub alternative : Reader Pat → Reader Exp → Reader (Pat × Exp)
alternative pattern child = both (closed pattern (Sign symbol.Arrow)) child

abbrev pub case_exp : Reader Pat → Reader Exp → Reader (Exp-F Exp)
case_exp pattern child = made case_of (led (Word word.Case) (both
    (closed child (Word word.Of))
    (closed (listed symbol.Bar (alternative pattern child)) (Word word.End))))

abbrev pub raise_of : List ℕ × Option Exp → Exp-F Exp
raise_of parts = Exp-F.Raise parts.0 parts.1

abbrev pub raise_exp : Reader Exp → Reader (Exp-F Exp)
raise_exp atom = made raise_of (led (Word word.Raise) (both (pick upper_name) (maybe starts_atom atom)))

abbrev pub exp_ways : ℕ → Reader Pat → Reader Exp → Reader Exp → Reader (Exp-F Exp) → List ((Kind → Bool) × Reader (Exp-F Exp))
exp_ways room pattern child atom or =
    (is_word word.Let, opens room (let_exp child))
    ∷ (is_word word.If, opens room (if_exp child))
    ∷ (is_word word.Case, opens room (case_exp pattern child))
    ∷ (is_word word.Raise, raise_exp atom)
    ∷ (any_token, or)
    ∷ []

-- the readers of the levels
pub record ExpReaders : Type 0 where
  pub whole : Reader Exp
  pub disjunction : Reader Exp
  pub conjunction : Reader Exp
  pub comparison : Reader Exp
  pub sum : Reader Exp
  pub term : Reader Exp
  pub unary : Reader Exp
  pub index : Reader Exp
  pub app : Reader Exp
  pub atom : Reader Exp

-- one level of an expression, at each level of the grammar, from the readers of the parts
abbrev pub atom_layer : ℕ → Reader TyExp → ExpReaders → Reader (Exp-F Exp)
atom_layer room type below = alternatives (atom_ways room type below.whole)

abbrev pub app_layer : ℕ → Reader TyExp → ExpReaders → Reader (Exp-F Exp)
app_layer room type below = alternatives (app_ways room type below.whole below.atom)

abbrev pub index_layer : ℕ → Reader TyExp → ExpReaders → Reader (Exp-F Exp)
index_layer room type below = chain 8 room below.app (app_layer room type below)

abbrev pub unary_layer : ℕ → Reader TyExp → ExpReaders → Reader (Exp-F Exp)
unary_layer room type below = alternatives (unary_ways room below.unary (index_layer room type below))

abbrev pub term_layer : ℕ → Reader TyExp → ExpReaders → Reader (Exp-F Exp)
term_layer room type below = chain 6 room below.unary (unary_layer room type below)

abbrev pub sum_layer : ℕ → Reader TyExp → ExpReaders → Reader (Exp-F Exp)
sum_layer room type below = chain 5 room below.term (term_layer room type below)

abbrev pub comparison_layer : ℕ → Reader TyExp → ExpReaders → Reader (Exp-F Exp)
comparison_layer room type below = comparison 4 room below.sum (sum_layer room type below)

abbrev pub conjunction_layer : ℕ → Reader TyExp → ExpReaders → Reader (Exp-F Exp)
conjunction_layer room type below = chain 3 room below.comparison (comparison_layer room type below)

abbrev pub disjunction_layer : ℕ → Reader TyExp → ExpReaders → Reader (Exp-F Exp)
disjunction_layer room type below = chain 2 room below.conjunction (conjunction_layer room type below)

abbrev pub whole_layer : ℕ → Reader TyExp → Reader Pat → ExpReaders → Reader (Exp-F Exp)
whole_layer room type pattern below = alternatives (exp_ways room pattern below.whole below.atom (disjunction_layer room type below))

-- expressions at most so deep, whose types and patterns are read by these
unfoldable pub expressions_with : Reader TyExp → Reader Pat → ℕ → ExpReaders
expressions_with type pattern zero = record {
  whole = stop;
  disjunction = stop;
  conjunction = stop;
  comparison = stop;
  sum = stop;
  term = stop;
  unary = choice begins_part too_deep stop;
  index = stop;
  app = stop;
  atom = choice starts_atom too_deep stop;
}
expressions_with type pattern (suc room) = let below = expressions_with type pattern room in record {
  whole = made roll-Exp (whole_layer room type pattern below);
  disjunction = made roll-Exp (disjunction_layer room type below);
  conjunction = made roll-Exp (conjunction_layer room type below);
  comparison = made roll-Exp (comparison_layer room type below);
  sum = made roll-Exp (sum_layer room type below);
  term = made roll-Exp (term_layer room type below);
  unary = made roll-Exp (unary_layer room type below);
  index = made roll-Exp (index_layer room type below);
  app = made roll-Exp (app_layer room type below);
  atom = made roll-Exp (atom_layer room type below);
}

-- expressions at most so deep, and types and patterns in them at most as deep as the first number says
abbrev pub expressions : ℕ → ℕ → ExpReaders
expressions bound room = expressions_with (types bound) (patterns bound).whole room

-- the reader of a level
abbrev pub at_level : ℕ → ExpReaders → Reader Exp
at_level level p =
    if level == 2 then p.disjunction
    else (if level == 3 then p.conjunction
    else (if level == 4 then p.comparison
    else (if level == 5 then p.sum
    else (if level == 6 then p.term
    else (if level == 7 then p.unary
    else (if level == 8 then p.index
    else p.app))))))

-- those of a depth in a program, whose types and patterns are at most as deep as they may be
abbrev pub exps : ℕ → ExpReaders
exps room = expressions MAX_DEPTH room
