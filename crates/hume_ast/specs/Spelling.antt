-- Which tokens a tree stands for.
use Rattle.std.specs.Prelude.{ℕ, List, [], ◌∷◌, ◌++◌, map, Bool, true, false, Option, Some, None}
use Rattle.std.specs.List.{flat_map}
use Rattle.hume_base.specs.declared.keyword.Keyword.{Keyword}
use Rattle.hume_base.specs.declared.keyword.Keyword.TheVariants as word
use Rattle.hume_base.specs.declared.symbol.Symbol.{Symbol}
use Rattle.hume_base.specs.declared.symbol.Symbol.TheVariants as symbol
use Rattle.hume_base.specs.declared.token.Kind.{Kind}
use Rattle.hume_base.specs.declared.token.Kind.TheVariants.{Lower, Upper, Number, Letter, Quoted, Word, Sign}
use Rattle.hume_ast.specs.declared.tree.TyExp.{TyExp, fold-TyExp}
use Rattle.hume_ast.specs.declared.tree.TyExp.TheOpen.{TyExp-F}
use Rattle.hume_ast.specs.declared.tree.Pat.{Pat, fold-Pat}
use Rattle.hume_ast.specs.declared.tree.Pat.TheOpen.{Pat-F}
use Rattle.hume_ast.specs.declared.tree.BinOp.{BinOp}
use Rattle.hume_ast.specs.declared.tree.BinOp.TheVariants as op
use Rattle.hume_ast.specs.declared.tree.Exp.{Exp, fold-Exp}
use Rattle.hume_ast.specs.declared.tree.Exp.TheOpen.{Exp-F}
use Rattle.hume_ast.specs.declared.tree.Decl.{Decl}
use Rattle.hume_ast.specs.declared.tree.Decl.TheVariants.{Sum, Exn, Fun, BoxD, Stream, Wire}
use Rattle.hume_ast.specs.declared.tree.Program.{Program}

-- the parts, each with the sign before it
abbrev pub preceded : Symbol → List (List Kind) → List Kind
preceded sign parts = flat_map (λ tokens. Sign sign ∷ tokens) parts

-- the parts, with the sign between each two
abbrev pub separated : Symbol → List (List Kind) → List Kind
separated sign [] = []
separated sign (tokens ∷ parts) = tokens ++ preceded sign parts

-- the parts side by side
abbrev pub beside : List (List Kind) → List Kind
beside parts = flat_map (λ tokens. tokens) parts

-- the tokens in parentheses
abbrev pub in_parens : List Kind → List Kind
in_parens tokens = Sign symbol.OpenParen ∷ (tokens ++ Sign symbol.CloseParen ∷ [])

-- a number, with a minus sign where it is negative
abbrev pub number_spelled : Bool → ℕ → List Kind
number_spelled false amount = Number amount ∷ []
number_spelled true amount = Sign symbol.Minus ∷ Number amount ∷ []

-- the keyword of `true` or `false`
abbrev pub truth_word : Bool → Keyword
truth_word true = word.True
truth_word false = word.False

-- a type's tokens, from those of the types in it
abbrev pub spell_ty : TyExp-F (List Kind) → List Kind
spell_ty TyExp-F.Bool = Word word.Bool ∷ []
spell_ty TyExp-F.Char = Word word.Char ∷ []
spell_ty (TyExp-F.Int bits) = Word word.Int ∷ Number bits ∷ []
spell_ty (TyExp-F.Nat bits) = Word word.Nat ∷ Number bits ∷ []
spell_ty (TyExp-F.Vector count item) = Word word.Vector ∷ Number count ∷ Word word.Of ∷ item
spell_ty (TyExp-F.Named name) = Upper name ∷ []
spell_ty (TyExp-F.Tuple parts) = in_parens (separated symbol.Comma parts)

-- the tokens of a type
abbrev pub spelled_ty : TyExp → List Kind
spelled_ty = fold-TyExp (List Kind) spell_ty

-- a pattern's tokens, from those of the patterns in it
abbrev pub spell_pat : Pat-F (List Kind) → List Kind
spell_pat (Pat-F.Name name) = Lower name ∷ []
spell_pat Pat-F.Any = Sign symbol.Underscore ∷ []
spell_pat (Pat-F.Num negative amount) = number_spelled negative amount
spell_pat (Pat-F.Letter byte) = Letter byte ∷ []
spell_pat (Pat-F.Truth holds) = Word (truth_word holds) ∷ []
spell_pat (Pat-F.Con name parts) = Upper name ∷ beside parts
spell_pat (Pat-F.Paren inner) = in_parens inner
spell_pat (Pat-F.Tuple parts) = in_parens (separated symbol.Comma parts)
spell_pat Pat-F.Star = Sign symbol.Star ∷ []
spell_pat Pat-F.AnyStar = Sign symbol.UnderscoreStar ∷ []

-- the tokens of a pattern
abbrev pub spelled_pat : Pat → List Kind
spelled_pat = fold-Pat (List Kind) spell_pat

-- the token of an operator
abbrev pub operator_token : BinOp → Kind
operator_token op.Or = Word word.Or
operator_token op.And = Word word.And
operator_token op.Eq = Sign symbol.DoubleEquals
operator_token op.Ne = Sign symbol.SlashEquals
operator_token op.Lt = Sign symbol.Less
operator_token op.Le = Sign symbol.LessEquals
operator_token op.Gt = Sign symbol.Greater
operator_token op.Ge = Sign symbol.GreaterEquals
operator_token op.Add = Sign symbol.Plus
operator_token op.Sub = Sign symbol.Minus
operator_token op.Mul = Sign symbol.Star
operator_token op.Div = Word word.Div
operator_token op.Mod = Word word.Mod
operator_token op.At = Sign symbol.At

-- an alternative of a `case`
abbrev pub spell_alternative : Pat × List Kind → List Kind
spell_alternative alternative = spelled_pat alternative.0 ++ Sign symbol.Arrow ∷ alternative.1

-- an expression's tokens, from those of the expressions in it
abbrev pub spell_exp : Exp-F (List Kind) → List Kind
spell_exp (Exp-F.Let name value body) = Word word.Let ∷ Lower name ∷ Sign symbol.Equals ∷ (value ++ Word word.In ∷ body)
spell_exp (Exp-F.If test first second) = Word word.If ∷ (test ++ Word word.Then ∷ (first ++ Word word.Else ∷ second))
spell_exp (Exp-F.Case subject alternatives) =
    Word word.Case ∷ (subject ++ Word word.Of ∷ (separated symbol.Bar (map spell_alternative alternatives) ++ Word word.End ∷ []))
spell_exp (Exp-F.Raise name None) = Word word.Raise ∷ Upper name ∷ []
spell_exp (Exp-F.Raise name (Some value)) = Word word.Raise ∷ Upper name ∷ value
spell_exp (Exp-F.Binary operator left right) = left ++ operator_token operator ∷ right
spell_exp (Exp-F.Neg part) = Sign symbol.Minus ∷ part
spell_exp (Exp-F.Not part) = Word word.Not ∷ part
spell_exp (Exp-F.App name arguments) = Lower name ∷ beside arguments
spell_exp (Exp-F.Con name arguments) = Upper name ∷ beside arguments
spell_exp (Exp-F.Update vector at item) = Word word.Update ∷ (vector ++ (at ++ item))
spell_exp (Exp-F.Num negative amount) = number_spelled negative amount
spell_exp (Exp-F.Letter byte) = Letter byte ∷ []
spell_exp (Exp-F.Truth holds) = Word (truth_word holds) ∷ []
spell_exp (Exp-F.Paren inner) = in_parens inner
spell_exp (Exp-F.Tuple parts) = in_parens (separated symbol.Comma parts)
spell_exp (Exp-F.Cast inner type) = in_parens (inner ++ Word word.As ∷ spelled_ty type)
spell_exp (Exp-F.Vect items) = Sign symbol.OpenAngles ∷ (separated symbol.Comma items ++ Sign symbol.CloseAngles ∷ [])
spell_exp Exp-F.Star = Sign symbol.Star ∷ []

-- the tokens of an expression
abbrev pub spelled_exp : Exp → List Kind
spelled_exp = fold-Exp (List Kind) spell_exp

-- a constructor of a data type
abbrev pub spelled_constructor : List ℕ × List TyExp → List Kind
spelled_constructor constructor = Upper constructor.0 ∷ beside (map spelled_ty constructor.1)

-- an equation of a function
abbrev pub spelled_equation : List ℕ × List Pat × Exp → List Kind
spelled_equation equation =
    Lower equation.0 ∷ (beside (map spelled_pat equation.1) ++ Sign symbol.Equals ∷ (spelled_exp equation.2 ++ Sign symbol.Semicolon ∷ []))

-- an input or an output of a box, with its type
abbrev pub spelled_typed_name : List ℕ × TyExp → List Kind
spelled_typed_name typed_name = Lower typed_name.0 ∷ Sign symbol.DoubleColon ∷ spelled_ty typed_name.1

-- the inputs or the outputs of a box
abbrev pub spelled_side : List (List ℕ × TyExp) → List Kind
spelled_side typed_names = in_parens (separated symbol.Comma (map spelled_typed_name typed_names))

-- a rule of a box: its patterns, and its result
abbrev pub spelled_rule : List Pat × Exp → List Kind
spelled_rule rule = in_parens (separated symbol.Comma (map spelled_pat rule.0)) ++ Sign symbol.Arrow ∷ spelled_exp rule.1

-- what a handler says of what its exception carries, if it says something
abbrev pub spelled_carried : Option Pat → List Kind
spelled_carried None = []
spelled_carried (Some pattern) = spelled_pat pattern

-- a handler: its exception, what that carries, and its result
abbrev pub spelled_handler : List ℕ × Option Pat × Exp → List Kind
spelled_handler handler = Upper handler.0 ∷ (spelled_carried handler.1 ++ Sign symbol.Arrow ∷ spelled_exp handler.2)

-- the handlers of a box, if it has some
abbrev pub spelled_handlers : List (List ℕ × Option Pat × Exp) → List Kind
spelled_handlers [] = []
spelled_handlers (first ∷ handlers) = Word word.Handle ∷ separated symbol.Bar (map spelled_handler (first ∷ handlers))

-- the keyword of a box: `fair` or `match`
abbrev pub order_word : Bool → Keyword
order_word true = word.Fair
order_word false = word.Match

-- the keyword of a stream: `from` or `to`
abbrev pub way_word : Bool → Keyword
way_word true = word.From
way_word false = word.To

-- an end of a wire: a stream, or a box with its input or output
abbrev pub spelled_end : List ℕ × Option (List ℕ) → List Kind
spelled_end (stream, None) = Lower stream ∷ []
spelled_end (box, Some name) = Lower box ∷ Sign symbol.Dot ∷ Lower name ∷ []

-- how many values a wire holds
abbrev pub spelled_wire_depth : Option ℕ → List Kind
spelled_wire_depth None = []
spelled_wire_depth (Some depth) = Sign symbol.At ∷ Number depth ∷ []

-- the first value of a wire, if one is written
abbrev pub spelled_initial : Option Exp → List Kind
spelled_initial None = []
spelled_initial (Some value) = Word word.Initial ∷ spelled_exp value

-- the type of what an exception carries, if it carries something
abbrev pub spelled_carries : Option TyExp → List Kind
spelled_carries None = []
spelled_carries (Some type) = spelled_ty type

-- the tokens, and the semicolon that ends a declaration
abbrev pub ended : List Kind → List Kind
ended tokens = tokens ++ Sign symbol.Semicolon ∷ []

-- the tokens of a declaration
abbrev pub spelled_decl : Decl → List Kind
spelled_decl (Sum name constructors) = Word word.Data ∷ Upper name ∷ Sign symbol.Equals ∷ ended (separated symbol.Bar (map spelled_constructor constructors))
spelled_decl (Exn name carries) = Word word.Exception ∷ Upper name ∷ ended (spelled_carries carries)
spelled_decl (Fun name types equations) =
    Lower name ∷ Sign symbol.DoubleColon ∷ (separated symbol.Arrow (map spelled_ty types) ++ Sign symbol.Semicolon ∷ beside (map spelled_equation equations))
spelled_decl (BoxD name inputs outputs fair rules handlers) =
    Word word.Box ∷ Lower name ∷ Word word.In ∷ (spelled_side inputs ++ Word word.Out ∷ (spelled_side outputs
    ++ Word (order_word fair) ∷ (separated symbol.Bar (map spelled_rule rules) ++ ended (spelled_handlers handlers))))
spelled_decl (Stream name from port) = Word word.Stream ∷ Lower name ∷ Word (way_word from) ∷ Quoted port ∷ Sign symbol.Semicolon ∷ []
spelled_decl (Wire source target depth initial) =
    Word word.Wire ∷ (spelled_end source ++ Word word.To ∷ (spelled_end target ++ (spelled_wire_depth depth ++ ended (spelled_initial initial))))

-- the tokens of declarations with their places
abbrev pub spelled_decls : List (ℕ × Decl) → List Kind
spelled_decls decls = beside (map (λ (decl : ℕ × Decl). spelled_decl decl.1) decls)

-- the tokens of a program
abbrev pub spelled : Program → List Kind
spelled program = spelled_decls program.decls
