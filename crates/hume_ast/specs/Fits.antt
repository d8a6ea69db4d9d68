-- Which trees the grammar has: where each part stands without further parentheses, and how deep it may go.
use Rattle.std.specs.Prelude.{ℕ, zero, suc, ◌+◌, ◌≤◌, List, [], ◌∷◌, length, true, false, Option, Some, None}
use Rattle.hume_base.specs.declared.limits.TheConstants.{MAX_DEPTH}
use Rattle.hume_base.specs.declared.token.Kind.{Kind}
use Rattle.hume_base.specs.declared.token.Kind.TheVariants.{Number}
use Rattle.hume_ast.specs.declared.tree.TyExp.{TyExp, out-TyExp}
use Rattle.hume_ast.specs.declared.tree.TyExp.TheOpen.{TyExp-F}
use Rattle.hume_ast.specs.declared.tree.Pat.{Pat, out-Pat}
use Rattle.hume_ast.specs.declared.tree.Pat.TheOpen.{Pat-F}
use Rattle.hume_ast.specs.declared.tree.BinOp.{BinOp}
use Rattle.hume_ast.specs.declared.tree.BinOp.TheVariants as op
use Rattle.hume_ast.specs.declared.tree.Exp.{Exp, out-Exp}
use Rattle.hume_ast.specs.declared.tree.Exp.TheOpen.{Exp-F}
use Rattle.hume_ast.specs.declared.tree.Decl.{Decl}
use Rattle.hume_ast.specs.declared.tree.Decl.TheVariants.{Sum, Exn, Fun, BoxD, Stream, Wire}
use Rattle.hume_ast.specs.declared.tree.Program.{Program}
use Rattle.hume_ast.specs.Spelling.{spelled_exp}

-- each of the list is one of these
abbrev pub Each : {A : Type 0} → (A → Type 0) → List A → Type 0
Each P [] = Unit {0}
Each P (x ∷ xs) = P x × Each P xs

-- the types in a type are these
abbrev pub TypeParts : (TyExp → Type 0) → TyExp-F TyExp → Type 0
TypeParts Part (TyExp-F.Vector count item) = Part item
TypeParts Part (TyExp-F.Tuple parts) = (2 ≤ length parts) × Each Part parts
TypeParts Part _ = Unit {0}

-- a type of the grammar, at most so deep: each type in it is one that is less deep
abbrev pub TypeFits : ℕ → TyExp → Type 0
TypeFits zero type = ⊥
TypeFits (suc depth) type = TypeParts (TypeFits depth) (out-TyExp type)

-- The levels at which a pattern may stand, loosest first: 0 at an input of a box, 1 in parentheses, 2 beside others.
abbrev pub pat_level : Pat-F Pat → ℕ
pat_level Pat-F.Star = 0
pat_level Pat-F.AnyStar = 0
pat_level (Pat-F.Con name []) = 2
pat_level (Pat-F.Con name (first ∷ parts)) = 1
pat_level _ = 2

-- the patterns in a pattern stand at these levels
abbrev pub PatParts : (ℕ → Pat → Type 0) → Pat-F Pat → Type 0
PatParts Part (Pat-F.Con name parts) = Each (Part 2) parts
PatParts Part (Pat-F.Paren inner) = Part 1 inner
PatParts Part (Pat-F.Tuple parts) = (2 ≤ length parts) × Each (Part 1) parts
PatParts Part _ = Unit {0}

-- a pattern of the grammar that may stand at the level, at most so deep
abbrev pub PatFits : ℕ → ℕ → Pat → Type 0
PatFits zero level pattern = ⊥
PatFits (suc depth) level pattern = (level ≤ pat_level (out-Pat pattern)) × PatParts (PatFits depth) (out-Pat pattern)

-- The levels at which an expression may stand, loosest first: 1 exp, 2 or, 3 and, 4 cmp, 5 sum, 6 term, 7 unary,
-- 8 index, 9 app, 10 atom.
abbrev pub op_level : BinOp → ℕ
op_level op.Or = 2
op_level op.And = 3
op_level op.Eq = 4
op_level op.Ne = 4
op_level op.Lt = 4
op_level op.Le = 4
op_level op.Gt = 4
op_level op.Ge = 4
op_level op.Add = 5
op_level op.Sub = 5
op_level op.Mul = 6
op_level op.Div = 6
op_level op.Mod = 6
op_level op.At = 8

-- the level of an operator's left part: comparisons don't group, all others group to the left
abbrev pub left_level : BinOp → ℕ
left_level op.Or = 2
left_level op.And = 3
left_level op.Eq = 5
left_level op.Ne = 5
left_level op.Lt = 5
left_level op.Le = 5
left_level op.Gt = 5
left_level op.Ge = 5
left_level op.Add = 5
left_level op.Sub = 5
left_level op.Mul = 6
left_level op.Div = 6
left_level op.Mod = 6
left_level op.At = 8

-- the highest level at which an expression may stand without parentheses
abbrev pub exp_level : Exp-F Exp → ℕ
exp_level (Exp-F.Let name value body) = 1
exp_level (Exp-F.If test first second) = 1
exp_level (Exp-F.Case subject alternatives) = 1
exp_level (Exp-F.Raise name carried) = 1
exp_level (Exp-F.Binary operator left right) = op_level operator
exp_level (Exp-F.Neg part) = 7
exp_level (Exp-F.Not part) = 7
exp_level (Exp-F.App name []) = 10
exp_level (Exp-F.App name (first ∷ arguments)) = 9
exp_level (Exp-F.Con name []) = 10
exp_level (Exp-F.Con name (first ∷ arguments)) = 9
exp_level (Exp-F.Update vector at item) = 9
exp_level (Exp-F.Num true amount) = 7
exp_level (Exp-F.Num false amount) = 10
exp_level Exp-F.Star = 9
exp_level _ = 10

-- the tokens don't begin with a number
abbrev pub NoNumberFirst : List Kind → Type 0
NoNumberFirst (Number amount ∷ tokens) = ⊥
NoNumberFirst _ = Unit {0}

-- the expressions in an expression stand at these levels, and its types and patterns are these
abbrev pub ExpParts : (TyExp → Type 0) → (Pat → Type 0) → (ℕ → Exp → Type 0) → Exp-F Exp → Type 0
ExpParts Ty Pattern Part (Exp-F.Let name value body) = Part 1 value × Part 1 body
ExpParts Ty Pattern Part (Exp-F.If test first second) = Part 1 test × Part 1 first × Part 1 second
ExpParts Ty Pattern Part (Exp-F.Case subject alternatives) =
    Part 1 subject × (1 ≤ length alternatives) × Each (λ (alternative : Pat × Exp). Pattern alternative.0 × Part 1 alternative.1) alternatives
ExpParts Ty Pattern Part (Exp-F.Raise name None) = Unit {0}
ExpParts Ty Pattern Part (Exp-F.Raise name (Some value)) = Part 10 value
ExpParts Ty Pattern Part (Exp-F.Binary operator left right) = Part (left_level operator) left × Part (op_level operator + 1) right
ExpParts Ty Pattern Part (Exp-F.Neg part) = Part 7 part × NoNumberFirst (spelled_exp part)
ExpParts Ty Pattern Part (Exp-F.Not part) = Part 7 part
ExpParts Ty Pattern Part (Exp-F.App name arguments) = Each (Part 10) arguments
ExpParts Ty Pattern Part (Exp-F.Con name arguments) = Each (Part 10) arguments
ExpParts Ty Pattern Part (Exp-F.Update vector at item) = Part 10 vector × Part 10 at × Part 10 item
ExpParts Ty Pattern Part (Exp-F.Paren inner) = Part 1 inner
ExpParts Ty Pattern Part (Exp-F.Tuple parts) = (2 ≤ length parts) × Each (Part 1) parts
ExpParts Ty Pattern Part (Exp-F.Cast inner type) = Part 1 inner × Ty type
ExpParts Ty Pattern Part (Exp-F.Vect items) = (1 ≤ length items) × Each (Part 1) items
ExpParts Ty Pattern Part _ = Unit {0}

-- An expression of the grammar that may stand at the level, at most so deep. Types and patterns in it are measured by
-- themselves, by the first number.
abbrev pub ExpFits : ℕ → ℕ → ℕ → Exp → Type 0
ExpFits bound zero level exp = ⊥
ExpFits bound (suc depth) level exp = (level ≤ exp_level (out-Exp exp)) × ExpParts (TypeFits bound) (PatFits bound 1) (ExpFits bound depth) (out-Exp exp)

-- what an exception carries is named or not
abbrev pub IsCarried : Pat-F Pat → Type 0
IsCarried (Pat-F.Name name) = Unit {0}
IsCarried Pat-F.Any = Unit {0}
IsCarried _ = ⊥

-- what a handler says of what its exception carries, if it says something
abbrev pub CarriedFits : Option Pat → Type 0
CarriedFits None = Unit {0}
CarriedFits (Some pattern) = IsCarried (out-Pat pattern)

-- what may be absent is one of these
abbrev pub IfThere : {A : Type 0} → (A → Type 0) → Option A → Type 0
IfThere P None = Unit {0}
IfThere P (Some x) = P x

-- one or more, each one of these
abbrev pub OneOrMore : {A : Type 0} → (A → Type 0) → List A → Type 0
OneOrMore P xs = (1 ≤ length xs) × Each P xs

-- an input or an output of the grammar: its type is one
abbrev pub TypedNameFits : ℕ → List ℕ × TyExp → Type 0
TypedNameFits bound typed_name = TypeFits bound typed_name.1

-- an equation of the grammar: one pattern or more, and an expression
abbrev pub EquationFits : ℕ → List ℕ × List Pat × Exp → Type 0
EquationFits bound equation = OneOrMore (PatFits bound 2) equation.1 × ExpFits bound bound 1 equation.2

-- a rule of the grammar: one input pattern or more, and an expression
abbrev pub RuleFits : ℕ → List Pat × Exp → Type 0
RuleFits bound rule = OneOrMore (PatFits bound 0) rule.0 × ExpFits bound bound 1 rule.1

-- a handler of the grammar: what the exception carries, and an expression
abbrev pub HandlerFits : ℕ → List ℕ × Option Pat × Exp → Type 0
HandlerFits bound handler = CarriedFits handler.1 × ExpFits bound bound 1 handler.2

-- a declaration of the grammar, whose types, patterns and expressions are at most so deep
abbrev pub DeclFits : ℕ → Decl → Type 0
DeclFits bound (Sum name constructors) = OneOrMore (λ (constructor : List ℕ × List TyExp). Each (TypeFits bound) constructor.1) constructors
DeclFits bound (Exn name carries) = IfThere (TypeFits bound) carries
DeclFits bound (Fun name types equations) = (2 ≤ length types) × Each (TypeFits bound) types × OneOrMore (EquationFits bound) equations
DeclFits bound (BoxD name inputs outputs fair rules handlers) =
    OneOrMore (TypedNameFits bound) inputs × OneOrMore (TypedNameFits bound) outputs × OneOrMore (RuleFits bound) rules × Each (HandlerFits bound) handlers
DeclFits bound (Stream name from port) = Unit {0}
DeclFits bound (Wire source target depth initial) = IfThere (ExpFits bound bound 1) initial

-- declarations of the grammar, whose types, patterns and expressions are at most so deep
abbrev pub DeclsFit : ℕ → List (ℕ × Decl) → Type 0
DeclsFit bound decls = Each (λ (decl : ℕ × Decl). DeclFits bound decl.1) decls

-- each part of the program stands where the grammar lets it stand
abbrev pub IsProper : Program → Type 0
IsProper program = (bound : ℕ) × DeclsFit bound program.decls

-- proper, and no type, pattern or expression is deeper than it may be
abbrev pub IsFit : Program → Type 0
IsFit program = DeclsFit MAX_DEPTH program.decls
