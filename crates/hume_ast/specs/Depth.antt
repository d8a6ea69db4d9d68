-- How deep types, patterns, expressions and programs are.
use Rattle.std.specs.Prelude.{ℕ, ◌+◌, max, List, [], ◌∷◌, map, Option, Some, None}
use Rattle.hume_ast.specs.declared.tree.TyExp.{TyExp, fold-TyExp}
use Rattle.hume_ast.specs.declared.tree.TyExp.TheOpen.{TyExp-F}
use Rattle.hume_ast.specs.declared.tree.Pat.{Pat, fold-Pat}
use Rattle.hume_ast.specs.declared.tree.Pat.TheOpen.{Pat-F}
use Rattle.hume_ast.specs.declared.tree.Exp.{Exp, fold-Exp}
use Rattle.hume_ast.specs.declared.tree.Exp.TheOpen.{Exp-F}
use Rattle.hume_ast.specs.declared.tree.Decl.{Decl}
use Rattle.hume_ast.specs.declared.tree.Decl.TheVariants.{Sum, Exn, Fun, BoxD, Stream, Wire}
use Rattle.hume_ast.specs.declared.tree.Program.{Program}

-- the greatest of the list, 0 where it is empty
abbrev pub deepest : List ℕ → ℕ
deepest [] = 0
deepest (depth ∷ depths) = max depth (deepest depths)

-- 1 for a leaf, and else 1 and the greatest depth of the types in it
abbrev pub ty_step : TyExp-F ℕ → ℕ
ty_step (TyExp-F.Vector count item) = 1 + item
ty_step (TyExp-F.Tuple parts) = 1 + deepest parts
ty_step _ = 1

abbrev pub ty_depth : TyExp → ℕ
ty_depth = fold-TyExp ℕ ty_step

-- 1 for a leaf, and else 1 and the greatest depth of the patterns in it
abbrev pub pat_step : Pat-F ℕ → ℕ
pat_step (Pat-F.Con name parts) = 1 + deepest parts
pat_step (Pat-F.Paren inner) = 1 + inner
pat_step (Pat-F.Tuple parts) = 1 + deepest parts
pat_step _ = 1

abbrev pub pat_depth : Pat → ℕ
pat_depth = fold-Pat ℕ pat_step

abbrev pub deepest_alternative : List (Pat × ℕ) → ℕ
deepest_alternative [] = 0
deepest_alternative (alternative ∷ alternatives) = max alternative.1 (deepest_alternative alternatives)

-- the greatest depth of the expressions in an expression, 0 where there are none
abbrev pub deepest_part : Exp-F ℕ → ℕ
deepest_part (Exp-F.Let name value body) = max value body
deepest_part (Exp-F.If test first second) = max test (max first second)
deepest_part (Exp-F.Case subject alternatives) = max subject (deepest_alternative alternatives)
deepest_part (Exp-F.Raise name None) = 0
deepest_part (Exp-F.Raise name (Some value)) = value
deepest_part (Exp-F.Binary operator left right) = max left right
deepest_part (Exp-F.Neg part) = part
deepest_part (Exp-F.Not part) = part
deepest_part (Exp-F.App name arguments) = deepest arguments
deepest_part (Exp-F.Con name arguments) = deepest arguments
deepest_part (Exp-F.Update vector at item) = max vector (max at item)
deepest_part (Exp-F.Paren inner) = inner
deepest_part (Exp-F.Tuple parts) = deepest parts
deepest_part (Exp-F.Cast inner type) = inner
deepest_part (Exp-F.Vect items) = deepest items
deepest_part _ = 0

-- 1 for a leaf, and else 1 and the greatest depth of the expressions in it; its types and patterns don't count
abbrev pub depth_step : Exp-F ℕ → ℕ
depth_step exp = 1 + deepest_part exp

abbrev pub exp_depth : Exp → ℕ
exp_depth = fold-Exp ℕ depth_step

-- the greatest depth of the patterns or the type that an expression has beside its expressions
abbrev pub beside_depth : Exp-F ℕ → ℕ
beside_depth (Exp-F.Case subject alternatives) = deepest (map (λ (alternative : Pat × ℕ). pat_depth alternative.0) alternatives)
beside_depth (Exp-F.Cast inner type) = ty_depth type
beside_depth _ = 0

abbrev pub inner_step : Exp-F ℕ → ℕ
inner_step exp = max (beside_depth exp) (deepest_part exp)

-- the greatest depth of the types and patterns in an expression, each by itself; 0 where there are none
abbrev pub inner_depth : Exp → ℕ
inner_depth = fold-Exp ℕ inner_step

-- the greatest depth of an expression and of the types and patterns in it
abbrev pub whole_depth : Exp → ℕ
whole_depth exp = max (exp_depth exp) (inner_depth exp)

-- the greatest depth of the items, as measured so
abbrev pub greatest : {A : Type 0} → (A → ℕ) → List A → ℕ
greatest depth items = deepest (map depth items)

abbrev pub if_there : {A : Type 0} → (A → ℕ) → Option A → ℕ
if_there depth None = 0
if_there depth (Some item) = depth item

abbrev pub constructor_depth : List ℕ × List TyExp → ℕ
constructor_depth constructor = greatest ty_depth constructor.1

abbrev pub equation_depth : List ℕ × List Pat × Exp → ℕ
equation_depth equation = max (greatest pat_depth equation.1) (whole_depth equation.2)

-- of an input or output of a box
abbrev pub typed_name_depth : List ℕ × TyExp → ℕ
typed_name_depth typed_name = ty_depth typed_name.1

abbrev pub rule_depth : List Pat × Exp → ℕ
rule_depth rule = max (greatest pat_depth rule.0) (whole_depth rule.1)

abbrev pub handler_depth : List ℕ × Option Pat × Exp → ℕ
handler_depth handler = max (if_there pat_depth handler.1) (whole_depth handler.2)

-- the greatest depth of the types, patterns and expressions of a declaration
abbrev pub decl_depth : Decl → ℕ
decl_depth (Sum name constructors) = greatest constructor_depth constructors
decl_depth (Exn name carries) = if_there ty_depth carries
decl_depth (Fun name types equations) = max (greatest ty_depth types) (greatest equation_depth equations)
decl_depth (BoxD name inputs outputs fair rules handlers) =
    max (max (greatest typed_name_depth inputs) (greatest typed_name_depth outputs)) (max (greatest rule_depth rules) (greatest handler_depth handlers))
decl_depth (Stream name from port) = 0
decl_depth (Wire source target depth initial) = if_there whole_depth initial

-- the greatest depth of the types, patterns and expressions of a program
abbrev pub program_depth : Program → ℕ
program_depth program = greatest (λ (decl : ℕ × Decl). decl_depth decl.1) program.decls
