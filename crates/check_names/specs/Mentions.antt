-- The names that a declaration mentions, each as what it stands there for.
use Rattle.std.specs.Prelude.{ℕ, List, [], ◌∷◌, ◌++◌, map, Option, Some, None, if◌then◌else◌}
use Rattle.hume_ast.specs.declared.tree.TyExp.{TyExp, fold-TyExp}
use Rattle.hume_ast.specs.declared.tree.TyExp.TheOpen.{TyExp-F}
use Rattle.hume_ast.specs.declared.tree.Pat.{Pat, fold-Pat}
use Rattle.hume_ast.specs.declared.tree.Pat.TheOpen.{Pat-F}
use Rattle.hume_ast.specs.declared.tree.Exp.{Exp, fold-Exp}
use Rattle.hume_ast.specs.declared.tree.Exp.TheOpen.{Exp-F}
use Rattle.hume_ast.specs.declared.tree.Decl.{Decl}
use Rattle.hume_ast.specs.declared.tree.Decl.TheVariants.{Sum, Exn, Fun, BoxD, Stream, Wire}
use Rattle.check_names.specs.declared.mention_list.NameKind.{NameKind}
use Rattle.check_names.specs.declared.mention_list.NameKind.TheVariants.{DataType, Constructor, Exception, Function, Unbound}
use Rattle.check_tables.specs.names.Names.{among}
use Rattle.check_names.specs.Names.{joined}

-- what a name stands for, and the name
abbrev pub Mention : Type 0
Mention = NameKind × List ℕ

-- one level of a type, with the mentions of its parts in their places
abbrev pub type_step : TyExp-F (List Mention) → List Mention
type_step (TyExp-F.Vector count item) = item
type_step (TyExp-F.Named name) = (DataType, name) ∷ []
type_step (TyExp-F.Tuple parts) = joined parts
type_step _ = []

-- the names that a type mentions
abbrev pub type_mentions : TyExp → List Mention
type_mentions = fold-TyExp (List Mention) type_step

-- the names that several types mention
abbrev pub types_mentions : List TyExp → List Mention
types_mentions types = joined (map type_mentions types)

-- one level of a pattern, with the variables of its parts in their places
abbrev pub variables_step : Pat-F (List (List ℕ)) → List (List ℕ)
variables_step (Pat-F.Name name) = name ∷ []
variables_step (Pat-F.Con name parts) = joined parts
variables_step (Pat-F.Paren inner) = inner
variables_step (Pat-F.Tuple parts) = joined parts
variables_step _ = []

-- the variables that a pattern binds, from left to right
abbrev pub variables_of : Pat → List (List ℕ)
variables_of = fold-Pat (List (List ℕ)) variables_step

-- the variables that several patterns bind, from left to right
abbrev pub bound_by : List Pat → List (List ℕ)
bound_by patterns = joined (map variables_of patterns)

-- one level of a pattern, with the mentions of its parts in their places
abbrev pub pattern_step : Pat-F (List Mention) → List Mention
pattern_step (Pat-F.Con name parts) = (Constructor, name) ∷ joined parts
pattern_step (Pat-F.Paren inner) = inner
pattern_step (Pat-F.Tuple parts) = joined parts
pattern_step _ = []

-- the names that a pattern mentions
abbrev pub pattern_mentions : Pat → List Mention
pattern_mentions = fold-Pat (List Mention) pattern_step

-- the names that several patterns mention
abbrev pub patterns_mentions : List Pat → List Mention
patterns_mentions patterns = joined (map pattern_mentions patterns)

-- the mentions of an expression, by the variables in scope where it stands
abbrev pub ByScope : Type 0
ByScope = List (List ℕ) → List Mention

-- the names that several parts mention, in the same scope
abbrev pub all_in : List ByScope → ByScope
all_in [] scope = []
all_in (part ∷ parts) scope = part scope ++ all_in parts scope

-- the variables of an alternative's pattern are in scope in its expression
abbrev pub alternatives_in : List (Pat × ByScope) → ByScope
alternatives_in [] scope = []
alternatives_in (alternative ∷ alternatives) scope =
    (pattern_mentions alternative.0 ++ alternative.1 (scope ++ variables_of alternative.0)) ++ alternatives_in alternatives scope

-- a name without arguments is a variable, and is mentioned where it is none in scope; one with arguments is a function
abbrev pub application : List ℕ → List ByScope → ByScope
application name [] scope = if among name scope then [] else (Unbound, name) ∷ []
application name (part ∷ parts) scope = (Function, name) ∷ all_in (part ∷ parts) scope

-- one level of an expression, with the mentions of its parts in their places
abbrev pub exp_step : Exp-F ByScope → ByScope
exp_step (Exp-F.Let name value body) scope = value scope ++ body (scope ++ name ∷ [])
exp_step (Exp-F.If test first second) scope = test scope ++ (first scope ++ second scope)
exp_step (Exp-F.Case subject alternatives) scope = subject scope ++ alternatives_in alternatives scope
exp_step (Exp-F.Raise name None) scope = (Exception, name) ∷ []
exp_step (Exp-F.Raise name (Some value)) scope = (Exception, name) ∷ value scope
exp_step (Exp-F.Binary operator left right) scope = left scope ++ right scope
exp_step (Exp-F.Neg part) scope = part scope
exp_step (Exp-F.Not part) scope = part scope
exp_step (Exp-F.App name parts) scope = application name parts scope
exp_step (Exp-F.Con name parts) scope = (Constructor, name) ∷ all_in parts scope
exp_step (Exp-F.Update vector at item) scope = vector scope ++ (at scope ++ item scope)
exp_step (Exp-F.Paren inner) scope = inner scope
exp_step (Exp-F.Tuple parts) scope = all_in parts scope
exp_step (Exp-F.Cast inner type) scope = inner scope ++ type_mentions type
exp_step (Exp-F.Vect items) scope = all_in items scope
exp_step _ scope = []

-- the names that an expression mentions, by the variables in scope
abbrev pub mentions : Exp → ByScope
mentions = fold-Exp ByScope exp_step

-- patterns, and what they bind in an expression
abbrev pub clause_mentions : List Pat → Exp → List Mention
clause_mentions patterns exp = patterns_mentions patterns ++ mentions exp (bound_by patterns)

-- the variable of a handler, if it binds one
abbrev pub handler_variables : Option Pat → List (List ℕ)
handler_variables None = []
handler_variables (Some pattern) = variables_of pattern

-- the names that a handler mentions: its exception, and those in its result
abbrev pub handler_mentions : List ℕ × Option Pat × Exp → List Mention
handler_mentions handler = (Exception, handler.0) ∷ mentions handler.2 (handler_variables handler.1)

-- the names that a declaration mentions, but for those of a wire's ends
abbrev pub mentions_of : Decl → List Mention
mentions_of (Sum name constructors) = joined (map (λ constructor. types_mentions constructor.1) constructors)
mentions_of (Exn name None) = []
mentions_of (Exn name (Some carried)) = type_mentions carried
mentions_of (Fun name types equations) = types_mentions types ++ joined (map (λ equation. clause_mentions equation.1 equation.2) equations)
mentions_of (BoxD name inputs outputs fair rules handlers) =
    joined (map (λ input. type_mentions input.1) inputs) ++ (joined (map (λ output. type_mentions output.1) outputs)
    ++ (joined (map (λ rule. clause_mentions rule.0 rule.1) rules) ++ joined (map handler_mentions handlers)))
mentions_of (Stream name incoming port) = []
mentions_of (Wire from to depth None) = []
mentions_of (Wire from to depth (Some initial)) = mentions initial []
