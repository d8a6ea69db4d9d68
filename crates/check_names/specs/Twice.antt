-- Variables that are bound twice.
use Rattle.std.specs.Prelude.{ℕ, List, [], ◌∷◌, Some, None, Bool, false, ◌||◌, IsTrue}
use Rattle.std.specs.List.{list_any}
use Rattle.hume_ast.specs.declared.tree.Pat.{Pat}
use Rattle.hume_ast.specs.declared.tree.Exp.{Exp, fold-Exp}
use Rattle.hume_ast.specs.declared.tree.Exp.TheOpen.{Exp-F}
use Rattle.hume_ast.specs.declared.tree.Decl.{Decl}
use Rattle.hume_ast.specs.declared.tree.Decl.TheVariants.{Fun, BoxD, Wire}
use Rattle.check_names.specs.Names.{repeats, OfDecl}
use Rattle.check_names.specs.Mentions.{variables_of, bound_by}

-- one of them is true
abbrev pub any_true : List Bool → Bool
any_true [] = false
any_true (part ∷ parts) = part || any_true parts

-- the pattern of an alternative binds a variable twice, or there is such a pattern in its expression
abbrev pub any_alternative : List (Pat × Bool) → Bool
any_alternative [] = false
any_alternative (alternative ∷ alternatives) = (repeats [] (variables_of alternative.0) || alternative.1) || any_alternative alternatives

-- one level of an expression, with what holds of its parts in their places
abbrev pub twice_step : Exp-F Bool → Bool
twice_step (Exp-F.Let name value body) = value || body
twice_step (Exp-F.If test first second) = test || (first || second)
twice_step (Exp-F.Case subject alternatives) = subject || any_alternative alternatives
twice_step (Exp-F.Raise name None) = false
twice_step (Exp-F.Raise name (Some value)) = value
twice_step (Exp-F.Binary operator left right) = left || right
twice_step (Exp-F.Neg part) = part
twice_step (Exp-F.Not part) = part
twice_step (Exp-F.App name parts) = any_true parts
twice_step (Exp-F.Con name parts) = any_true parts
twice_step (Exp-F.Update vector at item) = vector || (at || item)
twice_step (Exp-F.Paren inner) = inner
twice_step (Exp-F.Tuple parts) = any_true parts
twice_step (Exp-F.Cast inner type) = inner
twice_step (Exp-F.Vect items) = any_true items
twice_step _ = false

-- a `case` in the expression has a pattern that binds a variable twice
abbrev pub exp_binds_twice : Exp → Bool
exp_binds_twice = fold-Exp Bool twice_step

-- the patterns together bind a variable twice, or a `case` in the expression does
abbrev pub clause_binds_twice : List Pat → Exp → Bool
clause_binds_twice patterns exp = repeats [] (bound_by patterns) || exp_binds_twice exp

-- a rule, an equation or a `case` in the declaration binds a variable twice
abbrev pub decl_binds_twice : Decl → Bool
decl_binds_twice (Fun name types equations) = list_any (λ equation. clause_binds_twice equation.1 equation.2) equations
decl_binds_twice (BoxD name inputs outputs fair rules handlers) =
    list_any (λ rule. clause_binds_twice rule.0 rule.1) rules || list_any (λ handler. exp_binds_twice handler.2) handlers
decl_binds_twice (Wire from to depth (Some initial)) = exp_binds_twice initial
decl_binds_twice _ = false

-- the declaration binds a variable twice in the patterns of one rule or one equation, or in one pattern of a `case`
abbrev pub BindsTwice : List (ℕ × Decl) → ℕ → Type 0
BindsTwice decls i = OfDecl decls i (λ decl. IsTrue (decl_binds_twice decl))
