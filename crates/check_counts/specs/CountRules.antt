-- When a declaration breaks the rule on counts, and when that on `*`.
use Rattle.std.specs.Prelude.{ℕ, ◌==◌, ◌||◌, not, Bool, false, List, length, Option, Some, None, IsTrue}
use Rattle.std.specs.List.{list_any}
use Rattle.hume_base.specs.declared.limits.TheConstants.{MAX_WIRE_DEPTH}
use Rattle.hume_ast.specs.declared.tree.TyExp.{TyExp}
use Rattle.hume_ast.specs.declared.tree.Pat.{Pat}
use Rattle.hume_ast.specs.declared.tree.Exp.{Exp}
use Rattle.hume_ast.specs.declared.tree.Decl.{Decl}
use Rattle.hume_ast.specs.declared.tree.Decl.TheVariants.{Sum, Exn, Fun, BoxD, Stream, Wire}
use Rattle.check_names.specs.Names.{OfDecl}
use Rattle.check_counts.specs.declared.counts.Counts.{Counts}
use Rattle.check_counts.specs.Counted.{Decls, counted, is_other, parameters}
use Rattle.check_counts.specs.Miscounts.{is_outside, type_miscounts, pattern_miscounts, miscounts, result_miscounts}
use Rattle.check_counts.specs.Stars.{has_star, has_stray_star}

-- an equation has a pattern for each parameter
abbrev pub equation_miscounts : Counts → ℕ → List ℕ × List Pat × Exp → Bool
equation_miscounts counts parameters equation =
    not (length equation.1 == parameters) || (list_any (pattern_miscounts counts) equation.1 || miscounts counts equation.2)

-- a rule has a position for each input
abbrev pub rule_miscounts : Counts → ℕ → ℕ → List Pat × Exp → Bool
rule_miscounts counts inputs outputs rule =
    not (length rule.0 == inputs) || (list_any (pattern_miscounts counts) rule.0 || result_miscounts counts outputs rule.1)

-- how many values a handler says something of: one or none
abbrev pub bound_values : Option Pat → ℕ
bound_values None = 0
bound_values (Some pat) = 1

-- a handler has a variable or `_` where its exception carries a value
abbrev pub handler_miscounts : Counts → ℕ → List ℕ × Option Pat × Exp → Bool
handler_miscounts counts outputs handler =
    is_other counts.exceptions handler.0 (bound_values handler.1) || result_miscounts counts outputs handler.2

-- the depth of a wire is none that a wire may have
abbrev pub depth_is_outside : Option ℕ → Bool
depth_is_outside None = false
depth_is_outside (Some depth) = is_outside MAX_WIRE_DEPTH depth

-- in the first value of a wire there are too many or too few of something
abbrev pub initial_miscounts : Counts → Option Exp → Bool
initial_miscounts counts None = false
initial_miscounts counts (Some initial) = miscounts counts initial

-- so it is in the type, if there is one
abbrev pub type_if_there : Option TyExp → Bool
type_if_there None = false
type_if_there (Some ty) = type_miscounts ty

-- in one of the types a number is one that no type has
abbrev pub some_type_miscounts : List TyExp → Bool
some_type_miscounts tys = list_any type_miscounts tys

-- the type of an input or an output
abbrev pub places_miscount : List (List ℕ × TyExp) → Bool
places_miscount places = list_any (λ (place : List ℕ × TyExp). type_miscounts place.1) places

-- in a declaration there are too many or too few of something
abbrev pub declaration_miscounts : Counts → Decl → Bool
declaration_miscounts counts (Sum name cons) = list_any (λ (con : List ℕ × List TyExp). some_type_miscounts con.1) cons
declaration_miscounts counts (Exn name ty) = type_if_there ty
declaration_miscounts counts (Fun name tys equations) = some_type_miscounts tys || list_any (equation_miscounts counts (parameters tys)) equations
declaration_miscounts counts (BoxD name ins outs fair rules handlers) =
    (places_miscount ins || places_miscount outs)
    || (list_any (rule_miscounts counts (length ins) (length outs)) rules || list_any (handler_miscounts counts (length outs)) handlers)
declaration_miscounts counts (Stream name from port) = false
declaration_miscounts counts (Wire from to depth initial) = depth_is_outside depth || initial_miscounts counts initial

-- the declaration of the number has too many or too few of something
abbrev pub Miscounts : Decls → ℕ → Type 0
Miscounts decls number = OfDecl decls number (λ decl. IsTrue (declaration_miscounts (counted decls) decl))

-- a `*` stands in the expression, if there is one
abbrev pub star_if_there : Option Exp → Bool
star_if_there None = false
star_if_there (Some e) = has_star e

-- a `*` in the declaration is no output
abbrev pub declaration_has_stray_star : Decl → Bool
declaration_has_stray_star (Sum name cons) = false
declaration_has_stray_star (Exn name ty) = false
declaration_has_stray_star (Fun name tys equations) = list_any (λ (equation : List ℕ × List Pat × Exp). has_star equation.2) equations
declaration_has_stray_star (BoxD name ins outs fair rules handlers) =
    list_any (λ (rule : List Pat × Exp). has_stray_star (length outs) rule.1) rules
    || list_any (λ (handler : List ℕ × Option Pat × Exp). has_stray_star (length outs) handler.2) handlers
declaration_has_stray_star (Stream name from port) = false
declaration_has_stray_star (Wire from to depth initial) = star_if_there initial

-- a `*` in the declaration of the number is no output
abbrev pub HasStrayStar : Decls → ℕ → Type 0
HasStrayStar decls number = OfDecl decls number (λ decl. IsTrue (declaration_has_stray_star decl))
