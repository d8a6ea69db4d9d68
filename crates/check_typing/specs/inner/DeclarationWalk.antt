-- A walk over equations, rules, handlers and declarations that finds their trees. Like the other walks it serves only code that
-- does as it does.
use Rattle.std.specs.Prelude.{ℕ, List, [], ◌∷◌, Option, Some}
use Rattle.hume_base.specs.declared.types.Ty.{Ty}
use Rattle.hume_ast.specs.declared.tree.TyExp.{TyExp}
use Rattle.hume_ast.specs.declared.tree.Decl.{Decl}
use Rattle.hume_ast.specs.declared.tree.Decl.TheVariants.{Sum, Exn, Fun, BoxD, Stream, Wire}
use Rattle.hume_model.specs.declared.core_tree.ExnDef.{ExnDef}
use Rattle.check_typing.specs.Partial.{given}
use Rattle.check_typing.specs.Signatures.{exn_named}
use Rattle.check_typing.specs.Patterns.{patterns, positions}
use Rattle.check_typing.specs.Declarations.{CoredEquation, CoredRule, CoredHandler, CoredDeclaration, function_core, box_core, no_core, WrittenEquation, equation_core, WrittenRule, rule_core, WrittenHandler, carried_vars, handler_core, signature_written, ports_written}
use Rattle.check_typing.specs.inner.Walk.{walk}
use Rattle.check_typing.specs.inner.ResultWalk.{result_walk}
use Rattle.check_typing.specs.declared.signatures.Signature.{Signature}
use Rattle.check_typing.specs.declared.signatures.Signatures.{Signatures}

-- what is found of each, if it is found of all
abbrev pub found_of_all : {A B : Type 0} → (A → Option B) → List A → Option (List B)
found_of_all find [] = Some []
found_of_all find (x ∷ xs) = given (find x) (λ first. given (found_of_all find xs) (λ others. Some (first ∷ others)))

abbrev pub equation_walk : Signatures → Signature → WrittenEquation → Option CoredEquation
equation_walk signatures signature equation =
    given (patterns signatures equation.1 signature.params) (λ bound. given ((walk signatures equation.2).against bound.0 signature.gives) (λ body.
    Some (equation_core bound.1 body)))

abbrev pub rule_walk : Signatures → List Ty → List Ty → WrittenRule → Option CoredRule
rule_walk signatures ins outs rule =
    given (positions signatures rule.0 ins) (λ bound. given ((result_walk signatures rule.1).result bound.0 outs) (λ result.
    Some (rule_core bound.1 result)))

abbrev pub handler_walk : Signatures → List Ty → WrittenHandler → Option CoredHandler
handler_walk signatures outs handler =
    given (exn_named handler.0 signatures) (λ (found : ℕ × ExnDef). given (carried_vars found.1.carries handler.1) (λ carried.
    given ((result_walk signatures handler.2).result carried.0 outs) (λ result. Some (handler_core found.0 carried.1 result))))

abbrev pub function_walk : Signatures → List ℕ → List TyExp → List WrittenEquation → Option (List CoredEquation)
function_walk signatures name tys equations =
    given (signature_written signatures.types name tys) (λ (signature : Signature). found_of_all (equation_walk signatures signature) equations)

abbrev pub box_walk : Signatures → List (List ℕ × TyExp) → List (List ℕ × TyExp) → List WrittenRule → List WrittenHandler
    → Option (List CoredRule × List CoredHandler)
box_walk signatures inputs outputs rules handlers =
    given (ports_written signatures.types inputs) (λ ins. given (ports_written signatures.types outputs) (λ outs.
    given (found_of_all (rule_walk signatures ins outs) rules) (λ rs.
    given (found_of_all (handler_walk signatures outs) handlers) (λ hs. Some (rs, hs)))))

-- the trees of a declaration, where all has types
abbrev pub declaration_walk : Signatures → Decl → Option CoredDeclaration
declaration_walk signatures (Fun name tys equations) = given (function_walk signatures name tys equations) (λ cs. Some (function_core cs))
declaration_walk signatures (BoxD name inputs outputs fair rules handlers) =
    given (box_walk signatures inputs outputs rules handlers) (λ found. Some (box_core found.0 found.1))
declaration_walk signatures (Sum name constructors) = Some no_core
declaration_walk signatures (Exn name carries) = Some no_core
declaration_walk signatures (Stream name from port) = Some no_core
declaration_walk signatures (Wire source target depth initial) = Some no_core
