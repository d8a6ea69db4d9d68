-- What is found of a box.
use Rattle.std.specs.Prelude.{◌||◌, Bool, ℕ, List, Option, Some}
use Rattle.hume_base.specs.declared.types.Ty.{Tuple as TupleTy}
use Rattle.hume_ast.specs.declared.tree.TyExp.{TyExp}
use Rattle.typed_core.specs.declared.typed_tree.TypedRule.{TypedRule}
use Rattle.typed_core.specs.declared.typed_tree.TypedHandler.{TypedHandler}
use Rattle.check_typing.specs.Partial.{given}
use Rattle.check_typing.specs.Declarations.{CoredRule, CoredHandler, some_so, cores_alone, ports_written}
use Rattle.check_scopes.specs.Known.{Known, with_type}

-- the types of the inputs on the stack as one tuple, and on top of it those of the outputs
abbrev pub with_ports : List (List ℕ × TyExp) → List (List ℕ × TyExp) → Known → Option Known
with_ports inputs outputs known = given (ports_written known.2.types inputs) (λ ins. given (ports_written known.2.types outputs) (λ outs.
    Some (with_type (TupleTy outs) (with_type (TupleTy ins) known))))

-- the trees of the rules, those of the handlers, and whether a literal in one of them is out of the range of its type
abbrev pub box_found : Option (List CoredRule × List CoredHandler) → Option (List TypedRule × List TypedHandler × Bool)
box_found found = given found (λ cs. Some (cores_alone cs.0, cores_alone cs.1, some_so cs.0 || some_so cs.1))
