-- What is found of a function.
use Rattle.std.specs.Prelude.{Bool, List, ◌∷◌, Option, Some}
use Rattle.hume_base.specs.declared.types.Ty.{Tuple as TupleTy}
use Rattle.hume_ast.specs.declared.tree.TyExp.{TyExp}
use Rattle.typed_core.specs.declared.typed_tree.TypedEquation.{TypedEquation}
use Rattle.check_typing.specs.Partial.{given}
use Rattle.check_typing.specs.WrittenTypes.{all_written}
use Rattle.check_typing.specs.Declarations.{CoredEquation, some_so, cores_alone, parted}
use Rattle.check_tasks.specs.States.{State, with_types}

-- the types of the parameters on the stack as one tuple, and on top of it the type that the function gives
abbrev pub with_signature : List TyExp → State → Option State
with_signature types state = given (all_written state.0.2.types types) (λ all. given (parted all) (λ p.
    Some (with_types (p.1 ∷ TupleTy p.0 ∷ state.0.1) state)))

-- the trees alone, and whether a literal in one of them is out of the range of its type
abbrev pub found_together : Option (List CoredEquation) → Option (List TypedEquation × Bool)
found_together found = given found (λ cs. Some (cores_alone cs, some_so cs))
