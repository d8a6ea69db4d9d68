-- The types of ports.
use Rattle.std.proofs.Common.{◌≡◌, ℕ, List, [], ◌∷◌, map, length, take, drop, reverse, Option, Some, None, refl, ap, sym, ◌∙◌}
use Rattle.std.proofs.lemmas.List.{length-map}
use Rattle.std.proofs.lemmas.Grind.{common_steps}
use Rattle.hume_base.specs.declared.types.Ty.{Ty, Tuple as TupleTy}
use Rattle.hume_base.specs.declared.types.Types.{Types}
use Rattle.hume_ast.specs.declared.tree.TyExp.{TyExp}
use Rattle.check_typing.specs.Partial.{given}
use Rattle.check_typing.specs.WrittenTypes.{all_there, written}
use Rattle.check_typing.specs.Declarations.{ports_written}
use Rattle.check_tasks.proofs.Given.{given_some, given_none}
use Rattle.check_scopes.specs.Known.{Known, with_type}
use Rattle.check_scopes.specs.Written.{with_written_tuple}
use Rattle.check_scopes.specs.inner.OneByOne.{with_each_written}
use Rattle.check_scopes.proofs.PushedTypes.{tuple_pushed, no_tuple}
use Rattle.check_declarations.specs.boxes.inner.Boxes.{with_ports}
use Rattle.check_declarations.specs.boxes.inner.Ports.{types_alone, with_port_tuple}

written_alone : (types : Types) (ports : List (List ℕ × TyExp))
    → map (λ (port : List ℕ × TyExp). written types port.1) ports ≡ map (written types) (types_alone ports)
written_alone types [] = refl
written_alone types (port ∷ ports) = ap (λ l. written types port.1 ∷ l) (written_alone types ports)

tuple_is : (ports : List (List ℕ × TyExp)) (known : Known) → with_port_tuple ports known ≡ with_written_tuple (types_alone ports) known
tuple_is ports known = ap (λ os. given (all_there os) (λ tys. Some (with_type (TupleTy tys) known))) (written_alone known.2.types ports)

pub port_tuple_pushed : (ports : List (List ℕ × TyExp)) (known next : Known) (count : ℕ) → with_each_written (types_alone ports) known ≡ Some next → count ≡ length ports
    → with_port_tuple ports known ≡ Some (next.0, TupleTy (reverse (take count next.1)) ∷ drop count next.1, next.2)
port_tuple_pushed ports known next count h is =
    tuple_is ports known ∙ tuple_pushed (types_alone ports) known next count h (is ∙ sym (length-map ports (λ port. port.1)))

pub no_port_tuple : (ports : List (List ℕ × TyExp)) (known : Known) → with_each_written (types_alone ports) known ≡ None → with_port_tuple ports known ≡ None
no_port_tuple ports known h = tuple_is ports known ∙ no_tuple (types_alone ports) known h

in_turn : (inputs outputs : List (List ℕ × TyExp)) (known : Known) → with_ports inputs outputs known ≡ given (with_port_tuple inputs known) (with_port_tuple outputs)
in_turn inputs outputs known = by (ports_written known.2.types inputs)
  where
    by : (o : Option (List Ty))
        → given o (λ ins. given (ports_written known.2.types outputs) (λ outs. Some (with_type (TupleTy outs) (with_type (TupleTy ins) known))))
        ≡ given (given o (λ tys. Some (with_type (TupleTy tys) known))) (with_port_tuple outputs)
    by None = refl
    by (Some ins) = refl

-- the types of the outputs, after those of the inputs
pub outputs_next : (inputs outputs : List (List ℕ × TyExp)) (known mid : Known) → with_port_tuple inputs known ≡ Some mid
    → with_ports inputs outputs known ≡ with_port_tuple outputs mid
outputs_next inputs outputs known mid h = in_turn inputs outputs known ∙ ap (λ o. given o (with_port_tuple outputs)) h

pub no_inputs : (inputs outputs : List (List ℕ × TyExp)) (known : Known) → with_port_tuple inputs known ≡ None → with_ports inputs outputs known ≡ None
no_inputs inputs outputs known h = in_turn inputs outputs known ∙ ap (λ o. given o (with_port_tuple outputs)) h

pub ruleset each_steps = (common_steps, given_some, given_none)

pub ruleset tuple_steps = (common_steps, port_tuple_pushed, no_port_tuple)

pub ruleset ports_steps = (common_steps, outputs_next, no_inputs)
