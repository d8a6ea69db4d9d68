use Rattle.std.proofs.Common.{◌<◌, sym, subst}
use Rattle.check_scopes.specs.types.Nodes.{all_below, IsWithin}
use Rattle.check_scopes.proofs.types_lemmas.Held.{below_at}
use Rattle.check_scopes.proofs.types.context.part_of_node.Goals as goal

pub returns-in-Some-clause-within : goal.returns-in-Some-clause-within
returns-in-Some-clause-within c bound w =
    let inside : all_below bound c.in-Tuple.parts.items = subst (IsWithin bound) c.in-Tuple.is w in
    let here = c.in-Some.ensures.lookup in
    let items = subst (all_below bound) (sym c.as_slice.ensures.value) inside in
    subst (λ x. x < bound) (sym (here.3.1 0)) (below_at bound c.args.at 0 c.as_slice.result.now items here.3.0)
