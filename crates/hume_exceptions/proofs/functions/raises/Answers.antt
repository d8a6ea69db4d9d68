use Rattle.std.proofs.Common.{◌≡◌, ◌+◌, Some, slice_get, refl, sym, subst}
use Rattle.std.proofs.lemmas.Option.{slice_get_read}
use Rattle.hume_model.specs.Raising.{raises_with, function_raises}
use Rattle.hume_exceptions.specs.Sets.{IsSetOf, called_by}
use Rattle.hume_exceptions.proofs.FunctionSets.{AreSetsBelow, no_sets, next_set}
use Rattle.hume_exceptions.proofs.functions.raises.Goals as goal

pub loop-function-init : goal.loop-function-init
loop-function-init c = subst (λ sets. AreSetsBelow c.args.core.now 0 sets) (sym c.new-sets.ensures) (no_sets c.args.core.now)

pub loop-function-preserved : goal.loop-function-preserved
loop-function-preserved c =
    let core = c.args.core.now in
    let function = c.function-item.result in
    let k = c.loop-function.function-index in
    let here : slice_get c.as_slice-function-items.result.now k ≡ Some function = slice_get_read _ _ k function refl c.loop-function-test.true c.function-item.is in
    let found : slice_get core.funs k ≡ Some function = rw c.as_slice-function-items.ensures at here in
    let set = c.function_set.result in
    let is : IsSetOf set (λ exn. function_raises core.types (raises_with core.types (called_by c.loop-function.sets exn) exn) exn (Some function)) = rw c.as_slice.ensures at c.function_set.ensures in
    subst (λ sets. AreSetsBelow core (k + 1) sets) (sym c.in_ok-push.ensures.ok) (next_set core k c.loop-function.sets function set c.loop-function.invariant found is)
