-- What comes to a run from texts is of the types of its streams.
use Rattle.std.proofs.Common.{◌≡◌, ℕ, true, List, sym, subst}
use Rattle.std.specs.List.{list_all}
use Rattle.hume_base.specs.Values.{is_value}
use Rattle.hume_model.specs.declared.core_tree.NodeC.TheVariants.{From}
use Rattle.hume_model.specs.declared.core_tree.Core.{Core}
use Rattle.hume_net.specs.Nodes.{IsInput}
use Rattle.hume_net.specs.StateTyping.{ComingAreTyped}
use Rattle.phase_workers.specs.Runnable.{IsRunnable}
use Rattle.phase_workers.specs.StreamTypes.{type_at}
use Rattle.run_rounds.proofs.StreamWires.{input_type}
use Rattle.hume_net.specs.rounds.Pieces.{listed}
use Rattle.run_rounds.specs.Inputs.{AreInputs, Inputs}
use Rattle.run_rounds.proofs.Ending.{comes_at}
use Rattle.run_rounds.proofs.TypedValues.{values_typed}

pub inputs_typed : (core : Core) → IsRunnable core → (texts : List ℕ → List ℕ) (inputs : Inputs) → AreInputs core texts inputs → ComingAreTyped core inputs.good
inputs_typed core run texts inputs are n stream w wire is there from =
    let comes = comes_at core texts inputs are n (From stream) is in
    subst (λ ty. list_all (is_value core.types ty) (listed inputs.good n) ≡ true) (input_type core run n w wire there (subst IsInput (sym is) tt) from)
    (values_typed core.types (type_at core n) _ (listed inputs.good n) comes.values.texts)
