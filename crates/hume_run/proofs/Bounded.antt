-- The steps of a run keep the bounds of the table.
use Rattle.std.proofs.Common.{◌≡◌, ℕ, List, Some, slice_get}
use Rattle.hume_model.specs.declared.core_tree.BoxC.{BoxC}
use Rattle.hume_model.specs.declared.core_tree.NodeC.TheVariants.{Rules}
use Rattle.hume_net.specs.Lockstep.{lockstep}
use Rattle.hume_net.specs.Start.{start}
use Rattle.hume_net.proofs.WellFormedNets.{typed_net}
use Rattle.box_costs.specs.Costs.{IsAtMost}
use Rattle.box_costs.specs.Bounds.{box_bound}
use Rattle.net_costs.specs.Steps.{step_spent}
use Rattle.net_costs.proofs.StepBounds.{lockstep_within}
use Rattle.hume_front.specs.declared.acceptance.Accepted.{Accepted}
use Rattle.hume_front.specs.Accepted.{IsAccepted}
use Rattle.run_rounds.specs.Inputs.{Inputs, AreInputs}
use Rattle.phase_workers.specs.Runnable.{IsRunnable}
use Rattle.hume_net.specs.StateTyping.{ComingAreTyped}
use Rattle.hume_model.specs.declared.core_tree.Core.{Core}
use Rattle.hume_calls.proofs.Runnable.{runnable}

-- What comes is of the types of the streams.
abbrev pub TypedInputs : Type 0
TypedInputs = (core : Core) → IsRunnable core → (texts : List ℕ → List ℕ) (inputs : Inputs) → AreInputs core texts inputs → ComingAreTyped core inputs.good

pub run_within : TypedInputs → (text : List ℕ) (accepted : Accepted) → IsAccepted text accepted → (texts : List ℕ → List ℕ) (coming : Inputs)
    → AreInputs accepted.core texts coming
    → (k n : ℕ) (b : BoxC) → slice_get accepted.core.nodes n ≡ Some (Rules b)
    → IsAtMost (step_spent accepted.core (lockstep accepted.core (start accepted.core coming.good) k) n) (box_bound accepted.core b)
run_within inputs_typed text accepted h texts coming are k n b is =
    let run = runnable text accepted h in
    let net = typed_net accepted.core run.formed run.agree in
    lockstep_within accepted.core net.0 net.1 coming.good (inputs_typed accepted.core run texts coming are) k n b is
