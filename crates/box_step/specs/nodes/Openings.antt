-- What a round opens with. No cell stores anything of it.
use Rattle.std.specs.Prelude.{◌≡◌, ℕ}
use Rattle.hume_model.specs.declared.core_tree.Core.{Core}
use Rattle.hume_model.specs.WellFormed.{IsWellFormed}
use Rattle.hume_model.specs.Wiring.{WiresAgree}
use Rattle.hume_net.specs.declared.state.State.{State}
use Rattle.hume_net.specs.Lockstep.{lockstep}
use Rattle.hume_net.specs.StatePlaces.{BoxesHandleAll}
use Rattle.hume_net.specs.StateTyping.{IsTypedState}
use Rattle.model_bare.specs.Bare.{bare_of}
use Rattle.box_costs.specs.declared.cost.Cost.{Cost}
use Rattle.box_costs.specs.Costs.{either}
use Rattle.net_costs.specs.Steps.{peaks}
use Rattle.hume_streams.specs.Queues.{QueueView}
use Rattle.hume_streams.specs.Logs.{LogView}

-- A core and a state of it; and by the number of a node the most that its execute steps took before, and what its queue or log
-- keeps beside values.
pub record Opening : Type 0 where
  pub core : Core
  pub state : State
  pub peaks : ℕ → Cost
  pub queues : ℕ → QueueView
  pub logs : ℕ → LogView

-- The opening is one with this bare core: its core has this bare form, is well-formed, its wires agree and its boxes handle what
-- their rules raise; and the values of its state are of their types.
pub record IsOpeningOf (bare : Core) (opening : Opening) : Type 0 where
  pub core_is : bare ≡ bare_of opening.core
  pub formed : IsWellFormed opening.core
  pub agree : WiresAgree opening.core
  pub handles : BoxesHandleAll opening.core
  pub typed : IsTypedState opening.core opening.state

-- the opening to which so many supersteps lead
abbrev pub opening_after : Opening → ℕ → Opening
opening_after opening steps = record opening {
  state = lockstep opening.core opening.state steps;
  peaks = λ n. either (opening.peaks n) (peaks opening.core opening.state steps n);
}
