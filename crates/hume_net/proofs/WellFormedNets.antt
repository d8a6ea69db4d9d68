-- A well-formed core whose wires agree is a typed net.
use Rattle.hume_model.specs.declared.core_tree.Core.{Core}
use Rattle.hume_model.specs.WellFormed.{IsWellFormed}
use Rattle.hume_model.specs.Wiring.{WiresAgree}
use Rattle.hume_model.proofs.WellFormedCores.{sound_parts}
use Rattle.hume_net.specs.StateTyping.{IsTypedNet, InitialsAreTyped}

pub typed_net : (core : Core) → IsWellFormed core → WiresAgree core → IsTypedNet core × InitialsAreTyped core
typed_net core formed agree = (
  record { sound = sound_parts core formed; boxes = formed.boxes; wires = agree },
  λ w wire v found initial. (formed.frame.wires w wire found).initial v initial,
)
