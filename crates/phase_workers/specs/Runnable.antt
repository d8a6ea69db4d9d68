-- What is asked of a core that is run.
use Rattle.std.specs.Prelude.{◌≡◌, ℕ, Some, slice_get}
use Rattle.hume_model.specs.declared.core_tree.WireC.{WireC}
use Rattle.hume_model.specs.declared.core_tree.Core.{Core}
use Rattle.hume_model.specs.WellFormed.{IsWellFormed}
use Rattle.hume_model.specs.Wiring.{IsWired, WiresAgree}
use Rattle.hume_text.specs.Bounds.{IsPrintable}
use Rattle.hume_text.specs.Names.{HaveNames}

-- The core is well-formed, each of its inputs and outputs has one wire between equal types, and the values on its wires have
-- texts. Cores of accepted sources are so.
pub record IsRunnable (core : Core) : Type 0 where
  pub formed : IsWellFormed core
  pub wired : IsWired core
  pub agree : WiresAgree core
  pub names : HaveNames core.types
  pub printable : (w : ℕ) (wire : WireC) → slice_get core.wires w ≡ Some wire → IsPrintable core.types wire.ty
