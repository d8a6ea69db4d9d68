-- Cores that are ready to run.
use Rattle.hume_net.specs.StatePlaces.{BoxesHandleAll}
use Rattle.wiring_check.specs.Wires.{IsWiringOf}
use Rattle.phase_workers.specs.Runnable.{IsRunnable}
use Rattle.hume_calls.specs.declared.ready.Ready.{Ready}
use Rattle.hume_calls.specs.Bounds.{KeepsBounds}

-- The core can be run, its boxes handle all that they raise, and these are its wires and its costs, which keep the limits.
pub record IsReady (ready : Ready) : Type 0 where
  pub runnable : IsRunnable ready.core
  pub handles : BoxesHandleAll ready.core
  pub wiring : IsWiringOf ready.core ready.wiring
  pub bounds : KeepsBounds ready.core ready.costs
