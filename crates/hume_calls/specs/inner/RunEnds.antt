-- How the parts of a run end that come once its memory is taken.
use Rattle.std.specs.Prelude.{◌≡◌, ℕ, Bool, List, [], IfOk, Result}
use Rattle.std.specs.Option.{is_some}
use Rattle.hume_ports.specs.declared.port.Failed.{Failed}
use Rattle.hume_ports.specs.Port.{PortView}
use Rattle.hume_ports.specs.Delivery.{Pairs}
use Rattle.port_acts.specs.Ends.{Ends}
use Rattle.hume_model.specs.declared.core_tree.Core.{Core}
use Rattle.run_rounds.specs.Writes.{span_of, blocked_round}
use Rattle.run_rounds.specs.RunActs.{run_few}
use Rattle.run_rounds.specs.Runs.{Comes}
use Rattle.hume_calls.specs.Owed.{owed_run}

-- The run's acts were made or one of them failed.
pub record RunEnds (traced : Bool) (steps : ℕ) (core : Core) (old new : List PortView) (result : Result Bool Failed) : Type 0 where
  pub comes : Comes core old
  pub taken : Pairs
  pub ends : Ends (run_few core) [] (owed_run traced steps core comes.inputs).acts taken old new result
  pub blocked : IfOk result (λ blocked. blocked ≡ is_some (blocked_round core comes.inputs (span_of traced) steps))
