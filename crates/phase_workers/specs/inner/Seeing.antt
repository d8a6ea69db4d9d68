-- What a token of the state of a net makes of what was done.
use Rattle.std.specs.Prelude.{[], map, slice_set}
use Rattle.hume_model.specs.Readers.{value_from}
use Rattle.hume_net.specs.declared.state.State.{State}
use Rattle.hume_net.specs.Lockstep.{lockstep}
use Rattle.hume_net.specs.Start.{start, no_values}
use Rattle.hume_streams.specs.Queues.{queue_view}
use Rattle.phase_workers.specs.declared.seen.Deed.{Deed}
use Rattle.phase_workers.specs.declared.seen.Deed.TheVariants.{Opened, Stepped, Filled, Cleared}

-- the state after it was done: the net was opened, made supersteps, has the values of a queue to come from a stream, or has forgotten
-- what a stream took
abbrev pub state_after : State → Deed → State
state_after state (Opened core) = start core.now (no_values core.now)
state_after state (Stepped core steps) = lockstep core.now state steps
state_after state (Filled node types ty queue) =
    record state { coming = slice_set state.coming node (map (value_from types.now ty.now) (queue_view queue.now).values) }
state_after state (Cleared node) = record state { taken = slice_set state.taken node [] }
