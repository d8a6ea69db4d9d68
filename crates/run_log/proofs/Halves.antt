-- What the next half makes of a run.
use Rattle.std.proofs.Common.{◌≡◌, ℕ, List, Option, Some, Result, sym, subst}
use Rattle.hume_net.specs.Lockstep.{mid, up}
use Rattle.hume_ports.specs.declared.port.Failed.{Failed}
use Rattle.hume_ports.specs.Port.{PortView}
use Rattle.phase_workers.specs.Engines.{EngineView, core_of, state_of}
use Rattle.trace_print.specs.InTurn.{EndsLines}
use Rattle.run_log.specs.declared.net.Net.{Net}
use Rattle.run_log.specs.declared.net.Net.TheVariants.{Whole, Midst}
use Rattle.run_log.specs.Moments.{forgotten, state_behind}
use Rattle.run_log.specs.Nets.{engine_in, half_in, net_or_none}
use Rattle.run_log.specs.inner.Blocks.{block_in}

-- the state after the half behind that of a net
pub begun : (net : Net) (engine new : EngineView) → net ≡ Whole engine → state_of new ≡ mid (core_of engine) (forgotten (core_of engine) (state_of engine))
    → state_of new ≡ state_behind (core_of (engine_in net)) (state_of (engine_in net)) (half_in net)
begun net engine new is state =
    subst (λ found. state_of new ≡ state_behind (core_of (engine_in found)) (state_of (engine_in found)) (half_in found)) (sym is) state

pub ended : (net : Net) (halfway new : EngineView) → net ≡ Midst halfway → state_of new ≡ up (core_of halfway) (state_of halfway)
    → state_of new ≡ state_behind (core_of (engine_in net)) (state_of (engine_in net)) (half_in net)
ended net halfway new is state =
    subst (λ found. state_of new ≡ state_behind (core_of (engine_in found)) (state_of (engine_in found)) (half_in found)) (sym is) state

-- the block of a run is that of its net
pub block_as : (found : Option Net) (net : Net) (superstep at : ℕ) (olds news : List PortView) (result : Result (Unit {0}) Failed) → found ≡ Some net
    → EndsLines at (block_in net superstep) olds news result → EndsLines at (block_in (net_or_none found) superstep) olds news result
block_as found net superstep at olds news result is ends =
    subst (λ it. EndsLines at (block_in (net_or_none it) superstep) olds news result) (sym is) ends
