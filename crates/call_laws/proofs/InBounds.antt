-- A run stays in the bounds of its boxes.
use Rattle.std.proofs.Common.{List, [], length, Option, ap}
use Rattle.std.specs.List.{list_all}
use Rattle.std.specs.Option.{unwrap_or}
use Rattle.std.proofs.lemmas.Option.{slice_get_within}
use Rattle.hume_base.specs.declared.types.Value.{Value}
use Rattle.hume_base.specs.Values.{is_value}
use Rattle.hume_model.specs.declared.core_tree.Core.{Core}
use Rattle.hume_model.specs.declared.core_tree.NodeC.TheVariants.{From}
use Rattle.hume_net.specs.Start.{no_values}
use Rattle.hume_net.specs.StateTyping.{ComingAreTyped}
use Rattle.hume_net.proofs.Gathered.{numbered_get}
use Rattle.hume_net.proofs.WellFormedNets.{typed_net}
use Rattle.net_costs.proofs.StepBounds.{lockstep_within, peaks_within}
use Rattle.phase_workers.specs.Runnable.{IsRunnable}
use Rattle.call_laws.specs.Bounds.{StaysInBounds}

pub in_bounds : (core : Core) → IsRunnable core → (coming : List (List Value)) → ComingAreTyped core coming → StaysInBounds core coming
in_bounds core run coming typed =
    let net = typed_net core run.formed run.agree in
    record {
      each_step = lockstep_within core net.0 net.1 coming typed;
      each_peak = peaks_within core net.0 net.1 coming typed;
    }

pub nothing_typed : (core : Core) → ComingAreTyped core (no_values core)
nothing_typed core n stream w wire at there from =
    let less = slice_get_within core.nodes n (From stream) at in
    ap (λ (o : Option (List Value)). list_all (is_value core.types wire.ty) (unwrap_or o []))
    (numbered_get {X = List Value} (length core.nodes) (λ m. []) n less)
