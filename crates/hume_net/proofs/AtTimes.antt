-- What each half step keeps is kept at each time.
use Rattle.std.proofs.Common.{ℕ, zero, suc, ◌/◌, ◌%◌, ◌==◌, Bool, true, false, if◌then◌else◌}
use Rattle.hume_model.specs.declared.core_tree.Core.{Core}
use Rattle.hume_model.specs.Wiring.{IsWired}
use Rattle.hume_net.specs.declared.state.State.{State}
use Rattle.hume_net.specs.Depths.{IsWithinDepths}
use Rattle.hume_net.specs.Lockstep.{mid, superstep, lockstep, at_time}
use Rattle.hume_net.specs.StatePlaces.{HasPlaces, HaveAllOutputs, BoxesHandleAll}
use Rattle.hume_net.specs.StateTyping.{IsTypedNet, IsTypedState}
use Rattle.hume_net.proofs.AllOutputs.{mid_all, superstep_all}
use Rattle.hume_net.proofs.Depths.{mid_within, superstep_within}
use Rattle.hume_net.proofs.StatePlaces.{mid_places, superstep_places}
use Rattle.hume_net.proofs.StateTypes.{mid_typed, superstep_typed}

module _ (core : Core) (Holds : State → Type 0) (middle : (s : State) → Holds s → Holds (mid core s)) (whole : (s : State) → Holds s
    → Holds (superstep core s))
    (state : State) (first : Holds state) where
  kept_after : (k : ℕ) → Holds (lockstep core state k)
  unfolding lockstep
  kept_after zero = first
  kept_after (suc k) = whole (lockstep core state k) (kept_after k)

  kept_by : (even : Bool) (k : ℕ) → Holds (if even then lockstep core state k else mid core (lockstep core state k))
  kept_by true k = kept_after k
  kept_by false k = middle (lockstep core state k) (kept_after k)

  kept_at : (time : ℕ) → Holds (at_time core state time)
  kept_at time = kept_by (time % 2 == 0) (time / 2)

module _ (core : Core) (net : IsTypedNet core) (state : State) (typed : IsTypedState core state) where
  pub types_after : (k : ℕ) → IsTypedState core (lockstep core state k)
  types_after = kept_after core (IsTypedState core) (mid_typed core net) (superstep_typed core net) state typed

  pub types_at : (time : ℕ) → IsTypedState core (at_time core state time)
  types_at = kept_at core (IsTypedState core) (mid_typed core net) (superstep_typed core net) state typed

module _ (core : Core) (net : IsTypedNet core) (handles : BoxesHandleAll core) (state : State) (first_typed : IsTypedState core state)
    (first_all : HaveAllOutputs core state) where
  record HasBoth (s : State) : Type 0 where
    typed : IsTypedState core s
    all : HaveAllOutputs core s

  both_middle : (s : State) → HasBoth s → HasBoth (mid core s)
  both_middle s has = record { typed = mid_typed core net s has.typed; all = mid_all core net handles s has.typed has.all }

  both_whole : (s : State) → HasBoth s → HasBoth (superstep core s)
  both_whole s has = record { typed = superstep_typed core net s has.typed; all = superstep_all core net handles s has.typed has.all }

  pub outputs_at : (time : ℕ) → HaveAllOutputs core (at_time core state time)
  outputs_at time = (kept_at core HasBoth both_middle both_whole state (record { typed = first_typed; all = first_all }) time).all

pub places_at : (core : Core) (state : State) → HasPlaces core state → (time : ℕ) → HasPlaces core (at_time core state time)
places_at core state places = kept_at core (HasPlaces core) (mid_places core) (superstep_places core) state places

pub depths_at : (core : Core) → IsWired core → (state : State) → IsWithinDepths core state → (time : ℕ) → IsWithinDepths core (at_time core state time)
depths_at core wired state within = kept_at core (IsWithinDepths core) (mid_within core wired) (superstep_within core wired) state within
