-- The round of a step, and its lines.
use Rattle.std.proofs.Common.{◌≡◌, ℕ, ◌<◌, ◌≤◌, max, List, [], length, map, refl, ap, sym, ◌∙◌, subst, inl, inr, arith, Option, None, Some, Result, Ok, Err}
use Rattle.std.specs.Prelude.{OnOk, slice_get, slice_index_or}
use Rattle.std.specs.Option.{unwrap_or}
use Rattle.std.proofs.lemmas.Bool.{cases_lt}
use Rattle.std.proofs.lemmas.List.{length-map}
use Rattle.std.proofs.lemmas.Option.{slice_get_past}
use Rattle.hume_base.specs.declared.types.Value.{Value}
use Rattle.hume_model.specs.declared.core_tree.NodeC.{NodeC}
use Rattle.hume_model.specs.declared.core_tree.NodeC.TheVariants.{To}
use Rattle.hume_model.specs.declared.core_tree.StreamC.{StreamC}
use Rattle.hume_model.specs.declared.core_tree.Core.{Core}
use Rattle.hume_net.specs.declared.state.State.{State}
use Rattle.hume_net.specs.Lockstep.{lockstep}
use Rattle.hume_net.specs.Parts.{IsStateOf}
use Rattle.hume_net.specs.Sides.{part_of}
use Rattle.hume_net.specs.Start.{no_values}
use Rattle.hume_net.proofs.Gathered.{numbered_get, numbered_past}
use Rattle.hume_net.proofs.StatePlaces.{lockstep_state}
use Rattle.hume_net.proofs.rounds_lemmas.Streams.{others_take_nothing}
use Rattle.hume_ports.specs.declared.port.Failed.{Failed}
use Rattle.hume_ports.specs.Port.{PortView}
use Rattle.hume_ports.specs.Ports.{names, place_of}
use Rattle.hume_calls.proofs.FitPorts.{found_place}
use Rattle.port_acts.specs.Acts.{write_each}
use Rattle.port_acts.specs.Ends.{Ends, never}
use Rattle.box_costs.specs.declared.cost.Cost.{Cost}
use Rattle.net_costs.specs.Steps.{peaks}
use Rattle.phase_workers.specs.Engines.{EngineView as Engine}
use Rattle.phase_workers.specs.Engines.{core_of, heap_peak_at, queue_at, span_of, stack_peak_at, state_of, ArePeaksKept}
use Rattle.phase_workers.specs.Runnable.{IsRunnable}
use Rattle.run_rounds.proofs.Standings.{item_at}
use Rattle.hume_console.specs.inner.Placed.{ArePlaced}
use Rattle.hume_console.specs.inner.Standing.{session_of}
use Rattle.hume_console.specs.inner.Stepping.{AreWithin, EndsMade, HavePlaces, IsFilling, OnlyOutputsTook, StandsFilling, Step, left_step, lines_of_all}
use Rattle.hume_console.proofs.FedStates.{filled_parts}
use Rattle.hume_console.proofs.Standings.{own_offers, own_placed}
use Rattle.hume_console.proofs.StepMade.{line_failed, step_made}

none_taken : (core : Core) (n : ℕ) → unwrap_or (slice_get (no_values core) n) [] ≡ []
none_taken core n = elim (cases_lt n (length core.nodes)) [
  | inl less ↦ ap (λ o. unwrap_or o []) (numbered_get (length core.nodes) (λ node. []) n less)
  | inr past ↦ ap (λ o. unwrap_or o []) (numbered_past 0 (length core.nodes) (λ node. []) n past)
]

module _ (step : Step) (places : List ℕ) (steps : ℕ) (engine : Engine) (ports : List PortView)
    (it : IsFilling step (length (core_of engine).nodes) steps places engine ports) where
  abbrev core : Core
  core = step.call.core

  abbrev stands : StandsFilling step (length (core_of engine).nodes) engine ports
  stands = it.stands

  all_stands : StandsFilling step (length core.nodes) engine ports
  all_stands = subst (λ (c : Core). StandsFilling step (length c.nodes) engine ports) stands.same_core stands

  abbrev place : ArePlaced core step.call.source
      (session_of step.engine step.bindings
      (own_offers step.call step.limit (left_step step.call step.steps step.later) step.engine step.commands step.places step.before step.bindings stands.begun.stands))
      (names step.before.ports) step.places
  place = own_placed step.call step.limit (left_step step.call step.steps step.later) step.engine step.commands step.places step.before step.bindings stands.begun.stands

  pub round_span : steps ≤ span_of engine
  round_span = (let least = stands.begun.least in let same = it.is_steps in let span = stands.same_span in omega (arith, least, same, span))

  pub round_clear : (n : ℕ) → (part_of (state_of engine) n).taken ≡ []
  round_clear n = ap (λ (s : State). (part_of s n).taken) stands.state
      ∙ ap (λ (ts : List (List Value)). unwrap_or (slice_get ts n) []) stands.begun.stands.rests.cleared ∙ none_taken core n

  pub round_runnable : IsRunnable (core_of engine)
  round_runnable = subst IsRunnable (sym stands.same_core) stands.begun.stands.serving.runnable

  parts : IsStateOf core (state_of engine)
  parts = subst (IsStateOf core) (sym stands.state) (filled_parts core (state_of step.engine) stands.fed stands.begun.stands.rests.parts)

  there : (n : ℕ) (stream : StreamC) → slice_get core.nodes n ≡ Some (To stream) → place_of (step.bindings.port n) (names ports) ≡ Some (slice_index_or places n 0)
  there n stream is = ap (place_of (step.bindings.port n)) stands.made.progress.same_names ∙ place.streams n (To stream) stream is refl
      ∙ ap (λ k. Some k) (ap (λ (ps : List ℕ). slice_index_or ps n 0) it.are_places)

  module _ (rounded : Engine) (same_core : core_of rounded ≡ core_of engine) (state : state_of rounded ≡ lockstep (core_of engine) (state_of engine) steps) where
    in_core : core_of rounded ≡ core
    in_core = same_core ∙ stands.same_core

    net : state_of rounded ≡ lockstep core (state_of engine) step.steps
    net = state ∙ ap (λ (c : Core). lockstep c (state_of engine) steps) stands.same_core ∙ ap (lockstep core (state_of engine)) (sym it.is_steps)

    pub rounded_runnable : IsRunnable (core_of rounded)
    rounded_runnable = subst IsRunnable (sym same_core) round_runnable

    pub rounded_parts : IsStateOf (core_of rounded) (state_of rounded)
    rounded_parts = subst (λ (c : Core). IsStateOf c (state_of rounded)) (sym in_core)
        (subst (IsStateOf core) (sym net) (lockstep_state core (state_of engine) parts step.steps))

    pub rounded_places : {X : Type 0} (view : X → PortView) (seen : List X) → ports ≡ map view seen → AreWithin (core_of rounded) (length seen) places
    rounded_places view seen are = record {
      long = ap length (sym it.are_places) ∙ place.count ∙ ap (λ (c : Core). length c.nodes) (sym in_core);
      each = λ n stream is. (
          let found = found_place (step.bindings.port n) (names ports) (slice_index_or places n 0)
          (there n stream (subst (λ (c : Core). slice_get c.nodes n ≡ Some (To stream)) in_core is)) in
          subst (λ count. slice_index_or places n 0 < count)
          (length-map ports (λ (port : PortView). port.name) ∙ ap length are ∙ length-map seen view) found.place.within);
    }

    only_outputs : OnlyOutputsTook core (lockstep core (state_of engine) step.steps)
    only_outputs n other = by (slice_get core.nodes n) refl
      where
        by : (o : Option NodeC) → slice_get core.nodes n ≡ o → (part_of (lockstep core (state_of engine) step.steps) n).taken ≡ []
        by (Some node) is = others_take_nothing core n node is (state_of engine) step.steps other ∙ round_clear n
        by None is = elim (cases_lt n (length core.nodes)) [
          | inl less ↦ (let some = item_at core.nodes n less in
              let never : ◌≡◌ {A = Option NodeC} None (Some some.0) = sym is ∙ some.1 in cc)
          | inr past ↦ (let long = (lockstep_state core (state_of engine) parts step.steps).taken in
              ap (λ o. unwrap_or o []) (slice_get_past (lockstep core (state_of engine) step.steps).taken n (omega (arith, past, long))))
        ]

    module _ (heap : (n : ℕ) → heap_peak_at rounded n ≡ max (heap_peak_at engine n) (peaks (core_of engine) (state_of engine) steps n).heap)
        (stack : (n : ℕ) → stack_peak_at rounded n ≡ max (stack_peak_at engine n) (peaks (core_of engine) (state_of engine) steps n).stack)
        (queues : (n : ℕ) → queue_at rounded n ≡ queue_at engine n) (same_span : span_of rounded ≡ span_of engine) (drained : Engine) (news : List PortView)
        (drained_core : core_of drained ≡ core_of rounded) (drained_span : span_of drained ≡ span_of rounded)
        (drained_queues : (n : ℕ) → queue_at drained n ≡ queue_at rounded n) (kept : ArePeaksKept rounded drained) (result : Result (Unit {0}) Failed)
        (ends : (port : ℕ → List ℕ) → HavePlaces (core_of rounded) port (names ports) places
        → Ends never [] (write_each (lines_of_all (core_of rounded) port (state_of rounded))) [] ports news result)
        (cleared : OnlyOutputsTook (core_of rounded) (state_of rounded)
        → OnOk result (state_of drained ≡ record (state_of rounded) { taken = no_values (core_of rounded) })) where
      have : HavePlaces (core_of rounded) step.bindings.port (names ports) places
      have n stream is = there n stream (subst (λ (c : Core). slice_get c.nodes n ≡ Some (To stream)) in_core is)

      lines_ended : Ends never [] (write_each (lines_of_all core step.bindings.port (lockstep core (state_of engine) step.steps))) [] ports news result
      lines_ended = subst (λ (s : State). Ends never [] (write_each (lines_of_all core step.bindings.port s)) [] ports news result) net
          (subst (λ (c : Core). Ends never [] (write_each (lines_of_all c step.bindings.port (state_of rounded))) [] ports news result) in_core (ends step.bindings.port have))

      only : OnlyOutputsTook (core_of rounded) (state_of rounded)
      only = subst (λ (c : Core). OnlyOutputsTook c (state_of rounded)) (sym in_core) (subst (OnlyOutputsTook core) (sym net) only_outputs)

      peak_core : (n : ℕ) → peaks (core_of engine) (state_of engine) steps n ≡ peaks core (state_of engine) step.steps n
      peak_core n = ap (λ (c : Core). peaks c (state_of engine) steps n) stands.same_core ∙ ap (λ k. peaks core (state_of engine) k n) (sym it.is_steps)

      ends_by : (how : Result (Unit {0}) Failed)
          → Ends never [] (write_each (lines_of_all core step.bindings.port (lockstep core (state_of engine) step.steps))) [] ports news how
          → OnOk how (state_of drained ≡ record (state_of rounded) { taken = no_values (core_of rounded) }) → EndsMade step drained news how
      ends_by (Ok done) made state_now = step_made step engine ports all_stands drained news (drained_core ∙ in_core)
          (drained_span ∙ same_span ∙ stands.same_span) (λ n. drained_queues n ∙ queues n)
          (λ n. kept.heap n ∙ heap n ∙ ap (λ (p : Cost). max (heap_peak_at engine n) p.heap) (peak_core n))
          (λ n. kept.stack n ∙ stack n ∙ ap (λ (p : Cost). max (stack_peak_at engine n) p.stack) (peak_core n))
          (state_now ∙ ap (λ (s : State). record s { taken = no_values (core_of rounded) }) net
          ∙ ap (λ (c : Core). record (lockstep core (state_of engine) step.steps) { taken = no_values c }) in_core) made
      ends_by (Err failed) fails state_now = line_failed step engine ports all_stands news fails

      pub round_ends : EndsMade step drained news result
      round_ends = ends_by result lines_ended (cleared only)
