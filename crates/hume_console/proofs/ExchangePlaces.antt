-- An exchange that was found, and how it ends.
use Rattle.std.proofs.Common.{◌≡◌, ℕ, ◌<◌, List, [], length, map, ap, sym, ◌∙◌, subst, arith, Option, None, Some, Result, Ok, Err}
use Rattle.std.specs.Prelude.{slice_get, slice_index_or, slice_set}
use Rattle.std.proofs.lemmas.List.{length-map}
use Rattle.std.proofs.lemmas.Option.{slice_get_within}
use Rattle.hume_model.specs.declared.core_tree.Core.{Core}
use Rattle.hume_ports.specs.declared.port.Failed.{Failed}
use Rattle.hume_ports.specs.Port.{PortView}
use Rattle.hume_ports.specs.Ports.{names, place_of, ForNameAt}
use Rattle.hume_calls.proofs.FitPorts.{found_place}
use Rattle.port_acts.specs.Ends.{Ends, never}
use Rattle.phase_workers.specs.Engines.{EngineView as Engine}
use Rattle.phase_workers.specs.Engines.{core_of, span_of, state_of, ArePeaksKept}
use Rattle.hume_console.specs.declared.ending.Ending.TheVariants.{Fault}
use Rattle.hume_console.specs.declared.finding.Exchange.{Exchange}
use Rattle.hume_console.specs.declared.places.Places.{Places}
use Rattle.hume_console.specs.Hands.{Hands, Leaves, place_without}
use Rattle.hume_console.specs.Session.{Session}
use Rattle.hume_console.specs.inner.Exchanging.{IsRebound, finish_of, left_exchange, left_later, left_refusal}
use Rattle.hume_console.specs.inner.Placed.{ArePlaced, IsExchange}
use Rattle.hume_console.specs.inner.Standing.{BeginsAsItIs, Bindings, Call, Commands, EndsCall, GoesOn, Later, Stands}
use Rattle.hume_console.proofs.Exchanges.{stream_there}
use Rattle.hume_console.proofs.ExchangeMade.{exchange_ends, not_exchanged, not_finished, old_place}
use Rattle.hume_console.proofs.Standings.{hands_with}

-- what was found, for the core of an engine
abbrev pub FoundBy : Core → List (List ℕ) → Places → List ℕ → List ℕ → Option Exchange → Type 0
FoundBy core names places name port result = (source : List ℕ) (session : Session) → ArePlaced core source session names places
    → IsExchange core source session names name port result

-- an exchange that may be made is one of a stream that has its port

module _ (name port : List ℕ) (engine : Engine) (places : Places) (ports : List PortView) (core : Core) (same : core ≡ core_of engine) (found : Exchange)
    (seen : List PortView) (seen_is : seen ≡ ports) (placed : (source : List ℕ) × (session : Session) × ArePlaced (core_of engine) source session (names ports) places) (result : Option Exchange) (is : result ≡ Some found)
    (finds : FoundBy core (names seen) places name port result) where
  exchange_is : IsExchange (core_of engine) placed.0 placed.1 (names ports) name port (Some found)
  exchange_is = subst (λ r. IsExchange (core_of engine) placed.0 placed.1 (names ports) name port r) is
      (subst (λ (c : Core). IsExchange c placed.0 placed.1 (names ports) name port result) same
      (subst (λ (vs : List PortView). FoundBy core (names vs) places name port result) seen_is finds placed.0 placed.1
      (subst (λ (c : Core). ArePlaced c placed.0 placed.1 (names ports) places) (sym same) placed.2)))

  pub node_there : found.node < length (core_of engine).nodes
  node_there = let has = stream_there (core_of engine) name found.node exchange_is.0 in slice_get_within (core_of engine).nodes found.node has.item has.there

  pub place_there : found.node < length places.streams.items
  place_there = (let less = node_there in let count = placed.2.count in omega (arith, less, count))

  pub port_there : slice_index_or places.streams.items found.node 0 < length ports
  port_there =
      let has = stream_there (core_of engine) name found.node exchange_is.0 in
      let found_at = found_place (placed.1.port found.node) (names ports) (slice_index_or places.streams.items found.node 0)
      (placed.2.streams found.node has.item has.stream has.there has.is) in
      subst (λ count. slice_index_or places.streams.items found.node 0 < count) (length-map ports (λ (view : PortView). view.name)) found_at.place.within

-- how it ends

module _ (call : Call) (limit number : ℕ) (name port : List ℕ) (later : Later) (begins : BeginsAsItIs later) (engine : Engine) (commands : Commands)
    (places : Places) (now : Hands) (b : Bindings) (stands : Stands call limit (left_exchange call number name port later) engine commands places now b)
    (core : Core) (same : core ≡ core_of engine) (result : Option Exchange) (seen : List PortView) (seen_is : seen ≡ now.ports) where
  found_as : (found : Option Exchange) → result ≡ found → FoundBy core (names seen) places name port result
      → FoundBy call.core (names now.ports) places name port found
  found_as found is finds = subst (λ (c : Core). FoundBy c (names now.ports) places name port found) (same ∙ stands.rests.is_core)
      (subst (FoundBy core (names now.ports) places name port) is (subst (λ (vs : List PortView). FoundBy core (names vs) places name port result) seen_is finds))

  pub exchange_refused : result ≡ None → FoundBy core (names seen) places name port result → GoesOn call limit (left_refusal number later) engine commands places now
  exchange_refused is finds = not_exchanged call limit number name port later begins engine commands places now b stands (found_as None is finds)

  module _ (found : Exchange) (is : result ≡ Some found) (finds : FoundBy core (names seen) places name port result) (at : ℕ)
      (at_is : at ≡ slice_index_or places.streams.items found.node 0) (lent mids : List PortView) (lent_is : lent ≡ now.ports)
      (other : Core) (other_same : other ≡ core_of engine) (ended : Result (Unit {0}) Failed)
      (ends : ForNameAt at lent (λ old_name. Ends never [] (finish_of old_name (slice_get other.nodes found.node)) [] lent mids ended)) where
    its_ends : Ends never [] (finish_of (b.port found.node) (slice_get call.core.nodes found.node)) [] now.ports mids ended
    its_ends =
        let here : place_of (b.port found.node) (names now.ports) ≡ Some at =
        old_place call limit number name port later begins engine commands places now b stands found.node found.to (found_as (Some found) is finds) ∙ ap (λ k. Some k) (sym at_is) in
        subst (λ (c : Core). Ends never [] (finish_of (b.port found.node) (slice_get c.nodes found.node)) [] now.ports mids ended) (other_same ∙ stands.rests.is_core)
        (subst (λ (vs : List PortView). ForNameAt at vs (λ old_name. Ends never [] (finish_of old_name (slice_get other.nodes found.node)) [] vs mids ended)) lent_is ends
        (b.port found.node) here)

    pub exchange_failed : (failed : Failed) → ended ≡ Err failed → EndsCall call (hands_with now mids) Fault
    exchange_failed failed equal = not_finished call limit number name port later begins engine commands places now b stands found.node found.to (found_as (Some found) is finds) mids
        (subst (λ how. Ends never [] (finish_of (b.port found.node) (slice_get call.core.nodes found.node)) [] now.ports mids how) equal its_ends)

    pub exchange_made : (new : Hands) (after : Engine) (moved : Places) (left : List PortView) → left ≡ mids → ended ≡ Ok tt → Leaves at (hands_with now left) new
        → span_of after ≡ span_of engine → state_of after ≡ state_of engine → ArePeaksKept engine after → IsRebound (core_of engine) engine after found.node
        → moved.source ≡ place_without (slice_index_or places.streams.items found.node 0) places.source
        → moved.std_in ≡ place_without (slice_index_or places.streams.items found.node 0) places.std_in
        → moved.std_out ≡ place_without (slice_index_or places.streams.items found.node 0) places.std_out
        → moved.streams.items ≡ map (place_without (slice_index_or places.streams.items found.node 0)) (slice_set places.streams.items found.node found.to)
        → GoesOn call limit (left_later later) after commands moved new
    exchange_made new after moved left left_is equal leaves span state kept bound at_source at_std_in at_std_out at_streams =
        exchange_ends call limit number name port later begins engine commands places now b stands found (found_as (Some found) is finds) mids new after moved
        (subst (λ how. Ends never [] (finish_of (b.port found.node) (slice_get call.core.nodes found.node)) [] now.ports mids how) equal its_ends)
        (subst (λ k. Leaves k (hands_with now mids) new) at_is (subst (λ (vs : List PortView). Leaves at (hands_with now vs) new) left_is leaves)) bound.same_core span state kept
        (subst (λ (c : Core). IsRebound c engine after found.node) stands.rests.is_core bound) at_source at_std_in at_std_out at_streams
