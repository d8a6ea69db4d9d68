-- The fill of one node's stream for a step.
use Rattle.std.proofs.Common.{◌≡◌, ℕ, ◌+◌, ◌<◌, ◌≤◌, List, [], ◌∷◌, length, map, refl, ap, sym, ◌∙◌, subst, arith, Option, None, Some, Result, Ok, Err}
use Rattle.std.specs.Prelude.{slice_get, slice_index_or}
use Rattle.std.proofs.lemmas.List.{length-map}
use Rattle.hume_model.specs.declared.core_tree.NodeC.TheVariants.{From}
use Rattle.hume_model.specs.declared.core_tree.StreamC.{StreamC}
use Rattle.hume_model.specs.declared.core_tree.Core.{Core}
use Rattle.hume_net.specs.Nodes.{IsInputStream}
use Rattle.hume_ports.specs.declared.port.Failed.{Failed}
use Rattle.hume_ports.specs.Port.{PortView}
use Rattle.hume_ports.specs.Ports.{names, place_of, ForNameAt, Untouched}
use Rattle.hume_ports.specs.Delivery.{Roomy}
use Rattle.hume_calls.proofs.FitPorts.{found_place}
use Rattle.hume_streams.specs.declared.queue.FillError.{FillError}
use Rattle.hume_streams.specs.declared.queue.FillError.TheVariants.{BadValue as BadLineRead, Failed as ReadFailed}
use Rattle.phase_workers.specs.Engines.{EngineView as Engine}
use Rattle.phase_workers.specs.Engines.{core_of, span_of, ArePeaksKept}
use Rattle.phase_workers.specs.NodeFills.{FillsNode}
use Rattle.run_rounds.proofs.FillingInputs.{stream_there}
use Rattle.hume_console.specs.declared.ending.Ending.TheVariants.{Fault}
use Rattle.hume_console.specs.inner.Standing.{EndsCall}
use Rattle.hume_console.specs.inner.Stepping.{EndsNode, IsBlockedAt, IsFilling, StandsFilling, Step, hands_in, left_step}
use Rattle.hume_console.proofs.Standings.{own_placed}
use Rattle.hume_console.proofs.StepEnds.{fill_blocked, fill_failed}
use Rattle.hume_console.proofs.StepFilling.{filling_next, filling_other, read_now}

-- a place of what is seen of ports is one of the ports
pub within_seen : {X : Type 0} (view : X → PortView) (ports : List X) (at : ℕ) → at < length (map view ports) → at < length ports
within_seen view ports at within = subst (λ count. at < count) (length-map ports view) within

module _ (step : Step) (places : List ℕ) (n at want : ℕ) (old : Engine) (mids : List PortView) (at_is : slice_index_or places n 0 ≡ at)
    (it : IsFilling step n want places old mids) where
  in_core : IsInputStream (core_of old) n → (stream : StreamC) × (slice_get step.call.core.nodes n ≡ Some (From stream))
  in_core input = stream_there step.call.core n (subst (λ (c : Core). IsInputStream c n) it.stands.same_core input)

  -- the port of the node's stream stands at the place
  named : (stream : StreamC) → slice_get step.call.core.nodes n ≡ Some (From stream) → place_of (step.bindings.port n) (names mids) ≡ Some at
  named stream is =
      let place = own_placed step.call step.limit (left_step step.call step.steps step.later) step.engine step.commands step.places step.before step.bindings
      it.stands.begun.stands in
      ap (place_of (step.bindings.port n)) it.stands.made.progress.same_names ∙ place.streams n (From stream) stream is refl
      ∙ ap (λ k. Some k) (ap (λ (ps : List ℕ). slice_index_or ps n 0) it.are_places ∙ at_is)

  pub node_within : IsInputStream (core_of old) n → at < length mids
  node_within input =
      let s = in_core input in
      subst (λ count. at < count) (length-map mids (λ (port : PortView). port.name)) (found_place (step.bindings.port n) (names mids) at (named s.0 s.1)).place.within

  pub other_node : (IsInputStream (core_of old) n → ⊥) → StandsFilling step (n + 1) old mids
  other_node other = filling_other step n old mids (λ input. other (subst (λ (c : Core). IsInputStream c n) (sym it.stands.same_core) input)) it.stands

  module _ (input : IsInputStream (core_of old) n) (new : Engine) (news : List PortView) (same_core : core_of new ≡ core_of old) (same_span : span_of new ≡ span_of old)
      (kept : ArePeaksKept old new) (same : names news ≡ names mids) (untouched : ForNameAt at mids (λ name. Untouched (name ∷ []) mids news))
      (result : Result (Unit {0}) FillError) (fills : ForNameAt at mids (λ name. FillsNode want old new n name mids news result)) where
    stream : StreamC
    stream = (in_core input).0

    is : slice_get step.call.core.nodes n ≡ Some (From stream)
    unfolding stream
    is = (in_core input).1

    fill_as : (other : Result (Unit {0}) FillError) → result ≡ other → FillsNode step.steps old new n (step.bindings.port n) mids news other
    fill_as other equal = subst (λ w. FillsNode w old new n (step.bindings.port n) mids news other) (sym it.is_steps)
        (subst (FillsNode want old new n (step.bindings.port n) mids news) equal (fills (step.bindings.port n) (named stream is)))

    alone : Untouched (step.bindings.port n ∷ []) mids news
    alone = untouched (step.bindings.port n) (named stream is)

    pub node_filled : result ≡ Ok tt → StandsFilling step (n + 1) new news
    node_filled equal =
        let fill = fill_as (Ok tt) equal in
        filling_next step n old new mids news stream is it.stands (Ok tt) fill same_core same fill.reads alone same_span kept fill.ends

    pub node_blocked : (line : ℕ) → result ≡ Err (BadLineRead line) → IsBlockedAt step n line new news
    node_blocked line equal =
        let fill = fill_as (Err (BadLineRead line)) equal in
        fill_blocked step n old new mids news stream is it.stands (Err (BadLineRead line)) fill same_core same fill.reads alone same_span kept line fill.ends.1 fill.ends.0

    pub node_failed : result ≡ Err ReadFailed → (Roomy mids [] → ⊥) → EndsCall step.call (hands_in step news) Fault
    node_failed equal no_room =
        let fill = fill_as (Err ReadFailed) equal in
        fill_failed step n old new mids news stream is it.stands (Err ReadFailed) fill same_core (same ∙ it.stands.made.progress.same_names)
        (read_now step n old new mids news stream is it.stands (Err ReadFailed) fill same_core same fill.reads.drawn) fill.ends.whole fill.ends.few fill.reads no_room alone

-- The streams of nodes below the count are filled, for each step that is to be made.
pub record Filling (want : ℕ) (places : List ℕ) (before ports : List PortView) (first engine : Engine) (count : ℕ) : Type 0 where
  pub is_core : core_of engine ≡ core_of first
  pub same_names : names ports ≡ names before
  pub most : count ≤ length places
  pub stands : (step : Step) → IsFilling step 0 want places first before → IsFilling step count want places engine ports

pub filling_begun : (want : ℕ) (places : List ℕ) (ports : List PortView) (engine : Engine) → Filling want places ports ports engine engine 0
filling_begun want places ports engine = record { is_core = refl; same_names = refl; most = omega arith; stands = λ step it. it }

pub filling_on : (want : ℕ) (places : List ℕ) (before mids news : List PortView) (first engine new : Engine) (count : ℕ)
    → Filling want places before mids first engine count → count < length places → core_of new ≡ core_of engine → names news ≡ names mids
    → ((step : Step) (others : List ℕ) → slice_index_or others count 0 ≡ slice_index_or places count 0 → IsFilling step count want others engine mids
    → StandsFilling step (count + 1) new news)
    → Filling want places before news first new (count + 1)
filling_on want places before mids news first engine new count it less same named next = record {
  is_core = same ∙ it.is_core;
  same_names = named ∙ it.same_names;
  most = omega (arith, less);
  stands = λ step begun. (let now = it.stands step begun in
      record { is_steps = now.is_steps; are_places = now.are_places; stands = next step places refl now });
}

-- all nodes were filled
pub all_filled : (want : ℕ) (places : List ℕ) (before mids : List PortView) (first engine : Engine) (count : ℕ) → Filling want places before mids first engine count
    → length places ≤ count → (step : Step) → IsFilling step 0 want places first before → IsFilling step (length step.call.core.nodes) want places engine mids
all_filled want places before mids first engine count it past step begun =
    let now = it.stands step begun in
    let place = own_placed step.call step.limit (left_step step.call step.steps step.later) step.engine step.commands step.places step.before step.bindings
    now.stands.begun.stands in
    let long : length places ≡ length step.call.core.nodes = ap length (sym now.are_places) ∙ place.count in
    let most = it.most in
    let all : count ≡ length step.call.core.nodes = omega (arith, past, most, long) in
    subst (λ k. IsFilling step k want places engine mids) all now

-- a node of a step is one of the core's
pub node_there : (want : ℕ) (places : List ℕ) (before mids : List PortView) (first engine : Engine) (count : ℕ) → Filling want places before mids first engine count
    → count < length places → (step : Step) → IsFilling step 0 want places first before → count < length (core_of engine).nodes
node_there want places before mids first engine count it less step begun =
    let now = it.stands step begun in
    let place = own_placed step.call step.limit (left_step step.call step.steps step.later) step.engine step.commands step.places step.before step.bindings
    now.stands.begun.stands in
    let long : length places ≡ length step.call.core.nodes = ap length (sym now.are_places) ∙ place.count in
    let same = ap (λ (c : Core). length c.nodes) now.stands.same_core in
    omega (arith, less, long, same)

-- how the fill of the next node ends, from any step that is to be made
abbrev pub NodeEnds : ℕ → List ℕ → List PortView → List PortView → Engine → Engine → ℕ → Result (Option ℕ) Failed → Type 0
NodeEnds want places mids news engine new count result = (step : Step) (others : List ℕ) → slice_index_or others count 0 ≡ slice_index_or places count 0
    → IsFilling step count want others engine mids → EndsNode step count new news result

module _ (want : ℕ) (places : List ℕ) (before mids news : List PortView) (first engine new : Engine) (count : ℕ)
    (it : Filling want places before mids first engine count) (result : Result (Option ℕ) Failed) (ends : NodeEnds want places mids news engine new count result) where
  pub node_next : result ≡ Ok None → count < length places → core_of new ≡ core_of engine → names news ≡ names mids → Filling want places before news first new (count + 1)
  node_next is less same named = filling_on want places before mids news first engine new count it less same named
      (λ step others at filling. subst (EndsNode step count new news) is (ends step others at filling))

  module _ (step : Step) (begun : IsFilling step 0 want places first before) where
    pub filling_blocked : (line : ℕ) → result ≡ Ok (Some line) → IsBlockedAt step count line new news
    filling_blocked line is = subst (EndsNode step count new news) is (ends step places refl (it.stands step begun))

    pub filling_failed : (failed : Failed) → result ≡ Err failed → EndsCall step.call (hands_in step news) Fault
    filling_failed failed is = subst (EndsNode step count new news) is (ends step places refl (it.stands step begun))
