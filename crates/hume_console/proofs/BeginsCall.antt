-- How a prepared source becomes a call, and how that ends.
use Rattle.std.proofs.Common.{◌≡◌, ℕ, Bool, true, false, ◌||◌, List, [], ◌∷◌, ◌++◌, length, map, take, drop, get_or, refl, ap, sym, ◌∙◌, subst, inl, inr, arith, Option, None, Some, IfSome, if◌then◌else◌}
use Rattle.std.specs.Prelude.{slice_get, slice_index_or}
use Rattle.std.specs.Option.{is_none}
use Rattle.std.specs.Str.{bytes_eq}
use Rattle.std.proofs.lemmas.Bool.{or_parts, true≢false}
use Rattle.std.proofs.lemmas.Option.{slice_get-get_or, slice_get_within}
use Rattle.hume_model.specs.declared.core_tree.NodeC.{NodeC}
use Rattle.hume_model.specs.declared.core_tree.NodeC.TheVariants.{From}
use Rattle.hume_model.specs.declared.core_tree.StreamC.{StreamC}
use Rattle.hume_model.specs.declared.core_tree.Core.{Core}
use Rattle.hume_model.specs.WellFormed.{HasSoundFrame}
use Rattle.hume_base.specs.Least.{IsLeast}
use Rattle.box_costs.specs.CostRules.{BreaksCosts}
use Rattle.space_costs.specs.NodeCosts.{AreCosts}
use Rattle.hume_net.specs.rounds.Pieces.{listed}
use Rattle.hume_ports.specs.Port.{PortView}
use Rattle.hume_ports.specs.Ports.{is_among, names, place_of}
use Rattle.hume_ports.proofs.Names.{bytes_eq-self}
use Rattle.port_acts.specs.Places.{IsPlaceOf}
use Rattle.hume_front.specs.declared.acceptance.Accepted.{Accepted}
use Rattle.hume_front.specs.Accepted.{IsAccepted}
use Rattle.hume_front.proofs.Sources.{formed, handled, one_accepted_core, within}
use Rattle.phase_workers.specs.Runnable.{IsRunnable}
use Rattle.run_rounds.specs.Inputs.{AreInputs, ComesTo, Inputs}
use Rattle.run_rounds.specs.Streams.{std_out, stream_of, streams}
use Rattle.hume_calls.specs.Streams.{is_unfit, unfit_line}
use Rattle.hume_calls.proofs.Runnable.{runnable}
use Rattle.hume_calls.proofs.Wanting.{stream_apart}
use Rattle.hume_console.specs.declared.ending.Ending.{Ending}
use Rattle.hume_console.specs.declared.ending.Ending.TheVariants.{NoMemory, Usage}
use Rattle.hume_console.specs.declared.places.Places.{Places}
use Rattle.hume_console.specs.declared.words.Opening.{Opening}
use Rattle.hume_console.specs.declared.preparing.Ready.{Ready}
use Rattle.hume_console.specs.Words.{std_in, is_standard, opening_of, opening_on, workers_of}
use Rattle.hume_console.specs.Hands.{Hands}
use Rattle.hume_console.specs.Headline.{Headline, session_course, source_in}
use Rattle.hume_console.specs.Session.{AreSupplies, Offer, Supplies, declared_port, first_session, names_of, port_of_node}
use Rattle.hume_console.specs.inner.Begun.{EndsAnswered, EndsStarted, HasBegun}
use Rattle.hume_console.specs.declared.opening.Opened.{Opened}
use Rattle.hume_console.specs.inner.Opening.{IsOpen, IsOpenable}
use Rattle.hume_console.specs.inner.Placed.{ArePlaced}
use Rattle.hume_console.specs.inner.Prepared.{IsPrepared}
use Rattle.hume_console.specs.inner.Standing.{Call, IsServing}
use Rattle.hume_console.proofs.Lent.{lent_back}
use Rattle.hume_console.proofs.Prepared.{untold}

pub openable : (text : List ℕ) (accepted : Accepted) → IsAccepted text accepted → IsOpenable accepted
openable text accepted h = record {
  runnable = runnable text accepted h;
  handles = handled text accepted h;
  wiring = h.wiring;
  frame = (formed text accepted h).frame;
  costs = h.costs;
  within = within text accepted h;
}

-- From all texts something comes to a core.
abbrev pub SomeInputs : Type 0
SomeInputs = (core : Core) → IsRunnable core → (texts : List ℕ → List ℕ) → (inputs : Inputs) × AreInputs core texts inputs

module _ (some : SomeInputs) (core : Core) (runs : IsRunnable core) where
  -- what a text brings to the node of a number
  abbrev pub brought : Supplies
  brought n text = let inputs = some core runs (λ name. text) in record { good = listed inputs.0.good n; bad = inputs.0.bad n }

  pub are_supplies : AreSupplies core brought
  are_supplies n stream text there =
      let inputs = some core runs (λ name. text) in
      subst (λ (found : Option NodeC). ComesTo core (λ name. text) n found (listed inputs.0.good n) (inputs.0.bad n)) there (inputs.1.each n)

-- a source has no standard name
pub source_apart : (source : List ℕ) → is_standard source ≡ false → source ≡ std_in → ⊥
source_apart source own same =
    true≢false (sym (ap (λ name. bytes_eq name std_in) same ∙ bytes_eq-self std_in) ∙ (or_parts (bytes_eq source std_in) (bytes_eq source std_out) own).0)

meant : (name : List ℕ) (ns : List (List ℕ)) (at : ℕ) → IsPlaceOf name ns at → place_of name ns ≡ Some at
meant name ns at p = let P : List ℕ → Type 0 = λ n. place_of n ns ≡ Some at in subst P p.named p.place.first

twice : (a b : Bool) → (a || (a || b)) ≡ (a || b)
twice true b = refl
twice false b = refl

module _ (names : List (List ℕ)) (source : List ℕ) where
  -- no stream may have the source's port anyway
  with_source : (streams : List StreamC) (earlier : List (List ℕ)) → unfit_line names source (source ∷ earlier) streams ≡ unfit_line names source earlier streams
  with_source [] earlier = refl
  with_source (stream ∷ later) earlier =
      ap (λ b. if (is_none (place_of stream.port names) || b) then Some stream.line else unfit_line names source (source ∷ (earlier ++ stream.port ∷ [])) later)
      (twice (bytes_eq stream.port source) (is_among stream.port earlier))
      ∙ ap (λ (rest : Option ℕ). if is_unfit names source earlier stream.port then Some stream.line else rest) (with_source later (earlier ++ stream.port ∷ []))

-- the port of a stream
port_at : (core : Core) (n : ℕ) (node : NodeC) (stream : StreamC) → slice_get core.nodes n ≡ Some node → stream_of node ≡ Some stream
    → port_of_node (slice_get core.nodes n) ≡ stream.port
port_at core n node stream there of = ap port_of_node there ∙ ap declared_port of

module _ (source : List ℕ) (own : is_standard source ≡ false) (first now : List PortView) (ready : Ready) (is : IsPrepared source first now ready) (some : SomeInputs)
    (gone : List PortView) where
  abbrev pub core : Core
  core = ready.accepted.core

  abbrev pub runs : IsRunnable core
  runs = runnable is.text ready.accepted is.accepted

  abbrev pub call_of : Call
  call_of = record { core = core; supplies = brought some core runs; source = source; text = is.text; first = record { ports = first; gone = gone } }

  serving : IsServing call_of
  serving = record {
    apart = source_apart source own;
    runnable = runs;
    supplies = are_supplies some core runs;
    one = λ other h. one_accepted_core is.text other ready.accepted h is.accepted;
  }

  apart_from_own : (n : ℕ) (node : NodeC) (stream : StreamC) → slice_get core.nodes n ≡ Some node → stream_of node ≡ Some stream
      → is_among stream.port (source ∷ std_in ∷ []) ≡ false
  apart_from_own n node stream there of =
      stream_apart (names first) source core.nodes (source ∷ std_in ∷ []) (with_source (names first) source (streams core) (std_in ∷ []) ∙ is.fit) n node stream there of

  -- no stream has the source's port or that of the commands
  not_own : (n : ℕ) (node : NodeC) (stream : StreamC) → slice_get core.nodes n ≡ Some node → stream_of node ≡ Some stream → stream.port ≡ std_in → ⊥
  not_own n node stream there of same =
      let parts = or_parts (bytes_eq stream.port source) (is_among stream.port (std_in ∷ [])) (apart_from_own n node stream there of) in
      true≢false (sym (ap (λ name. bytes_eq name std_in) same ∙ bytes_eq-self std_in) ∙ (or_parts (bytes_eq stream.port std_in) false parts.1).0)

  not_source : (n : ℕ) (node : NodeC) (stream : StreamC) → slice_get core.nodes n ≡ Some node → stream_of node ≡ Some stream → stream.port ≡ source → ⊥
  not_source n node stream there of same =
      let parts = or_parts (bytes_eq stream.port source) (is_among stream.port (std_in ∷ [])) (apart_from_own n node stream there of) in
      true≢false (sym (ap (λ name. bytes_eq name source) same ∙ bytes_eq-self source) ∙ parts.0)

  stream_place : (n : ℕ) (node : NodeC) (stream : StreamC) → slice_get core.nodes n ≡ Some node → stream_of node ≡ Some stream
      → place_of (port_of_node (slice_get core.nodes n)) (names first) ≡ Some (slice_index_or ready.places.streams.items n 0)
  stream_place n node stream there of =
      let count = is.streams.count in
      let less = slice_get_within core.nodes n node there in
      let at : slice_get ready.places.streams.items n ≡ Some (get_or ready.places.streams.items n 0) =
      slice_get-get_or ready.places.streams.items n 0 (omega (arith, count, less)) in
      ap (λ name. place_of name (names first)) (port_at core n node stream there of)
      ∙ meant stream.port (names first) (get_or ready.places.streams.items n 0) (is.streams.each n (get_or ready.places.streams.items n 0) node stream there of at)

  placed : (offers : List Offer) → names_of offers ≡ names now → ArePlaced core source (first_session core offers) (names now) ready.places
  placed offers named =
      let same : names now ≡ names first = is.read.made.progress.same_names in
      record {
        same_names = named;
        count = is.streams.count;
        at_source = ap (place_of source) same ∙ is.at_source;
        at_std_in = ap (place_of std_in) same ∙ is.at_std_in;
        at_std_out = ap (place_of std_out) same ∙ is.at_std_out;
        streams = λ n node stream there of. ap (place_of (port_of_node (slice_get core.nodes n))) same ∙ stream_place n node stream there of;
        free = λ n node stream there of. (
          (λ e. not_source n node stream there of (sym (port_at core n node stream there of) ∙ e)),
          (λ e. not_own n node stream there of (sym (port_at core n node stream there of) ∙ e)),
        );
        apart = λ n m node other one two there elsewhere of of' e. is.apart n m node other one two there elsewhere of of'
            (sym (port_at core n node one there of) ∙ e ∙ port_at core m other two elsewhere of');
      }

  pub begun : HasBegun call_of ready.places (record { ports = now; gone = gone })
  begun = record {
    serving = serving;
    taken = (source, is.text) ∷ [];
    made = is.read.made;
    stay = refl;
    placed = placed;
    free = λ n stream there e. not_source n (From stream) stream there refl (sym (port_at core n (From stream) stream there refl) ∙ e);
  }

  -- how the call ends that began so
  pub ends_from : (new : Hands) (ending : Ending) → EndsStarted call_of (record { ports = now; gone = gone }) new ending
      → EndsAnswered source (record { ports = first; gone = gone }) new ending
  ends_from new ending (inl (out, same)) =
      subst (λ (e : Ending). EndsAnswered source (record { ports = first; gone = gone }) new e) (sym out)
      (subst (λ (hands : Hands). EndsAnswered source (record { ports = first; gone = gone }) hands NoMemory) (sym same)
      (untold source is.text first now is.read gone))
  ends_from new ending (inr ends) = inr (record {
    text = is.text;
    told = is.read.told;
    offers = ends.offers;
    offers_told = ends.told;
    course = session_course core (brought some core runs) source ends.offers;
    owes = inr (ready.accepted, is.accepted, is.fit, brought some core runs, are_supplies some core runs, refl);
    ends = ends.ends;
  })

-- the memory of a session is taken

-- what is asked where its course begins
pub serves : (accepted : Accepted) (places : Places) (opened : Opened) (ports gone more : List PortView) → IsOpenable accepted
    → IsOpen accepted.core accepted.costs places opened → more ≡ gone
    → (call : Call) × (call.core ≡ accepted.core) × HasBegun call places (record { ports = ports; gone = gone })
    → (call : Call) × HasBegun call opened.session.places (record { ports = ports; gone = more })
    × IsOpen call.core opened.costs opened.session.places opened
    × HasSoundFrame call.core × AreCosts call.core opened.costs × IsLeast (BreaksCosts call.core) None
serves accepted places opened ports gone more can is same (call, core, begun) = (
  call,
  subst (λ (at : Places). HasBegun call at (record { ports = ports; gone = more })) (sym is.places)
      (subst (λ (left : List PortView). HasBegun call places (record { ports = ports; gone = left })) (sym same) begun),
  subst (λ (c : Core). IsOpen c opened.costs opened.session.places opened) (sym core) (record {
    fresh = is.fresh;
    costs = refl;
    places = refl;
    unread = is.unread;
    going = is.going;
    roomy = is.roomy;
  }),
  subst HasSoundFrame (sym core) can.frame,
  subst (λ (c : Core). AreCosts c opened.costs) (sym core) (subst (AreCosts accepted.core) (sym is.costs) can.costs),
  subst (λ (c : Core). IsLeast (BreaksCosts c) None) (sym core) can.within,
)

-- ports that were lent come back

pub prepared_back : {X : Type 0} (view : X → PortView) (items lent news : List X) (len : ℕ) (source copy : List ℕ) (ready : Ready) → length lent ≡ len → lent ≡ items
    → names (map view news) ≡ names (map view lent) → copy ≡ source → IsPrepared copy (map view lent) (map view news) ready
    → IsPrepared source (map view items) (map view (take len (news ++ drop (length news) items))) ready
prepared_back view items lent news len source copy ready long is same named prepared =
    subst (λ (ports : List PortView). IsPrepared source (map view items) ports ready) (sym (lent_back view items lent news len long is same))
    (subst (λ xs. IsPrepared source (map view xs) (map view news) ready) is
    (subst (λ (name : List ℕ). IsPrepared name (map view lent) (map view news) ready) named prepared))

pub ended_lent : {X : Type 0} (view : X → PortView) (items lent news : List X) (len : ℕ) (source copy : List ℕ) (gone : List PortView) (ending : Ending) → length lent ≡ len → lent ≡ items
    → names (map view news) ≡ names (map view lent) → copy ≡ source
    → EndsAnswered copy (record { ports = map view lent; gone = gone }) (record { ports = map view news; gone = gone }) ending
    → EndsAnswered source (record { ports = map view items; gone = gone }) (record { ports = map view (take len (news ++ drop (length news) items)); gone = gone }) ending
ended_lent view items lent news len source copy gone ending long is same named ends =
    subst (λ (ports : List PortView). EndsAnswered source (record { ports = map view items; gone = gone }) (record { ports = ports; gone = gone }) ending)
    (sym (lent_back view items lent news len long is same))
    (subst (λ xs. EndsAnswered source (record { ports = map view xs; gone = gone }) (record { ports = map view news; gone = gone }) ending) is
    (subst (λ (name : List ℕ). EndsAnswered name (record { ports = map view lent; gone = gone }) (record { ports = map view news; gone = gone }) ending) named ends))

-- the words of a call

opened_by : (source : List ℕ) (asked : Option ℕ) (opening : Opening) → (if is_standard source then None else opening_on asked) ≡ Some opening
    → (is_standard source ≡ false) × (opening.source ≡ 1)
opened_by source asked opening is = by (is_standard source) refl is
  where
    asked_for : (asked : Option ℕ) → opening_on asked ≡ Some opening → opening.source ≡ 1
    asked_for None e = let no : ◌≡◌ {A = Option Opening} None (Some opening) = e in cc
    asked_for (Some workers) e =
        let same : ◌≡◌ {A = Opening} (record { workers = workers; source = 1 }) opening = some_same e in sym (ap (λ (o : Opening). o.source) same)
      where
        some_same : {X : Type 0} {a b : X} → ◌≡◌ {A = Option X} (Some a) (Some b) → a ≡ b
        some_same e = cc

    by : (standard : Bool) → is_standard source ≡ standard → (if standard then None else opening_on asked) ≡ Some opening
        → (is_standard source ≡ false) × (opening.source ≡ 1)
    by true same e = let no : ◌≡◌ {A = Option Opening} None (Some opening) = e in cc
    by false same e = (same, asked_for asked e)

-- the source has no standard name
pub source_own : (words : List (List ℕ)) (opening : Opening) → opening_of words ≡ Some opening → is_standard (source_in words opening) ≡ false
source_own [] opening is = cc
source_own (workers ∷ []) opening is = cc
source_own (workers ∷ source ∷ ports) opening is =
    let o = opened_by source (workers_of workers) opening is in
    ap (λ n. is_standard (slice_index_or (workers ∷ source ∷ ports) n [])) o.1 ∙ o.0

pub headline : (words : List (List ℕ)) (opening : Opening) (name : List ℕ) (old new : Hands) (ending : Ending) → opening_of words ≡ Some opening
    → name ≡ source_in words opening → EndsAnswered name old new ending → Headline words old new ending
headline words opening name old new ending is named ends =
    subst (λ (found : Option Opening). IfSome found (λ o. (ending ≡ Usage → ⊥) → EndsAnswered (source_in words o) old new ending)) (sym is)
    (λ other. subst (λ (n : List ℕ). EndsAnswered n old new ending) named ends)

-- the word that names the source
pub source_word : {A : Type 0} (f : A → List ℕ) (words : List A) (opening : Opening) (item : A) (text : List ℕ) → opening_of (map f words) ≡ Some opening
    → item ≡ get_or words opening.source item → text ≡ f item → text ≡ source_in (map f words) opening
source_word f [] opening item text is at named = cc
source_word f (workers ∷ []) opening item text is at named = cc
source_word f (workers ∷ source ∷ ports) opening item text is at named =
    let o = opened_by (f source) (workers_of (f workers)) opening is in
    let there : item ≡ source = at ∙ ap (λ n. get_or (workers ∷ source ∷ ports) n item) o.1 in
    named ∙ ap f there ∙ sym (ap (λ n. slice_index_or (map f (workers ∷ source ∷ ports)) n []) o.1)
