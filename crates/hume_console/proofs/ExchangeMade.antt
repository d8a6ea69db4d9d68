-- An exchange is made, or can't be, or fails.
use Rattle.std.proofs.Common.{◌≡◌, ◌⊎◌, ℕ, ◌≤◌, false, if◌then◌else◌, List, [], ◌∷◌, ◌++◌, refl, ap, sym, ◌∙◌, subst, inl, inr, append-nil, Option, None, Some, arith}
use Rattle.std.specs.Prelude.{◌==◌, slice_get, slice_index_or, slice_set, map}
use Rattle.std.specs.List.{remove}
use Rattle.std.proofs.lemmas.Bool.{eq-eqb, ne_eqb}
use Rattle.hume_model.specs.declared.core_tree.NodeC.{NodeC}
use Rattle.hume_model.specs.declared.core_tree.NodeC.TheVariants.{Rules, From, To}
use Rattle.hume_model.specs.declared.core_tree.StreamC.{StreamC}
use Rattle.hume_model.specs.declared.core_tree.Core.{Core}
use Rattle.hume_net.specs.declared.state.State.{State}
use Rattle.hume_net.specs.Parts.{IsStateOf}
use Rattle.hume_ports.specs.Port.{PortView}
use Rattle.hume_ports.specs.Ports.{names, place_of}
use Rattle.hume_ports.specs.Delivery.{Pairs, without}
use Rattle.port_acts.specs.Acts.{Act, finishes}
use Rattle.port_acts.specs.Ends.{Fails, Made, never}
use Rattle.port_acts.proofs.Making.{Made-start}
use Rattle.phase_workers.specs.Engines.{EngineView as Engine}
use Rattle.phase_workers.specs.Engines.{core_of, span_of, state_of, ArePeaksKept}
use Rattle.hume_console.specs.declared.ending.Ending.{Ending}
use Rattle.hume_console.specs.declared.ending.Ending.TheVariants.{Fault}
use Rattle.hume_console.specs.declared.finding.Exchange.{Exchange}
use Rattle.hume_console.specs.declared.places.Places.{Places}
use Rattle.hume_console.specs.Words.{std_in}
use Rattle.hume_console.specs.Commands.{no_exchange_line}
use Rattle.hume_console.specs.Courses.{Course, first_do, leaves, EndsCourse, Goes}
use Rattle.hume_console.specs.inner.Bounds.{bound_of}
use Rattle.hume_console.specs.Hands.{Hands, Leaves, place_without}
use Rattle.hume_console.specs.Headline.{session_few}
use Rattle.hume_console.specs.Serving.{exchange_acts, exchange_course, tells}
use Rattle.hume_console.specs.Session.{Session, Offer, exchanged, may_exchange, names_of, place_at, stream_named}
use Rattle.hume_console.specs.inner.Exchanging.{IsRebound, finish_of, left_exchange, left_later, left_refusal}
use Rattle.hume_console.specs.inner.Placed.{ArePlaced, IsExchange}
use Rattle.hume_console.specs.inner.Standing.{BeginsAsItIs, Bindings, Call, Commands, EndsCall, AreRead, GoesOn, Later, MayHave, Stands, session_of}
use Rattle.hume_console.proofs.CourseSteps.{bound_first}
use Rattle.hume_console.proofs.Exchanged.{IsFree, at_place, is_free, placed_now}
use Rattle.hume_console.proofs.Exchanges.{HasStream, stream_there}
use Rattle.hume_console.proofs.AfterExchange.{exchanged_before, exchanged_bindings, exchanged_read, exchanged_session, first_there, its_offer, names_removed}
use Rattle.hume_console.proofs.Offers.{offers_named, put_at}
use Rattle.hume_console.proofs.PortsLeft.{others_kept}
use Rattle.hume_console.proofs.ReadOn.{same_or_other}
use Rattle.hume_console.proofs.Standings.{hands_with, own_offers, own_placed, placed_as, unwritten, written}

-- the same is left to do
pub relabelled : (call : Call) (limit : ℕ) (whole left : Session → List ℕ → Course) (engine : Engine) (commands : Commands) (places : Places) (now : Hands) (b : Bindings)
    → Stands call limit whole engine commands places now b
    → ((offers : List Offer) (rest : List ℕ) → names_of offers ≡ names now.ports → whole (session_of engine b offers) rest ≡ left (session_of engine b offers) rest)
    → ((session : Session) (rest : List ℕ) → bound_of (left session rest) ≡ session.port) → Stands call limit left engine commands places now b
relabelled call limit whole left engine commands places now b stands same bounds = record {
  serving = stands.serving;
  rests = stands.rests;
  read = stands.read;
  are = stands.are;
  placed = stands.placed;
  few = stands.few;
  bounds = bounds;
  goes_on = λ offers rest may new ending ends.
      let named : names_of offers ≡ names now.ports = offers_named b.firsts offers may.told ∙ sym stands.read.same_names in
      stands.goes_on offers rest may new ending
      (subst (λ (course : Course). EndsCourse (session_few call.source call.text) b.taken course now new ending) (sym (same offers rest named)) ends);
}

acts_are : (session : Session) (n : ℕ) (name : List ℕ) → session.port n ≡ name → (node : Option NodeC) → exchange_acts session n node ≡ finish_of name node
acts_are session n name is None = refl
acts_are session n name is (Some (Rules b)) = refl
acts_are session n name is (Some (From stream)) = refl
acts_are session n name is (Some (To stream)) = ap (λ port. finishes port ∷ []) is

module _ (call : Call) (limit number : ℕ) (name port : List ℕ) (later : Later) (begins : BeginsAsItIs later) (engine : Engine) (commands : Commands)
    (places : Places) (now : Hands) (b : Bindings) (stands : Stands call limit (left_exchange call number name port later) engine commands places now b) where
  abbrev core : Core
  core = call.core

  abbrev Finds : Option Exchange → Type 0
  Finds found = (source : List ℕ) (session : Session) → ArePlaced core source session (names now.ports) places
      → IsExchange core source session (names now.ports) name port found

  refused_as : (session : Session) (rest : List ℕ) (found : Option ℕ) → ((n : ℕ) → found ≡ Some n → may_exchange core call.source session n port ≡ false)
      → exchange_course core call.source session number found port (later rest) ≡ first_do (tells (no_exchange_line number)) (later rest session)
  refused_as session rest None none = refl
  refused_as session rest (Some n) none = ap (λ may. if may
      then leaves session.port (exchange_acts session n (slice_get core.nodes n)) (place_at session n) (later rest (exchanged session n port))
      else first_do (tells (no_exchange_line number)) (later rest session)) (none n refl)

  -- there is no such exchange
  pub not_exchanged : Finds None → GoesOn call limit (left_refusal number later) engine commands places now
  not_exchanged none = record {
    bindings = b;
    stands = relabelled call limit (left_exchange call number name port later) (left_refusal number later) engine commands places now b stands
        (λ offers rest named. refused_as (session_of engine b offers) rest (stream_named core name)
        (none call.source (session_of engine b offers) (stands.placed offers named)))
        (λ session rest. bound_first (tells (no_exchange_line number)) (later rest session) ∙ begins rest session);
  }

  module _ (n to : ℕ) (finds : Finds (Some (record { node = n; to = to }))) where
    abbrev own : ArePlaced core call.source (session_of engine b (own_offers call limit (left_exchange call number name port later) engine commands places now b stands)) (names now.ports) places
    own = own_placed call limit (left_exchange call number name port later) engine commands places now b stands

    pub own_finds : IsExchange core call.source (session_of engine b (own_offers call limit (left_exchange call number name port later) engine commands places now b stands))
        (names now.ports) name port (Some (record { node = n; to = to }))
    own_finds = finds call.source _ own

    pub its : HasStream core n
    its = stream_there core name n own_finds.0

    pub old_place : place_of (b.port n) (names now.ports) ≡ Some (slice_index_or places.streams.items n 0)
    old_place = own.streams n its.item its.stream its.there its.is

    abbrev at : ℕ
    at = slice_index_or places.streams.items n 0

    pub free : IsFree core call.source (session_of engine b (own_offers call limit (left_exchange call number name port later) engine commands places now b stands)) n port
    free = is_free core call.source _ n port own_finds.1

    -- once its old port is finished, it leaves
    abbrev pub left_leaving : Session → List ℕ → Course
    left_leaving session rest = leaves session.port [] (place_at session n) (later rest (exchanged session n port))

    course_is : (offers : List Offer) (rest : List ℕ) → names_of offers ≡ names now.ports
        → left_exchange call number name port later (session_of engine b offers) rest
        ≡ leaves b.port (exchange_acts (session_of engine b offers) n (slice_get core.nodes n)) (place_at (session_of engine b offers) n)
        (later rest (exchanged (session_of engine b offers) n port))
    course_is offers rest named =
        let it = finds call.source (session_of engine b offers) (stands.placed offers named) in
        ap (λ found. exchange_course core call.source (session_of engine b offers) number found port (later rest)) it.0
        ∙ ap (λ may. if may
        then leaves b.port (exchange_acts (session_of engine b offers) n (slice_get core.nodes n)) (place_at (session_of engine b offers) n)
        (later rest (exchanged (session_of engine b offers) n port))
        else first_do (tells (no_exchange_line number)) (later rest (session_of engine b offers))) it.1

    module _ (news : List PortView) where
      abbrev acts : List Act
      acts = finish_of (b.port n) (slice_get core.nodes n)

      abbrev left_acts : Session → List ℕ → Course
      left_acts session rest = first_do acts (left_leaving session rest)

      with_acts : Stands call limit left_acts engine commands places now b
      with_acts = relabelled call limit (left_exchange call number name port later) left_acts engine commands places now b stands
          (λ offers rest named. course_is offers rest named
          ∙ ap (λ (all : List Act). leaves b.port all (place_at (session_of engine b offers) n) (later rest (exchanged (session_of engine b offers) n port)))
          (acts_are (session_of engine b offers) n (b.port n) refl (slice_get core.nodes n) ∙ sym (append-nil acts)))
          (λ session rest. refl)

      pub leaving : Made acts [] now.ports news → Stands call limit left_leaving engine commands places (hands_with now news) b
      leaving made = written call limit left_acts engine commands places now b with_acts acts news left_leaving (λ offers rest. refl) made (λ session rest. refl)

      pub not_finished : Fails never [] acts now.ports news → EndsCall call (hands_with now news) Fault
      not_finished fails = unwritten call limit left_acts engine commands places now b with_acts acts news left_leaving (λ offers rest. refl) fails

    -- the port has left
    module _ (mids : List PortView) (gone : Stands call limit left_leaving engine commands places (hands_with now mids) b) (new : Hands)
        (moved : Leaves at (hands_with now mids) new) (after : Engine) (same_core : core_of after ≡ core_of engine) (same_span : span_of after ≡ span_of engine)
        (same_state : state_of after ≡ state_of engine) (kept : ArePeaksKept engine after) (bound : IsRebound core engine after n) (moved_places : Places)
        (at_source : moved_places.source ≡ place_without at places.source) (at_std_in : moved_places.std_in ≡ place_without at places.std_in)
        (at_std_out : moved_places.std_out ≡ place_without at places.std_out)
        (at_streams : moved_places.streams.items ≡ map (place_without at) (slice_set places.streams.items n to)) where
      same_names : names mids ≡ names now.ports
      same_names = gone.read.same_names ∙ sym stands.read.same_names

      pub here : place_of (b.port n) (names mids) ≡ Some at
      here = ap (place_of (b.port n)) same_names ∙ old_place

      pub apart : (m : ℕ) (other : StreamC) → slice_get core.nodes m ≡ Some (From other) → b.port m ≡ b.port n → m ≡ n
      apart m other there same = own.apart m n (From other) its.item other its.stream there its.there refl its.is same

      pub no_in : b.port n ≡ std_in → ⊥
      no_in = (own.free n its.item its.stream its.there its.is).1

      pub no_stream : (m : ℕ) (other : StreamC) → slice_get core.nodes m ≡ Some (From other) → b.port m ≡ port → ⊥
      no_stream m other there same = free.no_stream m (From other) other there refl same

      pub old_new : b.port n ≡ port → ⊥
      old_new same = free.no_stream n its.item its.stream its.there its.is same

      abbrev now_bound : Bindings
      now_bound = exchanged_bindings core call.source engine after commands.ended mids b n port at gone.read apart no_in here free.no_source free.no_std_in no_stream old_new bound

      left_names : names new.ports ≡ remove (names now.ports) at
      left_names = ap names moved.others ∙ names_removed mids at ∙ ap (λ (ns : List (List ℕ)). remove ns at) same_names

      pub went : Stands call limit (left_later later) after commands moved_places new now_bound
      went = record {
        serving = stands.serving;
        rests = record {
          is_core = same_core ∙ stands.rests.is_core;
          is_span = same_span ∙ stands.rests.is_span;
          parts = subst (IsStateOf core) (sym same_state) stands.rests.parts;
          cleared = ap (λ (s : State). s.taken) same_state ∙ stands.rests.cleared;
          heap = λ m. kept.heap m ∙ stands.rests.heap m;
          stack = λ m. kept.stack m ∙ stands.rests.stack m;
        };
        read = subst (λ ports. AreRead core call.source after commands.ended ports now_bound) (sym moved.others)
            (exchanged_read core call.source engine after commands.ended mids b n port at gone.read apart no_in here free.no_source free.no_std_in no_stream old_new bound);
        are = others_kept std_in (b.port n) b.taken (λ same. no_in (sym same)) ∙ stands.are;
        placed = λ offers named. subst (λ ns. ArePlaced core call.source (session_of after now_bound offers) ns moved_places) (sym left_names)
            (placed_as core call.source (exchanged (session_of engine b (own_offers call limit (left_exchange call number name port later) engine commands places now b stands)) n port)
            (session_of after now_bound offers) (remove (names now.ports) at) moved_places refl (named ∙ left_names)
            (placed_now core call.source _ (names now.ports) places moved_places n to port its.item its.stream own its.there its.is free own_finds.2
            at_source at_std_in at_std_out at_streams));
        few = λ m. few_at m (same_or_other m n);
        bounds = λ session rest. begins rest session;
        goes_on = λ offers rest may last ending ends. went_on offers rest may last ending ends;
      }
        where
          few_at : (m : ℕ) → (m ≡ n) ⊎ (m ≡ n → ⊥) → (if m == n then 0 else b.brought m) ≤ limit
          few_at m (inl same) = (let none : (if m == n then 0 else b.brought m) ≡ 0 = ap (λ t. if t then 0 else b.brought m) (eq-eqb m n same) in omega (arith, none))
          few_at m (inr differ) =
              let all : (if m == n then 0 else b.brought m) ≡ b.brought m = ap (λ t. if t then 0 else b.brought m) (ne_eqb m n differ) in
              let few = stands.few m in
              omega (arith, all, few)

          went_on : (offers : List Offer) (rest : List ℕ) → MayHave core after commands.ended now_bound offers rest
              → (last : Hands) (ending : Ending)
              → EndsCourse (session_few call.source call.text) now_bound.taken (later rest (session_of after now_bound offers)) new last ending → EndsCall call last ending
          went_on offers rest may last ending ends =
              let all : List Offer = put_at at (its_offer core call.source engine after commands.ended mids b n port at gone.read apart no_in here free.no_source free.no_std_in no_stream old_new bound) offers in
              let may_before = exchanged_before core call.source engine after commands.ended mids b n port at gone.read apart no_in here free.no_source free.no_std_in
              no_stream old_new bound offers rest may in
              let named : names_of all ≡ names mids = offers_named b.firsts all may_before.told ∙ sym gone.read.same_names in
              let session : Session = session_of engine b all in
              let place : place_at session n ≡ at = at_place core call.source session (names mids) places places n to port its.item its.stream
              (gone.placed all named) its.there its.is (is_free core call.source session n port (finds call.source session (stands.placed all (named ∙ same_names))).1)
              (ap (place_of port) same_names ∙ own_finds.2) in
              let ports : (exchanged session n port).ports ≡ offers = exchanged_session core call.source engine after commands.ended mids b n port at gone.read apart no_in here
              free.no_source free.no_std_in no_stream old_new bound offers rest may session refl place in
              let same : exchanged session n port ≡ session_of after now_bound offers = λ i. record {
                net = sym same_state i;
                peaks = b.peaks;
                port = λ m. if m == n then port else b.port m;
                brought = λ m. if m == n then 0 else b.brought m;
                ports = ports i;
              } in
              let first = first_there (b.port n) mids at here in
              let port_is : moved.port ≡ first.0 = (let both : Some moved.port ≡ Some first.0 = sym moved.was ∙ first.1 in cc) in
              let goes : Goes [] at (hands_with now mids) new = record {
                mid = hands_with now mids;
                taken = [];
                does = record { made = Made-start mids; stay = refl };
                leaves = moved;
              } in
              let taken : without moved.port.name (b.taken ++ []) ≡ now_bound.taken =
              ap (λ (ts : Pairs). without moved.port.name ts) (append-nil b.taken)
              ∙ ap (λ (p : PortView). without p.name b.taken) port_is ∙ ap (λ (k : List ℕ). without k b.taken) first.2 in
              gone.goes_on all rest may_before last ending
              (subst (λ place. EndsCourse (session_few call.source call.text) b.taken (leaves b.port [] place (later rest (exchanged session n port))) (hands_with now mids) last ending)
              (sym place)
              (inl (
                new,
                goes,
                subst (λ (ts : Pairs). EndsCourse (session_few call.source call.text) ts (later rest (exchanged session n port)) new last ending) (sym taken)
                    (subst (λ (s : Session). EndsCourse (session_few call.source call.text) now_bound.taken (later rest s) new last ending) (sym same) ends),
              )))

  -- the port leaves behind its finish, if it has one
  module _ (found : Exchange) (finds : Finds (Some found)) (mids : List PortView) (new : Hands) (after : Engine) (moved_places : Places) where
    pub exchange_ends : Made (finish_of (b.port found.node) (slice_get core.nodes found.node)) [] now.ports mids
        → Leaves (slice_index_or places.streams.items found.node 0) (hands_with now mids) new
        → core_of after ≡ core_of engine → span_of after ≡ span_of engine → state_of after ≡ state_of engine → ArePeaksKept engine after
        → IsRebound core engine after found.node
        → moved_places.source ≡ place_without (slice_index_or places.streams.items found.node 0) places.source
        → moved_places.std_in ≡ place_without (slice_index_or places.streams.items found.node 0) places.std_in
        → moved_places.std_out ≡ place_without (slice_index_or places.streams.items found.node 0) places.std_out
        → moved_places.streams.items ≡ map (place_without (slice_index_or places.streams.items found.node 0)) (slice_set places.streams.items found.node found.to)
        → GoesOn call limit (left_later later) after commands moved_places new
    exchange_ends made moved same_core same_span same_state kept bound at_source at_std_in at_std_out at_streams = record {
      bindings = _;
      stands = went found.node found.to finds mids (leaving found.node found.to finds mids made) new moved after same_core same_span same_state kept bound
          moved_places at_source at_std_in at_std_out at_streams;
    }
