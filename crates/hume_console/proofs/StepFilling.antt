-- Input streams that are filled for a step, one after another.
use Rattle.std.proofs.Common.{◌≡◌, ◌⊎◌, ℕ, zero, suc, ◌+◌, ◌-◌, ◌<◌, ◌≤◌, List, [], ◌∷◌, ◌++◌, length, refl, ap, sym, ◌∙◌, subst, inl, inr, append-nil, append_assoc, length-append, arith, Option, None, Some, Result}
use Rattle.std.specs.Prelude.{slice_get}
use Rattle.std.proofs.Math.Path.{fun_ext}
use Rattle.std.proofs.lemmas.Option.{slice_get_within}
use Rattle.hume_base.specs.declared.types.Value.{Value}
use Rattle.hume_model.specs.declared.core_tree.NodeC.{NodeC}
use Rattle.hume_model.specs.declared.core_tree.NodeC.TheVariants.{Rules, From, To}
use Rattle.hume_model.specs.declared.core_tree.StreamC.{StreamC}
use Rattle.hume_model.specs.declared.core_tree.Core.{Core}
use Rattle.hume_net.specs.declared.state.State.{State}
use Rattle.hume_net.specs.Nodes.{IsInput, IsInputStream}
use Rattle.hume_net.specs.Sides.{part_of}
use Rattle.hume_net.specs.rounds.Pieces.{only}
use Rattle.hume_ports.specs.Port.{PortView}
use Rattle.hume_ports.specs.Ports.{names, Untouched}
use Rattle.hume_ports.specs.Delivery.{Pairs, Drawn, Progress, bytes_for}
use Rattle.port_acts.specs.Acts.{Act, wants}
use Rattle.port_acts.specs.Ends.{Made}
use Rattle.port_acts.proofs.Making.{Made-on, Made-start}
use Rattle.port_acts.proofs.Single.{want_made}
use Rattle.hume_streams.specs.declared.queue.FillError.{FillError}
use Rattle.hume_streams.specs.Good.{IsGoodUntil}
use Rattle.hume_streams.specs.Queues.{QueueView, IsQueueOf}
use Rattle.phase_workers.specs.Engines.{EngineView as Engine}
use Rattle.phase_workers.specs.Engines.{coming_at, core_of, queue_at, span_of, state_of, ArePeaksKept}
use Rattle.phase_workers.specs.NodeFills.{FillsNode, HasEnough, HasReadAll, fed_at}
use Rattle.phase_workers.specs.StreamTypes.{type_at}
use Rattle.run_rounds.proofs.Ranges.{flat_more}
use Rattle.hume_console.specs.Words.{std_in}
use Rattle.hume_console.specs.Serving.{step_wants, want_of_node}
use Rattle.hume_console.specs.Session.{Session, Offer, lacking}
use Rattle.hume_console.specs.inner.Placed.{ArePlaced}
use Rattle.hume_console.specs.inner.Standing.{AreRead, Bindings, MayHave, session_of}
use Rattle.hume_console.specs.inner.Stepping.{StandsBefore, StandsFilling, Step, filled_bindings, filled_state, left_step}
use Rattle.hume_console.proofs.FedStates.{fed_more, filled_coming, none_fed}
use Rattle.hume_console.proofs.ReadOn.{none_elsewhere, only_here, only_one, others_same, same_or_other, stream_before, stream_bindings, stream_read}
use Rattle.hume_console.proofs.Standings.{own_offers, own_placed}

-- bindings

-- once nothing more was read
none_filled : (b : Bindings) → filled_bindings b (λ n. []) [] ≡ b
none_filled b = λ i. record {
  port = b.port;
  brought = fun_ext (λ n. none (b.brought n)) i;
  came = fun_ext (λ n. append-nil (b.came n)) i;
  peaks = b.peaks;
  taken = append-nil b.taken i;
  firsts = b.firsts;
}
  where
    none : (count : ℕ) → count + 0 ≡ count
    none count = omega arith

-- once more was read of one port
more_filled : (b : Bindings) (fed more : ℕ → List Value) (ts us : Pairs)
    → filled_bindings (filled_bindings b fed ts) more us ≡ filled_bindings b (λ n. fed n ++ more n) (ts ++ us)
more_filled b fed more ts us = λ i. record {
  port = b.port;
  brought = fun_ext (λ n. counts (b.brought n) (length (fed n)) (length (more n)) ∙ ap (λ count. b.brought n + count) (sym (length-append (fed n) (more n)))) i;
  came = fun_ext (λ n. append_assoc (b.came n) (fed n) (more n)) i;
  peaks = b.peaks;
  taken = append_assoc b.taken ts us i;
  firsts = b.firsts;
}
  where
    counts : (a c d : ℕ) → (a + c) + d ≡ a + (c + d)
    counts a c d = omega arith

-- wants

abbrev pub first_session : Step → Session
first_session step = session_of step.engine step.bindings []

pub wants_more : (core : Core) (session : Session) (steps n : ℕ)
    → step_wants core session steps (n + 1) ≡ step_wants core session steps n ++ want_of_node session steps n (slice_get core.nodes n)
wants_more core session steps n =
    let next : n + 1 ≡ suc n = omega arith in
    let here : 0 + n ≡ n = omega arith in
    ap (step_wants core session steps) next ∙ flat_more (λ m. want_of_node session steps m (slice_get core.nodes m)) 0 n
    ∙ ap (λ m. step_wants core session steps n ++ want_of_node session steps m (slice_get core.nodes m)) here

no_wants : (session : Session) (steps n : ℕ) (o : Option NodeC) → (IsInput o → ⊥) → want_of_node session steps n o ≡ []
no_wants session steps n None other = refl
no_wants session steps n (Some (Rules b)) other = refl
no_wants session steps n (Some (To stream)) other = refl
no_wants session steps n (Some (From stream)) other = absurd (other tt)

pub input_is : (core : Core) (n : ℕ) (stream : StreamC) → slice_get core.nodes n ≡ Some (From stream) → IsInputStream core n
input_is core n stream is = subst IsInput (sym is) tt

pub before_or_last : (n count : ℕ) → n < count + 1 → (n < count) ⊎ (n ≡ count)
before_or_last zero zero less = inr refl
before_or_last zero (suc count) less = inl (omega arith)
before_or_last (suc n) zero less = absurd (omega (arith, less))
before_or_last (suc n) (suc count) less = elim (before_or_last n count (omega (arith, less))) [ inl l ↦ inl (omega (arith, l)) | inr e ↦ inr (ap suc e) ]

-- the start

pub filling_none : (step : Step) → StandsBefore step → StandsFilling step 0 step.engine step.before.ports
filling_none step begun =
    let stands = begun.stands in
    record {
      begun = begun;
      fed = λ n. [];
      ts = [];
      same_core = stands.rests.is_core;
      same_span = stands.rests.is_span;
      peaks = record { heap = λ n. refl; stack = λ n. refl };
      state = sym (none_fed step.call.core (state_of step.engine) stands.rests.parts);
      read = subst (AreRead step.call.core step.call.source step.engine step.commands.ended step.before.ports) (sym (none_filled step.bindings)) stands.read;
      no_commands = refl;
      made = Made-start step.before.ports;
      few = λ n. omega arith;
      none_later = λ n past. refl;
      none = λ n other. refl;
      filled = λ n stream less is. absurd (omega (arith, less));
      earlier = λ offers rest may. subst
          (λ b. MayHave step.call.core step.engine step.commands.ended b offers rest) (none_filled step.bindings) may;
    }

-- a node that is no input stream
pub filling_other : (step : Step) (n : ℕ) (engine : Engine) (ports : List PortView) → (IsInputStream step.call.core n → ⊥) → StandsFilling step n engine ports
    → StandsFilling step (n + 1) engine ports
filling_other step n engine ports other it =
    let core : Core = step.call.core in
    let wants_same : step_wants core (first_session step) step.steps n ≡ step_wants core (first_session step) step.steps (n + 1) =
    sym (wants_more core (first_session step) step.steps n
    ∙ ap (λ (acts : List Act). step_wants core (first_session step) step.steps n ++ acts) (no_wants (first_session step) step.steps n (slice_get core.nodes n) other)
    ∙ append-nil (step_wants core (first_session step) step.steps n)) in
    record {
      begun = it.begun;
      fed = it.fed;
      ts = it.ts;
      same_core = it.same_core;
      same_span = it.same_span;
      peaks = it.peaks;
      state = it.state;
      read = it.read;
      no_commands = it.no_commands;
      made = subst (λ (acts : List Act). Made acts it.ts step.before.ports ports) wants_same it.made;
      few = it.few;
      none_later = λ m past. it.none_later m (omega (arith, past));
      none = it.none;
      filled = λ m stream less is. elim (before_or_last m n less) [
        | inl l ↦ it.filled m stream l is
        | inr e ↦ absurd (other (subst (IsInputStream core) e (input_is core m stream is)))
      ];
      earlier = it.earlier;
    }

-- an input stream

pub read_all_kept : (old new : Engine) (n : ℕ) → core_of new ≡ core_of old → queue_at new n ≡ queue_at old n → HasReadAll old n → HasReadAll new n
read_all_kept old new n same queue all = record {
  ended = ap (λ (q : QueueView). q.ended) queue ∙ all.ended;
  all = λ text read right.
      subst (λ (c : Core). IsGoodUntil c.types (type_at c n) text read None) (sym same)
      (all.all text read
      (subst (λ (c : Core). IsQueueOf c.types (type_at c n) (queue_at old n) text read []) same
      (subst (λ q. IsQueueOf (core_of new).types (type_at (core_of new) n) q text read []) queue right)));
}

module _ (step : Step) (n : ℕ) (old new : Engine) (mids news : List PortView) (stream : StreamC) (is : slice_get step.call.core.nodes n ≡ Some (From stream))
    (it : StandsFilling step n old mids) (result : Result (Unit {0}) FillError)
    (fill : FillsNode step.steps old new n (step.bindings.port n) mids news result) (same_core : core_of new ≡ core_of old) where
  abbrev core : Core
  core = step.call.core

  abbrev b : Bindings
  b = filled_bindings step.bindings it.fed it.ts

  abbrev own : ArePlaced core step.call.source
      (session_of step.engine step.bindings (own_offers step.call step.limit (left_step step.call step.steps step.later) step.engine step.commands step.places step.before step.bindings
      it.begun.stands)) (names step.before.ports) step.places
  own = own_placed step.call step.limit (left_step step.call step.steps step.later) step.engine step.commands step.places step.before step.bindings it.begun.stands

  pub apart : (m : ℕ) (other : StreamC) → slice_get core.nodes m ≡ Some (From other) → step.bindings.port m ≡ step.bindings.port n → m ≡ n
  apart m other there same = own.apart m n (From other) (From stream) other stream there is refl refl same

  pub no_commands : step.bindings.port n ≡ std_in → ⊥
  no_commands = (own.free n (From stream) stream is refl).1

  pub no_source : step.bindings.port n ≡ step.call.source → ⊥
  no_source = (own.free n (From stream) stream is refl).0

  abbrev pub fed_now : ℕ → List Value
  fed_now m = it.fed m ++ only n fill.values m

  abbrev pub its : Pairs
  its = (step.bindings.port n, fill.bytes) ∷ []

  abbrev pub ts_now : Pairs
  ts_now = it.ts ++ its

  pub within : n < length core.nodes
  within = slice_get_within core.nodes n (From stream) is

  pub state_now : state_of new ≡ filled_state core (state_of step.engine) fed_now
  state_now = fill.state ∙ ap (fed_at n fill.values) it.state ∙ fed_more core (state_of step.engine) it.fed n fill.values within

  bindings_now : stream_bindings core step.call.source old new step.commands.ended mids news b n stream is it.read apart no_commands step.steps result fill
      ≡ filled_bindings step.bindings fed_now ts_now
  bindings_now = more_filled step.bindings it.fed (only n fill.values) it.ts its

  -- what has come to a node
  pub coming_now : (m : ℕ) → m < length core.nodes → coming_at new m ≡ coming_at step.engine m ++ fed_now m
  coming_now m less = ap (λ (s : State). (part_of s m).coming) state_now ∙ filled_coming core (state_of step.engine) fed_now m less

  coming_old : (m : ℕ) → m < length core.nodes → coming_at old m ≡ coming_at step.engine m ++ it.fed m
  coming_old m less = ap (λ (s : State). (part_of s m).coming) it.state ∙ filled_coming core (state_of step.engine) it.fed m less

  fed_else : (m : ℕ) → (m ≡ n → ⊥) → fed_now m ≡ it.fed m
  fed_else m differ = ap (λ (vs : List Value). it.fed m ++ vs) (none_elsewhere n m fill.values differ) ∙ append-nil (it.fed m)

  pub fed_here : fed_now n ≡ fill.values
  fed_here = ap (λ (vs : List Value). vs ++ only n fill.values n) (it.none_later n (omega arith)) ∙ only_here n n fill.values refl

  pub few_now : (m : ℕ) → (m ≡ n) ⊎ (m ≡ n → ⊥) → length (fed_now m) ≤ step.steps - length (coming_at step.engine m)
  few_now m (inl same) =
      let here : length (coming_at old n) ≡ length (coming_at step.engine n) =
      ap length (coming_old n within ∙ ap (λ (vs : List Value). coming_at step.engine n ++ vs) (it.none_later n (omega arith)) ∙ append-nil (coming_at step.engine n)) in
      let bound : length fill.values ≤ step.steps - length (coming_at old n) = fill.bound in
      subst (λ k. length (fed_now k) ≤ step.steps - length (coming_at step.engine k)) (sym same)
      (subst (λ count. count ≤ step.steps - length (coming_at step.engine n)) (sym (ap length fed_here))
      (subst (λ count. length fill.values ≤ step.steps - count) here bound))
  few_now m (inr differ) = subst (λ count. count ≤ step.steps - length (coming_at step.engine m)) (sym (ap length (fed_else m differ))) (it.few m)

  -- all that was read before holds still
  pub no_commands_now : bytes_for std_in ts_now ≡ []
  no_commands_now = others_same it.ts (step.bindings.port n) its (only_one (step.bindings.port n) fill.bytes) std_in (λ same. no_commands (sym same)) ∙ it.no_commands

  pub read_now : names news ≡ names mids → Drawn mids news its → AreRead core step.call.source new step.commands.ended news (filled_bindings step.bindings fed_now ts_now)
  read_now same drawn = subst (AreRead core step.call.source new step.commands.ended news) bindings_now
      (stream_read core step.call.source old new step.commands.ended mids news b n stream is it.read apart no_commands step.steps result fill same_core same drawn)

  pub earlier_now : (offers : List Offer) (rest : List ℕ)
      → MayHave core new step.commands.ended (filled_bindings step.bindings fed_now ts_now) offers rest
      → MayHave core step.engine step.commands.ended step.bindings offers rest
  earlier_now offers rest may = it.earlier offers rest
      (stream_before core step.call.source old new step.commands.ended mids news b n stream is it.read apart no_commands step.steps result fill offers rest
      (subst (λ bs. MayHave core new step.commands.ended bs offers rest) (sym bindings_now) may))

  pub wants_now : step_wants core (first_session step) step.steps (n + 1)
      ≡ step_wants core (first_session step) step.steps n ++ wants (step.bindings.port n) (step.bindings.brought n + lacking (first_session step) step.steps n) ∷ []
  wants_now = wants_more core (first_session step) step.steps n
      ∙ ap (λ o. step_wants core (first_session step) step.steps n ++ want_of_node (first_session step) step.steps n o) is

  pub still_filled : (m : ℕ) → (m ≡ n → ⊥) → m < length core.nodes → HasEnough step.steps old m ⊎ HasReadAll old m → HasEnough step.steps new m ⊎ HasReadAll new m
  still_filled m differ less (inl enough) =
      let same : coming_at new m ≡ coming_at old m =
      coming_now m less ∙ ap (λ (vs : List Value). coming_at step.engine m ++ vs) (fed_else m differ) ∙ sym (coming_old m less) in
      inl (subst (λ (vs : List Value). step.steps ≤ length vs) (sym same) enough)
  still_filled m differ less (inr all) = inr (read_all_kept old new m same_core (fill.others m differ) all)

  pub none_now : (m : ℕ) → (IsInputStream core m → ⊥) → fed_now m ≡ []
  none_now m other = fed_else m (λ same. other (subst (IsInputStream core) (sym same) (input_is core n stream is))) ∙ it.none m other

  -- it was filled
  pub filling_next : (same : names news ≡ names mids) → Progress mids news its [] → Untouched (step.bindings.port n ∷ []) mids news → span_of new ≡ span_of old
      → ArePeaksKept old new → HasEnough step.steps new n ⊎ HasReadAll new n → StandsFilling step (n + 1) new news
  filling_next same progress untouched same_span kept enough = record {
    begun = it.begun;
    fed = fed_now;
    ts = ts_now;
    same_core = same_core ∙ it.same_core;
    same_span = same_span ∙ it.same_span;
    peaks = record { heap = λ m. kept.heap m ∙ it.peaks.heap m; stack = λ m. kept.stack m ∙ it.peaks.stack m };
    state = state_now;
    read = read_now same progress.drawn;
    no_commands = no_commands_now;
    made = subst (λ (acts : List Act). Made acts ts_now step.before.ports news) (sym wants_now)
        (Made-on (step_wants core (first_session step) step.steps n) (wants (step.bindings.port n) (step.bindings.brought n + lacking (first_session step) step.steps n) ∷ [])
        it.ts its step.before.ports mids news it.made
        (want_made (step.bindings.port n) (step.bindings.brought n + lacking (first_session step) step.steps n) fill.bytes mids news progress untouched));
    few = λ m. few_now m (same_or_other m n);
    none_later = λ m past. fed_else m (λ same. omega (arith, past, same)) ∙ it.none_later m (omega (arith, past));
    none = none_now;
    filled = λ m other less there. elim (before_or_last m n less) [
      | inl l ↦ still_filled m (λ same. omega (arith, l, same)) (slice_get_within core.nodes m (From other) there) (it.filled m other l there)
      | inr e ↦ subst (λ k. HasEnough step.steps new k ⊎ HasReadAll new k) (sym e) enough
    ];
    earlier = earlier_now;
  }
