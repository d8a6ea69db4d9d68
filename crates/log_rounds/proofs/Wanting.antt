-- One want before a superstep: it is made, or its read fails.
use Rattle.std.proofs.Common.{◌≡◌, ℕ, zero, suc, ◌+◌, ◌-◌, ◌<◌, true, false, List, [], ◌∷◌, ◌++◌, length, None, Some, slice_get, slice_set, slice_index_or, Option, Result, Err, refl, ap, sym, ◌∙◌, subst, arith, append_assoc, append-nil, length-append}
use Rattle.std.proofs.lemmas.List.{length-map}
use Rattle.std.proofs.lemmas.Option.{slice_get_within}
use Rattle.std.specs.Option.{unwrap_or}
use Rattle.std.specs.Str.{bytes_eq}
use Rattle.hume_base.specs.declared.types.Value.{Value}
use Rattle.hume_base.specs.Flat.{flat}
use Rattle.hume_model.specs.declared.core_tree.NodeC.TheVariants.{From}
use Rattle.hume_model.specs.declared.core_tree.StreamC.{StreamC}
use Rattle.hume_model.specs.declared.core_tree.Core.{Core}
use Rattle.hume_net.specs.declared.state.State.{State}
use Rattle.hume_net.specs.Parts.{IsStateOf}
use Rattle.hume_net.specs.Sides.{part_of}
use Rattle.hume_ports.specs.Port.{PortView}
use Rattle.hume_ports.specs.Ports.{Untouched}
use Rattle.hume_ports.specs.Delivery.{Pairs, Progress, Roomy, bytes_for}
use Rattle.hume_ports.proofs.Names.{bytes_eq-swap, bytes_for-append, bytes_for-one}
use Rattle.port_acts.specs.Acts.{Act, wants}
use Rattle.port_acts.specs.Ends.{Made}
use Rattle.port_acts.proofs.Failing.{then_fails}
use Rattle.port_acts.proofs.Making.{Made-on}
use Rattle.port_acts.proofs.Single.{only_of, want_fails, want_made}
use Rattle.hume_streams.specs.declared.queue.FillError.{FillError}
use Rattle.hume_streams.specs.declared.queue.FillError.TheVariants.{Failed as ReadFailed}
use Rattle.hume_streams.specs.Lines.{whole_lines}
use Rattle.hume_streams.specs.Good.{IsGoodUntil}
use Rattle.hume_streams.specs.Queues.{IsQueueOf}
use Rattle.hume_streams.proofs.GoodOnce.{good_once}
use Rattle.hume_streams.proofs.WholeLines.{taken_given}
use Rattle.phase_workers.specs.Engines.{coming_at, queue_at}
use Rattle.phase_workers.specs.NodeFills.{FillsNode, fed_at}
use Rattle.phase_workers.specs.Runnable.{IsRunnable}
use Rattle.phase_workers.specs.StreamTypes.{type_at}
use Rattle.run_log.specs.declared.half.Half.TheVariants.{End}
use Rattle.run_log.specs.declared.log_run.LogRun.{LogRun}
use Rattle.run_log.specs.Moments.{core_in, engine_of, moment_of}
use Rattle.run_rounds.specs.Inputs.{Inputs}
use Rattle.run_rounds.specs.RunActs.{needed, round_wants, run_few, wants_of_node}
use Rattle.run_rounds.specs.Streams.{ArePortsApart}
use Rattle.run_rounds.specs.inner.Beginning.{MayBegin}
use Rattle.run_rounds.specs.inner.Reading.{MayCome}
use Rattle.run_rounds.proofs.ActSteps.{wants_more}
use Rattle.run_rounds.proofs.EngineFacts.{queues_show_no_values}
use Rattle.run_rounds.proofs.Fed.{before, piece_fed, read_more, with_values}
use Rattle.run_rounds.proofs.Standings.{length_set, parts_of}
use Rattle.run_rounds.proofs.Stepping.{begin_kept, told_more}
use Rattle.log_rounds.specs.Opened.{IsApart}
use Rattle.log_rounds.specs.VerifyActs.{verify_few}
use Rattle.log_rounds.specs.inner.Standing.{Deeds, IsPieceThere, StandsAt}
use Rattle.log_rounds.specs.inner.Steps.{FailsFilling, StandsFilling, filling}
use Rattle.log_rounds.proofs.Standings.{comes, count_is, goes_on, inputs, may, shares, text_on}

fed_length : (lists : List (List Value)) (node : ℕ) (values : List Value) → node < length lists
    → length (unwrap_or (slice_get (slice_set lists node (slice_index_or lists node [] ++ values)) node) []) ≡ length (unwrap_or (slice_get lists node) []) + length values
fed_length [] node values within = absurd (omega (arith, within))
fed_length (list ∷ lists) zero values within = length-append list values
fed_length (list ∷ lists) (suc node) values within = fed_length lists node values (omega (arith, within))

fed_parts : (core : Core) (n : ℕ) (values : List Value) (state : State) → IsStateOf core state → IsStateOf core (fed_at n values state)
fed_parts core n values state is = record {
  wires = is.wires;
  pending = is.pending;
  orders = is.orders;
  coming = length_set state.coming n (slice_index_or state.coming n [] ++ values) ∙ is.coming;
  taken = is.taken;
}

-- bytes of one port are none of another's
pub none_of_other : (log name bytes : List ℕ) (taken : Pairs) → bytes_eq name log ≡ false → bytes_for log (taken ++ (name, bytes) ∷ []) ≡ bytes_for log taken
none_of_other log name bytes taken other =
    let none : bytes_for log ((name, bytes) ∷ []) ≡ [] = rw (bytes_eq-swap name log other) refl in
    bytes_for-append log taken ((name, bytes) ∷ []) ∙ ap (λ last. bytes_for log taken ++ last) none ∙ append-nil (bytes_for log taken)

module _ (steps done : ℕ) (deeds : Deeds) (olds mids news : List PortView) (old new : LogRun) (n : ℕ) (stream : StreamC)
    (is : slice_get (core_in old).nodes n ≡ Some (From stream)) (run : IsRunnable (core_in old)) (apart : ArePortsApart (core_in old))
    (so_far : StandsFilling (core_in old) steps done n deeds olds mids old) (result : Result (Unit {0}) FillError)
    (fill : FillsNode 1 (engine_of old) (engine_of new) n stream.port mids news result) (untouched : Untouched (stream.port ∷ []) mids news) where
  abbrev core : Core
  core = core_in old

  abbrev first : Deeds
  first = filling core steps done n deeds

  abbrev stands : StandsAt core steps End done first olds mids old
  stands = so_far.stands

  -- how many values are wanted in all
  abbrev count : ℕ
  count = (length (stands.fed n) - length (coming_at (engine_of old) n)) + 1

  abbrev taken : Pairs
  taken = stands.taken ++ (stream.port, fill.bytes) ∷ []

  abbrev fed : ℕ → List Value
  fed = with_values n fill.values stands.fed

  wants_are : (good : List (List Value)) → needed core good 1 steps (suc done) n ≡ count
      → (filling core steps done (n + 1) deeds).acts good ≡ first.acts good ++ wants stream.port count ∷ []
  wants_are good same =
      ap (λ (acts : List Act). deeds.acts good ++ acts)
      (wants_more core good 1 steps (suc done) n
      ∙ ap (λ (acts : List Act). round_wants core good 1 steps (suc done) n ++ acts)
      (ap (wants_of_node core good 1 steps (suc done) n) is ∙ ap (λ number. wants stream.port number ∷ []) same))
      ∙ sym (append_assoc (deeds.acts good) (round_wants core good 1 steps (suc done) n) (wants stream.port count ∷ []))

  is_needed : (others : Inputs) → MayCome core (queue_at (engine_of old)) stands.taken others → needed core others.good 1 steps (suc done) n ≡ count
  is_needed others can = sym (count_is core run steps done first olds mids old stands others can so_far.is n stream is)

  abbrev Own : Inputs
  Own = inputs core run steps End done first olds mids old stands

  own_may : MayCome core (queue_at (engine_of old)) stands.taken Own
  own_may = may core run steps End done first olds mids old stands

  -- what came before is what has gone, and what is to come
  fed_now : (gone : List Value) × (stands.fed n ≡ gone ++ coming_at (engine_of old) n)
  fed_now = (_, shares core run steps done first olds mids old stands Own own_may n stream is)

  on : (text rest : List ℕ) → ((queue_at (engine_of new) n).ended ≡ true → rest ≡ [])
      → IsQueueOf core.types (type_at core n) (queue_at (engine_of old) n) text (stands.fed n) (fill.bytes ++ rest)
      → IsQueueOf core.types (type_at core n) (queue_at (engine_of new) n) text (stands.fed n ++ fill.values) rest
  on text rest ends right = fill.goes_on text (stands.fed n) rest ends right

  earlier_may : (others : Inputs) → MayCome core (queue_at (engine_of new)) taken others → MayCome core (queue_at (engine_of old)) stands.taken others
  earlier_may others can =
      before core run.names apart (queue_at (engine_of old)) (queue_at (engine_of new)) stands.taken stands.fed n stream is fill.bytes fill.values fill.others fill.stays others can

  -- the want was made
  module _ (progress : Progress mids news ((stream.port, fill.bytes) ∷ []) []) (same_core : core_in new ≡ core) (half : (moment_of new).half ≡ End)
      (superstep : (moment_of new).superstep ≡ (moment_of old).superstep) where
    made_now : Made (stands.acts ++ wants stream.port count ∷ []) taken olds news
    made_now = Made-on stands.acts (wants stream.port count ∷ []) stands.taken ((stream.port, fill.bytes) ∷ []) olds mids news stands.made
        (want_made stream.port count fill.bytes mids news progress untouched)

    piece_over : IsPieceThere core (queue_at (engine_of new)) (fed_at n fill.values (moment_of old).state) taken fed End done
    piece_over others can =
        let p = stands.piece others (earlier_may others can) in (
          p.0,
          piece_fed core run.names apart (queue_at (engine_of old)) (queue_at (engine_of new)) stands.taken stands.fed n stream is fill.bytes fill.values fill.others fill.stays
              stands.read (queues_show_no_values (engine_of new)) on others can p.0 (moment_of old).state _ (parts_of core (moment_of old).state stands.parts) p.1,
        )

    pub stands_wanted : StandsAt core steps End done (filling core steps done (n + 1) deeds) olds news new
    stands_wanted = record {
      acts = stands.acts ++ wants stream.port count ∷ [];
      taken = taken;
      fed = fed;
      is_core = same_core;
      is_half = half;
      is_superstep = superstep ∙ stands.is_superstep;
      parts = subst (IsStateOf core) (sym fill.state) (fed_parts core n fill.values (moment_of old).state stands.parts);
      made = made_now;
      told = told_more core run.names apart (queue_at (engine_of old)) (queue_at (engine_of new)) stands.taken stands.fed n stream is fill.bytes fill.values fill.others fill.stays olds news
          _ stands.told made_now.progress fill.ended;
      read = read_more core run.names apart (queue_at (engine_of old)) (queue_at (engine_of new)) stands.taken stands.fed n stream is fill.bytes fill.values fill.others fill.stays
          stands.read (queues_show_no_values (engine_of new)) on;
      piece = subst (λ state. IsPieceThere core (queue_at (engine_of new)) state taken fed End done) (sym fill.state) piece_over;
      filled = tt;
      unblocked = λ others can. stands.unblocked others (earlier_may others can);
      did = λ others can.
          ap (λ (acts : List Act). acts ++ wants stream.port count ∷ []) (stands.did others (earlier_may others can))
          ∙ sym (wants_are others.good (is_needed others (earlier_may others can)));
      logged = λ alone others can.
          none_of_other deeds.log stream.port fill.bytes stands.taken (alone n (From stream) stream is refl) ∙ stands.logged alone others (earlier_may others can);
    }

  -- an earlier stream may begin still
  pub still_begins : (m : ℕ) → (m ≡ n → ⊥) → MayBegin core (queue_at (engine_of old)) 1 (moment_of old).state m
      → MayBegin core (queue_at (engine_of new)) 1 (moment_of new).state m
  still_begins m differ begin = subst (λ state. MayBegin core (queue_at (engine_of new)) 1 state m) (sym fill.state)
      (begin_kept core (queue_at (engine_of old)) (queue_at (engine_of new)) 1 n m fill.values (moment_of old).state differ (fill.others m differ) begin)

-- its read failed
module _ (steps done : ℕ) (deeds : Deeds) (olds mids news : List PortView) (old new : LogRun) (n : ℕ) (stream : StreamC)
    (is : slice_get (core_in old).nodes n ≡ Some (From stream)) (run : IsRunnable (core_in old)) (apart : ArePortsApart (core_in old))
    (so_far : StandsFilling (core_in old) steps done n deeds olds mids old)
    (fill : FillsNode 1 (engine_of old) (engine_of new) n stream.port mids news (Err ReadFailed)) (untouched : Untouched (stream.port ∷ []) mids news) where
  abbrev its : Core
  its = core_in old

  abbrev had : Deeds
  had = filling its steps done n deeds

  abbrev stood : StandsAt its steps End done had olds mids old
  stood = so_far.stands

  abbrev number : ℕ
  number = count steps done deeds olds mids news old new n stream is run apart so_far (Err ReadFailed) fill untouched

  abbrev read : Pairs
  read = taken steps done deeds olds mids news old new n stream is run apart so_far (Err ReadFailed) fill untouched

  read_is : bytes_for stream.port read ≡ bytes_for stream.port stood.taken ++ fill.bytes
  read_is = bytes_for-append stream.port stood.taken ((stream.port, fill.bytes) ∷ []) ∙ ap (λ bytes. bytes_for stream.port stood.taken ++ bytes) (bytes_for-one stream.port fill.bytes)

  never : (queue_at (engine_of new) n).ended ≡ true → ⊥
  never ended = (let both : true ≡ false = sym ended ∙ fill.ends.whole.goes_on in cc)

  right : (rest : List ℕ) → IsQueueOf its.types (type_at its n) (queue_at (engine_of new) n) (bytes_for stream.port read ++ rest) (stood.fed n ++ fill.values) rest
  right rest =
      let text : bytes_for stream.port read ++ rest ≡ bytes_for stream.port stood.taken ++ (fill.bytes ++ rest) =
      ap (λ bytes. bytes ++ rest) read_is ∙ append_assoc (bytes_for stream.port stood.taken) fill.bytes rest in
      subst (λ all. IsQueueOf its.types (type_at its n) (queue_at (engine_of new) n) all (stood.fed n ++ fill.values) rest) (sym text)
      (on steps done deeds olds mids news old new n stream is run apart so_far (Err ReadFailed) fill untouched
      (bytes_for stream.port stood.taken ++ (fill.bytes ++ rest)) rest (λ ended. absurd (never ended))
      (stood.read.right n stream is (fill.bytes ++ rest) (λ ended. absurd (never (fill.stays ended).1))))

  -- how many values came
  comes_more : length (coming_at (engine_of new) n) ≡ length (coming_at (engine_of old) n) + length fill.values
  comes_more =
      let within = slice_get_within its.nodes n (From stream) is in
      ap (λ (s : State). length (part_of s n).coming) fill.state ∙ fed_length (moment_of old).state.coming n fill.values (omega (arith, within, stood.parts.coming))

  few_here : (good : List Value) (bad : Option ℕ) → IsGoodUntil its.types (type_at its n) (whole_lines (bytes_for stream.port read)) good bad
      → length good < number
  few_here good bad until =
      let given = taken_given its.types (type_at its n) (queue_at (engine_of new) n) (bytes_for stream.port read) (stood.fed n ++ fill.values) fill.ends.whole right in
      let one = good_once its.types (type_at its n) (whole_lines (bytes_for stream.port read)) good ((stood.fed n ++ fill.values) ++ given.0) bad None run.names until given.2 in
      let same : length good ≡ length ((stood.fed n ++ fill.values) ++ given.0) = ap length one.0 in
      let none : length (queue_at (engine_of new) n).values ≡ 0 = ap length (queues_show_no_values (engine_of new) n) in
      let held : length (queue_at (engine_of new) n).values ≡ length given.0 = ap length given.1 ∙ length-map given.0 (flat its.types (type_at its n)) in
      let shared = fed_now steps done deeds olds mids news old new n stream is run apart so_far (Err ReadFailed) fill untouched in
      let came : length (stood.fed n) ≡ length shared.0 + length (coming_at (engine_of old) n) = ap length shared.1 ∙ length-append shared.0 (coming_at (engine_of old) n) in
      omega (arith, same, length-append (stood.fed n ++ fill.values) given.0, length-append (stood.fed n) fill.values, none, held, came, comes_more, fill.ends.few)

  few : run_few its stream.port number (bytes_for stream.port read)
  few node other there named good bad until =
      let here : node ≡ n = apart node n (From other) (From stream) other stream there is refl refl named in
      few_here good bad (subst (λ k. IsGoodUntil its.types (type_at its k) (whole_lines (bytes_for stream.port read)) good bad) here until)

  few_apart : IsApart its deeds.log → verify_few its deeds.log stream.port number (bytes_for stream.port read)
  few_apart alone = record {
    of_log = λ same. (let both : true ≡ false = sym same ∙ alone n (From stream) stream is refl in cc);
    of_streams = few;
  }

  pub want_failed : (Roomy mids [] → ⊥) → n < length its.nodes → FailsFilling its steps done deeds olds news
  want_failed no_room within =
      let coming = comes its run steps End done had olds mids old stood in
      let can = may its run steps End done had olds mids old stood in
      let same = wants_are steps done deeds olds mids news old new n stream is run apart so_far (Err ReadFailed) fill untouched coming.inputs.good
      (is_needed steps done deeds olds mids news old new n stream is run apart so_far (Err ReadFailed) fill untouched coming.inputs can) in
      let whole : (filling its steps done (n + 1) deeds).acts coming.inputs.good ≡ stood.acts ++ wants stream.port number ∷ [] =
      same ∙ ap (λ (acts : List Act). acts ++ wants stream.port number ∷ []) (sym (stood.did coming.inputs can)) in
      record {
        is = so_far.is;
        comes = coming;
        text = text_on its run steps End done had olds mids old stood;
        unblocked = λ superstep least most. stood.unblocked coming.inputs can superstep least most;
        node = n;
        within = within;
        begun = λ m less. goes_on its run steps done had olds mids old stood coming.inputs can so_far.is m (let e = within in omega (arith, less, e))
            (λ other there. so_far.begun m other less there);
        fails = then_fails (run_few its) [] stood.acts (wants stream.port number) [] ((filling its steps done (n + 1) deeds).acts coming.inputs.good) stood.taken olds mids news whole stood.made
            (want_fails (run_few its) stood.taken stream.port number ((stream.port, fill.bytes) ∷ []) mids news fill.reads (only_of stream.port number fill.bytes) few no_room untouched);
        apart = λ alone. then_fails (verify_few its deeds.log) [] stood.acts (wants stream.port number) [] ((filling its steps done (n + 1) deeds).acts coming.inputs.good) stood.taken olds mids news whole stood.made
            (want_fails (verify_few its deeds.log) stood.taken stream.port number ((stream.port, fill.bytes) ∷ []) mids news fill.reads (only_of stream.port number fill.bytes) (few_apart alone) no_room untouched);
      }
