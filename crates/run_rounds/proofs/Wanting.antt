-- One want of a run: it is made, or its read fails.
use Rattle.std.proofs.Common.{◌≡◌, ℕ, zero, suc, ◌+◌, ◌-◌, ◌<◌, Bool, true, false, List, [], ◌∷◌, ◌++◌, length, Option, None, Some, slice_get, slice_set, slice_index_or, Result, Err, refl, ap, sym, ◌∙◌, subst, arith, append_assoc, length-append}
use Rattle.std.proofs.lemmas.List.{length-map}
use Rattle.std.proofs.lemmas.Option.{slice_get_within}
use Rattle.std.specs.Option.{unwrap_or}
use Rattle.hume_base.specs.declared.types.Value.{Value}
use Rattle.hume_base.specs.Flat.{flat}
use Rattle.hume_model.specs.declared.core_tree.NodeC.{NodeC}
use Rattle.hume_model.specs.declared.core_tree.NodeC.TheVariants.{From}
use Rattle.hume_model.specs.declared.core_tree.StreamC.{StreamC}
use Rattle.hume_model.specs.declared.core_tree.Core.{Core}
use Rattle.hume_net.specs.declared.state.State.{State}
use Rattle.hume_net.specs.Parts.{IsStateOf}
use Rattle.hume_net.specs.Sides.{part_of}
use Rattle.hume_net.specs.rounds.Rounds.{made as after_rounds}
use Rattle.hume_ports.specs.Port.{PortView}
use Rattle.hume_ports.specs.Ports.{Untouched}
use Rattle.hume_ports.specs.Delivery.{Pairs, Progress, Roomy, bytes_for}
use Rattle.hume_ports.proofs.Names.{bytes_for-append, bytes_for-one}
use Rattle.port_acts.specs.Acts.{Act, wants}
use Rattle.port_acts.specs.Ends.{Made}
use Rattle.port_acts.proofs.Failing.{then_fails}
use Rattle.port_acts.proofs.Making.{Made-on}
use Rattle.port_acts.proofs.Single.{only_of, want_fails, want_made}
use Rattle.hume_streams.specs.declared.queue.FillError.{FillError}
use Rattle.hume_streams.specs.declared.queue.FillError.TheVariants.{Failed as ReadFailed}
use Rattle.hume_streams.specs.Lines.{whole_lines}
use Rattle.hume_streams.specs.Good.{IsGoodUntil}
use Rattle.hume_streams.specs.Queues.{IsQueueOf}
use Rattle.hume_streams.proofs.GoodOnce.{good_once}
use Rattle.hume_streams.proofs.WholeLines.{taken_given}
use Rattle.phase_workers.specs.Engines.{EngineView as Engine}
use Rattle.phase_workers.specs.Engines.{core_of, coming_at, queue_at, state_of, span_of as room_of, ArePeaksKept}
use Rattle.phase_workers.specs.NodeFills.{FillsNode, fed_at}
use Rattle.phase_workers.specs.Runnable.{IsRunnable}
use Rattle.phase_workers.specs.StreamTypes.{type_at}
use Rattle.run_rounds.specs.Inputs.{Inputs}
use Rattle.run_rounds.specs.RunActs.{made_acts, needed, round_wants, rounds_acts, run_few, wants_of_node}
use Rattle.run_rounds.specs.MadeRounds.{FailsInRounds, IsPeak}
use Rattle.run_rounds.specs.Streams.{ArePortsApart}
use Rattle.run_rounds.specs.Writes.{span_of}
use Rattle.run_rounds.specs.inner.Beginning.{MayBegin}
use Rattle.run_rounds.specs.inner.Reading.{MayCome}
use Rattle.run_rounds.specs.inner.Standing.{IsAfter}
use Rattle.run_rounds.specs.inner.Steps.{Stands, StandsFilling, filling_acts}
use Rattle.run_rounds.proofs.ActSteps.{want_next, wants_more}
use Rattle.run_rounds.proofs.EngineFacts.{queues_show_no_values}
use Rattle.run_rounds.proofs.Fed.{before, with_values}
use Rattle.run_rounds.proofs.Standings.{comes, count_is, goes_on, inputs, length_set, may, parts_of, shares}
use Rattle.run_rounds.proofs.Stepping.{after_fed, begin_kept, told_more}

fed_length : (lists : List (List Value)) (node : ℕ) (values : List Value) → node < length lists
    → length (unwrap_or (slice_get (slice_set lists node (slice_index_or lists node [] ++ values)) node) []) ≡ length (unwrap_or (slice_get lists node) []) + length values
fed_length [] node values within = absurd (omega (arith, within))
fed_length (list ∷ lists) zero values within = length-append list values
fed_length (list ∷ lists) (suc node) values within = fed_length lists node values (omega (arith, within))

fed_parts : (core : Core) (n : ℕ) (values : List Value) (state : State) → IsStateOf core state → IsStateOf core (fed_at n values state)
fed_parts core n values state is = record {
  wires = is.wires;
  pending = is.pending;
  orders = is.orders;
  coming = length_set state.coming n (slice_index_or state.coming n [] ++ values) ∙ is.coming;
  taken = is.taken;
}

module _ (traced : Bool) (steps done want : ℕ) (olds mids news : List PortView) (old new : Engine) (n : ℕ) (stream : StreamC)
    (is : slice_get (core_of old).nodes n ≡ Some (From stream)) (run : IsRunnable (core_of old)) (apart : ArePortsApart (core_of old))
    (filling : StandsFilling (core_of old) traced steps done n want olds mids old)
    (result : Result (Unit {0}) FillError) (fill : FillsNode want old new n stream.port mids news result) (untouched : Untouched (stream.port ∷ []) mids news) where
  abbrev core : Core
  core = core_of old

  abbrev stands : Stands core traced steps done (filling_acts core traced steps done n) olds mids old
  stands = filling.stands

  -- how many values are wanted in all
  abbrev count : ℕ
  count = (length (stands.fed n) - length (coming_at old n)) + want

  abbrev taken : Pairs
  taken = stands.taken ++ (stream.port, fill.bytes) ∷ []

  abbrev fed : ℕ → List Value
  fed = with_values n fill.values stands.fed

  wants_are : (good : List (List Value)) → needed core good (span_of traced) steps (suc done) n ≡ count
      → filling_acts core traced steps done (n + 1) good ≡ filling_acts core traced steps done n good ++ wants stream.port count ∷ []
  wants_are good same =
      ap (λ (acts : List Act). rounds_acts core good traced steps done ++ acts)
      (wants_more core good (span_of traced) steps (suc done) n
      ∙ ap (λ (acts : List Act). round_wants core good (span_of traced) steps (suc done) n ++ acts)
      (ap (wants_of_node core good (span_of traced) steps (suc done) n) is ∙ ap (λ number. wants stream.port number ∷ []) same))
      ∙ sym (append_assoc (rounds_acts core good traced steps done) (round_wants core good (span_of traced) steps (suc done) n) (wants stream.port count ∷ []))

  module _ (others : Inputs) (can : MayCome core (queue_at old) stands.taken others) where
    is_needed : needed core others.good (span_of traced) steps (suc done) n ≡ count
    is_needed = sym (count_is core run traced steps done (filling_acts core traced steps done n) olds mids old stands others can filling.is want n stream is filling.wanted)

  abbrev Own : Inputs
  Own = inputs core run traced steps done (filling_acts core traced steps done n) olds mids old stands

  own_may : MayCome core (queue_at old) stands.taken Own
  own_may = may core run traced steps done (filling_acts core traced steps done n) olds mids old stands

  -- what came before is what has gone, and what is to come
  fed_now : (gone : List Value) × (stands.fed n ≡ gone ++ coming_at old n)
  fed_now = (_, shares core run traced steps done (filling_acts core traced steps done n) olds mids old stands Own own_may n stream is)

  on : (text rest : List ℕ) → ((queue_at new n).ended ≡ true → rest ≡ [])
      → IsQueueOf core.types (type_at core n) (queue_at old n) text (stands.fed n) (fill.bytes ++ rest)
      → IsQueueOf core.types (type_at core n) (queue_at new n) text (stands.fed n ++ fill.values) rest
  on text rest ends right = fill.goes_on text (stands.fed n) rest ends right

  earlier_may : (others : Inputs) → MayCome core (queue_at new) taken others → MayCome core (queue_at old) stands.taken others
  earlier_may others can =
      before core run.names apart (queue_at old) (queue_at new) stands.taken stands.fed n stream is fill.bytes fill.values fill.others fill.stays others can

  -- the want was made
  module _ (progress : Progress mids news ((stream.port, fill.bytes) ∷ []) []) (same_core : core_of new ≡ core) (same_span : room_of new ≡ room_of old)
      (kept : ArePeaksKept old new) where
    made_now : Made (stands.acts ++ wants stream.port count ∷ []) taken olds news
    made_now = Made-on stands.acts (wants stream.port count ∷ []) stands.taken ((stream.port, fill.bytes) ∷ []) olds mids news stands.made
        (want_made stream.port count fill.bytes mids news progress untouched)

    after_now : IsAfter core (span_of traced) steps done (queue_at new) (fed_at n fill.values (state_of old)) taken fed
    after_now = after_fed core run.names apart (queue_at old) (queue_at new) stands.taken stands.fed n stream is fill.bytes fill.values fill.others fill.stays
        stands.after.read (queues_show_no_values new) on (state_of old) (parts_of core (state_of old) stands.parts) (span_of traced) steps done stands.after

    peak_now : (others : Inputs) → MayCome core (queue_at new) taken others → (m : ℕ) (node : NodeC) → slice_get core.nodes m ≡ Some node
        → IsPeak core others.good (after_rounds (span_of traced) steps done) new m
    peak_now others can m node there =
        let was = stands.peaks others (earlier_may others can) m node there in
        record { heap = kept.heap m ∙ was.heap; stack = kept.stack m ∙ was.stack }

    pub stands_wanted : Stands core traced steps done (filling_acts core traced steps done (n + 1)) olds news new
    stands_wanted = record {
      acts = stands.acts ++ wants stream.port count ∷ [];
      taken = taken;
      fed = fed;
      is_core = same_core;
      is_span = same_span ∙ stands.is_span;
      parts = subst (IsStateOf core) (sym fill.state) (fed_parts core n fill.values (state_of old) stands.parts);
      made = made_now;
      told = told_more core run.names apart (queue_at old) (queue_at new) stands.taken stands.fed n stream is fill.bytes fill.values fill.others fill.stays olds news
          _ stands.told made_now.progress fill.ended;
      after = subst (λ state. IsAfter core (span_of traced) steps done (queue_at new) state taken fed) (sym fill.state) after_now;
      peaks = peak_now;
      are = λ others can.
          ap (λ (acts : List Act). acts ++ wants stream.port count ∷ []) (stands.are others (earlier_may others can))
          ∙ sym (wants_are others.good (is_needed others (earlier_may others can)));
    }

  -- an earlier stream may begin still
  pub still_begins : (m : ℕ) → (m ≡ n → ⊥) → MayBegin core (queue_at old) want (state_of old) m → MayBegin core (queue_at new) want (state_of new) m
  still_begins m differ begin = subst (λ state. MayBegin core (queue_at new) want state m) (sym fill.state)
      (begin_kept core (queue_at old) (queue_at new) want n m fill.values (state_of old) differ (fill.others m differ) begin)

-- its read failed
module _ (traced : Bool) (steps done want : ℕ) (olds mids news : List PortView) (old new : Engine) (n : ℕ) (stream : StreamC)
    (is : slice_get (core_of old).nodes n ≡ Some (From stream)) (run : IsRunnable (core_of old)) (apart : ArePortsApart (core_of old))
    (filling : StandsFilling (core_of old) traced steps done n want olds mids old)
    (fill : FillsNode want old new n stream.port mids news (Err ReadFailed)) (untouched : Untouched (stream.port ∷ []) mids news) where
  abbrev its : Core
  its = core_of old

  abbrev stood : Stands its traced steps done (filling_acts its traced steps done n) olds mids old
  stood = filling.stands

  abbrev number : ℕ
  number = count traced steps done want olds mids news old new n stream is run apart filling (Err ReadFailed) fill untouched

  abbrev read : Pairs
  read = taken traced steps done want olds mids news old new n stream is run apart filling (Err ReadFailed) fill untouched

  read_is : bytes_for stream.port read ≡ bytes_for stream.port stood.taken ++ fill.bytes
  read_is = bytes_for-append stream.port stood.taken ((stream.port, fill.bytes) ∷ []) ∙ ap (λ bytes. bytes_for stream.port stood.taken ++ bytes) (bytes_for-one stream.port fill.bytes)

  never : (queue_at new n).ended ≡ true → ⊥
  never ended = (let both : true ≡ false = sym ended ∙ fill.ends.whole.goes_on in cc)

  right : (rest : List ℕ) → IsQueueOf its.types (type_at its n) (queue_at new n) (bytes_for stream.port read ++ rest) (stood.fed n ++ fill.values) rest
  right rest =
      let text : bytes_for stream.port read ++ rest ≡ bytes_for stream.port stood.taken ++ (fill.bytes ++ rest) =
      ap (λ bytes. bytes ++ rest) read_is ∙ append_assoc (bytes_for stream.port stood.taken) fill.bytes rest in
      subst (λ all. IsQueueOf its.types (type_at its n) (queue_at new n) all (stood.fed n ++ fill.values) rest) (sym text)
      (on traced steps done want olds mids news old new n stream is run apart filling (Err ReadFailed) fill untouched
      (bytes_for stream.port stood.taken ++ (fill.bytes ++ rest)) rest (λ ended. absurd (never ended))
      (stood.after.read.right n stream is (fill.bytes ++ rest) (λ ended. absurd (never (fill.stays ended).1))))

  -- how many values came
  comes_more : length (coming_at new n) ≡ length (coming_at old n) + length fill.values
  comes_more =
      let within = slice_get_within its.nodes n (From stream) is in
      ap (λ (s : State). length (part_of s n).coming) fill.state ∙ fed_length (state_of old).coming n fill.values (omega (arith, within, stood.parts.coming))

  few_here : (good : List Value) (bad : Option ℕ) → IsGoodUntil its.types (type_at its n) (whole_lines (bytes_for stream.port read)) good bad
      → length good < number
  few_here good bad until =
      let given = taken_given its.types (type_at its n) (queue_at new n) (bytes_for stream.port read) (stood.fed n ++ fill.values) fill.ends.whole right in
      let one = good_once its.types (type_at its n) (whole_lines (bytes_for stream.port read)) good ((stood.fed n ++ fill.values) ++ given.0) bad None run.names until given.2 in
      let same : length good ≡ length ((stood.fed n ++ fill.values) ++ given.0) = ap length one.0 in
      let none : length (queue_at new n).values ≡ 0 = ap length (queues_show_no_values new n) in
      let held : length (queue_at new n).values ≡ length given.0 = ap length given.1 ∙ length-map given.0 (flat its.types (type_at its n)) in
      let shared = fed_now traced steps done want olds mids news old new n stream is run apart filling (Err ReadFailed) fill untouched in
      let came : length (stood.fed n) ≡ length shared.0 + length (coming_at old n) = ap length shared.1 ∙ length-append shared.0 (coming_at old n) in
      omega (arith, same, length-append (stood.fed n ++ fill.values) given.0, length-append (stood.fed n) fill.values, none, held, came, comes_more, fill.ends.few)

  few : run_few its stream.port number (bytes_for stream.port read)
  few node other there named good bad until =
      let here : node ≡ n = apart node n (From other) (From stream) other stream there is refl refl named in
      few_here good bad (subst (λ k. IsGoodUntil its.types (type_at its k) (whole_lines (bytes_for stream.port read)) good bad) here until)

  pub want_failed : (Roomy mids [] → ⊥) → n < length its.nodes → FailsInRounds its traced steps olds news
  want_failed no_room within =
      let coming = comes its run traced steps done (filling_acts its traced steps done n) olds mids old stood in
      let can = may its run traced steps done (filling_acts its traced steps done n) olds mids old stood in
      let next = want_next its coming.inputs traced steps done n filling.is (λ round least most. stood.after.unblocked coming.inputs can round least most) within
      (λ m less. goes_on its run traced steps done (filling_acts its traced steps done n) olds mids old stood coming.inputs can filling.is m want
      (let e = within in omega (arith, less, e)) filling.wanted (λ other there. filling.begun m other less there)) in
      let same = wants_are traced steps done want olds mids news old new n stream is run apart filling (Err ReadFailed) fill untouched coming.inputs.good
      (is_needed traced steps done want olds mids news old new n stream is run apart filling (Err ReadFailed) fill untouched coming.inputs can) in
      let whole : made_acts its coming.inputs traced steps ≡ stood.acts ++ wants stream.port number ∷ next.0 =
      next.1 ∙ ap (λ (acts : List Act). acts ++ next.0) (same ∙ ap (λ (acts : List Act). acts ++ wants stream.port number ∷ []) (sym (stood.are coming.inputs can)))
      ∙ append_assoc stood.acts (wants stream.port number ∷ []) next.0 in
      record {
        comes = coming;
        fails = then_fails (run_few its) [] stood.acts (wants stream.port number) next.0 (made_acts its coming.inputs traced steps) stood.taken olds mids news whole stood.made
            (want_fails (run_few its) stood.taken stream.port number ((stream.port, fill.bytes) ∷ []) mids news fill.reads (only_of stream.port number fill.bytes) few no_room untouched);
      }
