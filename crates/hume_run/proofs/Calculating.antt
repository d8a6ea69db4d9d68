-- From the parts of a call with a script to the whole.
use Rattle.std.proofs.Common.{◌≡◌, ℕ, ◌<◌, Bool, true, false, List, [], ◌∷◌, ◌++◌, length, Option, Some, None, IfSome, Result, Ok, slice_get, refl, ap, sym, ◌∙◌, subst, inl, inr, if◌then◌else◌}
use Rattle.std.specs.Option.{unwrap_or}
use Rattle.std.specs.Str.{bytes_eq}
use Rattle.std.proofs.lemmas.Bool.{true≢false, or_parts}
use Rattle.hume_base.specs.declared.rule.Refusal.{Refusal}
use Rattle.hume_base.specs.Least.{IsLeast}
use Rattle.hume_model.specs.declared.core_tree.Core.{Core}
use Rattle.hume_base.specs.declared.types.Value.{Value}
use Rattle.hume_model.specs.declared.core_tree.NodeC.{NodeC}
use Rattle.hume_model.specs.declared.core_tree.NodeC.TheVariants.{Rules, From, To}
use Rattle.hume_model.specs.declared.core_tree.StreamC.{StreamC}
use Rattle.hume_net.specs.rounds.Pieces.{listed}
use Rattle.hume_streams.specs.Good.{IsGoodUntil}
use Rattle.phase_workers.specs.StreamTypes.{type_at}
use Rattle.box_costs.specs.CostRules.{BreaksCosts}
use Rattle.box_calculus.specs.declared.scripts.ScriptError.{ScriptError}
use Rattle.box_calculus.specs.Scripts.{scripted}
use Rattle.hume_ports.specs.Port.{PortView}
use Rattle.hume_ports.specs.Ports.{ForNameAt, is_among, left_of, names}
use Rattle.hume_ports.specs.Delivery.{Pairs, bytes_for}
use Rattle.hume_ports.proofs.Names.{bytes_eq-self, same_name}
use Rattle.port_acts.specs.Acts.{Act, wants, writes, finishes, name_of}
use Rattle.port_acts.specs.Early.{after_reads, read_each}
use Rattle.port_acts.specs.Ends.{Few, never, Made, IsFew, Fails, Owed}
use Rattle.port_acts.specs.Places.{IsPlaceOf}
use Rattle.port_acts.proofs.Making.{Made-on}
use Rattle.port_acts.proofs.Failing.{Fails-any, Fails-few, Fails-on, Fails-stop}
use Rattle.hume_front.specs.declared.acceptance.Sound.{Sound}
use Rattle.hume_front.specs.Accepted.{IsSound}
use Rattle.hume_front.proofs.Sources.{one_sound_core}
use Rattle.run_rounds.specs.Inputs.{Inputs, AreInputs, ComesTo}
use Rattle.run_rounds.specs.Streams.{streams}
use Rattle.run_rounds.specs.RunActs.{run_few}
use Rattle.hume_calls.specs.declared.status.Status.{Status}
use Rattle.hume_calls.specs.declared.status.Status.TheVariants.{Fault}
use Rattle.hume_calls.specs.declared.order.Order.{Order}
use Rattle.hume_calls.specs.declared.order.Order.TheVariants.{Calc}
use Rattle.hume_calls.specs.Calc.{IsScriptRefusal}
use Rattle.hume_calls.specs.Few.{call_few, source_few}
use Rattle.hume_calls.specs.Headline.{IsText}
use Rattle.hume_calls.specs.Owed.{IsOwedScript, owed_refused, owed_run}
use Rattle.hume_calls.specs.Reading.{script_reads, script_text}
use Rattle.hume_calls.specs.Streams.{unfit_line}
use Rattle.hume_calls.specs.Words.{Named, further_of}
use Rattle.hume_calls.specs.Ended.{EndsAfter, EndsText, RunsCore, RunsOut}
use Rattle.hume_run.specs.inner.ScriptEnds.{EndsScript, EndsUnsound, refuses, runs, runs_out}
use Rattle.hume_calls.proofs.Answering.{WantsTell, meant, out_of_memory, owed_text, wants_apart}
use Rattle.hume_calls.proofs.OneScript.{SomeInputs, some_script}
use Rattle.hume_calls.proofs.Texts.{text_before, told_by_all, told_texts}
use Rattle.hume_calls.proofs.Wanting.{apart_from_earlier}

ok_same : (x y : Core) → ◌≡◌ {A = Result Core ScriptError} (Ok x) (Ok y) → x ≡ y
ok_same x y is = (let same : x ≡ y = cc in same)

module _ (steps workers place script : ℕ) (named : Named) (text : List ℕ) where
  abbrev order : Order
  order = Calc steps workers place script

  abbrev port : List ℕ
  port = further_of named

  -- a source that isn't sound
  pub unsound_text : (olds news : List PortView) (status : Status) → EndsUnsound text olds news status → EndsText order named text olds news status
  unsound_text olds news status (inl out) = out_of_memory order named text olds news status out
  unsound_text olds news status (inr (refusal, breaks, ends)) =
      owed_text order named text olds news status (owed_refused refusal) (inl (refusal, breaks, refl)) ends

  module _ (apart : bytes_eq port named.source ≡ false) (sound : Sound) (is_sound : IsSound text sound) where
    abbrev reads : List Act
    reads = read_each (script_reads port)

    abbrev before_script : Pairs
    before_script = (named.source, text) ∷ []

    -- the script itself, of which too few bytes have come
    module _ (texts : List ℕ → List ℕ) where
      abbrev few : Few
      few = call_few order named text texts

      script_few : (act : Act) (taken : Pairs) → act ≡ wants port 65793 → IsFew (source_few port) act (bytes_for (name_of act) taken)
          → IsFew few act (bytes_for (name_of act) (before_script ++ taken))
      script_few act taken is =
          let P : Act → Type 0 = λ a. IsFew (source_few port) a (bytes_for (name_of a) taken) → IsFew few a (bytes_for (name_of a) (before_script ++ taken)) in
          subst P (sym is) here
        where
          none : bytes_for port (before_script ++ taken) ≡ bytes_for port taken
          none = rw apart refl

          here : (bytes_eq port port ≡ true → length (bytes_for port taken) < 65793) → few port 65793 (bytes_for port (before_script ++ taken))
          here less =
              let short = subst (λ (bytes : List ℕ). length bytes < 65793) (sym none) (less (bytes_eq-self port)) in
              record {
                of_source = λ same. absurd (true≢false (sym same ∙ apart));
                of_further = λ among. short;
                of_log = λ among. absurd (true≢false (sym among));
                of_streams = λ other core run. absurd (true≢false (sym (ap (λ b. b) (whole (bytes_eq-self port))) ∙ other));
              }
            where
              whole : bytes_eq port port ≡ true → is_among port (port ∷ []) ≡ true
              whole self = rw self refl

    only_act : (first act : Act) (before later : List Act) → first ∷ [] ≡ before ++ act ∷ later → act ≡ first
    only_act first act [] later is = (let same : first ≡ act = cc in sym same)
    only_act first act (other ∷ []) later is = cc
    only_act first act (other ∷ next ∷ before) later is = cc

    -- the read of the script failed
    pub script_unread : (olds news : List PortView)
        → ((texts : List ℕ → List ℕ) → (later : Owed Status) × IsOwedScript steps sound.core (script_text (texts port)) named.source port (names olds) texts later)
        → Fails (source_few port) [] reads olds news → EndsText order named text olds news Fault
    script_unread olds news some f =
        let texts : List ℕ → List ℕ = told_texts olds in
        let later = some texts in
        inr (record {
          texts = texts;
          told = λ name other. told_by_all olds name;
          owed = after_reads (script_reads port) later.0;
          owes = inr (sound, is_sound, later.0, later.1, refl);
          ends = inr (
            refl,
            Fails-stop (few texts) before_script reads later.0.acts olds news
                (Fails-few (source_few port) (few texts) [] before_script reads olds news f
                (script_few texts f.act (f.taken ++ f.read) (only_act (wants port 65793) f.act f.before f.later f.in_order) f.is_few)),
          );
        })

    -- by the place of its port
    pub script_failed : SomeInputs → (olds news : List PortView) (at : ℕ) → IsPlaceOf port (names olds) at
        → ForNameAt at olds (λ name. Fails (source_few name) [] (read_each (script_reads name)) olds news) → EndsText order named text olds news Fault
    script_failed has_inputs olds news at place failed =
        script_unread olds news
        (λ texts. some_script text sound is_sound (script_text (texts port)) (names olds) named.source port texts steps has_inputs)
        (failed port (meant port (names olds) at place))

    -- the script was read
    module _ (lines : List ℕ) (olds mids : List PortView) (m : Made reads ((port, lines) ∷ []) olds mids)
        (told : IfSome (left_of port olds) (λ left. lines ≡ script_text left)) (short : script_text lines ≡ lines) where
      -- all that the script's port has to read, where it tells it, or else what was read
      abbrev whole : List ℕ
      whole = unwrap_or (left_of port olds) lines

      whole_is : (left : Option (List ℕ)) → IfSome left (λ bytes. lines ≡ script_text bytes) → script_text (unwrap_or left lines) ≡ lines
      whole_is None tells = short
      whole_is (Some bytes) tells = sym tells

      abbrev with_script : (List ℕ → List ℕ) → List ℕ → List ℕ
      with_script texts name = if bytes_eq name port then whole else texts name

      script_is : (texts : List ℕ → List ℕ) → script_text (with_script texts port) ≡ lines
      script_is texts = rw (bytes_eq-self port) (whole_is (left_of port olds) told)

      same_left : (left : Option (List ℕ)) → IfSome left (λ bytes. unwrap_or left lines ≡ bytes)
      same_left None = tt
      same_left (Some bytes) = refl

      told_with : (texts : List ℕ → List ℕ) → ((name : List ℕ) → IfSome (left_of name mids) (λ left. texts name ≡ left)) → IsText named.source olds (with_script texts)
      told_with texts tells name other = by (bytes_eq name port) refl
        where
          by : (b : Bool) → bytes_eq name port ≡ b → IfSome (left_of name olds) (λ left. (if b then whole else texts name) ≡ left)
          by true is = subst (λ (n : List ℕ). IfSome (left_of n olds) (λ left. whole ≡ left)) (sym (same_name name port is)) (same_left (left_of port olds))
          by false is =
              text_before olds mids ((port, lines) ∷ []) _ m.progress name (texts name) (none is) (tells name)
            where
              none : bytes_eq name port ≡ false → bytes_for name ((port, lines) ∷ []) ≡ []
              none is = rw is refl

      -- what ends as the rest owes ends as the whole owes
      whole_after : (texts : List ℕ → List ℕ) (later : Owed Status) (news : List PortView) (status : Status)
          → EndsAfter (few texts) (before_script ++ (port, lines) ∷ []) later mids news status
          → EndsAfter (few texts) before_script (after_reads (script_reads port) later) olds news status
      whole_after texts later news status (inl (is, taken, made)) =
          inl (is, ((port, lines) ∷ []) ++ taken, Made-on reads later.acts ((port, lines) ∷ []) taken olds mids news m made)
      whole_after texts later news status (inr (is, f)) =
          inr (is, Fails-on (few texts) before_script ((port, lines) ∷ []) reads later.acts olds mids news m f)

      stopped : (news : List PortView) (status : Status) → RunsOut mids news status → EndsText order named text olds news status
      stopped news status (is, same) = inl (
        is,
        record {
          before = reads;
          later = [];
          in_order = refl;
          unwritten = refl;
          taken = (port, lines) ∷ [];
          made = subst (λ (ports : List PortView). Made reads ((port, lines) ∷ []) olds ports) (sym same) m;
        },
      )

      any_later : (texts : List ℕ → List ℕ) (later : Owed Status) (news : List PortView) (status : Status) → EndsAfter never [] later mids news status
          → EndsAfter (few texts) (before_script ++ (port, lines) ∷ []) later mids news status
      any_later texts later news status (inl made) = inl made
      any_later texts later news status (inr (is, f)) =
          inr (is, Fails-any (few texts) (before_script ++ (port, lines) ∷ []) later.acts mids news f)

      -- the streams of a core that is run have ports apart from the script's
      port_apart : (core : Core) → unfit_line (names olds) named.source (port ∷ []) (streams core) ≡ None → (n : ℕ) (stream : StreamC)
          → slice_get core.nodes n ≡ Some (From stream) → bytes_eq stream.port port ≡ false
      port_apart core fit n stream at =
          (or_parts (bytes_eq stream.port port) false (apart_from_earlier (names olds) named.source core.nodes (port ∷ []) fit n stream at)).0

      -- so its inputs are the same with the script's text
      comes_with : (core : Core) → unfit_line (names olds) named.source (port ∷ []) (streams core) ≡ None → (texts : List ℕ → List ℕ)
          (n : ℕ) (node : Option NodeC) → slice_get core.nodes n ≡ node → (good : List Value) (bad : Option ℕ)
          → ComesTo core texts n node good bad → ComesTo core (with_script texts) n node good bad
      comes_with core fit texts n None at good bad c = c
      comes_with core fit texts n (Some (Rules b)) at good bad c = c
      comes_with core fit texts n (Some (To stream)) at good bad c = c
      comes_with core fit texts n (Some (From stream)) at good bad c =
          let same : texts stream.port ≡ with_script texts stream.port = rw (port_apart core fit n stream at) refl in
          subst (λ (text : List ℕ). IsGoodUntil core.types (type_at core n) text good bad) same c

      inputs_with : (core : Core) → unfit_line (names olds) named.source (port ∷ []) (streams core) ≡ None → (texts : List ℕ → List ℕ) (coming : Inputs)
          → AreInputs core texts coming → AreInputs core (with_script texts) coming
      inputs_with core fit texts coming are = record {
        count = are.count;
        each = λ n. comes_with core fit texts n (slice_get core.nodes n) refl (listed coming.good n) (coming.bad n) (are.each n);
      }

      -- a refusal behind the script
      refused_later : (refusal : Refusal) (news : List PortView) (status : Status) → IsScriptRefusal sound.core lines (names mids) named.source port refusal
          → EndsAfter never [] (owed_refused refusal) mids news status → EndsText order named text olds news status
      refused_later refusal news status is ends =
          let texts = with_script (told_texts mids) in
          let here : IsScriptRefusal sound.core (script_text (texts port)) (names olds) named.source port refusal =
          subst (λ (ls : List ℕ). IsScriptRefusal sound.core ls (names olds) named.source port refusal) (sym (script_is (told_texts mids)))
          (subst (λ (ns : List (List ℕ)). IsScriptRefusal sound.core lines ns named.source port refusal) m.progress.same_names is) in
          inr (record {
            texts = texts;
            told = told_with (told_texts mids) (told_by_all mids);
            owed = after_reads (script_reads port) (owed_refused refusal);
            owes = inr (sound, is_sound, owed_refused refusal, inl (refusal, here, refl), refl);
            ends = whole_after texts (owed_refused refusal) news status (any_later texts (owed_refused refusal) news status ends);
          })

      -- wants of a run are apart from source and script
      names_apart : (core : Core) → unfit_line (names olds) named.source (port ∷ []) (streams core) ≡ None → (coming : Inputs)
          → WantsTell core coming false steps → (before later : List Act) (name : List ℕ) (count : ℕ)
          → (owed_run false steps core coming).acts ≡ before ++ wants name count ∷ later
          → (bytes_eq name named.source ≡ false) × (bytes_eq name port ≡ false)
      names_apart core fit coming tell before later name count e =
          let apart = wants_apart named.source (port ∷ []) core (names olds) fit false steps coming tell before later name count e in
          (apart.0, (or_parts (bytes_eq name port) false apart.1).0)

      -- too few values for the run of the core are too few for the call
      run_few_of : (core : Core) → scripted sound.core lines ≡ Ok core → (texts : List ℕ → List ℕ) (act : Act) (taken : Pairs)
          → ((name : List ℕ) (count : ℕ) → act ≡ wants name count → (bytes_eq name named.source ≡ false) × (bytes_eq name port ≡ false))
          → IsFew (run_few core) act (bytes_for (name_of act) taken)
          → IsFew (few (with_script texts)) act (bytes_for (name_of act) ((before_script ++ (port, lines) ∷ []) ++ taken))
      run_few_of core made texts (wants name count) taken is_apart is =
          let other = is_apart name count refl in
          let same : bytes_for name taken ≡ bytes_for name ((before_script ++ (port, lines) ∷ []) ++ taken) = rw (other.0, other.1) refl in
          record {
            of_source = λ here. absurd (true≢false (sym here ∙ other.0));
            of_further = λ among. absurd (true≢false (sym among ∙ rw other.1 refl));
            of_log = λ among. absurd (true≢false (sym among));
            of_streams = λ none its run.
                let one : scripted sound.core lines ≡ Ok its =
                (λ i. scripted (one_sound_core text sound run.0 is_sound run.1 i) (sym (script_is texts) i)) ∙ run.2 in
                let one_core : core ≡ its = ok_same core its (sym made ∙ one) in
                subst (λ (c : Core). run_few c name count (bytes_for name ((before_script ++ (port, lines) ∷ []) ++ taken))) one_core
                (subst (λ (bytes : List ℕ). run_few core name count bytes) same is);
          }
      run_few_of core made texts (writes name bytes) taken is_apart is = tt
      run_few_of core made texts (finishes name) taken is_apart is = tt

      ran_after : (core : Core) → scripted sound.core lines ≡ Ok core → unfit_line (names olds) named.source (port ∷ []) (streams core) ≡ None
          → (texts : List ℕ → List ℕ) (coming : Inputs) → WantsTell core coming false steps → (news : List PortView) (status : Status)
          → EndsAfter (run_few core) [] (owed_run false steps core coming) mids news status
          → EndsAfter (few (with_script texts)) (before_script ++ (port, lines) ∷ []) (owed_run false steps core coming) mids news status
      ran_after core made fit texts coming tell news status (inl ends) = inl ends
      ran_after core made fit texts coming tell news status (inr (is, f)) = inr (
        is,
        Fails-few (run_few core) (few (with_script texts)) [] (before_script ++ (port, lines) ∷ []) (owed_run false steps core coming).acts mids news f
            (run_few_of core made texts f.act (f.taken ++ f.read)
            (λ name count act. names_apart core fit coming tell f.before f.later name count (f.in_order ∙ ap (λ (a : Act). f.before ++ a ∷ f.later) act)) f.is_few),
      )

      -- the core that the script makes is run
      ran_later : (core : Core) → scripted sound.core lines ≡ Ok core → IsLeast (BreaksCosts core) None
          → unfit_line (names mids) named.source (port ∷ []) (streams core) ≡ None → ((coming : Inputs) → WantsTell core coming false steps)
          → (news : List PortView) (status : Status) → RunsCore false steps core mids news status → EndsText order named text olds news status
      ran_later core made within fit tell news status r =
          let texts = with_script r.comes.texts in
          let coming = r.comes.inputs in
          let fits : unfit_line (names olds) named.source (port ∷ []) (streams core) ≡ None =
          subst (λ (ns : List (List ℕ)). unfit_line ns named.source (port ∷ []) (streams core) ≡ None) m.progress.same_names fit in
          let here : scripted sound.core (script_text (texts port)) ≡ Ok core = ap (scripted sound.core) (script_is r.comes.texts) ∙ made in
          inr (record {
            texts = texts;
            told = told_with r.comes.texts r.comes.told;
            owed = after_reads (script_reads port) (owed_run false steps core coming);
            owes = inr (
              sound,
              is_sound,
              owed_run false steps core coming,
              inr (core, here, within, fits, coming, inputs_with core fits r.comes.texts coming r.comes.are, refl),
              refl,
            );
            ends = whole_after texts (owed_run false steps core coming) news status
                (ran_after core made fits r.comes.texts coming (tell coming) news status r.ends);
          })

      -- the call ends as what comes of the script
      pub script_ends : ((core : Core) (coming : Inputs) → WantsTell core coming false steps) → (news : List PortView) (status : Status)
          → EndsScript steps sound.core lines named.source port mids news status → EndsText order named text olds news status
      script_ends tell news status (runs_out out) = stopped news status out
      script_ends tell news status (refuses refusal is (inl out)) = stopped news status out
      script_ends tell news status (refuses refusal is (inr ends)) = refused_later refusal news status is ends
      script_ends tell news status (runs core made within fit r) = ran_later core made within fit (tell core) news status r

    -- the call from its script's port
    pub script_answers : (lines copy : List ℕ) (olds mids news : List PortView) (at : ℕ) (status : Status) → IsPlaceOf port (names olds) at
        → ForNameAt at olds (λ name. Made (read_each (script_reads name)) ((name, lines) ∷ []) olds mids)
        → ForNameAt at olds (λ name. IfSome (left_of name olds) (λ left. lines ≡ script_text left)) → script_text lines ≡ lines → copy ≡ lines
        → ((core : Core) (coming : Inputs) → WantsTell core coming false steps) → EndsScript steps sound.core copy named.source port mids news status
        → EndsText order named text olds news status
    script_answers lines copy olds mids news at status place made told short same tell ends =
        let e = meant port (names olds) at place in
        script_ends lines olds mids (made port e) (told port e) short tell news status
        (subst (λ (ls : List ℕ). EndsScript steps sound.core ls named.source port mids news status) same ends)
