-- From the parts of a call to the whole.
use Rattle.std.proofs.Common.{◌≡◌, ◌⊎◌, ℕ, Bool, false, List, [], ◌∷◌, ◌++◌, Some, None, IfSome, refl, ap, sym, ◌∙◌, subst, inl, inr}
use Rattle.std.specs.Str.{bytes_eq}
use Rattle.std.proofs.lemmas.Bool.{true≢false}
use Rattle.hume_base.specs.declared.rule.Refusal.{Refusal}
use Rattle.hume_base.specs.declared.rule.Rule.TheVariants.{C55}
use Rattle.hume_model.specs.declared.core_tree.Core.{Core}
use Rattle.hume_ports.specs.Port.{PortView}
use Rattle.hume_ports.specs.Ports.{is_among, names, left_of, place_of, ForNameAt}
use Rattle.hume_ports.specs.Delivery.{Pairs, bytes_for}
use Rattle.port_acts.specs.Acts.{Act, wants, writes, finishes, name_of, written}
use Rattle.port_acts.specs.Ends.{Few, never, Made, IsFew, Fails, Owed}
use Rattle.port_acts.specs.Early.{Reads, Stops, read_each}
use Rattle.port_acts.specs.Places.{IsPlaceOf}
use Rattle.port_acts.proofs.Making.{Made-start, Made-on}
use Rattle.port_acts.proofs.Failing.{Fails-on, Fails-any, Fails-few}
use Rattle.hume_front.specs.declared.acceptance.Accepted.{Accepted}
use Rattle.hume_front.specs.Accepted.{IsAccepted, Breaks}
use Rattle.hume_front.proofs.Sources.{one_accepted_core}
use Rattle.run_rounds.specs.Inputs.{Inputs}
use Rattle.run_rounds.specs.Streams.{streams}
use Rattle.run_rounds.specs.RunActs.{run_acts, run_few, ReadsForRound}
use Rattle.hume_calls.specs.declared.status.Status.{Status}
use Rattle.hume_calls.specs.declared.status.Status.TheVariants.{Fault, NoMemory}
use Rattle.hume_calls.specs.declared.order.Order.{Order}
use Rattle.hume_calls.specs.declared.order.Order.TheVariants.{Run, Check}
use Rattle.hume_calls.specs.Streams.{unfit_line}
use Rattle.hume_calls.specs.Owed.{IsRefusal, broken, unfit, IsOwed, owed_run, owed_refused, owed_check, table_writes, run_finishes}
use Rattle.hume_calls.specs.Words.{Named, source_alone, source_with}
use Rattle.hume_calls.specs.Reading.{source_reads, source_text, further_reads, early_reads}
use Rattle.hume_calls.specs.Few.{source_few, call_few}
use Rattle.hume_calls.specs.Headline.{AnswersFrom, EndsUntold}
use Rattle.hume_calls.specs.Ended.{RunsOut, EndsAfter, EndsOwed, EndsRefused, EndsText, RunsCore}
use Rattle.hume_calls.proofs.Texts.{told_texts, told_by_all, texts_before}
use Rattle.hume_calls.proofs.Wanting.{apart_from_earlier, apart_from_source, want_of_run}

-- the name means the port at its place
pub meant : (name : List ℕ) (ns : List (List ℕ)) (at : ℕ) → IsPlaceOf name ns at → place_of name ns ≡ Some at
meant name ns at p = let P : List ℕ → Type 0 = λ n. place_of n ns ≡ Some at in subst P p.named p.place.first

-- calls whose acts have no wants

any_after : (few : Few) (earlier : Pairs) (owed : Owed Status) (olds news : List PortView) (status : Status) → EndsAfter never [] owed olds news status
    → EndsAfter few earlier owed olds news status
any_after few earlier owed olds news status (inl made) = inl made
any_after few earlier owed olds news status (inr (is, f)) = inr (is, Fails-any few earlier owed.acts olds news f)

-- memory ran out, and nothing was read
pub runs_out : (acts : List Act) (olds news : List PortView) (status : Status) → written acts ≡ [] → RunsOut olds news status
    → (status ≡ NoMemory) × Stops acts olds news
runs_out acts olds news status none out = (
  out.0,
  record {
    before = [];
    later = acts;
    in_order = refl;
    unwritten = refl;
    taken = [];
    made = subst (λ (ports : List PortView). Made [] [] olds ports) (sym out.1) (Made-start olds);
  },
)

-- further reads write nothing
pub reads_write_nothing : (reads : Reads) → written (read_each reads) ≡ []
reads_write_nothing [] = refl
reads_write_nothing (read ∷ reads) = reads_write_nothing reads

pub out_of_memory : (order : Order) (named : Named) (text : List ℕ) (olds news : List PortView) (status : Status) → RunsOut olds news status
    → EndsText order named text olds news status
out_of_memory order named text olds news status out =
    inl (runs_out (read_each (further_reads order named)) olds news status (reads_write_nothing (further_reads order named)) out)

pub owed_text : (order : Order) (named : Named) (text : List ℕ) (olds news : List PortView) (status : Status) (owed : Owed Status)
    → IsOwed order named text (names olds) (told_texts olds) owed → EndsOwed owed olds news status → EndsText order named text olds news status
owed_text order named text olds news status owed owes (inl out) = out_of_memory order named text olds news status out
owed_text order named text olds news status owed owes (inr ends) = inr (record {
  texts = told_texts olds;
  told = λ name apart. told_by_all olds name;
  owed = owed;
  owes = owes;
  ends = any_after (call_few order named text (told_texts olds)) ((named.source, text) ∷ []) owed olds news status ends;
})

-- a refused source

-- Each rule that the text breaks may be told.
abbrev TellsBroken : Order → Named → List ℕ → List PortView → Type 0
TellsBroken order named text olds = (refusal : Refusal) → Breaks text refusal → IsOwed order named text (names olds) (told_texts olds) (owed_refused refusal)

pub refused_text : (order : Order) (named : Named) (text : List ℕ) (olds news : List PortView) (status : Status) → TellsBroken order named text olds
    → EndsRefused text olds news status → EndsText order named text olds news status
refused_text order named text olds news status tells (inl out) = out_of_memory order named text olds news status out
refused_text order named text olds news status tells (inr (refusal, breaks, ends)) =
    owed_text order named text olds news status (owed_refused refusal) (tells refusal breaks) ends

pub refused_run : (steps workers place : ℕ) (traced : Bool) (named : Named) (text : List ℕ) (olds news : List PortView) (status : Status)
    → EndsRefused text olds news status → EndsText (Run steps workers place traced) named text olds news status
refused_run steps workers place traced named text olds news status =
    refused_text (Run steps workers place traced) named text olds news status (λ refusal breaks. inl (refusal, broken refusal breaks, refl))

pub refused_check : (place : ℕ) (named : Named) (text : List ℕ) (olds news : List PortView) (status : Status)
    → EndsRefused text olds news status → EndsText (Check place) named text olds news status
refused_check place named text olds news status =
    refused_text (Check place) named text olds news status (λ refusal breaks. inl (refusal, breaks, refl))

-- a stream's port is unfit
pub unfit_text : (steps workers place : ℕ) (traced : Bool) (named : Named) (text : List ℕ) (olds news : List PortView) (status : Status)
    (refusal : Refusal) (accepted : Accepted) (line : ℕ) → IsAccepted text accepted
    → unfit_line (names olds) named.source [] (streams accepted.core) ≡ Some line
    → refusal ≡ record { rule = C55; line = line } → EndsOwed (owed_refused refusal) olds news status
    → EndsText (Run steps workers place traced) named text olds news status
unfit_text steps workers place traced named text olds news status refusal accepted line is_accepted found is ends =
    let refuses : IsRefusal text (names olds) named.source [] refusal =
    subst (IsRefusal text (names olds) named.source []) (sym is) (unfit accepted is_accepted line
    found) in
    owed_text (Run steps workers place traced) named text olds news status (owed_refused refusal) (inl (refusal, refuses, refl)) ends

pub check_text : (place : ℕ) (named : Named) (text : List ℕ) (olds news : List PortView) (status : Status) (accepted : Accepted) → IsAccepted text accepted
    → EndsOwed (owed_check accepted.core) olds news status → EndsText (Check place) named text olds news status
check_text place named text olds news status accepted is_accepted ends =
    owed_text (Check place) named text olds news status (owed_check accepted.core) (inr (accepted, is_accepted, refl)) ends

-- the run of an accepted source

-- What a run tells of its wants.
abbrev pub WantsTell : Core → Inputs → Bool → ℕ → Type 0
WantsTell core inputs traced steps = (before later : List Act) (name : List ℕ) (count : ℕ)
    → run_acts core inputs traced steps ≡ before ++ wants name count ∷ later
    → ReadsForRound core inputs.good traced steps before name count

-- no want of a run is of the source's port, or of one that no stream may have
pub wants_apart : (source : List ℕ) (others : List (List ℕ)) (core : Core) (ns : List (List ℕ)) → unfit_line ns source others (streams core) ≡ None
    → (traced : Bool) (steps : ℕ) (coming : Inputs) → WantsTell core coming traced steps → (before later : List Act) (name : List ℕ) (count : ℕ)
    → (owed_run traced steps core coming).acts ≡ before ++ wants name count ∷ later → (bytes_eq name source ≡ false) × (is_among name others ≡ false)
wants_apart source others core ns fit traced steps coming tell before later name count e =
    let inside = want_of_run (table_writes core) (run_acts core coming traced steps) (run_finishes core) before later name count e in
    let reads = tell inside.0 inside.1 name count inside.3 in (
      subst (λ (n : List ℕ). bytes_eq n source ≡ false) (sym reads.is_port) (apart_from_source ns source core.nodes others fit reads.node reads.stream reads.at),
      subst (λ (n : List ℕ). is_among n others ≡ false) (sym reads.is_port) (apart_from_earlier ns source core.nodes others fit reads.node reads.stream reads.at),
    )

module _ (steps workers place : ℕ) (traced : Bool) (named : Named) (text : List ℕ) (accepted : Accepted) (is_accepted : IsAccepted text accepted)
    (texts : List ℕ → List ℕ) where
  abbrev few_values : Few
  few_values = call_few (Run steps workers place traced) named text texts

  -- too few values for a run are too few for the call, of ports apart from the source
  few_of_act : (act : Act) (taken : Pairs) → ((name : List ℕ) (count : ℕ) → act ≡ wants name count → bytes_eq name named.source ≡ false)
      → IsFew (run_few accepted.core) act (bytes_for (name_of act) taken)
      → IsFew few_values act (bytes_for (name_of act) ((named.source, text) ∷ taken))
  few_of_act (wants name count) taken apart is =
      let other = apart name count refl in
      let same : bytes_for name taken ≡ bytes_for name ((named.source, text) ∷ taken) = rw other refl in
      record {
        of_source = λ here. absurd (true≢false (sym here ∙ other));
        of_further = λ among. absurd (true≢false (sym among));
        of_log = λ among. absurd (true≢false (sym among));
        of_streams = λ unread core run.
            let one : accepted.core ≡ core = one_accepted_core text accepted run.0 is_accepted run.1 ∙ sym run.2 in
            subst (λ (c : Core). run_few c name count (bytes_for name ((named.source, text) ∷ taken))) one
            (subst (λ (bytes : List ℕ). run_few accepted.core name count bytes) same is);
      }
  few_of_act (writes name bytes) taken apart is = tt
  few_of_act (finishes name) taken apart is = tt

  module _ (ns : List (List ℕ)) (fit : unfit_line ns named.source [] (streams accepted.core) ≡ None) (coming : Inputs)
      (tell : WantsTell accepted.core coming traced steps) where
    call_fails : (olds news : List PortView) → Fails (run_few accepted.core) [] (owed_run traced steps accepted.core coming).acts olds news
        → Fails few_values ((named.source, text) ∷ []) (owed_run traced steps accepted.core coming).acts olds news
    call_fails olds news f =
        Fails-few (run_few accepted.core) few_values [] ((named.source, text) ∷ []) (owed_run traced steps accepted.core coming).acts olds news f
        (few_of_act f.act (f.taken ++ f.read)
        (λ name count is. (wants_apart named.source [] accepted.core ns fit traced steps coming tell f.before f.later name count
        (f.in_order ∙ ap (λ (act : Act). f.before ++ act ∷ f.later) is)).0) f.is_few)

    call_after : (olds news : List PortView) (status : Status)
        → EndsAfter (run_few accepted.core) [] (owed_run traced steps accepted.core coming) olds news status
        → EndsAfter few_values ((named.source, text) ∷ []) (owed_run traced steps accepted.core coming) olds news status
    call_after olds news status (inl made) = inl made
    call_after olds news status (inr (is, f)) = inr (is, call_fails olds news f)

-- a run of a core that was made ready is one of the source's core
pub ready_runs : (traced : Bool) (steps : ℕ) (ready core : Core) (olds news : List PortView) (status : Status) → ready ≡ core
    → RunsOut olds news status ⊎ RunsCore traced steps ready olds news status → RunsOut olds news status ⊎ RunsCore traced steps core olds news status
ready_runs traced steps ready core olds news status same ends =
    subst (λ (c : Core). RunsOut olds news status ⊎ RunsCore traced steps c olds news status) same ends

pub run_text : (steps workers place : ℕ) (traced : Bool) (named : Named) (text : List ℕ) (accepted : Accepted) → IsAccepted text accepted
    → (olds news : List PortView) (status : Status) → unfit_line (names olds) named.source [] (streams accepted.core) ≡ None
    → ((coming : Inputs) → WantsTell accepted.core coming traced steps)
    → RunsOut olds news status ⊎ RunsCore traced steps accepted.core olds news status
    → EndsText (Run steps workers place traced) named text olds news status
run_text steps workers place traced named text accepted is_accepted olds news status fit tell (inl out) =
    out_of_memory (Run steps workers place traced) named text olds news status out
run_text steps workers place traced named text accepted is_accepted olds news status fit tell (inr runs) = inr (record {
  texts = runs.comes.texts;
  told = λ name apart. runs.comes.told name;
  owed = owed_run traced steps accepted.core runs.comes.inputs;
  owes = inr (accepted, is_accepted, fit, runs.comes.inputs, runs.comes.are, refl);
  ends = call_after steps workers place traced named text accepted is_accepted runs.comes.texts (names olds) fit runs.comes.inputs (tell runs.comes.inputs)
      olds news status runs.ends;
})

-- the call from its source's port

-- it ended early, or as the text says that is read from the source's port
abbrev pub Ended : Order → Named → List PortView → List PortView → Status → Type 0
Ended order named olds news status = EndsUntold order named olds news status ⊎ AnswersFrom order named olds news status

module _ (order : Order) (named : Named) (text : List ℕ) (olds mids news : List PortView) (status : Status)
    (m : Made (read_each (source_reads named.source)) ((named.source, text) ∷ []) olds mids) where
  abbrev first_read : List Act
  first_read = read_each (source_reads named.source)

  whole_ends : (texts : List ℕ → List ℕ) (owed : Owed Status) → EndsAfter (call_few order named text texts) ((named.source, text) ∷ []) owed mids news status
      → ((status ≡ owed.answer) × (taken : Pairs) × Made (first_read ++ owed.acts) taken olds news)
      ⊎ ((status ≡ Fault) × Fails (call_few order named text texts) [] (first_read ++ owed.acts) olds news)
  whole_ends texts owed (inl (is, taken, made)) = inl (
    is,
    ((named.source, text) ∷ []) ++ taken,
    Made-on first_read owed.acts ((named.source, text) ∷ []) taken olds mids news m made,
  )
  whole_ends texts owed (inr (is, f)) = inr (
    is,
    Fails-on (call_few order named text texts) [] ((named.source, text) ∷ []) first_read owed.acts olds mids news m f,
  )

  -- memory ran out behind the source's read
  stops_behind : Stops (read_each (further_reads order named)) mids news → Stops (read_each (early_reads order named)) olds news
  stops_behind s = record {
    before = first_read ++ s.before;
    later = s.later;
    in_order = ap (λ (acts : List Act). first_read ++ acts) s.in_order;
    unwritten = s.unwritten;
    taken = ((named.source, text) ∷ []) ++ s.taken;
    made = Made-on first_read s.before ((named.source, text) ∷ []) s.taken olds mids news m s.made;
  }

  pub from_text : IfSome (left_of named.source olds) (λ left. text ≡ source_text left) → EndsText order named text mids news status
      → Ended order named olds news status
  from_text told (inl out) = inl (inl (out.0, stops_behind out.1))
  from_text told (inr owes) = inr (record {
    text = text;
    told = told;
    texts = owes.texts;
    texts_told = texts_before named.source text first_read olds mids owes.texts m owes.told;
    owed = owes.owed;
    owes = subst (λ (ns : List (List ℕ)). IsOwed order named text ns owes.texts owes.owed) m.progress.same_names owes.owes;
    ends = whole_ends owes.texts owes.owed owes.ends;
  })

pub source_unread : (order : Order) (named : Named) (olds news : List PortView) (at : ℕ) → IsPlaceOf named.source (names olds) at
    → ForNameAt at olds (λ name. Fails (source_few name) [] (read_each (source_reads name)) olds news) → Ended order named olds news Fault
source_unread order named olds news at place failed = inl (inr (refl, failed named.source (meant named.source (names olds) at place)))

pub source_unstarted : (order : Order) (named : Named) (olds news : List PortView) → news ≡ olds → Ended order named olds news NoMemory
source_unstarted order named olds news same =
    inl (inl (runs_out (read_each (early_reads order named)) olds news NoMemory (reads_write_nothing (early_reads order named)) (refl, same)))

pub answers_from : (order : Order) (named : Named) (text : List ℕ) (olds mids news : List PortView) (at : ℕ) (status : Status) → IsPlaceOf named.source (names olds) at
    → ForNameAt at olds (λ name. Made (read_each (source_reads name)) ((name, text) ∷ []) olds mids)
    → ForNameAt at olds (λ name. IfSome (left_of name olds) (λ left. text ≡ source_text left))
    → EndsText order named text mids news status → Ended order named olds news status
answers_from order named text olds mids news at status place made told ends =
    let e = meant named.source (names olds) at place in
    from_text order named text olds mids news status (made named.source e) (told named.source e) ends

-- the same call, by another copy of its source's name or of its text
pub same_source : (order : Order) (source other text : List ℕ) (olds news : List PortView) (status : Status) → other ≡ source
    → EndsText order (source_alone other) text olds news status → EndsText order (source_alone source) text olds news status
same_source order source other text olds news status same ends = subst (λ (s : List ℕ). EndsText order (source_alone s) text olds news status) same ends

pub same_named : (order : Order) (source other : List ℕ) (others : List (List ℕ)) (text : List ℕ) (olds news : List PortView) (status : Status) → other ≡ source
    → EndsText order (source_with other others) text olds news status → EndsText order (source_with source others) text olds news status
same_named order source other others text olds news status same ends =
    subst (λ (s : List ℕ). EndsText order (source_with s others) text olds news status) same ends

pub same_text : (order : Order) (named : Named) (text copy : List ℕ) (olds news : List PortView) (status : Status) → copy ≡ text
    → EndsText order named copy olds news status → EndsText order named text olds news status
same_text order named text copy olds news status same ends = subst (λ (t : List ℕ). EndsText order named t olds news status) same ends

pub of_order : (order other : Order) (named : Named) (text : List ℕ) (olds news : List PortView) (status : Status) → order ≡ other
    → EndsText other named text olds news status → EndsText order named text olds news status
of_order order other named text olds news status is ends = let P : Order → Type 0 = λ o. EndsText o named text olds news status in subst P (sym is) ends
