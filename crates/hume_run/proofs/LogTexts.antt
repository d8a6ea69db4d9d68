-- From the parts of a call with a log to the whole.
use Rattle.std.proofs.Common.{◌≡◌, ◌⊎◌, ℕ, ◌<◌, Bool, true, false, List, [], ◌∷◌, ◌++◌, length, Some, None, refl, ap, sym, ◌∙◌, subst, inl, inr}
use Rattle.std.specs.Str.{bytes_eq}
use Rattle.std.proofs.lemmas.Bool.{true≢false, or_parts}
use Rattle.hume_base.specs.declared.rule.Refusal.{Refusal}
use Rattle.hume_base.specs.declared.rule.Rule.TheVariants.{C55}
use Rattle.hume_model.specs.declared.core_tree.Core.{Core}
use Rattle.hume_ports.specs.Port.{PortView}
use Rattle.hume_ports.specs.Ports.{is_among, names}
use Rattle.hume_ports.specs.Delivery.{Pairs, bytes_for}
use Rattle.port_acts.specs.Acts.{Act, wants, writes, finishes, name_of}
use Rattle.port_acts.specs.Ends.{Few, IsFew}
use Rattle.port_acts.specs.Places.{IsPlaceOf}
use Rattle.port_acts.proofs.Failing.{Fails-few}
use Rattle.hume_front.specs.declared.acceptance.Accepted.{Accepted}
use Rattle.hume_front.specs.Accepted.{IsAccepted}
use Rattle.hume_front.proofs.Sources.{one_accepted_core}
use Rattle.run_rounds.specs.Inputs.{Inputs}
use Rattle.run_rounds.specs.Streams.{streams}
use Rattle.run_rounds.specs.RunActs.{run_few}
use Rattle.log_rounds.specs.Opened.{IsApart}
use Rattle.log_rounds.specs.Outcomes.{Outcome}
use Rattle.log_rounds.specs.VerifyActs.{verify_few}
use Rattle.hume_calls.specs.declared.status.Status.{Status}
use Rattle.hume_calls.specs.declared.order.Order.{Order}
use Rattle.hume_calls.specs.declared.order.Order.TheVariants.{Log}
use Rattle.hume_calls.specs.Few.{call_few}
use Rattle.hume_calls.specs.Owed.{IsRefusal, broken, unfit, owed_record, owed_refused, owed_verify}
use Rattle.hume_calls.specs.Streams.{unfit_line}
use Rattle.hume_calls.specs.Words.{Named, further_of}
use Rattle.hume_calls.specs.Ended.{EndsAfter, EndsOwed, EndsRefused, EndsText, RunsOut}
use Rattle.hume_run.specs.inner.LogEnds.{EndsLogged, Records, Verifies}
use Rattle.hume_calls.proofs.Answering.{out_of_memory, owed_text, refused_text}
use Rattle.hume_calls.proofs.Wanting.{stream_apart}
use Rattle.hume_calls.proofs.Logging.{IsInput, RecordReads, VerifyReads, input_apart, record_reads, verify_reads}

-- no stream has the log's port
pub apart_ports : (ns : List (List ℕ)) (source log : List ℕ) (core ready : Core) → ready ≡ core → {others : List (List ℕ)} → others ≡ log ∷ []
    → unfit_line ns source others (streams core) ≡ None → IsApart ready log
apart_ports ns source log core ready same only fit = subst (λ (c : Core). IsApart c log) (sym same) (λ n node stream at is.
    (or_parts (bytes_eq stream.port log) false (stream_apart ns source core.nodes (log ∷ [])
    (ap (λ (names : List (List ℕ)). unfit_line ns source names (streams core)) (sym only) ∙ fit) n node stream at is)).0)

module _ (steps place at : ℕ) (verify : Bool) (named : Named) (text : List ℕ) where
  abbrev order : Order
  order = Log steps place at verify

  abbrev port : List ℕ
  port = further_of named

  -- a refused source
  pub refused_log : (olds news : List PortView) (status : Status) → EndsRefused text olds news status → EndsText order named text olds news status
  refused_log olds news status = refused_text order named text olds news status (λ refusal breaks. inl (refusal, broken refusal breaks, refl))

  -- a stream's port is unfit
  pub unfit_log : named.others ≡ port ∷ [] → (olds news : List PortView) (status : Status) (refusal : Refusal) (accepted : Accepted) (line : ℕ) → IsAccepted text accepted
      → unfit_line (names olds) named.source named.others (streams accepted.core) ≡ Some line
      → refusal ≡ record { rule = C55; line = line } → EndsOwed (owed_refused refusal) olds news status → EndsText order named text olds news status
  unfit_log only olds news status refusal accepted line is_accepted found is ends =
      let refuses : IsRefusal text (names olds) named.source (port ∷ []) refusal =
      subst (IsRefusal text (names olds) named.source (port ∷ [])) (sym is) (unfit accepted is_accepted line
      (ap (λ (others : List (List ℕ)). unfit_line (names olds) named.source others (streams accepted.core)) (sym only) ∙ found)) in
      owed_text order named text olds news status (owed_refused refusal) (inl (refusal, refuses, refl)) ends

module _ (steps place at : ℕ) (named : Named) (text : List ℕ) (accepted : Accepted) (is_accepted : IsAccepted text accepted)
    (apart : bytes_eq (further_of named) named.source ≡ false) (texts : List ℕ → List ℕ) where
  abbrev log : List ℕ
  log = further_of named

  abbrev taken_before : Pairs
  taken_before = (named.source, text) ∷ []

  abbrev few : Bool → Few
  few verify = call_few (Log steps place at verify) named text texts

  -- too few values for the run are too few for the call

  few_streams : (verify : Bool) (name : List ℕ) (count : ℕ) (taken : Pairs) → bytes_eq name named.source ≡ false
      → run_few accepted.core name count (bytes_for name taken) → (core : Core) → (a : Accepted) → IsAccepted text a → core ≡ a.core
      → run_few core name count (bytes_for name (taken_before ++ taken))
  few_streams verify name count taken other is core a its same =
      let unread : bytes_for name taken ≡ bytes_for name (taken_before ++ taken) = rw other refl in
      let one : accepted.core ≡ core = one_accepted_core text accepted a is_accepted its ∙ sym same in
      subst (λ (c : Core). run_few c name count (bytes_for name (taken_before ++ taken))) one
      (subst (λ (bytes : List ℕ). run_few accepted.core name count bytes) unread is)

  record_few : (act : Act) (taken : Pairs) → ((name : List ℕ) (count : ℕ) → act ≡ wants name count → bytes_eq name named.source ≡ false)
      → IsFew (run_few accepted.core) act (bytes_for (name_of act) taken) → IsFew (few false) act (bytes_for (name_of act) (taken_before ++ taken))
  record_few (wants name count) taken others is = record {
    of_source = λ here. absurd (true≢false (sym here ∙ others name count refl));
    of_further = λ among. absurd (true≢false (sym among));
    of_log = λ among. absurd (true≢false (sym among));
    of_streams = λ unread core run. few_streams false name count taken (others name count refl) is core run.0 run.1 run.2;
  }
  record_few (writes name bytes) taken others is = tt
  record_few (finishes name) taken others is = tt

  log_short : (name : List ℕ) (count : ℕ) (bytes : List ℕ) → (bytes_eq name log ≡ true → length bytes < count) → is_among name (log ∷ []) ≡ true
      → length bytes < count
  log_short name count bytes less among = by (bytes_eq name log) refl among
    where
      by : (b : Bool) → bytes_eq name log ≡ b → is_among name (log ∷ []) ≡ true → length bytes < count
      by true is here = less is
      by false isnt here = absurd (true≢false (sym here ∙ rw isnt refl))

  verify_fewer : (act : Act) (taken : Pairs) → ((name : List ℕ) (count : ℕ) → act ≡ wants name count → bytes_eq name named.source ≡ false)
      → IsFew (verify_few accepted.core log) act (bytes_for (name_of act) taken) → IsFew (few true) act (bytes_for (name_of act) (taken_before ++ taken))
  verify_fewer (wants name count) taken others is =
      let other = others name count refl in
      let unread : bytes_for name taken ≡ bytes_for name (taken_before ++ taken) = rw other refl in
      record {
        of_source = λ here. absurd (true≢false (sym here ∙ other));
        of_further = λ among. absurd (true≢false (sym among));
        of_log = log_short name count (bytes_for name (taken_before ++ taken))
            (λ here. subst (λ (bytes : List ℕ). length bytes < count) unread (is.of_log here));
        of_streams = λ none core run. few_streams true name count taken other is.of_streams core run.0 run.1 run.2;
      }
  verify_fewer (writes name bytes) taken others is = tt
  verify_fewer (finishes name) taken others is = tt

  module _ (olds : List PortView) (fit : unfit_line (names olds) named.source (log ∷ []) (streams accepted.core) ≡ None) where
    record_after : RecordReads → (coming : Inputs) (news : List PortView) (status : Status)
        → EndsAfter (run_few accepted.core) [] (owed_record steps accepted.core coming log) olds news status
        → EndsAfter (few false) taken_before (owed_record steps accepted.core coming log) olds news status
    record_after reads coming news status (inl made) = inl made
    record_after reads coming news status (inr (is, f)) = inr (
      is,
      Fails-few (run_few accepted.core) (few false) [] taken_before (owed_record steps accepted.core coming log).acts olds news f
          (record_few f.act (f.taken ++ f.read)
          (λ name count wanted. (input_apart accepted.core (names olds) named.source log fit name
          (record_reads reads accepted.core coming log steps f.before f.later name count
          (f.in_order ∙ ap (λ (act : Act). f.before ++ act ∷ f.later) wanted))).0) f.is_few),
    )

    source_apart : (name : List ℕ) → (name ≡ log) ⊎ IsInput accepted.core name → bytes_eq name named.source ≡ false
    source_apart name (inl is) = subst (λ (n : List ℕ). bytes_eq n named.source ≡ false) (sym is) apart
    source_apart name (inr input) = (input_apart accepted.core (names olds) named.source log fit name input).0

    verify_after : VerifyReads → (coming : Inputs) (outcome : Outcome) (news : List PortView) (status : Status)
        → EndsAfter (verify_few accepted.core log) [] (owed_verify steps accepted.core coming log outcome) olds news status
        → EndsAfter (few true) taken_before (owed_verify steps accepted.core coming log outcome) olds news status
    verify_after reads coming outcome news status (inl made) = inl made
    verify_after reads coming outcome news status (inr (is, f)) = inr (
      is,
      Fails-few (verify_few accepted.core log) (few true) [] taken_before (owed_verify steps accepted.core coming log outcome).acts olds news f
          (verify_fewer f.act (f.taken ++ f.read)
          (λ name count wanted. source_apart name (verify_reads reads accepted.core coming log steps outcome f.before f.later name count
          (f.in_order ∙ ap (λ (act : Act). f.before ++ act ∷ f.later) wanted))) f.is_few),
    )

-- an accepted source, whose streams have ports of their own
module _ (steps place at : ℕ) (named : Named) (text : List ℕ) (accepted : Accepted) (is_accepted : IsAccepted text accepted)
    (only : named.others ≡ further_of named ∷ []) (apart : bytes_eq (further_of named) named.source ≡ false) (olds news : List PortView) (status : Status)
    (found : unfit_line (names olds) named.source named.others (streams accepted.core) ≡ None) where
  fit : unfit_line (names olds) named.source (further_of named ∷ []) (streams accepted.core) ≡ None
  fit = ap (λ (others : List (List ℕ)). unfit_line (names olds) named.source others (streams accepted.core)) (sym only) ∙ found

  pub recorded_text : RecordReads → Records (further_of named) steps accepted.core olds news status → EndsText (Log steps place at false) named text olds news status
  recorded_text reads r = inr (record {
    texts = r.comes.texts;
    told = λ name other. r.comes.told name;
    owed = owed_record steps accepted.core r.comes.inputs (further_of named);
    owes = inr (accepted, is_accepted, fit, r.comes.inputs, r.comes.are, refl);
    ends = record_after steps place at named text accepted is_accepted apart r.comes.texts olds fit reads r.comes.inputs news status r.ends;
  })

  pub verified_text : VerifyReads → Verifies (further_of named) steps accepted.core olds news status → EndsText (Log steps place at true) named text olds news status
  verified_text reads v = inr (record {
    texts = v.comes.texts;
    told = λ name other. v.comes.told name;
    owed = owed_verify steps accepted.core v.comes.inputs (further_of named) v.outcome;
    owes = inr (accepted, is_accepted, fit, v.comes.inputs, v.comes.are, (v.outcome, v.is, refl));
    ends = verify_after steps place at named text accepted is_accepted apart v.comes.texts olds fit reads v.comes.inputs v.outcome news status v.ends;
  })

  logged_text : RecordReads → VerifyReads → (verify : Bool) → EndsLogged verify (further_of named) steps accepted.core olds news status
      → EndsText (Log steps place at verify) named text olds news status
  logged_text records verifies false ends = recorded_text records ends
  logged_text records verifies true ends = verified_text verifies ends

  pub log_answers : RecordReads → VerifyReads → (verify : Bool) (ready : Core) (log_at : ℕ) → ready ≡ accepted.core → IsPlaceOf (further_of named) (names olds) log_at
      → RunsOut olds news status ⊎ ((port : List ℕ) → IsPlaceOf port (names olds) log_at → EndsLogged verify port steps ready olds news status)
      → EndsText (Log steps place at verify) named text olds news status
  log_answers records verifies verify ready log_at same is (inl out) = out_of_memory (Log steps place at verify) named text olds news status out
  log_answers records verifies verify ready log_at same is (inr ends) =
      logged_text records verifies verify
      (subst (λ (c : Core). EndsLogged verify (further_of named) steps c olds news status) same (ends (further_of named) is))

-- by whether the log is compared
pub verified_as : (verify : Bool) (port : List ℕ) (steps : ℕ) (core : Core) (olds news : List PortView) (status : Status) → verify ≡ true
    → Verifies port steps core olds news status → EndsLogged verify port steps core olds news status
verified_as verify port steps core olds news status is ends =
    subst (λ (v : Bool). EndsLogged v port steps core olds news status) (sym is) ends

pub recorded_as : (verify : Bool) (port : List ℕ) (steps : ℕ) (core : Core) (olds news : List PortView) (status : Status) → verify ≡ false
    → Records port steps core olds news status → EndsLogged verify port steps core olds news status
recorded_as verify port steps core olds news status is ends =
    subst (λ (v : Bool). EndsLogged v port steps core olds news status) (sym is) ends

-- the core that is opened is the one that was ready
pub ends_of : (verify : Bool) (port : List ℕ) (steps : ℕ) (opened ready : Core) (olds news : List PortView) (status : Status) → opened ≡ ready
    → EndsLogged verify port steps opened olds news status → EndsLogged verify port steps ready olds news status
ends_of verify port steps opened ready olds news status same ends =
    subst (λ (core : Core). EndsLogged verify port steps core olds news status) same ends
