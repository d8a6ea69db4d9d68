-- Before any memory of a session is taken.
use Rattle.std.proofs.Common.{◌≡◌, ◌⊎◌, ℕ, ◌<◌, List, [], ◌∷◌, length, map, append-nil, refl, ap, sym, ◌∙◌, subst, inl, inr, arith, None, Some, Result, Ok, Err, IfSome}
use Rattle.std.specs.Prelude.{IfErr}
use Rattle.std.proofs.lemmas.List.{length-map}
use Rattle.hume_base.specs.declared.rule.Refusal.{Refusal}
use Rattle.hume_base.specs.declared.rule.Rule.TheVariants.{C55}
use Rattle.hume_ports.specs.Port.{PortView}
use Rattle.hume_ports.specs.Ports.{names, left_of, place_of, ForNameAt}
use Rattle.port_acts.specs.Early.{read_each}
use Rattle.port_acts.specs.Ends.{Fails, Made, never}
use Rattle.port_acts.proofs.Failing.{Fails-any}
use Rattle.port_acts.proofs.Making.{Made-start}
use Rattle.hume_front.specs.declared.acceptance.Accepted.{Accepted}
use Rattle.hume_front.specs.Accepted.{IsAccepted, Breaks}
use Rattle.run_rounds.specs.Streams.{ArePlacesOf, ArePortsApart, std_out, streams}
use Rattle.hume_calls.specs.Few.{source_few}
use Rattle.hume_calls.specs.Owed.{owed_refused}
use Rattle.hume_calls.specs.Reading.{source_reads, source_text}
use Rattle.hume_calls.specs.Streams.{unfit_line}
use Rattle.hume_calls.proofs.FitPorts.{found_place}
use Rattle.hume_console.specs.declared.ending.Ending.{Ending}
use Rattle.hume_console.specs.declared.ending.Ending.TheVariants.{Fault, NoMemory, Refused}
use Rattle.hume_console.specs.declared.places.Places.{Places}
use Rattle.hume_console.specs.declared.preparing.Ready.{Ready}
use Rattle.hume_console.specs.Words.{std_in}
use Rattle.hume_console.specs.Courses.{EndsCourse}
use Rattle.hume_console.specs.Headline.{AnswersFrom, IsRefusal, broken, unfit, refused, session_few}
use Rattle.hume_console.specs.inner.Begun.{EndsAlone, EndsAnswered}
use Rattle.hume_console.specs.inner.Prepared.{HasRead, IsPrepared}
use Rattle.hume_console.proofs.CourseSteps.{made_first}
use Rattle.hume_console.proofs.Offers.{are_read, offers_read}

-- the place of a name is that of a port
pub place_within : {X : Type 0} (view : X → PortView) (ports : List X) (name : List ℕ) (at : ℕ) → place_of name (names (map view ports)) ≡ Some at → at < length ports
place_within view ports name at found =
    let long = length-map (map view ports) (λ (port : PortView). port.name) ∙ length-map ports view in
    let there = (found_place name (names (map view ports)) at found).place.within in
    omega (arith, long, there)

-- the call ends before a session is served

pub unstarted : (source : List ℕ) (olds news gone : List PortView) → news ≡ olds
    → EndsAnswered source (record { ports = olds; gone = gone }) (record { ports = news; gone = gone }) NoMemory
unstarted source olds news gone same = inl (
  refl,
  inl (
    refl,
    record {
      before = [];
      later = read_each (source_reads source);
      in_order = refl;
      unwritten = refl;
      taken = [];
      made = subst (λ (ports : List PortView). Made [] [] olds ports) (sym same) (Made-start olds);
    },
  ),
)

pub unread : (source : List ℕ) (olds news gone : List PortView) → Fails (source_few source) [] (read_each (source_reads source)) olds news
    → EndsAnswered source (record { ports = olds; gone = gone }) (record { ports = news; gone = gone }) Fault
unread source olds news gone failed = inl (refl, inr (refl, record { fails = failed; stay = refl }))

module _ (source text : List ℕ) (first now : List PortView) (read : HasRead source text first now) (gone : List PortView) where
  pub untold : EndsAnswered source (record { ports = first; gone = gone }) (record { ports = now; gone = gone }) NoMemory
  untold = inl (
    refl,
    inl (
      refl,
      record {
        before = read_each (source_reads source);
        later = [];
        in_order = sym (append-nil (read_each (source_reads source)));
        unwritten = refl;
        taken = (source, text) ∷ [];
        made = read.made;
      },
    ),
  )

  refused_ends : (refusal : Refusal) (news : List PortView) (ending : Ending)
      → ((ending ≡ Refused) × Made (owed_refused refusal).acts [] now news) ⊎ ((ending ≡ Fault) × Fails never [] (owed_refused refusal).acts now news)
      → EndsCourse (session_few source text) ((source, text) ∷ []) (refused refusal) (record { ports = now; gone = gone }) (record { ports = news; gone = gone }) ending
  refused_ends refusal news ending (inl (is, made)) = inl (is, [], record { made = made; stay = refl })
  refused_ends refusal news ending (inr (is, failed)) = inr (
    is,
    record {
      fails = Fails-any (session_few source text (λ n. [])) ((source, text) ∷ []) (owed_refused refusal).acts now news failed;
      stay = refl;
    },
  )

  refused_answer : (refusal : Refusal) (news : List PortView) (ending : Ending) → IsRefusal text (names first) source refusal
      → ((ending ≡ Refused) × Made (owed_refused refusal).acts [] now news) ⊎ ((ending ≡ Fault) × Fails never [] (owed_refused refusal).acts now news)
      → AnswersFrom source (record { ports = first; gone = gone }) (record { ports = news; gone = gone }) ending
  refused_answer refusal news ending is ends = record {
    text = text;
    told = read.told;
    offers = offers_read [] first;
    offers_told = are_read [] first;
    course = refused refusal;
    owes = inl (refusal, is, refl);
    ends = made_first (session_few source text) [] ((source, text) ∷ []) (read_each (source_reads source)) (record { ports = first; gone = gone })
        (record { ports = now; gone = gone }) (record { made = read.made; stay = refl }) (refused refusal) (record { ports = news; gone = gone }) ending
        (refused_ends refusal news ending ends);
  }

  pub told_refusal : (refusal : Refusal) (news : List PortView) (ending : Ending) → IsRefusal text (names first) source refusal
      → EndsAlone (owed_refused refusal).acts Refused now news ending
      → EndsAnswered source (record { ports = first; gone = gone }) (record { ports = news; gone = gone }) ending
  told_refusal refusal news ending is (inl (out, same)) =
      subst (λ (e : Ending). EndsAnswered source (record { ports = first; gone = gone }) (record { ports = news; gone = gone }) e) (sym out)
      (subst (λ (ports : List PortView). EndsAnswered source (record { ports = first; gone = gone }) (record { ports = ports; gone = gone }) NoMemory) (sym same) untold)
  told_refusal refusal news ending is (inr ends) = inr (refused_answer refusal news ending is ends)

  -- a rule that the source breaks is told
  pub told_broken : (refusal : Refusal) (news : List PortView) (ending : Ending) → Breaks text refusal
      → EndsAlone (owed_refused refusal).acts Refused now news ending
      → EndsAnswered source (record { ports = first; gone = gone }) (record { ports = news; gone = gone }) ending
  told_broken refusal news ending breaks = told_refusal refusal news ending (broken refusal breaks)

  -- a stream with an unfit port is told
  pub told_unfit : (accepted : Accepted) (line : ℕ) (refusal : Refusal) (news : List PortView) (ending : Ending) → IsAccepted text accepted
      → unfit_line (names now) source (std_in ∷ []) (streams accepted.core) ≡ Some line → refusal ≡ record { rule = C55; line = line }
      → EndsAlone (owed_refused refusal).acts Refused now news ending
      → EndsAnswered source (record { ports = first; gone = gone }) (record { ports = news; gone = gone }) ending
  told_unfit accepted line refusal news ending is_accepted found is ends =
      let same : unfit_line (names first) source (std_in ∷ []) (streams accepted.core) ≡ Some line =
      ap (λ ns. unfit_line ns source (std_in ∷ []) (streams accepted.core)) (sym read.made.progress.same_names) ∙ found in
      told_refusal refusal news ending (subst (IsRefusal text (names first) source) (sym is) (unfit accepted is_accepted line same)) ends

-- the source is accepted
pub prepared : (source text : List ℕ) (first now : List PortView) (accepted : Accepted) (places : Places) → HasRead source text first now
    → IsAccepted text accepted → unfit_line (names now) source (std_in ∷ []) (streams accepted.core) ≡ None
    → ArePlacesOf accepted.core (names now) places.streams.items → ArePortsApart accepted.core
    → place_of source (names now) ≡ Some places.source → place_of std_in (names now) ≡ Some places.std_in → place_of std_out (names now) ≡ Some places.std_out
    → IsPrepared source first now (record { accepted = accepted; places = places })
prepared source text first now accepted places read is_accepted fit are apart at_source at_std_in at_std_out =
    let same : names now ≡ names first = read.made.progress.same_names in
    record {
      text = text;
      read = read;
      accepted = is_accepted;
      fit = ap (λ ns. unfit_line ns source (std_in ∷ []) (streams accepted.core)) (sym same) ∙ fit;
      streams = subst (λ (ns : List (List ℕ)). ArePlacesOf accepted.core ns places.streams.items) same are;
      apart = apart;
      at_source = ap (place_of source) (sym same) ∙ at_source;
      at_std_in = ap (place_of std_in) (sym same) ∙ at_std_in;
      at_std_out = ap (place_of std_out) (sym same) ∙ at_std_out;
    }

-- the source was read, and its text is asked
pub ended_after : (source text copy : List ℕ) (at : ℕ) (olds mids news : List PortView) (result : Result Ready Ending) → copy ≡ text
    → place_of source (names olds) ≡ Some at → ForNameAt at olds (λ name. Made (read_each (source_reads name)) ((name, text) ∷ []) olds mids)
    → ForNameAt at olds (λ name. IfSome (left_of name olds) (λ left. text ≡ source_text left))
    → IfErr result (λ ending. (first gone : List PortView) → HasRead source copy first mids
    → EndsAnswered source (record { ports = first; gone = gone }) (record { ports = news; gone = gone }) ending)
    → IfErr result (λ ending. (gone : List PortView) → EndsAnswered source (record { ports = olds; gone = gone }) (record { ports = news; gone = gone }) ending)
ended_after source text copy at olds mids news (Ok ready) same found made told ends = tt
ended_after source text copy at olds mids news (Err ending) same found made told ends = λ gone.
    ends olds gone (subst (λ (bytes : List ℕ). HasRead source bytes olds mids) (sym same) (record { made = made source found; told = told source found }))
