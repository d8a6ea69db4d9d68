-- Calls of `calc` and of `run` over ports with the same texts end alike.
use Rattle.std.proofs.Common.{◌≡◌, ℕ, false, List, [], ◌++◌, Option, None, Some, IfSome, slice_get, refl, sym, ap, ◌∙◌, subst, inl, inr}
use Rattle.std.specs.Option.{is_none}
use Rattle.std.specs.Str.{bytes_eq}
use Rattle.hume_base.specs.declared.types.Value.{Value}
use Rattle.hume_model.specs.declared.core_tree.NodeC.{NodeC}
use Rattle.hume_model.specs.declared.core_tree.NodeC.TheVariants.{Rules, From, To}
use Rattle.hume_model.specs.declared.core_tree.Core.{Core}
use Rattle.hume_net.specs.rounds.Pieces.{listed}
use Rattle.hume_ports.specs.Delivery.{bytes_for}
use Rattle.hume_ports.specs.Port.{PortView}
use Rattle.hume_ports.specs.Ports.{left_of, names, place_of}
use Rattle.hume_streams.specs.Good.{IsGoodUntil}
use Rattle.port_acts.specs.Acts.{written}
use Rattle.port_acts.specs.Early.{after_reads}
use Rattle.port_acts.specs.Ends.{Owed, bytes_of}
use Rattle.port_acts.proofs.Stopping.{answered, bytes_owed}
use Rattle.phase_workers.specs.StreamTypes.{type_at}
use Rattle.run_rounds.specs.Inputs.{AreInputs, ComesTo, Inputs}
use Rattle.run_rounds.specs.Streams.{streams}
use Rattle.hume_calls.specs.declared.order.Order.{Order}
use Rattle.hume_calls.specs.declared.order.Order.TheVariants.{Calc, Run}
use Rattle.hume_calls.specs.declared.status.Status.{Status}
use Rattle.hume_calls.specs.declared.status.Status.TheVariants.{Fault, NoMemory, Refused, Usage}
use Rattle.hume_calls.specs.Calls.{HaveSameTexts}
use Rattle.hume_calls.specs.Few.{call_few}
use Rattle.hume_calls.specs.Headline.{Answers, AnswersFrom, Headline, IsText}
use Rattle.hume_calls.specs.Owed.{IsOwedRun}
use Rattle.hume_calls.specs.Reading.{source_reads, source_text}
use Rattle.hume_calls.specs.Streams.{unfit_line}
use Rattle.hume_calls.specs.Words.{Named, further_of, named_by, order_of}
use Rattle.hume_calls.proofs.Wanting.{fit_inputs}
use Rattle.form_laws.specs.Alike.{AsksForCalc, AsksForRun, EndAlike, HasRun, OweAlike}
use Rattle.form_laws.proofs.RewrittenCalls.{calc_as_run}

-- answers

not_usage : (status : Status) → HasRun status → status ≡ Usage → ⊥
not_usage status (inl is) its = cc
not_usage status (inr is) its = cc

not_fault : (status : Status) → HasRun status → status ≡ Fault → ⊥
not_fault status (inl is) its = cc
not_fault status (inr is) its = cc

not_early : (status : Status) → HasRun status → status ≡ NoMemory → ⊥
not_early status (inl is) its = cc
not_early status (inr is) its = cc

not_refused : (status : Status) → HasRun status → status ≡ Refused → ⊥
not_refused status (inl is) its = cc
not_refused status (inr is) its = cc

of_order : (words : List (List ℕ)) (order : Order) (old new : List PortView) (status : Status) → order_of words ≡ Some order → HasRun status
    → Headline words old new status → Answers order (named_by words order) old new status
of_order words order old new status is ran holds =
    subst (λ (o : Option Order). IfSome o (λ its. (status ≡ Usage → ⊥) → Answers its (named_by words its) old new status)) is holds (not_usage status ran)

-- a call that has run has read its source
from_source : (order : Order) (named : Named) (old new : List PortView) (status : Status) → HasRun status → Answers order (Some named) old new status
    → AnswersFrom order named old new status
from_source order named old new status ran (inl (inl (is, stops))) = absurd (not_early status ran is)
from_source order named old new status ran (inl (inr (is, fails))) = absurd (not_fault status ran is)
from_source order named old new status ran (inr answers) = answers

-- a call that has run gives the answer that it owes, and the bytes
module _ (order : Order) (named : Named) (old new : List PortView) (status : Status) (ran : HasRun status) (a : AnswersFrom order named old new status) where
  answer_is : status ≡ a.owed.answer
  answer_is =
      (answered (call_few order named a.text a.texts) (after_reads (source_reads named.source) a.owed) Fault old new status a.ends (not_fault status ran)).0

  bytes_are : (name had : List ℕ) → bytes_of name old ≡ Some had → bytes_of name new ≡ Some (had ++ bytes_for name (written a.owed.acts))
  bytes_are name had told =
      bytes_owed (call_few order named a.text a.texts) (after_reads (source_reads named.source) a.owed) Fault old new status name had a.ends
      (not_fault status ran) told

-- texts

is_there : (place : Option ℕ) → is_none place ≡ false → place ≡ None → ⊥
is_there None there none = cc
is_there (Some at) there none = cc

-- what is told of one text is told of the other
same_told : (left : Option (List ℕ)) (text bytes : List ℕ) → left ≡ Some bytes → IfSome left (λ l. text ≡ l) → text ≡ bytes
same_told None text bytes is told = cc
same_told (Some l) text bytes is told = told ∙ (let same : l ≡ bytes = cc in same)

same_source : (left : Option (List ℕ)) (text bytes : List ℕ) → left ≡ Some bytes → IfSome left (λ l. text ≡ source_text l) → text ≡ source_text bytes
same_source None text bytes is told = cc
same_source (Some l) text bytes is told = told ∙ ap source_text (let same : l ≡ bytes = cc in same)

module _ (source : List ℕ) (old others : List PortView) (same : HaveSameTexts old others) (first second : List ℕ → List ℕ)
    (told : IsText source old first) (also : IsText source others second) where
  one_text : (name : List ℕ) → is_none (place_of name (names old)) ≡ false → bytes_eq name source ≡ false → second name ≡ first name
  one_text name there apart =
      let tells = same.tell name (is_there (place_of name (names old)) there) in
      same_told (left_of name others) (second name) tells.0 tells.2 (also name apart)
      ∙ sym (same_told (left_of name old) (first name) tells.0 tells.1 (told name apart))

  module _ (core : Core) (fit : unfit_line (names old) source [] (streams core) ≡ None) where
    comes_alike : (n : ℕ) (node : Option NodeC) → slice_get core.nodes n ≡ node → (good : List Value) (bad : Option ℕ)
        → ComesTo core second n node good bad → ComesTo core first n node good bad
    comes_alike n None at good bad comes = comes
    comes_alike n (Some (Rules b)) at good bad comes = comes
    comes_alike n (Some (To stream)) at good bad comes = comes
    comes_alike n (Some (From stream)) at good bad comes =
        let is = fit_inputs (names old) source core.nodes [] fit n stream at in
        subst (λ (text : List ℕ). IsGoodUntil core.types (type_at core n) text good bad) (one_text stream.port is.0 is.1) comes

    inputs_alike : (coming : Inputs) → AreInputs core second coming → AreInputs core first coming
    inputs_alike coming are = record {
      count = are.count;
      each = λ n. comes_alike n (slice_get core.nodes n) refl (listed coming.good n) (coming.bad n) (are.each n);
    }

  run_owes : (steps : ℕ) (text : List ℕ) (owed : Owed Status) → IsOwedRun false steps source text (names old) second owed
      → IsOwedRun false steps source text (names old) first owed
  run_owes steps text owed (inl refused) = inl refused
  run_owes steps text owed (inr (accepted, is, fit, coming, are, owes)) =
      inr (accepted, is, fit, coming, inputs_alike accepted.core fit coming are, owes)

-- both calls

module _ (steps workers place script threads at : ℕ) (calc run : Named) (old new others later : List PortView) (first second : Status) where
  abbrev Calculated : Type 0
  Calculated = AnswersFrom (Calc steps workers place script) calc old new first

  abbrev Ran : Type 0
  Ran = AnswersFrom (Run steps threads at false) run others later second

  module _ (sources : run.source ≡ calc.source) (there : place_of calc.source (names old) ≡ None → ⊥) (same : HaveSameTexts old others)
      (ran : HasRun first) (too : HasRun second) (a : Calculated) (b : Ran) where
    one_source : b.text ≡ a.text
    one_source =
        let tells = same.tell calc.source there in
        let told : IfSome (left_of calc.source others) (λ left. b.text ≡ source_text left) =
        subst (λ (source : List ℕ). IfSome (left_of source others) (λ left. b.text ≡ source_text left)) sources b.told in
        same_source (left_of calc.source others) b.text tells.0 tells.2 told ∙ sym (same_source (left_of calc.source old) a.text tells.0 tells.1 a.told)

    also : IsText calc.source others b.texts
    also = subst (λ (source : List ℕ). IsText source others b.texts) sources b.texts_told

    run_owed : IsOwedRun false steps calc.source a.text (names old) a.texts b.owed
    run_owed =
        run_owes calc.source old others same a.texts b.texts a.texts_told also steps a.text b.owed
        (subst (λ (source : List ℕ). IsOwedRun false steps source a.text (names old) b.texts b.owed) sources
        (subst (λ (text : List ℕ). IsOwedRun false steps run.source text (names old) b.texts b.owed) one_source
        (subst (λ (all : List (List ℕ)). IsOwedRun false steps run.source b.text all b.texts b.owed) (sym same.same_names) b.owes)))

    first_answer : first ≡ a.owed.answer
    first_answer = answer_is (Calc steps workers place script) calc old new first ran a

    second_answer : second ≡ b.owed.answer
    second_answer = answer_is (Run steps threads at false) run others later second too b

    owe_alike : OweAlike a.owed b.owed
    owe_alike =
        calc_as_run steps calc.source (further_of calc) a.text (names old) a.texts a.owed b.owed a.owes run_owed
        (λ refused. not_refused first ran (first_answer ∙ refused)) (λ refused. not_refused second too (second_answer ∙ refused))

    both_alike : EndAlike old new others later first second
    both_alike = record {
      answer = first_answer ∙ owe_alike.answer ∙ sym second_answer;
      bytes = λ name had other told there.
          bytes_are (Calc steps workers place script) calc old new first ran a name had told
          ∙ ap (λ (bytes : List ℕ). Some (had ++ bytes)) (owe_alike.bytes name other)
          ∙ sym (bytes_are (Run steps threads at false) run others later second too b name had there);
    }

pub calls_end_alike : (steps : ℕ) (source : List ℕ) (words plain : List (List ℕ)) (old new others later : List PortView) (first second : Status)
    → AsksForCalc words steps source → AsksForRun plain steps source → (place_of source (names old) ≡ None → ⊥) → HaveSameTexts old others
    → Headline words old new first → Headline plain others later second → HasRun first → HasRun second → EndAlike old new others later first second
calls_end_alike steps source words plain old new others later first second c r there same x y ran too =
    both_alike steps c.workers c.place c.script r.workers r.place _ _ old new others later first second (r.names ∙ sym c.names)
    (subst (λ (name : List ℕ). place_of name (names old) ≡ None → ⊥) (sym c.names) there) same ran too
    (from_source (Calc steps c.workers c.place c.script) _ old new first ran
    (of_order words (Calc steps c.workers c.place c.script) old new first c.order ran x))
    (from_source (Run steps r.workers r.place false) _ others later second too
    (of_order plain (Run steps r.workers r.place false) others later second r.order too y))
