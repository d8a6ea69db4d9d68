-- Two calls of the same words over the same texts write the same.
use Rattle.std.proofs.Common.{◌≡◌, ◌⊎◌, ℕ, List, [], Option, Some, None, IfSome, IsSomeAnd, refl, sym, ap, ◌∙◌, subst, inl, inr, append-nil}
use Rattle.std.specs.Option.{MatchOption}
use Rattle.std.specs.Prelude.{⊤}
use Rattle.hume_ports.specs.Delivery.{bytes_for}
use Rattle.hume_ports.specs.Port.{PortView}
use Rattle.hume_ports.specs.Ports.{left_of, names, place_of}
use Rattle.port_acts.specs.Acts.{written}
use Rattle.port_acts.specs.Early.{after_reads}
use Rattle.port_acts.specs.Ends.{EndsAs, Few, Owed, bytes_of, never}
use Rattle.port_acts.proofs.Stopping.{answered, bytes_owed}
use Rattle.run_rounds.specs.Streams.{std_out}
use Rattle.hume_calls.specs.declared.order.Order.{Order}
use Rattle.hume_calls.specs.declared.status.Status.{Status}
use Rattle.hume_calls.specs.declared.status.Status.TheVariants.{BadValue, Done, Fault, LogFails, NoMemory, Refused, Usage}
use Rattle.hume_calls.specs.Calls.{HaveSameTexts}
use Rattle.hume_calls.specs.Few.{call_few}
use Rattle.hume_calls.specs.Headline.{Answers, AnswersAlone, AnswersFrom, Headline, IsUsage, LacksPort, OwesAlone}
use Rattle.hume_calls.specs.Owed.{IsOwed}
use Rattle.hume_calls.specs.Reading.{source_reads}
use Rattle.hume_calls.specs.Words.{Named, named_by, order_of, source_alone}
use Rattle.hume_calls.proofs.LogWords.{calls_name_further}
use Rattle.hume_calls.proofs.OneOwed.{OneOutcome, one_owed}
use Rattle.hume_calls.proofs.OneScript.{OneInputs}
use Rattle.hume_calls.proofs.ScriptWords.{NamesFurther}
use Rattle.call_laws.specs.EqualCalls.{IsAnswered, IsCall, WriteAlike}
use Rattle.call_laws.proofs.AgreeingTexts.{owed_alike, same_source, told_alike}

-- two calls that owe one thing, each behind its own reads of the same ports

module _ (owed : Owed Status) (few other_few : Few) (old new others later : List PortView) (first second : Status)
    (ends : EndsAs few owed Fault old new first) (too : EndsAs other_few owed Fault others later second) (a : IsAnswered first) (b : IsAnswered second) where
  pub write_alike : WriteAlike old new others later first second
  write_alike = record {
    answer = (answered few owed Fault old new first ends a.0).0 ∙ sym (answered other_few owed Fault others later second too b.0).0;
    bytes = λ name had given told there. (
      bytes_for name (written owed.acts),
      bytes_owed few owed Fault old new first name had ends a.0 told,
      bytes_owed other_few owed Fault others later second name given too b.0 there,
    );
  }

module _ (one_inputs : OneInputs) (one_outcome : OneOutcome) (order : Order) (old new others later : List PortView) (same : HaveSameTexts old others)
    (first second : Status) (a : IsAnswered first) (b : IsAnswered second) where
  abbrev Alike : Type 0
  Alike = WriteAlike old new others later first second

  -- with a source

  module _ (named : Named) (its : NamesFurther order named) (there : LacksPort (names old) named → ⊥) where
    sourced_alike : AnswersFrom order named old new first → AnswersFrom order named others later second → Alike
    sourced_alike x y =
        let tells = same.tell named.source (λ none. there (inl none)) in
        let text : y.text ≡ x.text = same_source (left_of named.source others) y.text tells.0 tells.2 y.told
        ∙ sym (same_source (left_of named.source old) x.text tells.0 tells.1 x.told) in
        let mine : IsOwed order named x.text (names old) y.texts x.owed =
        owed_alike named (names old) x.texts y.texts (told_alike named.source old others same x.texts y.texts x.texts_told y.texts_told) there
        order x.text x.owed its x.owes in
        let yours : IsOwed order named x.text (names old) y.texts y.owed =
        subst (λ (ns : List (List ℕ)). IsOwed order named x.text ns y.texts y.owed) (sym same.same_names)
        (subst (λ (t : List ℕ). IsOwed order named t (names others) y.texts y.owed) text y.owes) in
        let one : y.owed ≡ x.owed = one_owed one_inputs one_outcome order named x.text (names old) y.texts y.owed x.owed yours mine in
        let whole : Owed Status = after_reads (source_reads named.source) x.owed in
        write_alike whole (call_few order named x.text x.texts) (call_few order named y.text y.texts) old new others later first second x.ends
        (subst (λ (o : Owed Status). EndsAs (call_few order named y.text y.texts) (after_reads (source_reads named.source) o) Fault others later second)
        one y.ends) a b

    -- a call that is answered has read its source
    from_source : (olds news : List PortView) (status : Status) → IsAnswered status → Answers order (Some named) olds news status
        → AnswersFrom order named olds news status
    from_source olds news status ok (inl (inl (is, stops))) = absurd (ok.1 is)
    from_source olds news status ok (inl (inr (is, fails))) = absurd (ok.0 is)
    from_source olds news status ok (inr answers) = answers

    named_alike : Answers order (Some named) old new first → Answers order (Some named) others later second → Alike
    named_alike x y = sourced_alike (from_source old new first a x) (from_source others later second b y)

  -- without one

  abbrev EndsAlone : List PortView → List PortView → Status → Type 0
  EndsAlone olds news status = (owed : Owed Status) × OwesAlone order olds owed × EndsAs never owed Fault olds news status

  ends_alone : (olds news : List PortView) (status : Status) → IsAnswered status → AnswersAlone order olds news status → EndsAlone olds news status
  ends_alone olds news status ok (inl (is, none)) = absurd (ok.1 is)
  ends_alone olds news status ok (inr ends) = ends

  alone_alike : EndsAlone old new first → EndsAlone others later second → Alike
  alone_alike (owed, owes, ends) (its, also, too) =
      let one : its ≡ owed = one_owed one_inputs one_outcome order (source_alone []) [] (names old) (λ name. []) its owed
      (subst (λ (ns : List (List ℕ)). IsOwed order (source_alone []) [] ns (λ name. []) its) (sym same.same_names) also) owes in
      write_alike owed never never old new others later first second ends
      (subst (λ (o : Owed Status). EndsAs never o Fault others later second) one too) a b

  pub answers_alike : (named : Option Named) → IfSome named (NamesFurther order) → (IsSomeAnd named (LacksPort (names old)) → ⊥)
      → Answers order named old new first → Answers order named others later second → Alike
  answers_alike None its there x y = alone_alike (ends_alone old new first a x) (ends_alone others later second b y)
  answers_alike (Some named) its there x y = named_alike named its there x y

-- by the words

usage_or_not : (status : Status) → (status ≡ Usage) ⊎ (status ≡ Usage → ⊥)
usage_or_not Usage = inl refl
usage_or_not Done = inr (λ is. cc)
usage_or_not Refused = inr (λ is. cc)
usage_or_not BadValue = inr (λ is. cc)
usage_or_not Fault = inr (λ is. cc)
usage_or_not NoMemory = inr (λ is. cc)
usage_or_not LogFails = inr (λ is. cc)

-- what is asked of words and names so that a call isn't answered with Usage
abbrev UsageFor : List (List ℕ) → List (List ℕ) → Option Order → Type 0
UsageFor words ports order = MatchOption order ⊤ (λ its. (place_of std_out ports ≡ None) ⊎ IsSomeAnd (named_by words its) (LacksPort ports))

module _ (one_inputs : OneInputs) (one_outcome : OneOutcome) (words : List (List ℕ)) (old new others later : List PortView) (same : HaveSameTexts old others)
    (first second : Status) (x : IsCall words old new first) (y : IsCall words others later second) (a : IsAnswered first) (b : IsAnswered second) where
  abbrev BothAlike : Type 0
  BothAlike = WriteAlike old new others later first second

  both_usage : first ≡ Usage → second ≡ Usage → BothAlike
  both_usage is too = record {
    answer = is ∙ sym too;
    bytes = λ name had given told there. (
      [],
      ap (bytes_of name) (x.idle is) ∙ told ∙ ap (λ (bytes : List ℕ). Some bytes) (sym (append-nil had)),
      ap (bytes_of name) (y.idle too) ∙ there ∙ ap (λ (bytes : List ℕ). Some bytes) (sym (append-nil given)),
    );
  }

  of_order : (olds news : List PortView) (status : Status) (order : Order) → order_of words ≡ Some order → (status ≡ Usage → ⊥)
      → Headline words olds news status → Answers order (named_by words order) olds news status
  of_order olds news status order is no_usage line =
      subst (λ (o : Option Order). IfSome o (λ its. (status ≡ Usage → ⊥) → Answers its (named_by words its) olds news status)) is line no_usage

  by_order : (order : Option Order) → order_of words ≡ order → (UsageFor words (names old) order → ⊥) → (first ≡ Usage → ⊥) → (second ≡ Usage → ⊥) → BothAlike
  by_order None is fit one two = absurd (fit tt)
  by_order (Some order) is fit one two =
      answers_alike one_inputs one_outcome order old new others later same first second a b (named_by words order) (calls_name_further words order is)
      (λ lacks. fit (inr lacks)) (of_order old new first order is one x.run) (of_order others later second order is two y.run)

  over_others : IsUsage words (names old) → IsUsage words (names others)
  over_others usage = subst (λ (ports : List (List ℕ)). IsUsage words ports) same.same_names usage

  over_old : IsUsage words (names others) → IsUsage words (names old)
  over_old usage = subst (λ (ports : List (List ℕ)). IsUsage words ports) (sym same.same_names) usage

  pub calls_write_alike : BothAlike
  calls_write_alike = elim (usage_or_not first) [
    | inl is ↦ both_usage is (y.usage.1 (over_others (x.usage.0 is)))
    | inr isnt ↦ by_order (order_of words) refl (λ usage. isnt (x.usage.1 usage)) isnt (λ is. isnt (x.usage.1 (over_old (y.usage.0 is))))
  ]
