-- Calls whose ports have room, and calls over ports with the same texts.
use Rattle.std.proofs.Common.{◌≡◌, ◌⊎◌, ℕ, Bool, true, false, if◌then◌else◌, List, [], ◌∷◌, map, Option, Some, None, IfSome, IsSomeAnd, slice_get, refl, sym, ap, ◌∙◌, subst, inl, inr}
use Rattle.std.specs.List.{list_any}
use Rattle.std.proofs.lemmas.Bool.{cases_Bool, or_parts}
use Rattle.std.specs.Option.{is_none}
use Rattle.std.specs.Str.{bytes_eq}
use Rattle.hume_base.specs.declared.types.Value.{Value}
use Rattle.hume_model.specs.declared.core_tree.Core.{Core}
use Rattle.hume_model.specs.declared.core_tree.NodeC.{NodeC}
use Rattle.hume_model.specs.declared.core_tree.NodeC.TheVariants.{Rules, From, To}
use Rattle.hume_net.specs.rounds.Pieces.{listed}
use Rattle.hume_streams.specs.Good.{IsGoodUntil}
use Rattle.hume_ports.specs.Port.{PortView}
use Rattle.hume_ports.specs.Ports.{names, left_of, place_of}
use Rattle.hume_ports.proofs.Rooms.{Roomy-nothing}
use Rattle.port_acts.specs.Acts.{written}
use Rattle.port_acts.specs.Ends.{Few, Owed, EndsAs, bytes_of, never}
use Rattle.port_acts.specs.Early.{after_reads}
use Rattle.port_acts.proofs.Stopping.{end_alike}
use Rattle.phase_workers.specs.StreamTypes.{type_at}
use Rattle.run_rounds.specs.Inputs.{AreInputs, ComesTo, Inputs}
use Rattle.run_rounds.specs.Streams.{streams}
use Rattle.hume_calls.specs.declared.status.Status.{Status}
use Rattle.hume_calls.specs.declared.status.Status.TheVariants.{Usage, Fault, NoMemory}
use Rattle.hume_calls.specs.declared.order.Order.{Order}
use Rattle.hume_calls.specs.declared.order.Order.TheVariants.{Run, Calc, Log, Check, Union, Demo}
use Rattle.hume_calls.specs.Streams.{unfit_line}
use Rattle.hume_calls.specs.Owed.{IsOwed, IsOwedLogged, IsOwedScript}
use Rattle.hume_calls.specs.Words.{Named, order_of, named_by, further_of, source_alone}
use Rattle.hume_calls.specs.Reading.{script_text, source_reads, source_text}
use Rattle.hume_calls.specs.Few.{call_few}
use Rattle.hume_calls.specs.Headline.{Answers, AnswersAlone, AnswersFrom, Headline, IsText, LacksPort, OwesAlone}
use Rattle.hume_calls.specs.Calls.{OwesOver, HaveRoom, GivesOwed, HaveSameTexts, IsThrough}
use Rattle.hume_calls.specs.Unions.{IsUnionRefusal, MayUnite, text_of, union_core, union_texts}
use Rattle.hume_calls.proofs.Answering.{Ended}
use Rattle.hume_calls.proofs.PortsApart.{union_fit}
use Rattle.hume_calls.proofs.Programs.{many_programs}
use Rattle.hume_calls.proofs.OneOwed.{OneOutcome, SomeOutcome, some_owed, one_owed}
use Rattle.hume_calls.proofs.OneScript.{OneInputs, SomeInputs}
use Rattle.hume_calls.proofs.ScriptWords.{NamesFurther, further_there}
use Rattle.hume_calls.proofs.Texts.{told_texts, told_by_all}
use Rattle.hume_calls.proofs.Wanting.{fit_inputs}

-- calls with room

abbrev text_in : Option (List ℕ) → List ℕ
text_in None = []
text_in (Some left) = source_text left

text_told : (left : Option (List ℕ)) → IfSome left (λ bytes. text_in left ≡ source_text bytes)
text_told None = tt
text_told (Some left) = refl

-- a call owes something over any ports
owes_something : SomeInputs → SomeOutcome → (order : Order) (named : Named) (ports : List PortView) → (owed : Owed Status) × OwesOver order named ports owed
owes_something has_inputs some_outcome order named ports =
    let some = some_owed has_inputs some_outcome order named (text_in (left_of named.source ports)) (names ports) (told_texts ports) in (
      some.0,
      record {
        text = text_in (left_of named.source ports);
        told = text_told (left_of named.source ports);
        texts = told_texts ports;
        texts_told = λ name apart. told_by_all ports name;
        owes = some.1;
      },
    )

module _ (order : Order) (named : Named) (olds news : List PortView) (status : Status) where
  owes_of : (a : AnswersFrom order named olds news status) → OwesOver order named olds a.owed
  owes_of a = record { text = a.text; told = a.told; texts = a.texts; texts_told = a.texts_told; owes = a.owes }

  sourced_with_room : SomeInputs → SomeOutcome → Ended order named olds news status → HaveRoom order (Some named) olds
      → (status ≡ NoMemory) ⊎ GivesOwed order (Some named) olds news status
  sourced_with_room has_inputs some_outcome (inl (inl (is, stops))) room = inl is
  sourced_with_room has_inputs some_outcome (inl (inr (is, fails))) room =
      let some = owes_something has_inputs some_outcome order named olds in
      absurd (fails.no_room (Roomy-nothing olds (written some.0.acts) (room some.0 some.1)))
  sourced_with_room has_inputs some_outcome (inr a) room = elim a.ends [
    | inl made ↦ inr (record { owed = a.owed; owes = owes_of a; answer = made.0; delivered = made.2.progress.delivered })
    | inr fails ↦ absurd (fails.1.no_room (room a.owed (owes_of a)))
  ]

module _ (order : Order) (olds news : List PortView) (status : Status) where
  alone_with_room : AnswersAlone order olds news status → HaveRoom order None olds → (status ≡ NoMemory) ⊎ GivesOwed order None olds news status
  alone_with_room (inl (is, same)) room = inl is
  alone_with_room (inr (owed, owes, ends)) room = elim ends [
    | inl made ↦ inr (record { owed = owed; owes = owes; answer = made.0; delivered = made.2.progress.delivered })
    | inr fails ↦ absurd (fails.1.no_room (room owed owes))
  ]

  pub answered_with_room : SomeInputs → SomeOutcome → (named : Option Named) → Answers order named olds news status → HaveRoom order named olds
      → (status ≡ NoMemory) ⊎ GivesOwed order named olds news status
  answered_with_room has_inputs some_outcome None answers room = alone_with_room answers room
  answered_with_room has_inputs some_outcome (Some named) answers room = sourced_with_room order named olds news status has_inputs some_outcome answers room

-- calls over the same texts

is_there : (place : Option ℕ) → is_none place ≡ false → place ≡ None → ⊥
is_there None there none = cc
is_there (Some at) there none = cc

-- what is told of one text is told of the other
same_told : (left : Option (List ℕ)) (text other bytes : List ℕ) → left ≡ Some bytes → IfSome left (λ l. text ≡ l) → text ≡ bytes
same_told None text other bytes is told = cc
same_told (Some l) text other bytes is told = told ∙ (let same : l ≡ bytes = cc in same)

same_source : (left : Option (List ℕ)) (text bytes : List ℕ) → left ≡ Some bytes → IfSome left (λ l. text ≡ source_text l) → text ≡ source_text bytes
same_source None text bytes is told = cc
same_source (Some l) text bytes is told = told ∙ ap source_text (let same : l ≡ bytes = cc in same)

module _ (named : Named) (olds others : List PortView) (same : HaveSameTexts olds others) (first second : List ℕ → List ℕ)
    (told : IsText named.source olds first) (also : IsText named.source others second) where
  -- each port that is there, and isn't the source's, has one text
  one_text : (name : List ℕ) → is_none (place_of name (names olds)) ≡ false → bytes_eq name named.source ≡ false → first name ≡ second name
  one_text name there apart =
      let tells = same.tell name (is_there (place_of name (names olds)) there) in
      same_told (left_of name olds) (first name) (second name) tells.0 tells.1 (told name apart)
      ∙ sym (same_told (left_of name others) (second name) (first name) tells.0 tells.2 (also name apart))

  module _ (core : Core) (earlier : List (List ℕ)) (fit : unfit_line (names olds) named.source earlier (streams core) ≡ None) where
    comes_alike : (n : ℕ) (node : Option NodeC) → slice_get core.nodes n ≡ node → (good : List Value) (bad : Option ℕ)
        → ComesTo core first n node good bad → ComesTo core second n node good bad
    comes_alike n None at good bad c = c
    comes_alike n (Some (Rules b)) at good bad c = c
    comes_alike n (Some (To stream)) at good bad c = c
    comes_alike n (Some (From stream)) at good bad c =
        let is = fit_inputs (names olds) named.source core.nodes earlier fit n stream at in
        subst (λ (text : List ℕ). IsGoodUntil core.types (type_at core n) text good bad) (one_text stream.port is.0 is.1) c

    inputs_alike : (coming : Inputs) → AreInputs core first coming → AreInputs core second coming
    inputs_alike coming are = record {
      count = are.count;
      each = λ n. comes_alike n (slice_get core.nodes n) refl (listed coming.good n) (coming.bad n) (are.each n);
    }

  -- each port that the words name has one text
  source_alike : (text : List ℕ) (other : List ℕ) → is_none (place_of other (names olds)) ≡ false
      → text_of named.source text first other ≡ text_of named.source text second other
  source_alike text other here = elim (cases_Bool (bytes_eq other named.source)) [
    | inl is ↦ rw is refl
    | inr isnt ↦ ap (λ (left : List ℕ). if bytes_eq other named.source then text else source_text left) (one_text other here isnt)
  ]

  sources_alike : (text : List ℕ) (others : List (List ℕ)) → list_any (λ name. is_none (place_of name (names olds))) others ≡ false
      → map (text_of named.source text first) others ≡ map (text_of named.source text second) others
  sources_alike text [] here = refl
  sources_alike text (other ∷ others) here =
      let parts = or_parts (is_none (place_of other (names olds))) (list_any (λ name. is_none (place_of name (names olds))) others) here in
      λ i. source_alike text other parts.0 i ∷ sources_alike text others parts.1 i

  all_there : (LacksPort (names olds) named → ⊥) → (lacks : Bool) → list_any (λ name. is_none (place_of name (names olds))) named.others ≡ lacks → lacks ≡ false
  all_there there true is = absurd (there (inr is))
  all_there there false is = refl

  union_texts_alike : (text : List ℕ) → (LacksPort (names olds) named → ⊥) → union_texts text named first ≡ union_texts text named second
  union_texts_alike text there =
      let here = all_there there (list_any (λ name. is_none (place_of name (names olds))) named.others) refl in
      λ i. text ∷ sources_alike text named.others here i

  script_alike : (steps : ℕ) (core : Core) (lines : List ℕ) (later : Owed Status)
      → IsOwedScript steps core lines named.source (further_of named) (names olds) first later
      → IsOwedScript steps core lines named.source (further_of named) (names olds) second later
  script_alike steps core lines later (inl refused) = inl refused
  script_alike steps core lines later (inr (new, made, within, fit, coming, are, owes)) =
      inr (new, made, within, fit, coming, inputs_alike new (further_of named ∷ []) fit coming are, owes)

  owed_alike : (order : Order) (text : List ℕ) (owed : Owed Status) → NamesFurther order named → (LacksPort (names olds) named → ⊥)
      → IsOwed order named text (names olds) first owed → IsOwed order named text (names olds) second owed
  owed_alike (Check place) text owed its there owes = owes
  owed_alike (Demo number steps workers) text owed its there owes = owes
  owed_alike (Run steps workers place traced) text owed its there (inl refused) = inl refused
  owed_alike (Run steps workers place traced) text owed its there (inr (accepted, is, fit, coming, are, owes)) =
      inr (accepted, is, fit, coming, inputs_alike accepted.core [] fit coming are, owes)
  owed_alike (Calc steps workers place script) text owed its there (inl refused) = inl refused
  owed_alike (Calc steps workers place script) text owed its there (inr (sound, is, later, owes, same)) =
      let one : first (further_of named) ≡ second (further_of named) = one_text (further_of named) (further_there named (names olds) its there) its.apart in
      let now : IsOwedScript steps sound.core (script_text (second (further_of named))) named.source (further_of named) (names olds) second later =
      subst (λ (all : List ℕ). IsOwedScript steps sound.core (script_text all) named.source (further_of named) (names olds) second later) one
      (script_alike steps sound.core (script_text (first (further_of named))) later owes) in
      inr (sound, is, later, now, same)
  owed_alike (Log steps place log verify) text owed its there (inl refused) = inl refused
  owed_alike (Log steps place log verify) text owed its there (inr (accepted, is, fit, coming, are, owes)) =
      let one : first (further_of named) ≡ second (further_of named) = one_text (further_of named) (further_there named (names olds) its there) its.apart in
      let now : IsOwedLogged verify steps accepted.core coming (further_of named) (second (further_of named)) owed =
      subst (λ (all : List ℕ). IsOwedLogged verify steps accepted.core coming (further_of named) all owed) one owes in
      inr (accepted, is, fit, coming, inputs_alike accepted.core (further_of named ∷ []) fit coming are, now)
  owed_alike (Union steps workers count place) text owed its there (inl refused) = inl (
    refused.0,
    subst (λ ts. IsUnionRefusal (names olds) (named.source ∷ named.others) ts refused.0) (union_texts_alike text there) refused.1,
    refused.2,
  )
  owed_alike (Union steps workers count place) text owed its there (inr runs) = inr (
    runs.0,
    subst (λ ts. MayUnite (names olds) (named.source ∷ named.others) ts runs.0) (union_texts_alike text there) runs.1,
    runs.2,
    inputs_alike (union_core runs.0) []
        (union_fit (names olds) named.source named.others runs.0 (many_programs named text first runs.0 runs.1.accepted) runs.1.fit runs.1.apart) runs.2 runs.3,
    runs.4,
  )

-- a call that came to its end has read its source
read_through : (order : Order) (named : Named) (olds news : List PortView) (status : Status) → Ended order named olds news status → IsThrough status
    → AnswersFrom order named olds news status
read_through order named olds news status (inl (inl (is, stops))) through = absurd (through.2 is)
read_through order named olds news status (inl (inr (is, fails))) through = absurd (through.1 is)
read_through order named olds news status (inr a) through = a

-- what has few values doesn't matter where nothing failed
any_few : (few other : Few) (owed : Owed Status) (olds news : List PortView) (status : Status) → EndsAs few owed Fault olds news status
    → (status ≡ Fault → ⊥) → EndsAs other owed Fault olds news status
any_few few other owed olds news status (inl made) through = inl made
any_few few other owed olds news status (inr (is, fails)) through = absurd (through is)

-- Two calls gave the same answer, and the same bytes to each port that had the same.
abbrev pub EndAlike : List PortView → List PortView → List PortView → List PortView → Status → Status → Type 0
EndAlike olds news others later status other =
    (status ≡ other) × ((name had : List ℕ) → bytes_of name olds ≡ Some had → bytes_of name others ≡ Some had → bytes_of name news ≡ bytes_of name later)

module _ (order : Order) (named : Named) (olds news others later : List PortView) (status other : Status) where
  abbrev SameBytes : Type 0
  SameBytes = EndAlike olds news others later status other

  calls_alike : OneInputs → OneOutcome → NamesFurther order named → (LacksPort (names olds) named → ⊥) → HaveSameTexts olds others → (a : AnswersFrom order named olds news status)
      → (b : AnswersFrom order named others later other) → IsThrough status → IsThrough other → SameBytes
  calls_alike one_inputs one_outcome its there same a b through too =
      let tells = same.tell named.source (λ none. there (inl none)) in
      let text : b.text ≡ a.text = same_source (left_of named.source others) b.text tells.0 tells.2 b.told
      ∙ sym (same_source (left_of named.source olds) a.text tells.0 tells.1 a.told) in
      let first : IsOwed order named a.text (names olds) b.texts a.owed =
      owed_alike named olds others same a.texts b.texts a.texts_told b.texts_told order a.text a.owed its there a.owes in
      let second : IsOwed order named a.text (names olds) b.texts b.owed =
      subst (λ (ns : List (List ℕ)). IsOwed order named a.text ns b.texts b.owed) (sym same.same_names)
      (subst (λ (t : List ℕ). IsOwed order named t (names others) b.texts b.owed) text b.owes) in
      let one : b.owed ≡ a.owed = one_owed one_inputs one_outcome order named a.text (names olds) b.texts b.owed a.owed second first in
      let few : Few = call_few order named a.text a.texts in
      let whole : Owed Status = after_reads (source_reads named.source) a.owed in
      end_alike few whole Fault olds news others later status other a.ends
      (any_few (call_few order named b.text b.texts) few whole others later other
      (subst (λ (o : Owed Status). EndsAs (call_few order named b.text b.texts) (after_reads (source_reads named.source) o) Fault others later other) one b.ends)
      too.1)
      through.1 too.1

  pub ended_alike : OneInputs → OneOutcome → NamesFurther order named → (LacksPort (names olds) named → ⊥) → HaveSameTexts olds others → Ended order named olds news status
      → Ended order named others later other → IsThrough status → IsThrough other → SameBytes
  ended_alike one_inputs one_outcome its there same x y through too =
      calls_alike one_inputs one_outcome its there same (read_through order named olds news status x through) (read_through order named others later other y too) through too

-- a call without a source that came to its end ends as what it owes
module _ (order : Order) (olds news : List PortView) (status : Status) where
  abbrev EndsAlone : Type 0
  EndsAlone = (owed : Owed Status) × OwesAlone order olds owed × EndsAs never owed Fault olds news status

  alone_through : AnswersAlone order olds news status → IsThrough status → EndsAlone
  alone_through (inl (is, same)) through = absurd (through.2 is)
  alone_through (inr ends) through = ends

module _ (order : Order) (olds news others later : List PortView) (status other : Status) (one_inputs : OneInputs) (one_outcome : OneOutcome) (same : HaveSameTexts olds others) where
  alone_alike : EndsAlone order olds news status → EndsAlone order others later other → IsThrough status → IsThrough other
      → EndAlike olds news others later status other
  alone_alike (owed, owes, ends) (its, also, too) through so =
      let one : its ≡ owed = one_owed one_inputs one_outcome order (source_alone []) [] (names olds) (λ name. []) its owed
      (subst (λ (ns : List (List ℕ)). IsOwed order (source_alone []) [] ns (λ name. []) its) (sym same.same_names) also) owes in
      end_alike never owed Fault olds news others later status other ends
      (subst (λ (o : Owed Status). EndsAs never o Fault others later other) one too) through.1 so.1

  pub answers_alike : (named : Option Named) → IfSome named (NamesFurther order) → (IsSomeAnd named (LacksPort (names olds)) → ⊥) → Answers order named olds news status
      → Answers order named others later other → IsThrough status → IsThrough other → EndAlike olds news others later status other
  answers_alike None its there x y through too =
      alone_alike (alone_through order olds news status x through) (alone_through order others later other y too) through too
  answers_alike (Some named) its there x y through too =
      ended_alike order named olds news others later status other one_inputs one_outcome its there same x y through too

-- words of a form

if_some : {A : Type 0} (o : Option A) (P : A → Type 0) (x : A) → o ≡ Some x → IfSome o P → P x
if_some None P x is p = cc
if_some (Some y) P x is p = let same : y ≡ x = cc in subst P same p

pub of_form : (words : List (List ℕ)) (order : Order) (olds news : List PortView) (status : Status) → order_of words ≡ Some order
    → Headline words olds news status → (status ≡ Usage → ⊥) → Answers order (named_by words order) olds news status
of_form words order olds news status is line =
    if_some (order_of words) (λ order. (status ≡ Usage → ⊥) → Answers order (named_by words order) olds news status) order is line
