-- From the parts of a call to the whole.
use Rattle.std.proofs.Common.{◌≡◌, ◌⊎◌, ℕ, Bool, true, false, List, [], ◌∷◌, ◌++◌, Option, None, Some, IfSome, refl, ap, subst, sym, ◌∙◌, inl, inr}
use Rattle.std.proofs.lemmas.Bool.{true≢false}
use Rattle.hume_base.specs.declared.rule.Refusal.{Refusal}
use Rattle.hume_model.specs.declared.core_tree.Core.{Core}
use Rattle.typed_core.specs.declared.trees.Trees.{Trees}
use Rattle.typed_core.specs.Trees.{AreTrees}
use Rattle.hume_front.specs.declared.acceptance.Accepted.{Accepted}
use Rattle.hume_front.specs.Accepted.{Breaks, IsAccepted}
use Rattle.hume_ports.specs.Port.{PortView}
use Rattle.hume_ports.specs.Ports.{ForNameAt, left_of, names}
use Rattle.port_acts.specs.Acts.{Act, finishes, writes}
use Rattle.port_acts.specs.Ends.{Fails, Made, Owed, never}
use Rattle.port_acts.specs.Early.{read_each}
use Rattle.port_acts.specs.Places.{IsPlaceOf}
use Rattle.port_acts.proofs.Making.{Made-on}
use Rattle.port_acts.proofs.Failing.{Fails-any, Fails-on}
use Rattle.run_rounds.specs.Streams.{std_out}
use Rattle.hume_calls.specs.declared.status.Status.{Status}
use Rattle.hume_calls.specs.declared.status.Status.TheVariants.{Done, Fault, NoMemory, Refused, Usage}
use Rattle.hume_calls.specs.Ended.{EndsAfter, EndsRefused, RunsOut}
use Rattle.hume_calls.specs.Few.{source_few}
use Rattle.hume_calls.specs.Owed.{owed_refused}
use Rattle.hume_calls.specs.Reading.{source_reads, source_text}
use Rattle.hume_calls.proofs.Answering.{meant, runs_out}
use Rattle.hume_c.specs.Words.{Request, request_of}
use Rattle.hume_c.specs.declared.words.Kind.{Kind}
use Rattle.hume_c.specs.Texts.{text_of}
use Rattle.hume_c.specs.Owed.{owed_text}
use Rattle.hume_c.specs.Headline.{Answers, Headline}
use Rattle.hume_c.specs.inner.Told.{EndsText, EndsTold}

module _ (olds : List PortView) (out : ℕ) (place : IsPlaceOf std_out (names olds) out) (kind : Kind) (called : List ℕ) (core : Core) (trees : Trees) where
  pub text_told : (news : List PortView) (text line : List ℕ) → line ≡ text → text ≡ text_of kind called core trees
      → ForNameAt out olds (λ name. Made (writes name line ∷ finishes name ∷ []) [] olds news) → EndsTold kind called core trees olds news Done
  text_told news text line is fits made =
      let P : List ℕ → Type 0 = λ bytes. Made (writes std_out bytes ∷ finishes std_out ∷ []) [] olds news in
      inr (inl (refl, [], subst P (is ∙ fits) (made std_out (meant std_out (names olds) out place))))

  pub text_failed : (news : List PortView) (text line : List ℕ) → line ≡ text → text ≡ text_of kind called core trees
      → ForNameAt out olds (λ name. Fails never [] (writes name line ∷ finishes name ∷ []) olds news) → EndsTold kind called core trees olds news Fault
  text_failed news text line is fits fails =
      let P : List ℕ → Type 0 = λ bytes. Fails never [] (writes std_out bytes ∷ finishes std_out ∷ []) olds news in
      inr (inr (refl, subst P (is ∙ fits) (fails std_out (meant std_out (names olds) out place))))

-- answers that aren't Usage

abbrev is_usage : Status → Bool
is_usage Usage = true
is_usage _ = false

another : (status it : Status) → is_usage it ≡ false → status ≡ it → status ≡ Usage → ⊥
another status it differs is usage = true≢false (sym (ap is_usage usage) ∙ ap is_usage is ∙ differs)

pub refused_another : (text : List ℕ) (olds news : List PortView) (status : Status) → EndsRefused text olds news status → status ≡ Usage → ⊥
refused_another text olds news status (inl out) = another status NoMemory refl out.0
refused_another text olds news status (inr (refusal, breaks, inl out)) = another status NoMemory refl out.0
refused_another text olds news status (inr (refusal, breaks, inr (inl made))) = another status Refused refl made.0
refused_another text olds news status (inr (refusal, breaks, inr (inr fails))) = another status Fault refl fails.0

-- of Usage nothing more is asked
pub asked_nothing : (olds news : List PortView) (request : Option Request) → IfSome request (λ it. (Usage ≡ Usage → ⊥) → Answers it olds news Usage)
asked_nothing olds news None = tt
asked_nothing olds news (Some it) = λ no. absurd (no refl)

pub usage_answers : (words : List (List ℕ)) (olds news : List PortView) → Headline words olds news Usage
usage_answers words olds news = asked_nothing olds news (request_of words)

-- a refused source
pub refused : (request : Request) (text : List ℕ) (olds news : List PortView) (status : Status) → EndsRefused text olds news status
    → EndsText request text olds news status
refused request text olds news status (inl out) = inl out
refused request text olds news status (inr (refusal, breaks, inl out)) = inl out
refused request text olds news status (inr (refusal, breaks, inr ends)) = inr (owed_refused refusal, inl (refusal, breaks, refl), ends)

-- an accepted one
pub accepted : (request : Request) (text : List ℕ) (olds news : List PortView) (status : Status) (it : Accepted) (trees : Trees) → IsAccepted text it
    → AreTrees it.core trees → EndsTold request.kind request.name it.core trees olds news status → EndsText request text olds news status
accepted request text olds news status it trees is are (inl out) = inl out
accepted request text olds news status it trees is are (inr ends) =
    inr (owed_text (text_of request.kind request.name it.core trees), inr (it, is, (trees, are, refl)), ends)

-- the same text by another copy
pub same_text : (request : Request) (text copy : List ℕ) (olds news : List PortView) (status : Status) → copy ≡ text
    → EndsText request copy olds news status → EndsText request text olds news status
same_text request text copy olds news status same ends = subst (λ (it : List ℕ). EndsText request it olds news status) same ends

-- behind the read of the source

module _ (request : Request) (olds : List PortView) where
  abbrev reads : List Act
  reads = read_each (source_reads request.source)

  pub unread : (news : List PortView) (at : ℕ) → IsPlaceOf request.source (names olds) at
      → ForNameAt at olds (λ name. Fails (source_few name) [] (read_each (source_reads name)) olds news) → Answers request olds news Fault
  unread news at place failed = inl (inr (refl, failed request.source (meant request.source (names olds) at place)))

  pub unstarted : (news : List PortView) → news ≡ olds → Answers request olds news NoMemory
  unstarted news same = inl (inl (runs_out reads olds news NoMemory refl (refl, same)))

  module _ (text : List ℕ) (mids news : List PortView) (status : Status) (m : Made reads ((request.source, text) ∷ []) olds mids) where
    whole : (owed : Owed Status) → EndsAfter never [] owed mids news status
        → ((status ≡ owed.answer) × (taken : List (List ℕ × List ℕ)) × Made (reads ++ owed.acts) taken olds news)
        ⊎ ((status ≡ Fault) × Fails (source_few request.source) [] (reads ++ owed.acts) olds news)
    whole owed (inl (is, taken, made)) =
        inl (is, ((request.source, text) ∷ []) ++ taken, Made-on reads owed.acts ((request.source, text) ∷ []) taken olds mids news m made)
    whole owed (inr (is, f)) = inr (
      is,
      Fails-on (source_few request.source) [] ((request.source, text) ∷ []) reads owed.acts olds mids news m
          (Fails-any (source_few request.source) ((request.source, text) ∷ []) owed.acts mids news f),
    )

    from_text : IfSome (left_of request.source olds) (λ left. text ≡ source_text left) → EndsText request text mids news status
        → Answers request olds news status
    from_text told (inl out) = inl (inl (
      out.0,
      record {
        before = reads;
        later = [];
        in_order = refl;
        unwritten = refl;
        taken = (request.source, text) ∷ [];
        made = subst (λ (ports : List PortView). Made reads ((request.source, text) ∷ []) olds ports) (sym out.1) m;
      },
    ))
    from_text told (inr (owed, owes, ends)) = inr (record { text = text; told = told; owed = owed; owes = owes; ends = whole owed ends })

  pub answers_from : (text : List ℕ) (mids news : List PortView) (at : ℕ) (status : Status) → IsPlaceOf request.source (names olds) at
      → ForNameAt at olds (λ name. Made (read_each (source_reads name)) ((name, text) ∷ []) olds mids)
      → ForNameAt at olds (λ name. IfSome (left_of name olds) (λ left. text ≡ source_text left))
      → EndsText request text mids news status → Answers request olds news status
  answers_from text mids news at status place made told ends =
      let e = meant request.source (names olds) at place in
      from_text text mids news status (made request.source e) (told request.source e) ends
