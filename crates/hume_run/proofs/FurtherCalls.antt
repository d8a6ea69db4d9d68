-- A call that names a source and one further port, from its words.
use Rattle.std.proofs.Common.{◌≡◌, ◌⊎◌, ℕ, zero, suc, ◌+◌, ◌-◌, ◌<◌, Bool, true, false, ◌||◌, List, [], ◌∷◌, map, length, take, drop, get_or, Option, None, Some, IfSome, IsSomeAnd, MatchOption, slice_index_or, slice_range, refl, sym, ap, ◌∙◌, subst, inl, inr, arith}
use Rattle.std.specs.Bool.{⊤}
use Rattle.std.specs.Option.{is_none}
use Rattle.std.specs.Str.{bytes_eq}
use Rattle.std.proofs.lemmas.Bool.{true≢false}
use Rattle.hume_model.specs.declared.core_tree.Core.{Core}
use Rattle.hume_ports.specs.Port.{PortView}
use Rattle.hume_ports.specs.Ports.{place_of}
use Rattle.port_acts.specs.Ends.{Owed}
use Rattle.run_rounds.specs.Streams.{std_out}
use Rattle.hume_calls.specs.declared.status.Status.{Status}
use Rattle.hume_calls.specs.declared.status.Status.TheVariants.{Fault, Refused, Usage}
use Rattle.hume_calls.specs.declared.order.Order.{Order}
use Rattle.hume_calls.specs.declared.order.Order.TheVariants.{Calc, Log}
use Rattle.hume_calls.specs.Headline.{Answers, Headline, IsUsage, LacksPort}
use Rattle.log_rounds.specs.declared.verdict.Verdict.{Verdict}
use Rattle.log_rounds.specs.declared.verdict.Verdict.TheVariants.{Holds, Fails, Blocked}
use Rattle.log_rounds.specs.Outcomes.{verdict_of}
use Rattle.run_rounds.specs.Inputs.{Inputs}
use Rattle.hume_calls.specs.Owed.{IsOwed, IsOwedLogged, IsOwedScript, run_status, verdict_status}
use Rattle.hume_calls.specs.Words.{Named, further_of, named_by, order_of, source_with}
use Rattle.hume_calls.specs.Places.{further_place, source_place}
use Rattle.hume_calls.specs.Ended.{IsFurtherAt}
use Rattle.hume_calls.proofs.Answering.{Ended}
use Rattle.hume_calls.proofs.FitPorts.{found_place}

-- one word, and the words from it to the next

pub word_is : {A : Type 0} (f : A → List ℕ) (words : List A) (at : ℕ) (item : A) (text : List ℕ) → at < length words → item ≡ get_or words at item → text ≡ f item
    → text ≡ slice_index_or (map f words) at []
word_is f [] at item text less is named = absurd (omega (arith, less))
word_is f (word ∷ words) zero item text less is named = named ∙ ap f is
word_is f (word ∷ words) (suc at) item text less is named = word_is f words at item text (omega (arith, less)) is named

pub one_word : {A : Type 0} (f : A → List ℕ) (words : List A) (at : ℕ) → at < length words → map f (slice_range words at (at + 1)) ≡ slice_index_or (map f words) at [] ∷ []
one_word f [] at less = absurd (omega (arith, less))
one_word f (word ∷ words) zero less = refl
one_word f (word ∷ words) (suc at) less =
    let same : (suc at + 1) - suc at ≡ (at + 1) - at = omega arith in
    ap (λ n. map f (take n (drop at words))) same ∙ one_word f words at (omega (arith, less))

-- what an option holds

if_given : {A : Type 0} (o : Option A) (P : A → Type 0) (x : A) → o ≡ Some x → P x → IfSome o P
if_given o P x is p = subst (λ (q : Option _). IfSome q P) (sym is) p

asked_for : {A : Type 0} (o : Option A) (P : A → Type 0) (x : A) → o ≡ Some x → MatchOption o ⊤ P → P x
asked_for o P x is p = subst (λ (q : Option _). MatchOption q ⊤ P) is p

there_or_not : (o : Option ℕ) (at : ℕ) → o ≡ Some at → o ≡ None → ⊥
there_or_not o at there none = some_or_none at (sym there ∙ none)
  where
    some_or_none : (at : ℕ) → ◌≡◌ {A = Option ℕ} (Some at) None → ⊥
    some_or_none at is = cc

-- What the order owes is never Usage.
abbrev pub NeverUsage : Order → Type 0
NeverUsage order = (named : Named) (text : List ℕ) (names : List (List ℕ)) (texts : List ℕ → List ℕ) (owed : Owed Status)
    → IsOwed order named text names texts owed → owed.answer ≡ Usage → ⊥

pub ended_no_usage : (order : Order) → NeverUsage order → (named : Named) (olds news : List PortView) (status : Status) → Ended order named olds news status
    → status ≡ Usage → ⊥
ended_no_usage order never named olds news status (inl (inl (is, stops))) usage = cc
ended_no_usage order never named olds news status (inl (inr (is, fails))) usage = cc
ended_no_usage order never named olds news status (inr a) usage = elim a.ends [
  | inl made ↦ never named a.text _ a.texts a.owed a.owes (sym made.0 ∙ usage)
  | inr fails ↦ by fails.0 usage
]
  where
    by : status ≡ Fault → status ≡ Usage → ⊥
    by is usage = cc

module _ {A : Type 0} (f : A → List ℕ) (words : List A) (order : Order) (source further : ℕ) where
  abbrev all : List (List ℕ)
  all = map f words

  abbrev further_port : List ℕ
  further_port = slice_index_or all further []

  -- The words name a source and one further port.
  abbrev pub NamesTwo : Type 0
  NamesTwo = named_by all order ≡ Some (source_with (slice_index_or all source []) (further_port ∷ []))

  -- the places of the names are among the words
  pub source_within : (o : Option Order) → o ≡ Some order → IfSome o (λ asked. IfSome (source_place asked) (λ place. place < length words))
      → source_place order ≡ Some source → source < length words
  source_within o is within here =
      subst (λ (q : Option ℕ). IfSome q (λ place. place < length words)) here
      (subst (λ (q : Option Order). IfSome q (λ asked. IfSome (source_place asked) (λ place. place < length words))) is within)

  pub further_within : (o : Option Order) → o ≡ Some order → IfSome o (λ asked. IfSome (further_place asked) (λ place. place < length words))
      → further_place order ≡ Some further → further < length words
  further_within o is within here =
      subst (λ (q : Option ℕ). IfSome q (λ place. place < length words)) here
      (subst (λ (q : Option Order). IfSome q (λ asked. IfSome (further_place asked) (λ place. place < length words))) is within)

  module _ (asked : order_of all ≡ Some order) (two : NamesTwo) where
    -- the ports are there
    pub all_named : (names : List (List ℕ)) (out at further_at : ℕ) (name text : List ℕ) → name ≡ slice_index_or all source [] → text ≡ further_port
        → place_of std_out names ≡ Some out → place_of name names ≡ Some at → place_of text names ≡ Some further_at → IsUsage all names → ⊥
    all_named names out at further_at name text named is has_out has_source has_further usage =
        let here : place_of (slice_index_or all source []) names ≡ Some at = subst (λ (n : List ℕ). place_of n names ≡ Some at) named has_source in
        let there : place_of further_port names ≡ Some further_at = subst (λ (n : List ℕ). place_of n names ≡ Some further_at) is has_further in
        elim (asked_for (order_of all) (λ o. (place_of std_out names ≡ None) ⊎ IsSomeAnd (named_by all o) (LacksPort names)) order asked usage) [
          | inl none ↦ there_or_not (place_of std_out names) out has_out none
          | inr lacks ↦ elim (subst (λ (n : Option Named). IsSomeAnd n (LacksPort names)) two lacks) [
            | inl none ↦ there_or_not (place_of (slice_index_or all source []) names) at here none
            | inr missing ↦ true≢false (sym missing ∙ ap (λ o. is_none o || false) there)
          ]
        ]

    module _ (name : List ℕ) (others : List A) (named : name ≡ slice_index_or all source []) (within : further < length words)
        (ranged : others ≡ slice_range words further (further + 1)) where
      other_is : map f others ≡ further_port ∷ []
      other_is = ap (map f) ranged ∙ one_word f words further within

      -- the further port stands at its place
      pub further_at_place : bytes_eq further_port (slice_index_or all source []) ≡ false → (names : List (List ℕ)) (at : ℕ) (text : List ℕ) → text ≡ further_port
          → place_of text names ≡ Some at → IsFurtherAt (source_with name (map f others)) names at
      further_at_place apart names at text is there =
          subst (λ (ports : List (List ℕ)). IsFurtherAt (source_with name ports) names at) (sym other_is)
          (record {
            only = refl;
            place = found_place further_port names at (subst (λ (n : List ℕ). place_of n names ≡ Some at) is there);
            apart = subst (λ (n : List ℕ). bytes_eq further_port n ≡ false) (sym named) apart;
          })

      -- the words are answered
      pub further_headline : (olds news : List PortView) (status : Status) → Ended order (source_with name (map f others)) olds news status
          → Headline all olds news status
      further_headline olds news status ends =
          let here : Ended order (source_with (slice_index_or all source []) (further_port ∷ [])) olds news status =
          (let P : List ℕ → List (List ℕ) → Type 0 = λ n ports. Ended order (source_with n ports) olds news status in
          subst (λ (n : List ℕ). P n (further_port ∷ [])) named (subst (λ (ports : List (List ℕ)). P name ports) other_is ends)) in
          if_given (order_of all) (λ o. (status ≡ Usage → ⊥) → Answers o (named_by all o) olds news status) order asked
          (λ no. subst (λ (n : Option Named). Answers order n olds news status) (sym two) here)

-- no answer of a call with a script or a log is Usage

run_no_usage : (round : Option ℕ) → run_status round ≡ Usage → ⊥
run_no_usage None is = cc
run_no_usage (Some round) is = cc

refused_no_usage : (status : Status) → status ≡ Refused → status ≡ Usage → ⊥
refused_no_usage status refused is = cc

script_no_usage : (steps : ℕ) (core : Core) (lines source port : List ℕ) (names : List (List ℕ)) (texts : List ℕ → List ℕ) (later : Owed Status)
    → IsOwedScript steps core lines source port names texts later → later.answer ≡ Usage → ⊥
script_no_usage steps core lines source port names texts later (inl (refusal, is, same)) usage =
    refused_no_usage later.answer (ap (λ (o : Owed Status). o.answer) same) usage
script_no_usage steps core lines source port names texts later (inr (new, made, within, fit, coming, are, same)) usage =
    run_no_usage _ (sym (ap (λ (o : Owed Status). o.answer) same) ∙ usage)

pub calc_never : (steps workers source script : ℕ) → NeverUsage (Calc steps workers source script)
calc_never steps workers source script named text names texts owed (inl (refusal, is, same)) usage =
    refused_no_usage owed.answer (ap (λ (o : Owed Status). o.answer) same) usage
calc_never steps workers source script named text names texts owed (inr (sound, is, later, owes, same)) usage =
    script_no_usage steps _ _ _ _ names texts later owes (sym (ap (λ (o : Owed Status). o.answer) same) ∙ usage)

verdict_no_usage : (verdict : Verdict) → verdict_status verdict ≡ Usage → ⊥
verdict_no_usage Holds is = cc
verdict_no_usage Fails is = cc
verdict_no_usage Blocked is = cc

logged_no_usage : (verify : Bool) (steps : ℕ) (core : Core) (coming : Inputs) (log text : List ℕ) (owed : Owed Status)
    → IsOwedLogged verify steps core coming log text owed → owed.answer ≡ Usage → ⊥
logged_no_usage false steps core coming log text owed same usage = run_no_usage _ (sym (ap (λ (o : Owed Status). o.answer) same) ∙ usage)
logged_no_usage true steps core coming log text owed (outcome, is, same) usage =
    verdict_no_usage (verdict_of outcome) (sym (ap (λ (o : Owed Status). o.answer) same) ∙ usage)

pub log_never : (steps source log : ℕ) (verify : Bool) → NeverUsage (Log steps source log verify)
log_never steps source log verify named text names texts owed (inl (refusal, is, same)) usage =
    refused_no_usage owed.answer (ap (λ (o : Owed Status). o.answer) same) usage
log_never steps source log verify named text names texts owed (inr (accepted, is, fit, coming, are, owes)) usage =
    logged_no_usage verify steps accepted.core coming (further_of named) (texts (further_of named)) owed owes usage
