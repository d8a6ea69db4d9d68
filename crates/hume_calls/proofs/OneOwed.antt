-- A call owes one thing.
use Rattle.std.proofs.Common.{◌≡◌, ◌⊎◌, ℕ, Bool, true, false, List, [], ◌∷◌, ◌++◌, map, Option, None, Some, inl, inr, refl, sym, ap, ◌∙◌, subst}
use Rattle.hume_base.specs.declared.rule.Refusal.{Refusal}
use Rattle.hume_base.specs.declared.rule.Rule.TheVariants.{C55}
use Rattle.hume_model.specs.declared.core_tree.Core.{Core}
use Rattle.hume_front.specs.declared.acceptance.Accepted.{Accepted}
use Rattle.hume_front.specs.Accepted.{IsAccepted, Breaks}
use Rattle.hume_front.proofs.OneRefusal.{one_refusal, accepted_unbroken}
use Rattle.hume_front.proofs.Sources.{one_accepted_core}
use Rattle.hume_front.proofs.SomeAnswer as front
use Rattle.run_rounds.specs.Streams.{streams}
use Rattle.run_rounds.specs.Inputs.{Inputs, AreInputs}
use Rattle.run_rounds.specs.Members.{MemberView, members_acts}
use Rattle.log_rounds.specs.Outcomes.{Outcome, IsOutcome}
use Rattle.run_rounds.specs.Writes.{blocked_round, span_of, told}
use Rattle.hume_calls.specs.declared.order.Order.{Order}
use Rattle.hume_calls.specs.declared.order.Order.TheVariants.{Run, Calc, Log, Check, Union, Demo}
use Rattle.hume_calls.specs.Words.{Named, further_of}
use Rattle.hume_calls.specs.Streams.{unfit_line}
use Rattle.port_acts.specs.Acts.{write_each, finish_each}
use Rattle.port_acts.specs.Early.{Reads, after_reads}
use Rattle.port_acts.specs.Ends.{Owed}
use Rattle.hume_calls.specs.declared.status.Status.{Status}
use Rattle.demo_net.specs.Source.{demo_text}
use Rattle.hume_calls.specs.Owed.{IsRefusal, broken, unfit, IsOwedLogged, IsOwedUnion, IsOwed, owed_program_refused, owed_refused, owed_run, owed_verify, owed_check, owed_demo, run_finishes, run_status}
use Rattle.hume_calls.specs.Reading.{reads_whole}
use Rattle.hume_calls.specs.Unions.{text_of, union_core}
use Rattle.hume_calls.specs.declared.program_refusal.ProgramRefusal.{ProgramRefusal}
use Rattle.hume_calls.proofs.OneScript.{OneInputs, SomeInputs, one_calc, some_calc}
use Rattle.hume_calls.proofs.Programs.{cores_same}
use Rattle.hume_calls.proofs.UnionOwed.{not_refused, one_union_refusal, refused_or_runs, union_members_same, union_runs, union_same, union_tables_same}
use Rattle.hume_calls.proofs.Runnable.{runnable}

-- Something comes of each log, and one thing.
abbrev pub SomeOutcome : Type 0
SomeOutcome = (core : Core) (inputs : Inputs) (steps : ℕ) (text : List ℕ) → (outcome : Outcome) × IsOutcome core inputs steps text outcome

abbrev pub OneOutcome : Type 0
OneOutcome = (core : Core) (inputs : Inputs) (steps : ℕ) (text : List ℕ) (first second : Outcome)
    → IsOutcome core inputs steps text first → IsOutcome core inputs steps text second → first ≡ second

-- A refusal of the source of that text is owed, or what its accepted core owes.
abbrev OwedBy : (Core → Owed Status) → List ℕ → Owed Status → Type 0
OwedBy of text owed =
    ((refusal : Refusal) × Breaks text refusal × (owed ≡ owed_refused refusal)) ⊎ ((accepted : Accepted) × IsAccepted text accepted × (owed ≡ of accepted.core))

same_by : (of : Core → Owed Status) (text : List ℕ) (first second : Owed Status) → OwedBy of text first → OwedBy of text second → first ≡ second
same_by of text first second x y = elim x [
  | inl p ↦ elim y [
    | inl q ↦ p.2 ∙ ap owed_refused (one_refusal text p.0 q.0 p.1 q.1) ∙ sym q.2
    | inr q ↦ absurd (accepted_unbroken text q.0 p.0 q.1 p.1)
  ]
  | inr p ↦ elim y [
    | inl q ↦ absurd (accepted_unbroken text p.0 q.0 p.1 q.1)
    | inr q ↦ p.2 ∙ ap of (one_accepted_core text p.0 q.0 p.1 q.1) ∙ sym q.2
  ]
]

some_by : (of : Core → Owed Status) (text : List ℕ) → (owed : Owed Status) × OwedBy of text owed
some_by of text = elim (front.some_answer text) [ inl a ↦ (_, inr (a.0, a.1, refl)) | inr r ↦ (_, inl (r.0, r.1, refl)) ]

module _ (source text : List ℕ) (names others : List (List ℕ)) (texts : List ℕ → List ℕ) where
  -- the line of the first unfit stream
  abbrev unfit_in : Core → Option ℕ
  unfit_in core = unfit_line names source others (streams core)

  same_core : (a b : Accepted) → IsAccepted text a → IsAccepted text b → a.core ≡ b.core
  same_core = one_accepted_core text

  same_refusal : (r s : Refusal) → IsRefusal text names source others r → IsRefusal text names source others s → r ≡ s
  same_refusal _ _ (broken r x) (broken s y) = one_refusal text r s x y
  same_refusal _ _ (broken r x) (unfit b q m at) = absurd (accepted_unbroken text b r q x)
  same_refusal _ _ (unfit a p n at) (broken s y) = absurd (accepted_unbroken text a s p y)
  same_refusal _ _ (unfit a p n at) (unfit b q m there) =
      let both = sym at ∙ ap unfit_in (same_core a b p q) ∙ there in
      let same : n ≡ m = cc in ap (λ line. record { rule = C55; line = line }) same

  -- a refused source is not run
  not_both : (r : Refusal) (b : Accepted) → IsRefusal text names source others r → IsAccepted text b → unfit_in b.core ≡ None → ⊥
  not_both _ b (broken r x) q fit = accepted_unbroken text b r q x
  not_both _ b (unfit a p n at) q fit = let both = sym at ∙ ap unfit_in (same_core a b p q) ∙ fit in cc

  -- A refusal is owed, or what comes to the run of the accepted core owes it.
  abbrev OwedFrom : (Core → Inputs → Owed Status → Type 0) → Owed Status → Type 0
  OwedFrom Of owed =
      ((refusal : Refusal) × IsRefusal text names source others refusal × (owed ≡ owed_refused refusal))
      ⊎ ((accepted : Accepted) × IsAccepted text accepted × (unfit_in accepted.core ≡ None)
      × (coming : Inputs) × AreInputs accepted.core texts coming × Of accepted.core coming owed)

  same_from : OneInputs → (Of : Core → Inputs → Owed Status → Type 0)
      → ((core : Core) (coming : Inputs) (first second : Owed Status) → Of core coming first → Of core coming second → first ≡ second)
      → (first second : Owed Status) → OwedFrom Of first → OwedFrom Of second → first ≡ second
  same_from one_inputs Of one first second x y = elim x [
    | inl p ↦ elim y [
      | inl q ↦ p.2 ∙ ap owed_refused (same_refusal p.0 q.0 p.1 q.1) ∙ sym q.2
      | inr q ↦ absurd (not_both p.0 q.0 p.1 q.1 q.2)
    ]
    | inr p ↦ elim y [
      | inl q ↦ absurd (not_both q.0 p.0 q.1 p.1 p.2)
      | inr q ↦
          let core : q.0.core ≡ p.0.core = same_core q.0 p.0 q.1 p.1 in
          let coming : p.3 ≡ q.3 = one_inputs p.0.core (runnable text p.0 p.1) texts p.3 q.3 p.4 (subst (λ c. AreInputs c texts q.3) core q.4) in
          one p.0.core p.3 first second p.5 (subst (λ c. Of c p.3 second) core (subst (λ i. Of q.0.core i second) (sym coming) q.5))
    ]
  ]

  -- a run of an accepted source owes something
  some_accepted : SomeInputs → (Of : Core → Inputs → Owed Status → Type 0)
      → ((core : Core) (coming : Inputs) → (owed : Owed Status) × Of core coming owed)
      → (a : Accepted) → IsAccepted text a → (o : Option ℕ) → unfit_in a.core ≡ o → (owed : Owed Status) × OwedFrom Of owed
  some_accepted has_inputs Of some a p (Some line) at = (_, inl (_, unfit a p line at, refl))
  some_accepted has_inputs Of some a p None fit =
      let coming = has_inputs a.core (runnable text a p) texts in
      let its = some a.core coming.0 in
      (its.0, inr (a, p, fit, coming.0, coming.1, its.1))

  some_from : SomeInputs → (Of : Core → Inputs → Owed Status → Type 0)
      → ((core : Core) (coming : Inputs) → (owed : Owed Status) × Of core coming owed)
      → (owed : Owed Status) × OwedFrom Of owed
  some_from has_inputs Of some = elim (front.some_answer text) [
    | inl a ↦ some_accepted has_inputs Of some a.0 a.1 _ refl
    | inr r ↦ (_, inl (r.0, broken r.0 r.1, refl))
  ]

-- what a run owes by what comes to it
abbrev OfRun : Bool → ℕ → Core → Inputs → Owed Status → Type 0
OfRun traced steps core coming owed = owed ≡ owed_run traced steps core coming

-- a log has one outcome, and so a logged run owes one thing
same_logged : OneOutcome → (verify : Bool) (steps : ℕ) (log text : List ℕ) (core : Core) (coming : Inputs) (first second : Owed Status)
    → IsOwedLogged verify steps core coming log text first → IsOwedLogged verify steps core coming log text second → first ≡ second
same_logged one_outcome false steps log text core coming first second x y = x ∙ sym y
same_logged one_outcome true steps log text core coming first second x y =
    x.2 ∙ ap (owed_verify steps core coming log) (one_outcome core coming steps text x.0 y.0 x.1 y.1) ∙ sym y.2

some_logged : SomeOutcome → (verify : Bool) (steps : ℕ) (log text : List ℕ) (core : Core) (coming : Inputs)
    → (owed : Owed Status) × IsOwedLogged verify steps core coming log text owed
some_logged some_outcome false steps log text core coming = (_, refl)
some_logged some_outcome true steps log text core coming = let its = some_outcome core coming steps text in (_, (its.0, its.1, refl))

-- a union

module _ (further : Reads) (steps : ℕ) (sources : List (List ℕ)) (text : List ℕ) (texts names : List (List ℕ)) (each : List ℕ → List ℕ) where
  abbrev Owing : Owed Status → Type 0
  Owing = IsOwedUnion further steps sources (text ∷ texts) names each

  abbrev refused_by : ProgramRefusal → Owed Status
  refused_by refusal = after_reads further (owed_program_refused refusal)

  abbrev run_by : List (List ℕ) → List MemberView → Core → Inputs → Owed Status
  run_by table members core coming = after_reads further (record {
    acts = write_each (told table) ++ (members_acts core members coming false steps ++ finish_each (run_finishes core));
    answer = run_status (blocked_round core coming (span_of false) steps);
  })

  same_union : OneInputs → (first second : Owed Status) → Owing first → Owing second → first ≡ second
  same_union one_inputs first second (inl p) (inl q) =
      p.2 ∙ ap refused_by (one_union_refusal names sources (text ∷ texts) p.0 q.0 p.1 q.1) ∙ sym q.2
  same_union one_inputs first second (inl p) (inr q) = absurd (not_refused names sources (text ∷ texts) p.0 q.0 p.1 q.1)
  same_union one_inputs first second (inr p) (inl q) = absurd (not_refused names sources (text ∷ texts) q.0 p.0 q.1 p.1)
  same_union one_inputs first second (inr p) (inr q) =
      let cores = cores_same (text ∷ texts) p.0 q.0 p.1.accepted q.1.accepted in
      let core : union_core p.0 ≡ union_core q.0 = union_same p.0 q.0 cores in
      let coming : p.2 ≡ q.2 = one_inputs (union_core p.0) (union_runs text texts p.0 p.1.accepted p.1.within) each p.2 q.2 p.3
      (subst (λ c. AreInputs c each q.2) (sym core) q.3) in
      p.4 ∙ (λ i. run_by (union_tables_same sources p.0 q.0 cores i) (union_members_same sources p.0 q.0 cores i) (core i) (coming i)) ∙ sym q.4

  pub some_union : SomeInputs → (owed : Owed Status) × Owing owed
  some_union has_inputs = elim (refused_or_runs names sources (text ∷ texts)) [
    | inl r ↦ (_, inl (r.0, r.1, refl))
    | inr p ↦ let coming = has_inputs (union_core p.0) (union_runs text texts p.0 p.1.accepted p.1.within) each in (_, inr (p.0, p.1, coming.0, coming.1, refl))
  ]

pub one_owed : OneInputs → OneOutcome → (order : Order) (named : Named) (text : List ℕ) (names : List (List ℕ)) (texts : List ℕ → List ℕ)
    (first second : Owed Status) → IsOwed order named text names texts first → IsOwed order named text names texts second → first ≡ second
one_owed one_inputs one_outcome (Run steps workers place traced) named text names texts =
    same_from named.source text names [] texts one_inputs (OfRun traced steps) (λ core coming first second x y. x ∙ sym y)
one_owed one_inputs one_outcome (Calc steps workers place script) named text names texts =
    one_calc named.source (further_of named) text names texts steps one_inputs
one_owed one_inputs one_outcome (Log steps place log verify) named text names texts =
    same_from named.source text names (further_of named ∷ []) texts one_inputs
    (λ core coming. IsOwedLogged verify steps core coming (further_of named) (texts (further_of named)))
    (same_logged one_outcome verify steps (further_of named) (texts (further_of named)))
one_owed one_inputs one_outcome (Check place) named text names texts = same_by owed_check text
one_owed one_inputs one_outcome (Union steps workers count place) named text names texts =
    same_union (reads_whole named.others) steps (named.source ∷ named.others) text (map (text_of named.source text texts) named.others) names texts one_inputs
one_owed one_inputs one_outcome (Demo number steps workers) named text names texts = same_by (owed_demo steps) (demo_text number)

pub some_owed : SomeInputs → SomeOutcome → (order : Order) (named : Named) (text : List ℕ) (names : List (List ℕ)) (texts : List ℕ → List ℕ)
    → (owed : Owed Status) × IsOwed order named text names texts owed
some_owed has_inputs some_outcome (Run steps workers place traced) named text names texts =
    some_from named.source text names [] texts has_inputs (OfRun traced steps) (λ core coming. (_, refl))
some_owed has_inputs some_outcome (Calc steps workers place script) named text names texts =
    some_calc named.source (further_of named) text names texts steps has_inputs
some_owed has_inputs some_outcome (Log steps place log verify) named text names texts =
    some_from named.source text names (further_of named ∷ []) texts has_inputs
    (λ core coming. IsOwedLogged verify steps core coming (further_of named) (texts (further_of named)))
    (some_logged some_outcome verify steps (further_of named) (texts (further_of named)))
some_owed has_inputs some_outcome (Check place) named text names texts = some_by owed_check text
some_owed has_inputs some_outcome (Union steps workers count place) named text names texts =
    some_union (reads_whole named.others) steps (named.source ∷ named.others) text (map (text_of named.source text texts) named.others) names texts has_inputs
some_owed has_inputs some_outcome (Demo number steps workers) named text names texts = some_by (owed_demo steps) (demo_text number)
