-- What a fault of a call tells by the counts that rose.
use Rattle.std.proofs.Common.{◌≡◌, ◌⊎◌, None, ℕ, ◌<◌, ◌-◌, Bool, true, false, List, [], ◌∷◌, ◌++◌, length, refl, ap, sym, ◌∙◌, subst, inl, inr, append_assoc, append-nil}
use Rattle.std.specs.Str.{bytes_eq}
use Rattle.std.proofs.lemmas.Bool.{true≢false, cases_Bool}
use Rattle.std.proofs.lemmas.Grind.{flat_map-append}
use Rattle.hume_base.specs.declared.rule.Refusal.{Refusal}
use Rattle.hume_model.specs.declared.core_tree.Core.{Core}
use Rattle.hume_streams.specs.Good.{IsGoodUntil}
use Rattle.hume_streams.specs.Lines.{whole_lines}
use Rattle.hume_ports.specs.Port.{PortView, Rose}
use Rattle.hume_ports.specs.Ports.{is_among, names, of_first}
use Rattle.hume_ports.specs.Delivery.{Pairs, Delivered, bytes_for}
use Rattle.hume_ports.proofs.Names.{bytes_eq-self, same_name}
use Rattle.port_acts.specs.Acts.{Act, wants, finishes, name_of, count_of, written, finished, finished_by, write_each, finish_each, FinishesLast}
use Rattle.port_acts.specs.Early.{Reads, after_reads, names_read, read_each}
use Rattle.port_acts.specs.Ends.{Fails, NoneRose, Owed, never}
use Rattle.port_acts.proofs.ActLists.{written-append}
use Rattle.port_acts.proofs.Each.{all_written, finishes_write_nothing, writes_finish_nothing, finishes_are_last, reads_finish_nothing}
use Rattle.port_acts.proofs.Failing.{failure_since, read_tells, finish_tells}
use Rattle.hume_front.specs.declared.acceptance.Accepted.{Accepted}
use Rattle.hume_front.specs.Accepted.{IsAccepted}
use Rattle.phase_workers.specs.StreamTypes.{type_at}
use Rattle.run_rounds.specs.Inputs.{Inputs}
use Rattle.run_rounds.specs.Streams.{std_out, streams}
use Rattle.run_rounds.specs.Members.{members_acts}
use Rattle.run_rounds.specs.Writes.{writes, rounds_writes, told}
use Rattle.run_rounds.specs.RunActs.{run_acts}
use Rattle.hume_calls.specs.declared.order.Order.{Order}
use Rattle.hume_calls.specs.declared.order.Order.TheVariants.{Run, Calc, Log, Check, Union, Demo}
use Rattle.hume_calls.specs.declared.status.Status.{Status}
use Rattle.hume_calls.specs.Owed.{IsOwed, IsOwedScript, owed_check, owed_demo, owed_program_refused, owed_record, owed_refused, owed_run, owed_union, owed_verify, program_refused_line, refused_line, table_writes, demo_writes, run_finishes}
use Rattle.hume_calls.specs.Streams.{unfit_line}
use Rattle.hume_calls.specs.Words.{Named, further_of, source_alone}
use Rattle.hume_calls.specs.Few.{call_few}
use Rattle.hume_calls.specs.Reading.{read_first, reads_whole, script_text, source_reads}
use Rattle.hume_calls.specs.Unions.{program_members, union_core, union_table, union_texts}
use Rattle.hume_calls.specs.Headline.{OwesAlone}
use Rattle.hume_calls.specs.Faults.{FailedInput, ReadRose}
use Rattle.hume_calls.proofs.Answering.{WantsTell, wants_apart}
use Rattle.log_rounds.specs.RecordActs.{record_acts}
use Rattle.log_rounds.specs.Outcomes.{Outcome}
use Rattle.log_rounds.specs.VerifyActs.{outcome_line, verify_acts, verify_reads}
use Rattle.hume_calls.proofs.Logging.{RecordReads, input_apart, record_reads}
use Rattle.hume_calls.proofs.Programs.{many_programs}
use Rattle.hume_calls.proofs.UnionWants.{members_finish_nothing, nothing_before, union_wants_apart, unwritten_before, whole_names}
use Rattle.hume_calls.proofs.Wanting.{split, want_of_run, no_want_of_writes}

-- what a call writes

told_written : (told : Pairs) → written (write_each told ++ finish_each (std_out ∷ [])) ≡ told
told_written told =
    written-append (write_each told) (finish_each (std_out ∷ [])) ∙ ap (λ (pairs : Pairs). pairs ++ []) (all_written told)
    ∙ append-nil told
  where
    append-nil : (pairs : Pairs) → pairs ++ [] ≡ pairs
    append-nil [] = refl
    append-nil (pair ∷ pairs) = ap (λ (others : Pairs). pair ∷ others) (append-nil pairs)

pub check_written : (core : Core) → written (owed_check core).acts ≡ table_writes core
check_written core = told_written (table_writes core)

pub demo_written : (core : Core) (steps : ℕ) → written (owed_demo steps core).acts ≡ demo_writes steps core
demo_written core steps = told_written (demo_writes steps core)

abbrev pub RunsWrite : Type 0
RunsWrite = (core : Core) (coming : Inputs) (traced : Bool) (steps : ℕ) → written (run_acts core coming traced steps) ≡ writes core coming traced steps

abbrev pub RunsFinishNothing : Type 0
RunsFinishNothing = (core : Core) (coming : Inputs) (traced : Bool) (steps : ℕ) → finished (run_acts core coming traced steps) ≡ []

abbrev pub AllWantsTell : Type 0
AllWantsTell = (core : Core) (coming : Inputs) (traced : Bool) (steps : ℕ) → WantsTell core coming traced steps

pub run_written : RunsWrite → (core : Core) (coming : Inputs) (traced : Bool) (steps : ℕ)
    → written (owed_run traced steps core coming).acts ≡ table_writes core ++ writes core coming traced steps
run_written runs core coming traced steps =
    written-append (write_each (table_writes core)) (run_acts core coming traced steps ++ finish_each (run_finishes core))
    ∙ ap (λ (later : Pairs). written (write_each (table_writes core)) ++ later)
    (written-append (run_acts core coming traced steps) (finish_each (run_finishes core))
    ∙ rw (runs core coming traced steps, finishes_write_nothing (run_finishes core)) (nil (writes core coming traced steps)))
    ∙ ap (λ (first : Pairs). first ++ writes core coming traced steps) (all_written (table_writes core))
  where
    nil : (pairs : Pairs) → pairs ++ [] ≡ pairs
    nil [] = refl
    nil (pair ∷ pairs) = ap (λ (others : Pairs). pair ∷ others) (nil pairs)

-- What is known of runs that are logged.
pub record LogFacts : Type 0 where
  pub record_finishes : (core : Core) (coming : Inputs) (log : List ℕ) (steps : ℕ) → finished (record_acts core coming log steps) ≡ []
  pub verify_finishes : (core : Core) (coming : Inputs) (log : List ℕ) (steps : ℕ) (outcome : Outcome) → finished (verify_acts core coming log steps outcome) ≡ []
  pub unwritten : (core : Core) (coming : Inputs) (log : List ℕ) (steps : ℕ) (outcome : Outcome) → written (verify_reads core coming log steps outcome) ≡ []
  pub reads : RecordReads

-- finishes come last

run_finishes_last : RunsFinishNothing → (core : Core) (coming : Inputs) (traced : Bool) (steps : ℕ) → FinishesLast (owed_run traced steps core coming).acts
run_finishes_last none core coming traced steps =
    let table : List Act = write_each (table_writes core) in
    let run : List Act = run_acts core coming traced steps in
    let nothing : finished (table ++ run) ≡ [] =
    flat_map-append finished_by table run ∙ rw (writes_finish_nothing (table_writes core), none core coming traced steps) refl in
    subst FinishesLast (append_assoc table run (finish_each (run_finishes core))) (finishes_are_last (table ++ run) (run_finishes core) nothing)

check_finishes_last : (core : Core) → FinishesLast (owed_check core).acts
check_finishes_last core = finishes_are_last (write_each (table_writes core)) (std_out ∷ []) (writes_finish_nothing (table_writes core))

demo_finishes_last : (steps : ℕ) (core : Core) → FinishesLast (owed_demo steps core).acts
demo_finishes_last steps core = finishes_are_last (write_each (demo_writes steps core)) (std_out ∷ []) (writes_finish_nothing (demo_writes steps core))

-- finishes behind reads
behind_reads : (reads : Reads) (acts : List Act) (names : List (List ℕ)) → finished acts ≡ [] → FinishesLast (read_each reads ++ (acts ++ finish_each names))
behind_reads reads acts names none =
    let nothing : finished (read_each reads ++ acts) ≡ [] =
    flat_map-append finished_by (read_each reads) acts ∙ rw (reads_finish_nothing reads, none) refl in
    subst FinishesLast (append_assoc (read_each reads) acts (finish_each names)) (finishes_are_last (read_each reads ++ acts) names nothing)

union_finishes_last : RunsFinishNothing → (reads : Reads) (steps : ℕ) (sources : List (List ℕ)) (programs : List Accepted) (coming : Inputs)
    → FinishesLast (read_each reads ++ (owed_union steps sources programs coming).acts)
union_finishes_last none reads steps sources programs coming =
    let core : Core = union_core programs in
    let table : List Act = write_each (told (union_table sources programs)) in
    let run : List Act = members_acts core (program_members sources programs 1) coming false steps in
    let nothing : finished (table ++ run) ≡ [] =
    flat_map-append finished_by table run ∙ rw (
      writes_finish_nothing (told (union_table sources programs)),
      members_finish_nothing core (program_members sources programs 1) coming false steps (none core coming false steps),
    ) refl in
    subst (λ (acts : List Act). FinishesLast (read_each reads ++ acts)) (append_assoc table run (finish_each (run_finishes core)))
    (behind_reads reads (table ++ run) (run_finishes core) nothing)

abbrev Last : Owed Status → Type 0
Last owed = FinishesLast owed.acts

script_finishes_last : RunsFinishNothing → (steps : ℕ) (core : Core) (lines source port : List ℕ) (names : List (List ℕ)) (texts : List ℕ → List ℕ) (later : Owed Status)
    → IsOwedScript steps core lines source port names texts later → Last later
script_finishes_last none steps core lines source port names texts later (inl (refusal, is, same)) = subst Last (sym same) (refl, tt)
script_finishes_last none steps core lines source port names texts later (inr (new, made, within, fit, coming, are, same)) =
    subst Last (sym same) (run_finishes_last none new coming false steps)

owed_finishes_last : RunsFinishNothing → LogFacts → (order : Order) (named : Named) (text : List ℕ) (names : List (List ℕ)) (texts : List ℕ → List ℕ) (owed : Owed Status)
    → IsOwed order named text names texts owed → Last owed
owed_finishes_last none logs (Run steps workers place traced) named text names texts owed (inl (refusal, is, same)) = subst Last (sym same) (refl, tt)
owed_finishes_last none logs (Run steps workers place traced) named text names texts owed (inr (accepted, is, fit, coming, are, same)) =
    subst Last (sym same) (run_finishes_last none accepted.core coming traced steps)
owed_finishes_last none logs (Calc steps workers place script) named text names texts owed (inl (refusal, is, same)) = subst Last (sym same) (refl, tt)
owed_finishes_last none logs (Calc steps workers place script) named text names texts owed (inr (sound, is, later, owes, same)) =
    subst Last (sym same)
    (script_finishes_last none steps sound.core (script_text (texts (further_of named))) named.source (further_of named) names texts later owes)
owed_finishes_last none logs (Log steps place log verify) named text names texts owed (inl (refusal, is, same)) = subst Last (sym same) (refl, tt)
owed_finishes_last none logs (Log steps place log false) named text names texts owed (inr (accepted, is, fit, coming, are, same)) =
    subst Last (sym same) (finishes_are_last (record_acts accepted.core coming (further_of named) steps) (further_of named ∷ std_out ∷ [])
    (logs.record_finishes accepted.core coming (further_of named) steps))
owed_finishes_last none logs (Log steps place log true) named text names texts owed (inr (accepted, is, fit, coming, are, (outcome, held, same))) =
    subst Last (sym same) (finishes_are_last (verify_acts accepted.core coming (further_of named) steps outcome) (std_out ∷ [])
    (logs.verify_finishes accepted.core coming (further_of named) steps outcome))
owed_finishes_last none logs (Check place) named text names texts owed (inl (refusal, is, same)) = subst Last (sym same) (refl, tt)
owed_finishes_last none logs (Check place) named text names texts owed (inr (accepted, is, same)) = subst Last (sym same) (check_finishes_last accepted.core)
owed_finishes_last none logs (Union steps workers count place) named text names texts owed (inl (refusal, is, same)) =
    subst Last (sym same) (behind_reads (reads_whole named.others) (write_each ((std_out, program_refused_line refusal) ∷ [])) (std_out ∷ []) refl)
owed_finishes_last none logs (Union steps workers count place) named text names texts owed (inr (programs, may, coming, are, same)) =
    subst Last (sym same) (union_finishes_last none (reads_whole named.others) steps (named.source ∷ named.others) programs coming)
owed_finishes_last none logs (Demo number steps workers) named text names texts owed (inl (refusal, is, same)) = subst Last (sym same) (refl, tt)
owed_finishes_last none logs (Demo number steps workers) named text names texts owed (inr (accepted, is, same)) =
    subst Last (sym same) (demo_finishes_last steps accepted.core)

pub all_was_written : RunsFinishNothing → LogFacts → (order : Order) (named : Named) (text : List ℕ) (names : List (List ℕ)) (texts : List ℕ → List ℕ)
    (owed : Owed Status) (olds news : List PortView) → IsOwed order named text names texts owed
    → Fails (call_few order named text texts) [] (after_reads (source_reads named.source) owed).acts olds news
    → NoneRose (λ port. port.read_faults) olds news → NoneRose (λ port. port.write_faults) olds news → Delivered olds news (written owed.acts)
all_was_written none logs order named text names texts owed olds news owes f no_read no_write =
    finish_tells (call_few order named text texts) [] (after_reads (source_reads named.source) owed).acts olds news f no_read no_write
    (owed_finishes_last none logs order named text names texts owed owes)

pub all_was_written_alone : RunsFinishNothing → LogFacts → (order : Order) (owed : Owed Status) (olds news : List PortView) → OwesAlone order olds owed
    → Fails never [] owed.acts olds news → NoneRose (λ port. port.read_faults) olds news → NoneRose (λ port. port.write_faults) olds news
    → Delivered olds news (written owed.acts)
all_was_written_alone none logs order owed olds news owes f no_read no_write =
    finish_tells never [] owed.acts olds news f no_read no_write (owed_finishes_last none logs order (source_alone []) [] (names olds) (λ name. []) owed owes)

-- wants

-- A want of the acts is apart from what is read whole, or nothing is written before it.
abbrev WantsApart : List (List ℕ) → Owed Status → Type 0
WantsApart whole owed = (before later : List Act) (name : List ℕ) (count : ℕ) → owed.acts ≡ before ++ wants name count ∷ later
    → (is_among name whole ≡ false) ⊎ (written before ≡ [])

no_wants : (whole : List (List ℕ)) (owed : Owed Status) (pairs : Pairs) (names : List (List ℕ)) → owed.acts ≡ write_each pairs ++ finish_each names
    → WantsApart whole owed
no_wants whole owed pairs names is before later name count e = absurd (no_want_of_writes pairs names before later name count (sym is ∙ e))

refused_apart : (whole : List (List ℕ)) (owed : Owed Status) (refusal : Refusal) → owed ≡ owed_refused refusal → WantsApart whole owed
refused_apart whole owed refusal same =
    no_wants whole owed ((std_out, refused_line refusal) ∷ []) (std_out ∷ []) (ap (λ (o : Owed Status). o.acts) same)

run_apart : (source : List ℕ) (others : List (List ℕ)) (core : Core) (names : List (List ℕ)) → unfit_line names source others (streams core) ≡ None
    → (traced : Bool) (steps : ℕ) (coming : Inputs) → WantsTell core coming traced steps → WantsApart (source ∷ others) (owed_run traced steps core coming)
run_apart source others core names fit traced steps coming tell before later name count e =
    let apart = wants_apart source others core names fit traced steps coming tell before later name count e in inl (rw (apart.0, apart.1) refl)

-- acts behind the read of a script
script_first : (port : List ℕ) (most : ℕ) (whole : List (List ℕ)) (later owed : Owed Status) → owed ≡ after_reads ((port, most) ∷ []) later
    → WantsApart whole later → WantsApart whole owed
script_first port most whole later owed same apart [] rest name count e = inr refl
script_first port most whole later owed same apart (act ∷ before) rest name count e =
    let acts : wants port most ∷ later.acts ≡ act ∷ (before ++ wants name count ∷ rest) = sym (ap (λ (o : Owed Status). o.acts) same) ∙ e in
    let first : wants port most ≡ act = cc in
    let tails : later.acts ≡ before ++ wants name count ∷ rest = cc in
    let wrote : written (act ∷ before) ≡ written before = ap (λ (a : Act). written (a ∷ before)) (sym first) in
    elim (apart before rest name count tails) [ inl a ↦ inl a | inr none ↦ inr (wrote ∙ none) ]

script_apart : AllWantsTell → (steps : ℕ) (core : Core) (lines source port : List ℕ) (names : List (List ℕ)) (texts : List ℕ → List ℕ) (later : Owed Status)
    → IsOwedScript steps core lines source port names texts later → WantsApart (source ∷ port ∷ []) later
script_apart tell steps core lines source port names texts later (inl (refusal, is, same)) = refused_apart (source ∷ port ∷ []) later refusal same
script_apart tell steps core lines source port names texts later (inr (new, made, within, fit, coming, are, same)) =
    subst (WantsApart (source ∷ port ∷ [])) (sym same) (run_apart source (port ∷ []) new names fit false steps coming (tell new coming false steps))

-- acts behind the reads of further sources
behind_apart : (named : Named) (owed : Owed Status)
    → ((before later : List Act) (name : List ℕ) (wanted : ℕ) → owed.acts ≡ before ++ wants name wanted ∷ later → is_among name (named.source ∷ named.others) ≡ false)
    → WantsApart (named.source ∷ (names_read (reads_whole named.others) ++ [])) (after_reads (reads_whole named.others) owed)
behind_apart named owed apart before later name wanted e = elim (split (read_each (reads_whole named.others)) owed.acts before (wants name wanted) later e) [
  | inl here ↦ inr (unwritten_before (reads_whole named.others) before here.0 (wants name wanted) here.1)
  | inr there ↦ inl (subst (λ (names : List (List ℕ)). is_among name (named.source ∷ names) ≡ false)
      (sym (append-nil (names_read (reads_whole named.others)) ∙ whole_names named.others)) (apart there.0 later name wanted there.2))
]

-- a log is verified before anything is written
verify_apart : LogFacts → (whole : List (List ℕ)) (core : Core) (coming : Inputs) (log : List ℕ) (steps : ℕ) (outcome : Outcome)
    → WantsApart whole (owed_verify steps core coming log outcome)
verify_apart logs whole core coming log steps outcome before later name count e =
    elim (split (verify_acts core coming log steps outcome) (finishes std_out ∷ []) before (wants name count) later e) [
      | inl here ↦ elim (split (verify_reads core coming log steps outcome) (write_each ((std_out, outcome_line core coming steps outcome) ∷ [])) before
          (wants name count) here.0 here.1) [
            | inl read ↦ inr (nothing_before (written before) (written (wants name count ∷ read.0))
                (sym (written-append before (wants name count ∷ read.0)) ∙ ap written (sym read.1) ∙ logs.unwritten core coming log steps outcome))
            | inr told ↦ absurd (no_want_of_writes ((std_out, outcome_line core coming steps outcome) ∷ []) [] told.0 here.0 name count told.2)
          ]
      | inr last ↦ absurd (no_want_of_writes [] (std_out ∷ []) last.0 later name count last.2)
    ]

record_apart : LogFacts → (source log : List ℕ) (core : Core) (names : List (List ℕ)) → unfit_line names source (log ∷ []) (streams core) ≡ None
    → (steps : ℕ) (coming : Inputs) → WantsApart (source ∷ []) (owed_record steps core coming log)
record_apart logs source log core names fit steps coming before later name count e =
    let apart = (input_apart core names source log fit name (record_reads logs.reads core coming log steps before later name count e)).0 in inl (rw apart refl)

owed_apart : AllWantsTell → LogFacts → (order : Order) (named : Named) (text : List ℕ) (names : List (List ℕ)) (texts : List ℕ → List ℕ) (owed : Owed Status)
    → IsOwed order named text names texts owed → WantsApart (read_first order named) owed
owed_apart tell logs (Run steps workers place traced) named text names texts owed (inl (refusal, is, same)) =
    refused_apart (named.source ∷ []) owed refusal same
owed_apart tell logs (Run steps workers place traced) named text names texts owed (inr (accepted, is, fit, coming, are, same)) =
    subst (WantsApart (named.source ∷ [])) (sym same)
    (run_apart named.source [] accepted.core names fit traced steps coming (tell accepted.core coming traced steps))
owed_apart tell logs (Calc steps workers place script) named text names texts owed (inl (refusal, is, same)) =
    refused_apart (named.source ∷ further_of named ∷ []) owed refusal same
owed_apart tell logs (Calc steps workers place script) named text names texts owed (inr (sound, is, later, owes, same)) =
    script_first (further_of named) 65793 (named.source ∷ further_of named ∷ []) later owed same
    (script_apart tell steps sound.core (script_text (texts (further_of named))) named.source (further_of named) names texts later owes)
owed_apart tell logs (Log steps place log verify) named text names texts owed (inl (refusal, is, same)) =
    refused_apart (read_first (Log steps place log verify) named) owed refusal same
owed_apart tell logs (Log steps place log false) named text names texts owed (inr (accepted, is, fit, coming, are, same)) =
    subst (WantsApart (named.source ∷ [])) (sym same) (record_apart logs named.source (further_of named) accepted.core names fit steps coming)
owed_apart tell logs (Log steps place log true) named text names texts owed (inr (accepted, is, fit, coming, are, (outcome, held, same))) =
    subst (WantsApart (named.source ∷ further_of named ∷ [])) (sym same)
    (verify_apart logs (named.source ∷ further_of named ∷ []) accepted.core coming (further_of named) steps outcome)
owed_apart tell logs (Check place) named text names texts owed (inl (refusal, is, same)) = refused_apart (named.source ∷ []) owed refusal same
owed_apart tell logs (Check place) named text names texts owed (inr (accepted, is, same)) =
    no_wants (named.source ∷ []) owed (table_writes accepted.core) (std_out ∷ []) (ap (λ (o : Owed Status). o.acts) same)
owed_apart tell logs (Union steps workers count place) named text names texts owed (inl (refusal, is, same)) =
    subst (WantsApart (read_first (Union steps workers count place) named)) (sym same) (behind_apart named (owed_program_refused refusal)
    (λ before later name wanted e. absurd (no_want_of_writes ((std_out, program_refused_line refusal) ∷ []) (std_out ∷ []) before later name wanted e)))
owed_apart tell logs (Union steps workers count place) named text names texts owed (inr (programs, may, coming, are, same)) =
    subst (WantsApart (read_first (Union steps workers count place) named)) (sym same)
    (behind_apart named (owed_union steps (named.source ∷ named.others) programs coming)
    (union_wants_apart names named.source named.others programs (many_programs named text texts programs may.accepted) (union_texts text named texts) may steps coming
    (tell (union_core programs) coming false steps)))
owed_apart tell logs (Demo number steps workers) named text names texts owed (inl (refusal, is, same)) = refused_apart (named.source ∷ []) owed refusal same
owed_apart tell logs (Demo number steps workers) named text names texts owed (inr (accepted, is, same)) =
    no_wants (named.source ∷ []) owed (demo_writes steps accepted.core) (std_out ∷ []) (ap (λ (o : Owed Status). o.acts) same)

-- A want behind the source's read: one of the owed acts.
abbrev Behind : List Act → List Act → Act → List Act → Type 0
Behind owed before act later = (rest : List Act) × (written before ≡ written rest) × (owed ≡ rest ++ act ∷ later)

-- the want is the source's read, or one of the owed acts
first_or_behind : (source : List ℕ) (most : ℕ) (owed before later : List Act) (name : List ℕ) (count : ℕ)
    → wants source most ∷ owed ≡ before ++ wants name count ∷ later
    → (bytes_eq name source ≡ false → Behind owed before (wants name count) later) ×
    (((rest : List Act) → owed ≡ rest ++ wants name count ∷ later → written rest ≡ []) → written before ≡ [])
first_or_behind source most owed [] later name count e =
    let same : source ≡ name = cc in
    let whole : bytes_eq name source ≡ true = ap (λ (n : List ℕ). bytes_eq n source) (sym same) ∙ bytes_eq-self source in
    (λ apart. absurd (true≢false (sym whole ∙ apart)), λ none. refl)
first_or_behind source most owed (act ∷ before) later name count e =
    let same : wants source most ≡ act = cc in
    let tails : owed ≡ before ++ wants name count ∷ later = cc in
    let wrote : written (act ∷ before) ≡ written before = ap (λ (a : Act). written (a ∷ before)) (sym same) in
    (λ apart. (before, wrote, tails), λ none. wrote ∙ none before tails)

-- a count of the act's port has risen
abbrev HasRisen : Act → List PortView → List PortView → Type 0
HasRisen act olds news = Rose (of_first 0 (count_of act) (name_of act) olds) (of_first 0 (count_of act) (name_of act) news)

-- the failed want's count rose
want_rose : (act : Act) (name : List ℕ) (count : ℕ) (olds news : List PortView) → act ≡ wants name count → HasRisen act olds news → ReadRose name olds news
want_rose act name count olds news is rose = subst (λ (a : Act). HasRisen a olds news) is rose

pub nothing_was_written : AllWantsTell → LogFacts → (order : Order) (named : Named) (text : List ℕ) (names : List (List ℕ)) (texts : List ℕ → List ℕ)
    (owed : Owed Status) (olds news : List PortView) → IsOwed order named text names texts owed
    → Fails (call_few order named text texts) [] (after_reads (source_reads named.source) owed).acts olds news
    → NoneRose (λ port. port.write_faults) olds news → NoneRose (λ port. port.finish_faults) olds news
    → ((name : List ℕ) → is_among name (read_first order named) ≡ false → ReadRose name olds news → ⊥)
    → Delivered olds news []
nothing_was_written tell logs order named text names texts owed olds news owes f no_write no_finish only =
    let acts : List Act = (after_reads (source_reads named.source) owed).acts in
    let want = read_tells (call_few order named text texts) [] acts olds news f no_write no_finish in
    let rose = want_rose f.act want.0 want.1 olds news want.2 (failure_since (call_few order named text texts) [] acts olds news f).rose in
    let order_is : acts ≡ f.before ++ wants want.0 want.1 ∷ f.later = f.in_order ∙ ap (λ (act : Act). f.before ++ act ∷ f.later) want.2 in
    let places = first_or_behind named.source 262145 owed.acts f.before f.later want.0 want.1 order_is in
    let apart = owed_apart tell logs order named text names texts owed owes in
    let none : written f.before ≡ [] = places.1 (λ rest e. elim (apart rest f.later want.0 want.1 e) [
      | inl other ↦ absurd (only want.0 other rose)
      | inr wrote ↦ wrote
    ]) in
    subst (λ (pairs : Pairs). Delivered olds news pairs) none want.4

-- a failed read of an input stream

module _ (workers place : ℕ) (named : Named) (text : List ℕ) (texts : List ℕ → List ℕ) (accepted : Accepted) (is_accepted : IsAccepted text accepted)
    (traced : Bool) (steps : ℕ) (coming : Inputs) (tell : WantsTell accepted.core coming traced steps) (olds news : List PortView)
    (f : Fails (call_few (Run steps workers place traced) named text texts) []
    (after_reads (source_reads named.source) (owed_run traced steps accepted.core coming)).acts olds news)
    (no_write : NoneRose (λ port. port.write_faults) olds news) (no_finish : NoneRose (λ port. port.finish_faults) olds news)
    (no_source : ReadRose named.source olds news → ⊥) where
  pub failed_input : FailedInput accepted.core coming traced steps olds news
  failed_input =
      let core : Core = accepted.core in
      let owed : Owed Status = owed_run traced steps core coming in
      let acts : List Act = (after_reads (source_reads named.source) owed).acts in
      let since = failure_since (call_few (Run steps workers place traced) named text texts) [] acts olds news f in
      let want = read_tells (call_few (Run steps workers place traced) named text texts) [] acts olds news f no_write no_finish in
      let rose = want_rose f.act want.0 want.1 olds news want.2 since.rose in
      let apart : bytes_eq want.0 named.source ≡ false = elim (cases_Bool (bytes_eq want.0 named.source)) [
        | inl is ↦ absurd (no_source (subst (λ (n : List ℕ). ReadRose n olds news) (same_name want.0 named.source is) rose))
        | inr isnt ↦ isnt
      ] in
      let order_is : acts ≡ f.before ++ wants want.0 want.1 ∷ f.later = f.in_order ∙ ap (λ (act : Act). f.before ++ act ∷ f.later) want.2 in
      let behind = (first_or_behind named.source 262145 owed.acts f.before f.later want.0 want.1 order_is).0 apart in
      let inside = want_of_run (table_writes core) (run_acts core coming traced steps) (run_finishes core) behind.0 f.later want.0 want.1 behind.2 in
      let reads = tell inside.0 inside.1 want.0 want.1 inside.3 in
      let wrote : written f.before ≡ table_writes core ++ rounds_writes core coming.good traced steps (reads.round - 1) =
      behind.1 ∙ ap written inside.2 ∙ written-append (write_each (table_writes core)) inside.0
      ∙ rw (all_written (table_writes core), reads.wrote) refl in
      record {
        round = reads.round;
        is_round = reads.is_round;
        delivered = subst (λ (pairs : Pairs). Delivered olds news pairs) wrote want.4;
        node = reads.node;
        stream = reads.stream;
        at = reads.at;
        rose = subst (λ (n : List ℕ). ReadRose n olds news) reads.is_port rose;
        taken = f.taken ++ f.read;
        drawn = since.drawn;
        few = λ good bad is.
            let bytes : List ℕ → List ℕ = λ n. bytes_for n (f.taken ++ f.read) in
            let here : IsGoodUntil core.types (type_at core reads.node) (whole_lines (bytes want.0)) good bad =
            subst (λ (n : List ℕ). IsGoodUntil core.types (type_at core reads.node) (whole_lines (bytes n)) good bad) (sym reads.is_port) is in
            let less : length good < want.1 = want.3.of_streams refl core (accepted, is_accepted, refl) reads.node reads.stream reads.at (sym reads.is_port) good bad here in
            subst (λ (k : ℕ). length good < k) reads.is_needed less;
      }
