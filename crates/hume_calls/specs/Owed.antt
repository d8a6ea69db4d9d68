-- What a call owes once it has read its source: acts, in order, and its answer.
use Rattle.std.specs.Prelude.{◌≡◌, ◌⊎◌, ℕ, Bool, true, false, List, [], ◌∷◌, ◌++◌, map, Option, None, Some, Ok, codes, decimal}
use Rattle.hume_base.specs.declared.rule.Refusal.{Refusal}
use Rattle.hume_base.specs.declared.rule.Rule.TheVariants.{C55}
use Rattle.hume_base.specs.Rules.{code_of}
use Rattle.hume_model.specs.declared.core_tree.Core.{Core}
use Rattle.hume_ports.specs.Ports.{other_names}
use Rattle.hume_ports.specs.Delivery.{Pairs}
use Rattle.port_acts.specs.Acts.{writes, finishes, write_each, finish_each}
use Rattle.port_acts.specs.Early.{Reads, after_reads}
use Rattle.port_acts.specs.Ends.{Owed}
use Rattle.hume_front.specs.declared.acceptance.Accepted.{Accepted}
use Rattle.hume_front.specs.declared.acceptance.Sound.{Sound}
use Rattle.hume_front.specs.Accepted.{IsAccepted, IsSound, Breaks, BreaksSoundness}
use Rattle.hume_base.specs.Least.{IsLeast}
use Rattle.box_costs.specs.CostRules.{BreaksCosts}
use Rattle.box_calculus.specs.Scripts.{scripted}
use Rattle.run_rounds.specs.Streams.{std_out, streams, outputs, ports_of}
use Rattle.run_rounds.specs.Inputs.{Inputs, AreInputs}
use Rattle.run_rounds.specs.Writes.{span_of, blocked_round, told}
use Rattle.run_rounds.specs.RunActs.{run_acts}
use Rattle.run_rounds.specs.Members.{members_acts}
use Rattle.log_rounds.specs.declared.verdict.Verdict.{Verdict}
use Rattle.log_rounds.specs.declared.verdict.Verdict.TheVariants.{Holds, Fails, Blocked}
use Rattle.log_rounds.specs.Supersteps.{blocked_superstep}
use Rattle.log_rounds.specs.RecordActs.{record_acts}
use Rattle.log_rounds.specs.Outcomes.{Outcome, IsOutcome, verdict_of}
use Rattle.log_rounds.specs.VerifyActs.{verify_acts}
use Rattle.demo_rounds.specs.Chains.{demo_lines}
use Rattle.trace_print.specs.table.Table.{space_table, total_line_of}
use Rattle.demo_net.specs.Source.{demo_text}
use Rattle.hume_calls.specs.declared.status.Status.{Status}
use Rattle.hume_calls.specs.declared.status.Status.TheVariants.{Done, Refused, BadValue, LogFails}
use Rattle.hume_calls.specs.declared.order.Order.{Order}
use Rattle.hume_calls.specs.declared.order.Order.TheVariants.{Run, Calc, Log, Check, Union, Demo}
use Rattle.hume_calls.specs.Words.{Named, further_of}
use Rattle.hume_calls.specs.declared.program_refusal.ProgramRefusal.{ProgramRefusal}
use Rattle.hume_calls.specs.Reading.{reads_whole, script_text, script_reads}
use Rattle.hume_calls.specs.Calc.{IsScriptRefusal}
use Rattle.hume_calls.specs.Streams.{unfit_line}
use Rattle.hume_calls.specs.Unions.{IsUnionRefusal, MayUnite, program_members, union_core, union_table, union_texts}

-- refusals

-- The source isn't accepted for this rule, or a stream's port is unfit. No stream may have one of the other ports.
pub data IsRefusal (text : List ℕ) (names : List (List ℕ)) (source : List ℕ) (others : List (List ℕ)) : Refusal → Type 0 where
  broken : (refusal : Refusal) → Breaks text refusal → IsRefusal text names source others refusal
  unfit : (accepted : Accepted) → IsAccepted text accepted → (line : ℕ) → unfit_line names source others (streams accepted.core) ≡ Some line
      → IsRefusal text names source others (record { rule = C55; line = line })

-- refused CODE line LINE
abbrev pub refused_line : Refusal → List ℕ
refused_line refusal = codes "refused " ++ decimal (code_of refusal.rule) ++ codes " line " ++ decimal refusal.line ++ 10 ∷ []

-- a refused call writes one line to `std_out`, and finishes it
abbrev pub owed_refused : Refusal → Owed Status
owed_refused refusal = record { acts = writes std_out (refused_line refusal) ∷ finishes std_out ∷ []; answer = Refused }

-- a check

-- the table of bounds goes to `std_out`, each line by a write of its own
abbrev pub table_writes : Core → Pairs
table_writes core = map (λ line. (std_out, line)) (space_table core)

-- a check writes the table, and finishes `std_out`
abbrev pub owed_check : Core → Owed Status
owed_check core = record { acts = write_each (table_writes core) ++ finishes std_out ∷ []; answer = Done }

-- a run

-- a run ends well, or a bad line blocks a round of it
abbrev pub run_status : Option ℕ → Status
run_status None = Done
run_status (Some round) = BadValue

-- each output stream's port once, in source order, and `std_out` last
abbrev pub run_finishes : Core → List (List ℕ)
run_finishes core = other_names std_out (ports_of (outputs core)) ++ std_out ∷ []

-- a run writes the table, makes the acts that its inputs give, and finishes the ports to which it may have written
abbrev pub owed_run : Bool → ℕ → Core → Inputs → Owed Status
owed_run traced steps core coming = record {
  acts = write_each (table_writes core) ++ (run_acts core coming traced steps ++ finish_each (run_finishes core));
  answer = run_status (blocked_round core coming (span_of traced) steps);
}

-- a run that is logged

-- a recorded run writes its log, and finishes the log's port and `std_out`
abbrev pub owed_record : ℕ → Core → Inputs → List ℕ → Owed Status
owed_record steps core coming log = record {
  acts = record_acts core coming log steps ++ finish_each (log ∷ std_out ∷ []);
  answer = run_status (blocked_superstep core coming steps);
}

-- the answer by what comes of a log
abbrev pub verdict_status : Verdict → Status
verdict_status Holds = Done
verdict_status Fails = LogFails
verdict_status Blocked = BadValue

-- a log is read and compared, and then one line is written to `std_out`, which is finished
abbrev pub owed_verify : ℕ → Core → Inputs → List ℕ → Outcome → Owed Status
owed_verify steps core coming log outcome = record {
  acts = verify_acts core coming log steps outcome ++ finishes std_out ∷ [];
  answer = verdict_status (verdict_of outcome);
}

-- What is owed by what comes to the run, and, where the log is compared, by what comes of its text.
abbrev pub IsOwedLogged : Bool → ℕ → Core → Inputs → List ℕ → List ℕ → Owed Status → Type 0
IsOwedLogged false steps core coming log text owed = owed ≡ owed_record steps core coming log
IsOwedLogged true steps core coming log text owed =
    (outcome : Outcome) × IsOutcome core coming steps text outcome × (owed ≡ owed_verify steps core coming log outcome)

-- a demo

-- a demo tells the bounds of all boxes together, and then the total of each chain
abbrev pub demo_writes : ℕ → Core → Pairs
demo_writes steps core = map (λ line. (std_out, line)) (total_line_of core ∷ demo_lines core steps)

-- a demo finishes `std_out` alone
abbrev pub owed_demo : ℕ → Core → Owed Status
owed_demo steps core = record { acts = write_each (demo_writes steps core) ++ finishes std_out ∷ []; answer = Done }

-- a union

-- program NUMBER refused CODE line LINE
abbrev pub program_refused_line : ProgramRefusal → List ℕ
program_refused_line refusal = codes "program " ++ decimal refusal.program ++ codes " " ++ refused_line refusal.refusal

-- of several programs one is refused
abbrev pub owed_program_refused : ProgramRefusal → Owed Status
owed_program_refused refusal = record { acts = writes std_out (program_refused_line refusal) ∷ finishes std_out ∷ []; answer = Refused }

-- a union writes the table, makes the acts that its inputs give, and finishes as a run does
abbrev pub owed_union : ℕ → List (List ℕ) → List Accepted → Inputs → Owed Status
owed_union steps sources programs coming = record {
  acts = write_each (told (union_table sources programs))
      ++ (members_acts (union_core programs) (program_members sources programs 1) coming false steps ++ finish_each (run_finishes (union_core programs)));
  answer = run_status (blocked_round (union_core programs) coming (span_of false) steps);
}

-- what the words ask for

-- What a run of the source of that text owes, over ports of these names of which each has that text to read.
abbrev pub IsOwedRun : Bool → ℕ → List ℕ → List ℕ → List (List ℕ) → (List ℕ → List ℕ) → Owed Status → Type 0
IsOwedRun traced steps source text names texts owed =
    ((refusal : Refusal) × IsRefusal text names source [] refusal × (owed ≡ owed_refused refusal))
    ⊎ ((accepted : Accepted) × IsAccepted text accepted × (unfit_line names source [] (streams accepted.core) ≡ None)
    × (coming : Inputs) × AreInputs accepted.core texts coming × (owed ≡ owed_run traced steps accepted.core coming))

-- What is owed for the core of a source once a script of these lines was read from its port: a refusal, or the run of the core that
-- the script makes.
abbrev pub IsOwedScript : ℕ → Core → List ℕ → List ℕ → List ℕ → List (List ℕ) → (List ℕ → List ℕ) → Owed Status → Type 0
IsOwedScript steps core lines source script names texts owed =
    ((refusal : Refusal) × IsScriptRefusal core lines names source script refusal × (owed ≡ owed_refused refusal))
    ⊎ ((new : Core) × (scripted core lines ≡ Ok new) × IsLeast (BreaksCosts new) None × (unfit_line names source (script ∷ []) (streams new) ≡ None)
    × (coming : Inputs) × AreInputs new texts coming × (owed ≡ owed_run false steps new coming))

-- What a run of what a script makes of the source of that text owes. The script is read if the source is sound.
abbrev pub IsOwedCalc : ℕ → List ℕ → List ℕ → List ℕ → List (List ℕ) → (List ℕ → List ℕ) → Owed Status → Type 0
IsOwedCalc steps source script text names texts owed =
    ((refusal : Refusal) × BreaksSoundness text refusal × (owed ≡ owed_refused refusal))
    ⊎ ((sound : Sound) × IsSound text sound × (later : Owed Status)
    × IsOwedScript steps sound.core (script_text (texts script)) source script names texts later × (owed ≡ after_reads (script_reads script) later))

-- What a union owes behind the reads of its further sources, whose texts are all known. Their ports have these names, and each port
-- has that text to read.
abbrev pub IsOwedUnion : Reads → ℕ → List (List ℕ) → List (List ℕ) → List (List ℕ) → (List ℕ → List ℕ) → Owed Status → Type 0
IsOwedUnion further steps sources texts names each owed =
    ((refusal : ProgramRefusal) × IsUnionRefusal names sources texts refusal × (owed ≡ after_reads further (owed_program_refused refusal)))
    ⊎ ((programs : List Accepted) × MayUnite names sources texts programs
    × (coming : Inputs) × AreInputs (union_core programs) each coming × (owed ≡ after_reads further (owed_union steps sources programs coming)))

-- What a run of the source of that text owes which is logged. No stream may have the log's port.
abbrev pub IsOwedLog : Bool → ℕ → List ℕ → List ℕ → List ℕ → List (List ℕ) → (List ℕ → List ℕ) → Owed Status → Type 0
IsOwedLog verify steps source log text names texts owed =
    ((refusal : Refusal) × IsRefusal text names source (log ∷ []) refusal × (owed ≡ owed_refused refusal))
    ⊎ ((accepted : Accepted) × IsAccepted text accepted × (unfit_line names source (log ∷ []) (streams accepted.core) ≡ None)
    × (coming : Inputs) × AreInputs accepted.core texts coming × IsOwedLogged verify steps accepted.core coming log (texts log) owed)

-- What a check of the source of that text owes.
abbrev pub IsOwedCheck : List ℕ → Owed Status → Type 0
IsOwedCheck text owed =
    ((refusal : Refusal) × Breaks text refusal × (owed ≡ owed_refused refusal))
    ⊎ ((accepted : Accepted) × IsAccepted text accepted × (owed ≡ owed_check accepted.core))

-- What the demo of the net of that number owes: its source is made, and accepted or refused as any.
abbrev pub IsOwedDemo : ℕ → ℕ → Owed Status → Type 0
IsOwedDemo number steps owed =
    ((refusal : Refusal) × Breaks (demo_text number) refusal × (owed ≡ owed_refused refusal))
    ⊎ ((accepted : Accepted) × IsAccepted (demo_text number) accepted × (owed ≡ owed_demo steps accepted.core))

-- What a call owes that the words ask for. A demo asks for nothing of a port.
abbrev pub IsOwed : Order → Named → List ℕ → List (List ℕ) → (List ℕ → List ℕ) → Owed Status → Type 0
IsOwed (Run steps workers place traced) named text names texts owed = IsOwedRun traced steps named.source text names texts owed
IsOwed (Calc steps workers place script) named text names texts owed = IsOwedCalc steps named.source (further_of named) text names texts owed
IsOwed (Log steps place log verify) named text names texts owed = IsOwedLog verify steps named.source (further_of named) text names texts owed
IsOwed (Check place) named text names texts owed = IsOwedCheck text owed
IsOwed (Union steps workers count place) named text names texts owed =
    IsOwedUnion (reads_whole named.others) steps (named.source ∷ named.others) (union_texts text named texts) names texts owed
IsOwed (Demo number steps workers) named text names texts owed = IsOwedDemo number steps owed
