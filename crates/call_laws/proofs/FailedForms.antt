-- What a failed read tells in each form beside `run`.
use Rattle.std.proofs.Common.{◌≡◌, ℕ, ◌-◌, Bool, true, false, List, [], ◌∷◌, ◌++◌, Ok, refl, ap, sym, ◌∙◌, subst, inl, inr, append-nil}
use Rattle.std.specs.Str.{bytes_eq}
use Rattle.hume_model.specs.declared.core_tree.Core.{Core}
use Rattle.hume_ports.specs.Delivery.{Delivered, Pairs, bytes_for}
use Rattle.hume_ports.specs.Port.{PortView}
use Rattle.hume_ports.specs.Ports.{is_among}
use Rattle.hume_front.specs.declared.acceptance.Accepted.{Accepted}
use Rattle.hume_front.specs.declared.acceptance.Sound.{Sound}
use Rattle.hume_front.specs.Accepted.{IsAccepted, IsSound}
use Rattle.port_acts.specs.Acts.{Act, finishes, wants, write_each, written}
use Rattle.port_acts.specs.Early.{after_reads, names_read, read_each}
use Rattle.port_acts.specs.Ends.{Fails, Few, NoneRose}
use Rattle.port_acts.proofs.ActLists.{written-append}
use Rattle.port_acts.proofs.Each.{all_written}
use Rattle.port_acts.proofs.Failing.{read_tells}
use Rattle.box_calculus.specs.Scripts.{scripted}
use Rattle.run_rounds.specs.Inputs.{Inputs}
use Rattle.run_rounds.specs.Members.{MemberView, members_acts}
use Rattle.run_rounds.specs.RunActs.{ReadsForRound, run_acts, run_few}
use Rattle.run_rounds.specs.Streams.{std_out}
use Rattle.run_rounds.specs.Writes.{rounds_writes, told}
use Rattle.log_rounds.specs.Outcomes.{Outcome}
use Rattle.log_rounds.specs.VerifyActs.{outcome_line, verify_acts, verify_reads}
use Rattle.hume_calls.specs.declared.order.Order.{Order}
use Rattle.hume_calls.specs.declared.order.Order.TheVariants.{Calc, Log, Union}
use Rattle.hume_calls.specs.Faults.{FailedInput}
use Rattle.hume_calls.specs.Few.{IsRunBy, call_few}
use Rattle.hume_calls.specs.Owed.{owed_record, owed_run, owed_union, owed_verify, run_finishes, table_writes}
use Rattle.hume_calls.specs.Reading.{early_reads, further_reads, reads_whole, script_reads, script_text, source_reads}
use Rattle.hume_calls.specs.Unions.{AreAccepted, program_members, union_core, union_table, union_texts}
use Rattle.hume_calls.specs.Words.{Named, further_of}
use Rattle.hume_calls.proofs.Answering.{WantsTell}
use Rattle.hume_calls.proofs.UnionWants.{members_tell, nothing_before}
use Rattle.hume_calls.proofs.Wanting.{no_want_of_writes, split, want_of_run}
use Rattle.call_laws.specs.FailedReads.{FailedStream, OnlyInputsFailed}
use Rattle.call_laws.proofs.FailedWants.{FailedWant, IsForRound, failed_stream, failed_want}
use Rattle.call_laws.proofs.OtherLines.{right_true}
use Rattle.call_laws.proofs.RecordedReads.{Logged, record_want}

-- a call has too few values of an input stream if it has too few of the port, which it doesn't read whole
module _ (order : Order) (named : Named) (text : List ℕ) (texts : List ℕ → List ℕ) (old new : List PortView) (only : OnlyInputsFailed order named old new)
    (acts : List Act) (w : FailedWant (call_few order named text texts) acts old new) (core : Core) (runs : IsRunBy order named text texts core) where
  not_further : (b : Bool) → is_among w.name (names_read (further_reads order named)) ≡ b → b ≡ false
  not_further true is = absurd (only.none_whole w.name (right_true (bytes_eq w.name named.source) (is_among w.name (names_read (further_reads order named))) is) w.rose)
  not_further false is = refl

  pub few_of_stream : run_few core w.name w.count (bytes_for w.name w.taken)
  few_of_stream =
      w.is_few.of_streams (let is = not_further (is_among w.name (names_read (further_reads order named))) refl in is) core runs

-- rounds behind a table

module _ (core : Core) (coming : Inputs) (traced : Bool) (steps : ℕ) (table : Pairs) where
  abbrev Behind : ℕ → Pairs
  Behind round = table ++ rounds_writes core coming.good traced steps (round - 1)

  pub behind_table : (before first : List Act) (name : List ℕ) (count : ℕ) → before ≡ write_each table ++ first
      → ReadsForRound core coming.good traced steps first name count → IsForRound core coming.good traced steps Behind before name count
  behind_table before first name count is reads = record {
    round = reads.round;
    is_round = reads.is_round;
    node = reads.node;
    stream = reads.stream;
    at = reads.at;
    is_port = reads.is_port;
    is_needed = reads.is_needed;
    wrote = ap written is ∙ written-append (write_each table) first ∙ (λ i. all_written table i ++ reads.wrote i);
  }

-- a script

module _ (steps workers place script : ℕ) (named : Named) (text : List ℕ) (texts : List ℕ → List ℕ) (sound : Sound) (core : Core)
    (coming : Inputs) (old new : List PortView) (tell : WantsTell core coming false steps) (is : IsSound text sound)
    (made : scripted sound.core (script_text (texts (further_of named))) ≡ Ok core) where
  abbrev Calculated : Order
  Calculated = Calc steps workers place script

  pub calc_failed : Fails (call_few Calculated named text texts) []
      (after_reads (source_reads named.source) (after_reads (script_reads (further_of named)) (owed_run false steps core coming))).acts old new
      → OnlyInputsFailed Calculated named old new → FailedInput core coming false steps old new
  calc_failed f only =
      let acts : List Act = (owed_run false steps core coming).acts in
      let w : FailedWant (call_few Calculated named text texts) acts old new =
      failed_want (call_few Calculated named text texts) (early_reads Calculated named) acts old new f only.no_write only.no_finish only.none_whole in
      let inside = want_of_run (table_writes core) (run_acts core coming false steps) (run_finishes core) w.before w.later w.name w.count w.stands in
      let reads = tell inside.0 inside.1 w.name w.count inside.3 in
      let found = failed_stream w core coming false steps (Behind core coming false steps (table_writes core))
      (behind_table core coming false steps (table_writes core) w.before inside.0 w.name w.count inside.2 reads)
      (few_of_stream Calculated named text texts old new only acts w core (sound, is, made)) in
      record {
        round = found.round;
        is_round = found.is_round;
        delivered = found.delivered;
        node = found.node;
        stream = found.stream;
        at = found.at;
        rose = found.rose;
        taken = found.taken;
        drawn = found.drawn;
        few = found.few;
      }

-- a union

module _ (steps workers count place : ℕ) (named : Named) (text : List ℕ) (texts : List ℕ → List ℕ) (programs : List Accepted)
    (coming : Inputs) (old new : List PortView) (tell : WantsTell (union_core programs) coming false steps)
    (are : AreAccepted (union_texts text named texts) programs) where
  abbrev United : Order
  United = Union steps workers count place

  abbrev core : Core
  core = union_core programs

  abbrev sources : List (List ℕ)
  sources = named.source ∷ named.others

  abbrev members : List MemberView
  members = program_members sources programs 1

  abbrev table : Pairs
  table = told (union_table sources programs)

  pub union_failed : Fails (call_few United named text texts) [] (after_reads (source_reads named.source)
      (after_reads (reads_whole named.others) (owed_union steps sources programs coming))).acts old new
      → OnlyInputsFailed United named old new
      → FailedStream core coming false steps (Behind core coming false steps table) old new
  union_failed f only =
      let acts : List Act = (owed_union steps sources programs coming).acts in
      let w : FailedWant (call_few United named text texts) acts old new =
      failed_want (call_few United named text texts) (early_reads United named) acts old new f only.no_write only.no_finish only.none_whole in
      let inside = want_of_run table (members_acts core members coming false steps) (run_finishes core) w.before w.later w.name w.count w.stands in
      let reads = members_tell core members coming false steps tell inside.0 inside.1 w.name w.count inside.3 in
      failed_stream w core coming false steps (Behind core coming false steps table)
      (behind_table core coming false steps table w.before inside.0 w.name w.count inside.2 reads)
      (few_of_stream United named text texts old new only acts w core (programs, are, refl))

-- a recorded run

module _ (steps place log : ℕ) (named : Named) (text : List ℕ) (texts : List ℕ → List ℕ) (accepted : Accepted) (coming : Inputs)
    (old new : List PortView) (is : IsAccepted text accepted) where
  abbrev Recorded : Order
  Recorded = Log steps place log false

  pub record_failed : (f : Fails (call_few Recorded named text texts) []
      (after_reads (source_reads named.source) (owed_record steps accepted.core coming (further_of named))).acts old new)
      → OnlyInputsFailed Recorded named old new → FailedStream accepted.core coming true steps (λ superstep. Logged accepted.core coming.good steps (further_of named) superstep) old new
  record_failed f only =
      let acts : List Act = (owed_record steps accepted.core coming (further_of named)).acts in
      let w : FailedWant (call_few Recorded named text texts) acts old new =
      failed_want (call_few Recorded named text texts) (early_reads Recorded named) acts old new f only.no_write only.no_finish only.none_whole in
      failed_stream w accepted.core coming true steps (λ superstep. Logged accepted.core coming.good steps (further_of named) superstep)
      (record_want accepted.core coming steps (further_of named) w.before w.name w.count w.later w.stands)
      (few_of_stream Recorded named text texts old new only acts w accepted.core (accepted, is, refl))

-- a log that is verified

module _ (few : Few) (source log : List ℕ) (steps : ℕ) (core : Core) (coming : Inputs) (outcome : Outcome) (old new : List PortView)
    (unwritten : written (verify_reads core coming log steps outcome) ≡ []) where
  abbrev line : Pairs
  line = (std_out, outcome_line core coming steps outcome) ∷ []

  abbrev all : List Act
  all = (after_reads (source_reads source) (owed_verify steps core coming log outcome)).acts

  -- nothing is written before the last read
  silent_reads : (before later : List Act) (name : List ℕ) (count : ℕ)
      → (owed_verify steps core coming log outcome).acts ≡ before ++ wants name count ∷ later → written before ≡ []
  silent_reads before later name count e =
      elim (split (verify_acts core coming log steps outcome) (finishes std_out ∷ []) before (wants name count) later e) [
        | inl here ↦ elim (split (verify_reads core coming log steps outcome) (write_each line) before (wants name count) here.0 here.1) [
          | inl read ↦ nothing_before (written before) (written (wants name count ∷ read.0))
              (sym (written-append before (wants name count ∷ read.0)) ∙ ap written (sym read.1) ∙ unwritten)
          | inr told ↦ absurd (no_want_of_writes line [] told.0 here.0 name count (append-nil (write_each line) ∙ told.2))
        ]
        | inr last ↦ absurd (no_want_of_writes [] (std_out ∷ []) last.0 later name count last.2)
      ]

  silent : (before later : List Act) (name : List ℕ) (count : ℕ) → all ≡ before ++ wants name count ∷ later → written before ≡ []
  silent before later name count e = elim (split (read_each (source_reads source)) (owed_verify steps core coming log outcome).acts before (wants name count) later e) [
    | inl here ↦ nothing_before (written before) (written (wants name count ∷ here.0))
        (sym (written-append before (wants name count ∷ here.0)) ∙ ap written (sym here.1))
    | inr there ↦ ap written there.1 ∙ written-append (read_each (source_reads source)) there.0 ∙ silent_reads there.0 later name count there.2
  ]

  pub verify_failed : Fails few [] all old new → NoneRose (λ port. port.write_faults) old new → NoneRose (λ port. port.finish_faults) old new
      → Delivered old new []
  verify_failed f no_write no_finish =
      let want = read_tells few [] all old new f no_write no_finish in
      let order_is : all ≡ f.before ++ wants want.0 want.1 ∷ f.later = f.in_order ∙ ap (λ (act : Act). f.before ++ act ∷ f.later) want.2 in
      subst (λ (pairs : Pairs). Delivered old new pairs) (silent f.before f.later want.0 want.1 order_is) want.4
