-- What calls beside `run` write, and which ports they touch.
use Rattle.std.proofs.Common.{◌≡◌, ℕ, ◌+◌, ◌-◌, Bool, true, false, ◌||◌, List, [], ◌∷◌, ◌++◌, Option, None, Some, slice_get, refl, ap, sym, ◌∙◌, subst, append-nil}
use Rattle.std.specs.List.{flat_map, range_with_len}
use Rattle.std.specs.Str.{bytes_eq}
use Rattle.std.proofs.lemmas.Grind.{flat_map-append}
use Rattle.std.proofs.lemmas.List.Folds.{list_any-append}
use Rattle.hume_model.specs.declared.core_tree.Core.{Core}
use Rattle.hume_model.specs.declared.core_tree.StreamC.{StreamC}
use Rattle.hume_ports.specs.Delivery.{Pairs, names_in}
use Rattle.hume_ports.specs.Ports.{is_among, other_names}
use Rattle.hume_ports.proofs.Names.{names_in-append}
use Rattle.hume_front.specs.declared.acceptance.Accepted.{Accepted}
use Rattle.net_costs.specs.Steps.{peaks}
use Rattle.hume_net.specs.Start.{start}
use Rattle.port_acts.specs.Acts.{Act, finish_each, finished, finished_by, wanted, wanted_by, write_each, finishes, written}
use Rattle.port_acts.specs.Early.{read_each}
use Rattle.port_acts.proofs.ActLists.{written-append}
use Rattle.port_acts.proofs.Each.{all_written, finishes_write_nothing, reads_finish_nothing, writes_finish_nothing}
use Rattle.port_acts.proofs.Stopping.{reads_write_nothing}
use Rattle.run_rounds.specs.Inputs.{Inputs}
use Rattle.run_rounds.specs.Members.{MemberView, member_bad_writes, member_lines, members_acts, members_until, members_writes}
use Rattle.run_rounds.specs.RunActs.{blocked_wants, made_acts, made_until, reading, run_acts, writing}
use Rattle.run_rounds.specs.Streams.{inputs, outputs, ports_of, std_out}
use Rattle.run_rounds.specs.Writes.{bad_value_writes, blocked_by, blocked_round, peak_writes, rounds_writes, span_of, told, writes, writes_until}
use Rattle.run_rounds.proofs.LawsOfActs.{rounds_write, wants_quiet}
use Rattle.trace_print.specs.TraceLines.{peak_there}
use Rattle.hume_calls.specs.declared.program_refusal.ProgramRefusal.{ProgramRefusal}
use Rattle.hume_calls.specs.Owed.{owed_program_refused, owed_run, owed_union, program_refused_line, run_finishes, table_writes}
use Rattle.hume_calls.specs.Reading.{reads_whole}
use Rattle.hume_calls.specs.Unions.{program_members, union_core, union_table}
use Rattle.hume_calls.proofs.Answering.{WantsTell}
use Rattle.hume_calls.proofs.UnionWants.{members_finish_nothing, members_tell}
use Rattle.hume_calls.proofs.Wanting.{want_of_run}
use Rattle.hume_run.proofs.Touching.{among_want, inputs_among}
use Rattle.call_laws.specs.Rounds.{rounds_made, rounds_until}

-- names

left_true : (a b : Bool) → a ≡ true → (a || b) ≡ true
left_true true b is = refl
left_true false b is = cc

pub right_true : (a b : Bool) → b ≡ true → (a || b) ≡ true
right_true true b is = refl
right_true false b is = is

among_either : (name : List ℕ) (first second all : List (List ℕ)) → (is_among name first ≡ true → is_among name all ≡ true)
    → (is_among name second ≡ true → is_among name all ≡ true) → is_among name (first ++ second) ≡ true → is_among name all ≡ true
among_either name first second all one two among = by (is_among name first) refl
  where
    both : (is_among name first || is_among name second) ≡ true
    both = sym (list_any-append (bytes_eq name) first second) ∙ among

    by : (b : Bool) → is_among name first ≡ b → is_among name all ≡ true
    by true is = one is
    by false is = two (sym (ap (λ (b : Bool). b || is_among name second) is) ∙ both)

among_left : (name : List ℕ) (first second : List (List ℕ)) → is_among name first ≡ true → is_among name (first ++ second) ≡ true
among_left name first second among = list_any-append (bytes_eq name) first second ∙ left_true (is_among name first) (is_among name second) among

among_right : (name : List ℕ) (first second : List (List ℕ)) → is_among name second ≡ true → is_among name (first ++ second) ≡ true
among_right name first second among = list_any-append (bytes_eq name) first second ∙ right_true (is_among name first) (is_among name second) among

-- all that is told goes to `std_out`
pub told_among : (lines : List (List ℕ)) (name : List ℕ) → is_among name (names_in (told lines)) ≡ true → is_among name (std_out ∷ []) ≡ true
told_among [] name among = cc
told_among (line ∷ lines) name among =
    among_either name (std_out ∷ []) (names_in (told lines)) (std_out ∷ []) (λ here. here) (told_among lines name) among

-- reads, writes and finishes of single acts

pub writes_read_nothing : (pairs : Pairs) → wanted (write_each pairs) ≡ []
writes_read_nothing [] = refl
writes_read_nothing (pair ∷ pairs) = writes_read_nothing pairs

all_finished : (names : List (List ℕ)) → finished (finish_each names) ≡ names
all_finished [] = refl
all_finished (name ∷ names) = ap (λ (others : List (List ℕ)). name ∷ others) (all_finished names)

pub whole_wanted : (further : List (List ℕ)) → wanted (read_each (reads_whole further)) ≡ further
whole_wanted [] = refl
whole_wanted (source ∷ further) = ap (λ (others : List (List ℕ)). source ∷ others) (whole_wanted further)

module _ (lines : List (List ℕ)) where
  abbrev telling : List Act
  telling = write_each (told lines) ++ finishes std_out ∷ []

  pub telling_reads : wanted telling ≡ []
  telling_reads =
      flat_map-append wanted_by (write_each (told lines)) (finishes std_out ∷ [])
      ∙ ap (λ (names : List (List ℕ)). names ++ []) (writes_read_nothing (told lines))

  pub telling_writes : (name : List ℕ) → is_among name (names_in (written telling)) ≡ true → is_among name (std_out ∷ []) ≡ true
  telling_writes name among =
      let all : written telling ≡ told lines =
      written-append (write_each (told lines)) (finishes std_out ∷ []) ∙ ap (λ (pairs : Pairs). pairs ++ []) (all_written (told lines))
      ∙ append-nil (told lines) in
      told_among lines name (subst (λ (pairs : Pairs). is_among name (names_in pairs) ≡ true) all among)

  pub telling_finishes : finished telling ≡ std_out ∷ []
  telling_finishes =
      flat_map-append finished_by (write_each (told lines)) (finishes std_out ∷ [])
      ∙ ap (λ (names : List (List ℕ)). names ++ std_out ∷ []) (writes_finish_nothing (told lines))

-- rounds

module _ (core : Core) (coming : Inputs) (traced : Bool) (steps : ℕ) where
  wants_write_nothing : (round : ℕ) (by : Option ℕ) → written (blocked_wants core coming traced steps round by) ≡ []
  wants_write_nothing round None = refl
  wants_write_nothing round (Some n) = (wants_quiet core coming.good (span_of traced) steps round (n + 1)).0

  -- the rounds that are made write their lines
  made_write : (o : Option ℕ)
      → written (made_until core coming traced steps o) ≡ rounds_writes core coming.good traced steps (rounds_until (span_of traced) steps o)
  made_write None = rounds_write core coming.good traced steps (range_with_len 1 (rounds_until (span_of traced) steps None))
  made_write (Some round) =
      let made : List Act = flat_map (λ r. reading core coming.good traced steps r ++ writing core coming.good traced steps r) (range_with_len 1 (round - 1)) in
      written-append made (blocked_wants core coming traced steps round (blocked_by core coming traced steps round))
      ∙ (λ i. rounds_write core coming.good traced steps (range_with_len 1 (round - 1)) i
      ++ wants_write_nothing round (blocked_by core coming traced steps round) i)
      ∙ append-nil (rounds_writes core coming.good traced steps (round - 1))

-- calls of `calc`

pub same_finishes : (new core : Core) → outputs new ≡ outputs core → run_finishes new ≡ run_finishes core
same_finishes new core same = ap (λ (streams : List StreamC). other_names std_out (ports_of streams) ++ std_out ∷ []) same

pub script_or_input : (name script : List ℕ) (read : List (List ℕ)) (new core : Core) → inputs new ≡ inputs core
    → (is_among name read ≡ true → is_among name (ports_of (inputs new)) ≡ true)
    → is_among name (script ∷ read) ≡ true → is_among name (script ∷ ports_of (inputs core)) ≡ true
script_or_input name script read new core same reads among = by (bytes_eq name script) refl
  where
    by : (b : Bool) → bytes_eq name script ≡ b → is_among name (script ∷ ports_of (inputs core)) ≡ true
    by true is = left_true (bytes_eq name script) (is_among name (ports_of (inputs core))) is
    by false is =
        let read_there : is_among name read ≡ true = sym (ap (λ (b : Bool). b || is_among name read) is) ∙ among in
        right_true (bytes_eq name script) (is_among name (ports_of (inputs core)))
        (subst (λ (streams : List StreamC). is_among name (ports_of streams) ≡ true) same (reads read_there))

-- unions

pub refused_written : (further : List (List ℕ)) (refusal : ProgramRefusal)
    → written (read_each (reads_whole further) ++ (owed_program_refused refusal).acts) ≡ (std_out, program_refused_line refusal) ∷ []
refused_written further refusal =
    written-append (read_each (reads_whole further)) (owed_program_refused refusal).acts
    ∙ ap (λ (pairs : Pairs). pairs ++ (std_out, program_refused_line refusal) ∷ []) (reads_write_nothing (reads_whole further))

module _ (sources further : List (List ℕ)) (programs : List Accepted) (coming : Inputs) (steps : ℕ) where
  abbrev core : Core
  core = union_core programs

  abbrev members : List MemberView
  members = program_members sources programs 1

  abbrev table : Pairs
  table = told (union_table sources programs)

  abbrev run : List Act
  run = members_acts core members coming false steps

  abbrev last : List Act
  last = finish_each (run_finishes core)

  abbrev rounds : Pairs
  rounds = rounds_writes core coming.good false steps (rounds_made core coming false steps)

  abbrev telling_members : Pairs
  telling_members = members_writes core members coming false steps

  run_written : written (run ++ last) ≡ rounds ++ telling_members
  run_written =
      written-append run last ∙ ap (λ (pairs : Pairs). written run ++ pairs) (finishes_write_nothing (run_finishes core)) ∙ append-nil (written run)
      ∙ written-append (made_acts core coming false steps) (write_each telling_members)
      ∙ (λ i. made_write core coming false steps (blocked_round core coming (span_of false) steps) i ++ all_written telling_members i)

  pub union_written : written (read_each (reads_whole further) ++ (owed_union steps sources programs coming).acts) ≡ table ++ (rounds ++ telling_members)
  union_written =
      written-append (read_each (reads_whole further)) (owed_union steps sources programs coming).acts
      ∙ ap (λ (pairs : Pairs). pairs ++ written (owed_union steps sources programs coming).acts) (reads_write_nothing (reads_whole further))
      ∙ written-append (write_each table) (run ++ last)
      ∙ (λ i. all_written table i ++ run_written i)

  -- reads

  pub union_reads : WantsTell core coming false steps → (name : List ℕ)
      → is_among name (wanted (read_each (reads_whole further) ++ (owed_union steps sources programs coming).acts)) ≡ true
      → is_among name (further ++ ports_of (inputs core)) ≡ true
  union_reads tell name among =
      among_either name further (wanted (owed_union steps sources programs coming).acts) (further ++ ports_of (inputs core))
      (among_left name further (ports_of (inputs core))) (λ there. among_right name further (ports_of (inputs core)) (of_stream there))
      (sym (ap (is_among name) (flat_map-append wanted_by (read_each (reads_whole further)) (owed_union steps sources programs coming).acts
      ∙ ap (λ (names : List (List ℕ)). names ++ wanted (owed_union steps sources programs coming).acts) (whole_wanted further))) ∙ among)
    where
      of_stream : is_among name (wanted (owed_union steps sources programs coming).acts) ≡ true → is_among name (ports_of (inputs core)) ≡ true
      of_stream there =
          let want = among_want core (owed_union steps sources programs coming).acts name there in
          let inside = want_of_run table run (run_finishes core) want.0 want.2 name want.1 want.3 in
          let reads = members_tell core members coming false steps tell inside.0 inside.1 name want.1 inside.3 in
          subst (λ (n : List ℕ). is_among n (ports_of (inputs core)) ≡ true) (sym reads.is_port)
          (inputs_among core core.nodes reads.node reads.stream reads.at)

  -- writes

  out_finished : (name : List ℕ) → is_among name (std_out ∷ []) ≡ true → is_among name (run_finishes core) ≡ true
  out_finished name out = among_right name (other_names std_out (ports_of (outputs core))) (std_out ∷ []) out

  -- the lines of the rounds that are made are among those of a run
  rounds_in : (name : List ℕ) (o : Option ℕ)
      → is_among name (names_in (rounds_writes core coming.good false steps (rounds_until (span_of false) steps o))) ≡ true
      → is_among name (names_in (writes_until core coming false steps o)) ≡ true
  rounds_in name None among =
      ap (is_among name) (names_in-append (rounds_writes core coming.good false steps (rounds_until (span_of false) steps None)) (peak_writes core coming.good steps))
      ∙ among_left name (names_in (rounds_writes core coming.good false steps (rounds_until (span_of false) steps None)))
      (names_in (peak_writes core coming.good steps)) among
  rounds_in name (Some round) among =
      let bad : Pairs = bad_value_writes core coming (blocked_by core coming false steps round) in
      ap (is_among name) (names_in-append (rounds_writes core coming.good false steps (round - 1)) bad)
      ∙ among_left name (names_in (rounds_writes core coming.good false steps (round - 1))) (names_in bad) among

  members_out : (name : List ℕ) (o : Option ℕ) → is_among name (names_in (members_until core members coming false steps o)) ≡ true
      → is_among name (std_out ∷ []) ≡ true
  members_out name None among =
      told_among (member_lines (λ n. peak_there (peaks core (start core coming.good) steps n) (slice_get core.nodes n)) 0 members) name among
  members_out name (Some round) among = by (blocked_by core coming false steps round) among
    where
      by : (p : Option ℕ) → is_among name (names_in (member_bad_writes core members coming p)) ≡ true → is_among name (std_out ∷ []) ≡ true
      by None among = cc
      by (Some n) among = among

  pub union_writes : written (owed_run false steps core coming).acts ≡ table_writes core ++ writes core coming false steps
      → ((name : List ℕ) → is_among name (names_in (written (owed_run false steps core coming).acts)) ≡ true → is_among name (run_finishes core) ≡ true)
      → (name : List ℕ) → is_among name (names_in (written (read_each (reads_whole further) ++ (owed_union steps sources programs coming).acts))) ≡ true
      → is_among name (run_finishes core) ≡ true
  union_writes run_is of_run name among =
      among_either name (names_in table) (names_in (rounds ++ telling_members)) (run_finishes core)
      (λ here. out_finished name (told_among (union_table sources programs) name here)) in_run
      (sym (ap (is_among name) (ap names_in union_written ∙ names_in-append table (rounds ++ telling_members))) ∙ among)
    where
      made : is_among name (names_in rounds) ≡ true → is_among name (run_finishes core) ≡ true
      made here =
          let o : Option ℕ = blocked_round core coming (span_of false) steps in
          of_run name (ap (is_among name) (ap names_in run_is ∙ names_in-append (table_writes core) (writes core coming false steps))
          ∙ among_right name (names_in (table_writes core)) (names_in (writes core coming false steps)) (rounds_in name o here))

      in_run : is_among name (names_in (rounds ++ telling_members)) ≡ true → is_among name (run_finishes core) ≡ true
      in_run here =
          among_either name (names_in rounds) (names_in telling_members) (run_finishes core) made
          (λ there. out_finished name (members_out name (blocked_round core coming (span_of false) steps) there))
          (sym (ap (is_among name) (names_in-append rounds telling_members)) ∙ here)

  -- finishes

  pub union_finishes : finished (run_acts core coming false steps) ≡ []
      → finished (read_each (reads_whole further) ++ (owed_union steps sources programs coming).acts) ≡ run_finishes core
  union_finishes none =
      flat_map-append finished_by (read_each (reads_whole further)) (owed_union steps sources programs coming).acts
      ∙ ap (λ (names : List (List ℕ)). names ++ finished (owed_union steps sources programs coming).acts) (reads_finish_nothing (reads_whole further))
      ∙ flat_map-append finished_by (write_each table) (run ++ last)
      ∙ ap (λ (names : List (List ℕ)). names ++ finished (run ++ last)) (writes_finish_nothing table)
      ∙ flat_map-append finished_by run last
      ∙ (λ i. members_finish_nothing core members coming false steps none i ++ all_finished (run_finishes core) i)
