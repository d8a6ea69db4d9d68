-- Parts of a union's run: what is ready and open, what is told, and how they end.
use Rattle.std.proofs.Common.{◌≡◌, ℕ, ◌+◌, ◌<◌, ◌≤◌, ◌^◌, Bool, false, List, [], ◌∷◌, ◌++◌, map, length, Option, Some, None, Result, Vec, Global, slice_index_or, refl, ap, sym, ◌∙◌, subst, inl, inr, arith, length-append}
use Rattle.std.specs.List.{All, filter_map}
use Rattle.std.proofs.lemmas.List.{length-map}
use Rattle.hume_base.specs.declared.rule.Rule.TheVariants.{C56}
use Rattle.hume_model.specs.declared.core_tree.Core.{Core}
use Rattle.hume_ports.specs.declared.port.Failed.{Failed}
use Rattle.hume_ports.specs.Port.{PortView}
use Rattle.hume_ports.specs.Ports.{ForNameAt, names}
use Rattle.port_acts.specs.Acts.{AreNamed, write_each}
use Rattle.port_acts.specs.Ends.{Fails, Made, never}
use Rattle.port_acts.specs.Places.{IsPlaceOf}
use Rattle.hume_front.specs.declared.acceptance.Accepted.{Accepted}
use Rattle.run_rounds.specs.declared.members.Member.{Member}
use Rattle.run_rounds.specs.Opened.{core_in}
use Rattle.run_rounds.specs.declared.run.Running.{Running}
use Rattle.run_rounds.specs.Members.{EndsMembers, MemberView, nodes_of, view_of, views}
use Rattle.run_rounds.proofs.MemberLines.{nodes_more}
use Rattle.run_rounds.specs.Streams.{ArePlacesOf, ArePortsApart, std_out, streams}
use Rattle.run_rounds.specs.Writes.{told}
use Rattle.trace_print.specs.InTurn.{EndsLines, lines_to}
use Rattle.trace_print.specs.table.Table.{box_line, total_line_of}
use Rattle.trace_print.proofs.LinesInTurn.{AreWritten, both_end, later_unwritten}
use Rattle.union_laws.specs.Moving.{moved_node}
use Rattle.union_laws.specs.Union.{behind, followed_by, united}
use Rattle.union_front.specs.declared.union.Union.{Union}
use Rattle.union_front.specs.Unions.{IsSoundProgram, IsUnion, PassesAt, core_of, first_of, others_of}
use Rattle.union_front.proofs.Sound.{accepted_sound}
use Rattle.hume_calls.specs.declared.program_refusal.ProgramRefusal.{ProgramRefusal}
use Rattle.hume_calls.specs.declared.status.Status.{Status}
use Rattle.hume_calls.specs.Owed.{owed_program_refused, run_finishes}
use Rattle.hume_calls.specs.Streams.{unfit_line}
use Rattle.hume_calls.specs.Unions.{AreAccepted, IsUnionRefusal, broken, over, program_line, program_members, program_tables, shared, shared_program, unfit, unfit_program, union_core, union_table, BreaksFirst}
use Rattle.hume_calls.specs.Bounds.{KeepsBounds}
use Rattle.hume_calls.specs.Ended.{EndsOwed}
use Rattle.hume_calls.specs.Ready.{IsReady}
use Rattle.hume_run.specs.inner.Texts.{IsPortRefusal}
use Rattle.hume_run.specs.inner.UnionEnds.{EndsUnion, IsBounded}
use Rattle.hume_calls.proofs.Answering.{meant}
use Rattle.hume_calls.proofs.RunOpened.{Finishes, finishes_named}
use Rattle.hume_calls.proofs.PortsApart.{union_fit}
use Rattle.hume_calls.proofs.Programs.{each_accepted}
use Rattle.hume_calls.proofs.Runnable.{bounded}

-- programs of accepted sources

pub all_sound : (texts : List (List ℕ)) (programs : List Accepted) → AreAccepted texts programs → All IsSoundProgram programs
all_sound = each_accepted IsSoundProgram accepted_sound

pub all_bounded : (texts : List (List ℕ)) (programs : List Accepted) → AreAccepted texts programs → All IsBounded programs
all_bounded = each_accepted IsBounded bounded

-- what is so of a copy of the programs is so of them

pub union_again : (programs copy : List Accepted) (union : Union) → copy ≡ programs → IsUnion (union_core copy) union → IsUnion (union_core programs) union
union_again programs copy union same = subst (λ (ps : List Accepted). IsUnion (union_core ps) union) same

pub fit_again : (ns sources : List (List ℕ)) (programs copy : List Accepted) → copy ≡ programs → unfit_program ns sources copy 1 ≡ None
    → unfit_program ns sources programs 1 ≡ None
fit_again ns sources programs copy same = subst (λ (ps : List Accepted). unfit_program ns sources ps 1 ≡ None) same

pub apart_again : (sources : List (List ℕ)) (programs copy : List Accepted) → copy ≡ programs → shared_program sources [] copy 1 ≡ None
    → shared_program sources [] programs 1 ≡ None
apart_again sources programs copy same = subst (λ (ps : List Accepted). shared_program sources [] ps 1 ≡ None) same

-- what is ready

pub union_ready : (core : Core) (union : Union) → IsUnion core union → IsReady (record { core = union.core; wiring = union.wiring; costs = union.costs })
union_ready core union is =
    let bounds : KeepsBounds core union.costs = record { frame = is.sound.formed.frame; are = is.costs; within = is.limits.bounds } in
    let ready : Core → Type 0 = λ c. IsReady (record { core = c; wiring = union.wiring; costs = union.costs }) in
    subst ready (sym is.is_core) (record { runnable = is.runnable; handles = is.handles; wiring = is.wiring; bounds = bounds })

pub opened_fit : (names sources : List (List ℕ)) (programs : List Accepted) → 1 ≤ length sources → length sources ≡ length programs
    → unfit_program names sources programs 1 ≡ None → shared_program sources [] programs 1 ≡ None
    → (first : List ℕ) → first ≡ slice_index_or sources 0 [] → unfit_line names first [] (streams (union_core programs)) ≡ None
opened_fit names [] programs least many fit apart first is = absurd (omega (arith, least))
opened_fit names (source ∷ sources) programs least many fit apart first is =
    subst (λ (s : List ℕ). unfit_line names s [] (streams (union_core programs)) ≡ None) (sym is) (union_fit names source sources programs many fit apart)

-- the programs as the report has them

members_count : (sources : List (List ℕ)) (programs : List Accepted) (from : ℕ) → length (program_members sources programs from) ≤ length programs
members_count [] programs from = omega arith
members_count (source ∷ sources) [] from = omega arith
members_count (source ∷ sources) (program ∷ programs) from = let later = members_count sources programs (from + 1) in omega (arith, later)

pub few_members : (sources : List (List ℕ)) (programs : List Accepted) (members : List Member) → views members ≡ program_members sources programs 1
    → length programs < 2 ^ 31 → length members < 2 ^ 31
few_members sources programs members are few =
    let count = members_count sources programs 1 in
    let same : length members ≡ length (program_members sources programs 1) = sym (length-map members view_of) ∙ ap length are in
    omega (arith, count, same, few)

nodes_both : (a b : Core) → length (united a b).nodes ≡ length a.nodes + length b.nodes
nodes_both a b =
    length-append a.nodes (map (moved_node (behind a)) b.nodes) ∙ ap (λ k. length a.nodes + k) (length-map b.nodes (moved_node (behind a)))

nodes_behind : (core : Core) (sources : List (List ℕ)) (programs : List Accepted) (from : ℕ)
    → length core.nodes + nodes_of (program_members sources programs from) ≤ length (followed_by core (map core_of programs)).nodes
nodes_behind core sources [] from = by sources
  where
    by : (sources : List (List ℕ)) → length core.nodes + nodes_of (program_members sources [] from) ≤ length core.nodes
    by [] = omega arith
    by (source ∷ sources) = omega arith
nodes_behind core [] (program ∷ programs) from =
    let later = nodes_behind (united core program.core) [] programs (from + 1) in
    let none : nodes_of (program_members [] programs (from + 1)) ≡ 0 = refl in
    let both = nodes_both core program.core in omega (arith, later, none, both)
nodes_behind core (source ∷ sources) (program ∷ programs) from =
    let later = nodes_behind (united core program.core) sources programs (from + 1) in
    let both = nodes_both core program.core in
    let more = nodes_more (record { head = program_line from source; nodes = length program.core.nodes }) (program_members sources programs (from + 1)) in
    omega (arith, later, both, more)

pub nodes_within : (sources : List (List ℕ)) (programs : List Accepted) (members : List MemberView) (core : Core) → members ≡ program_members sources programs 1
    → core ≡ union_core programs → nodes_of members ≤ length core.nodes
nodes_within sources programs members core are is =
    subst (λ (c : Core). nodes_of members ≤ length c.nodes) (sym is)
    (subst (λ (ms : List MemberView). nodes_of ms ≤ length (union_core programs).nodes) (sym are) (by sources programs))
  where
    by : (sources : List (List ℕ)) (programs : List Accepted) → nodes_of (program_members sources programs 1) ≤ length (union_core programs).nodes
    by [] programs = omega arith
    by (source ∷ sources) [] = omega arith
    by (source ∷ sources) (program ∷ programs) =
        let behind = nodes_behind program.core sources programs 2 in
        let more = nodes_more (record { head = program_line 1 source; nodes = length program.core.nodes }) (program_members sources programs 2) in
        omega (arith, behind, more)

-- how the parts end

module _ (steps : ℕ) (sources texts : List (List ℕ)) (olds news : List PortView) where
  -- a refusal is told
  refused_ends : (status : Status) (refusal : ProgramRefusal) → IsUnionRefusal (names olds) sources texts refusal
      → EndsOwed (owed_program_refused refusal) olds news status → EndsUnion steps sources texts olds news status
  refused_ends status refusal is (inl out) = inl out
  refused_ends status refusal is (inr ends) = inr (inl (refusal, is, ends))

  pub broken_ends : (status : Status) (refusal : ProgramRefusal) → BreaksFirst texts 1 refusal → EndsOwed (owed_program_refused refusal) olds news status
      → EndsUnion steps sources texts olds news status
  broken_ends status refusal is ends = refused_ends status refusal (broken refusal is) ends

  module _ (programs : List Accepted) (are : AreAccepted texts programs) where
    pub ports_end : (status : Status) (refusal : ProgramRefusal) → IsPortRefusal (names olds) sources programs refusal
        → EndsOwed (owed_program_refused refusal) olds news status → EndsUnion steps sources texts olds news status
    ports_end status refusal (inl found) ends = refused_ends status refusal (unfit programs are refusal found) ends
    ports_end status refusal (inr found) ends = refused_ends status refusal (shared programs are found.0 refusal found.1) ends

    module _ (fit : unfit_program (names olds) sources programs 1 ≡ None) (apart : shared_program sources [] programs 1 ≡ None) where
      pub over_ends : (status : Status) (place : ℕ) (refusal : ProgramRefusal) → PassesAt (first_of programs) (others_of programs) 2 place
          → refusal ≡ record { program = place; refusal = record { rule = C56; line = 1 } }
          → EndsOwed (owed_program_refused refusal) olds news status → EndsUnion steps sources texts olds news status
      over_ends status place refusal passes is ends =
          refused_ends status refusal (subst (IsUnionRefusal (names olds) sources texts) (sym is) (over programs are fit apart place passes)) ends

-- the table of each program

pub tables_none : (members : List Member) (sources : List (List ℕ)) (programs : List Accepted) (from : ℕ) → length members ≡ 0
    → views members ≡ program_members sources programs from → program_tables sources programs from ≡ []
tables_none (member ∷ members) sources programs from none are = absurd (omega (arith, none))
tables_none [] [] programs from none are = refl
tables_none [] (source ∷ sources) [] from none are = refl
tables_none [] (source ∷ sources) (program ∷ programs) from none are = cc

pub tables_done : (sources : List (List ℕ)) (programs : List Accepted) (from : ℕ) → length programs ≡ 0 → program_tables sources programs from ≡ []
tables_done [] programs from none = refl
tables_done (source ∷ sources) [] from none = refl
tables_done (source ∷ sources) (program ∷ programs) from none = absurd (omega (arith, none))

-- the first table, and those behind it
abbrev pub one_table : Member → Accepted → List (List ℕ)
one_table member program = member.head.items ∷ filter_map (box_line program.core) program.core.nodes

pub record TablesInTurn (member : Member) (others : List Member) (program : Accepted) (later : List Accepted) (sources : List (List ℕ)) (programs : List Accepted)
    (from : ℕ) : Type 0 where
  pub behind : List (List ℕ)
  pub tables : program_tables sources programs from ≡ one_table member program ++ program_tables behind later (from + 1)
  pub members : views others ≡ program_members behind later (from + 1)

abbrev first_head : List MemberView → List ℕ
first_head [] = []
first_head (member ∷ members) = member.head

abbrev later_members : List MemberView → List MemberView
later_members [] = []
later_members (member ∷ members) = members

pub tables_in_turn : (all : List Member) (member : Member) (others : List Member) (programs : List Accepted) (program : Accepted) (later : List Accepted)
    (sources : List (List ℕ)) (from : ℕ) → all ≡ member ∷ others → programs ≡ program ∷ later → views all ≡ program_members sources programs from
    → TablesInTurn member others program later sources programs from
tables_in_turn all member others programs program later sources from is these are =
    subst (λ (ps : List Accepted). TablesInTurn member others program later sources ps from) (sym these)
    (by sources (subst (λ (ms : List Member). views ms ≡ program_members sources (program ∷ later) from) is
    (subst (λ (ps : List Accepted). views all ≡ program_members sources ps from) these are)))
  where
    by : (sources : List (List ℕ)) → views (member ∷ others) ≡ program_members sources (program ∷ later) from
        → TablesInTurn member others program later sources (program ∷ later) from
    by [] are = cc
    by (source ∷ sources) are =
        let head : member.head.items ≡ program_line from source = ap first_head are in
        let rest : views others ≡ program_members sources later (from + 1) = ap later_members are in
        record {
          behind = sources;
          tables = ap (λ (line : List ℕ). (line ∷ filter_map (box_line program.core) program.core.nodes) ++ program_tables sources later (from + 1)) (sym head);
          members = rest;
        }

-- lines of which the first ones were written, or weren't

pub first_fail : (at : ℕ) (all first later : List (List ℕ)) (olds news : List PortView) → all ≡ first ++ later
    → ForNameAt at olds (λ name. Fails never [] (lines_to name first) olds news) → ForNameAt at olds (λ name. Fails never [] (lines_to name all) olds news)
first_fail at all first later olds news is fails =
    subst (λ (lines : List (List ℕ)). ForNameAt at olds (λ name. Fails never [] (lines_to name lines) olds news)) (sym is)
    (later_unwritten at first later olds news fails)

pub later_end : (at : ℕ) (all first later : List (List ℕ)) (olds mids news : List PortView) (result : Result (Unit {0}) Failed) → all ≡ first ++ later
    → AreWritten at first olds mids → names news ≡ names mids → EndsLines at later mids news result → EndsLines at all olds news result
later_end at all first later olds mids news result is written same ends =
    subst (λ (lines : List (List ℕ)). EndsLines at lines olds news result) (sym is) (both_end at first later olds mids news result written same ends)

-- the table of all, by copies of the programs and of their core
pub table_is : (sources : List (List ℕ)) (programs copies : List Accepted) (core : Core) → copies ≡ programs → core ≡ union_core programs
    → union_table sources programs ≡ program_tables sources copies 1 ++ total_line_of core ∷ []
table_is sources programs copies core same is =
    ap (λ (ps : List Accepted). program_tables sources ps 1 ++ total_line_of (union_core programs) ∷ []) (sym same)
    ∙ ap (λ (c : Core). program_tables sources copies 1 ++ total_line_of c ∷ []) (sym is)

pub members_there : (sources : List (List ℕ)) (programs copies : List Accepted) (members others : List Member) → others ≡ members → copies ≡ programs
    → views members ≡ program_members sources programs 1 → views others ≡ program_members sources copies 1
members_there sources programs copies members others same also are =
    ap (λ (ms : List Member). views ms) same ∙ are ∙ ap (λ (ps : List Accepted). program_members sources ps 1) (sym also)

-- the places of a run and of its copy
pub places_still : (running other : Running) (places others : Vec ℕ Global) (ns : List (List ℕ)) → other ≡ running → others ≡ places
    → ArePlacesOf (core_in running) ns places.items → ArePlacesOf (core_in other) ns others.items
places_still running other places others ns same also are =
    subst (λ (r : Running). ArePlacesOf (core_in r) ns others.items) (sym same)
    (subst (λ (ps : Vec ℕ Global). ArePlacesOf (core_in running) ns ps.items) (sym also) are)

pub apart_still : (running other : Running) → other ≡ running → ArePortsApart (core_in running) → ArePortsApart (core_in other)
apart_still running other same = subst (λ (r : Running). ArePortsApart (core_in r)) (sym same)

-- no stream is unfit
pub never_unfit : (ns : List (List ℕ)) (first : List ℕ) (core other : Core) (line : ℕ) → core ≡ other → unfit_line ns first [] (streams other) ≡ None
    → unfit_line ns first [] (streams core) ≡ Some line → ⊥
never_unfit ns first core other line is none found = by (unfit_line ns first [] (streams core))
    (ap (λ (c : Core). unfit_line ns first [] (streams c)) is ∙ none) found
  where
    by : (o : Option ℕ) → o ≡ None → o ≡ Some line → ⊥
    by None none found = cc
    by (Some other) none found = cc

-- the table, and the rounds

module _ (olds : List PortView) (out : ℕ) (place : IsPlaceOf std_out (names olds) out) (lines : List (List ℕ)) where
  pub lines_made : (mids : List PortView) → ForNameAt out olds (λ name. Made (lines_to name lines) [] olds mids) → Made (write_each (told lines)) [] olds mids
  lines_made mids made = made std_out (meant std_out (names olds) out place)

  pub lines_fail : (news : List PortView) → ForNameAt out olds (λ name. Fails never [] (lines_to name lines) olds news)
      → Fails never [] (write_each (told lines)) olds news
  lines_fail news fails = fails std_out (meant std_out (names olds) out place)

pub members_end : (core other : Core) (members others : List MemberView) (traced : Bool) (steps : ℕ) (olds news : List PortView) (result : Result Bool Failed)
    → core ≡ other → members ≡ others → traced ≡ false → EndsMembers core members traced steps olds news result
    → EndsMembers other others false steps olds news result
members_end core other members others traced steps olds news result is are untraced ends =
    subst (λ (c : Core). EndsMembers c others false steps olds news result) is
    (subst (λ (ms : List MemberView). EndsMembers core ms false steps olds news result) are
    (subst (λ (t : Bool). EndsMembers core members t steps olds news result) untraced ends))

-- the finishes are those of the union's ports
pub union_finishes_named : (core other : Core) (places : List ℕ) (out : ℕ) (finishes given : List ℕ) (olds mids lates : List PortView) → core ≡ other
    → Finishes core places out finishes → ArePlacesOf core (names olds) places → IsPlaceOf std_out (names olds) out → names mids ≡ names olds
    → names lates ≡ names mids → given ≡ finishes → AreNamed (names lates) given (run_finishes other)
union_finishes_named core other places out finishes given olds mids lates same all are place mid late is =
    subst (λ (c : Core). AreNamed (names lates) given (run_finishes c)) same
    (finishes_named core places out finishes given olds mids lates all are place mid late is)
