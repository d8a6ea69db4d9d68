-- A call of a union owes to a program's output stream what a call that runs the program alone owes to it.
use Rattle.std.proofs.Common.{◌≡◌, ℕ, zero, suc, ◌+◌, Bool, true, false, ◌||◌, true≢false, if◌then◌else◌, List, [], ◌∷◌, ◌++◌, map, length, Option, Some, None, slice_get, refl, ap, sym, ◌∙◌, subst, append-nil, arith}
use Rattle.std.specs.List.{All, AllZip, filter_map}
use Rattle.std.specs.Str.{bytes_eq}
use Rattle.std.proofs.lemmas.List.Elements.{All-head, All-map}
use Rattle.hume_model.specs.declared.core_tree.NodeC.{NodeC}
use Rattle.hume_model.specs.declared.core_tree.NodeC.TheVariants.{From, Rules, To}
use Rattle.hume_model.specs.declared.core_tree.StreamC.{StreamC}
use Rattle.hume_model.specs.declared.core_tree.Core.{Core}
use Rattle.hume_ports.specs.Delivery.{bytes_for}
use Rattle.hume_ports.specs.Ports.{is_among}
use Rattle.hume_ports.proofs.Names.{bytes_eq-self, bytes_for-append}
use Rattle.hume_front.specs.declared.acceptance.Accepted.{Accepted}
use Rattle.phase_workers.specs.Runnable.{IsRunnable}
use Rattle.port_acts.specs.Acts.{Act, finish_each, write_each, written}
use Rattle.port_acts.proofs.ActLists.{written-append}
use Rattle.port_acts.proofs.Each.{all_written, finishes_write_nothing}
use Rattle.run_rounds.specs.Inputs.{AreInputs, Inputs}
use Rattle.run_rounds.specs.Members.{MemberView, members_acts, members_writes}
use Rattle.run_rounds.specs.RunActs.{run_acts}
use Rattle.run_rounds.specs.Streams.{ArePortsApart, std_out, stream_of}
use Rattle.run_rounds.specs.Writes.{blocked_round, span_of, told}
use Rattle.trace_print.specs.table.Table.{space_table}
use Rattle.union_laws.specs.Union.{united_all}
use Rattle.union_laws.proofs.Unions.{mapped, was_mapped}
use Rattle.union_front.specs.Unions.{core_of}
use Rattle.union_front.proofs.Sound.{accepted_sound, sound_runs}
use Rattle.hume_calls.specs.declared.status.Status.{Status}
use Rattle.hume_calls.specs.declared.status.Status.TheVariants.{BadValue}
use Rattle.hume_calls.specs.Owed.{owed_run, owed_union, run_finishes, run_status}
use Rattle.hume_calls.specs.Streams.{is_unfit, unfit_line}
use Rattle.hume_calls.specs.Unions.{MayUnite, program_members, union_core, union_table, union_texts}
use Rattle.hume_calls.specs.Words.{Named}
use Rattle.hume_calls.proofs.PortsApart.{union_fit}
use Rattle.hume_calls.proofs.Programs.{each_accepted, many_programs}
use Rattle.hume_calls.proofs.Wanting.{stream_apart}
use Rattle.form_laws.specs.Unions.{BlocksOne, IsLeastOf, TellsBadLine, own_peaks, supersteps_made}
use Rattle.form_laws.specs.UnionCalls.{BlocksRun}
use Rattle.form_laws.proofs.FirstProgram.{first_program}
use Rattle.form_laws.proofs.FromTexts.{bad_line_as_alone, blocked_as_programs, peaks_as_alone, writes_as_alone}
use Rattle.form_laws.proofs.OwnParts.{nodes_in}
use Rattle.form_laws.proofs.PortBytes.{told_silent}

-- fit ports are apart

if_none : (b : Bool) (line : ℕ) (later : Option ℕ) → (if b then Some line else later) ≡ None → later ≡ None
if_none true line later is = cc
if_none false line later is = is

among_last : (port : List ℕ) (earlier : List (List ℕ)) → is_among port (earlier ++ port ∷ []) ≡ true
among_last port [] = rw (bytes_eq-self port) refl
among_last port (first ∷ earlier) = by (bytes_eq port first) (among_last port earlier)
  where
    by : (b : Bool) → is_among port (earlier ++ port ∷ []) ≡ true → (b || is_among port (earlier ++ port ∷ [])) ≡ true
    by true there = refl
    by false there = there

module _ (names : List (List ℕ)) (source : List ℕ) where
  -- behind a node the other nodes' streams are fit, with its port among the earlier ones
  pub record IsFitBehind (node : NodeC) (nodes : List NodeC) (earlier : List (List ℕ)) : Type 0 where
    pub more : List (List ℕ)
    pub fit : unfit_line names source (earlier ++ more) (filter_map stream_of nodes) ≡ None
    pub own : (stream : StreamC) → stream_of node ≡ Some stream → more ≡ stream.port ∷ []

  one_stream : (stream other : StreamC) → ◌≡◌ {A = Option StreamC} (Some stream) (Some other) → stream.port ∷ [] ≡ other.port ∷ []
  one_stream stream other same = (let is : stream ≡ other = cc in ap (λ (s : StreamC). s.port ∷ []) is)

  fit_behind : (node : NodeC) (nodes : List NodeC) (earlier : List (List ℕ)) → unfit_line names source earlier (filter_map stream_of (node ∷ nodes)) ≡ None
      → IsFitBehind node nodes earlier
  fit_behind (Rules b) nodes earlier fit = record {
    more = [];
    fit = ap (λ ports. unfit_line names source ports (filter_map stream_of nodes)) (append-nil earlier) ∙ fit;
    own = λ stream is. cc;
  }
  fit_behind (From stream) nodes earlier fit = record {
    more = stream.port ∷ [];
    fit = if_none (is_unfit names source earlier stream.port) stream.line
        (unfit_line names source (earlier ++ stream.port ∷ []) (filter_map stream_of nodes)) fit;
    own = one_stream stream;
  }
  fit_behind (To stream) nodes earlier fit = record {
    more = stream.port ∷ [];
    fit = if_none (is_unfit names source earlier stream.port) stream.line
        (unfit_line names source (earlier ++ stream.port ∷ []) (filter_map stream_of nodes)) fit;
    own = one_stream stream;
  }

  -- a later stream has another port
  other_port : (node : NodeC) (nodes : List NodeC) (earlier : List (List ℕ)) → IsFitBehind node nodes earlier → (first second : StreamC)
      → stream_of node ≡ Some first
      → (n : ℕ) (other : NodeC) → slice_get nodes n ≡ Some other → stream_of other ≡ Some second → first.port ≡ second.port → ⊥
  other_port node nodes earlier behind first second is n other there its same =
      let apart = stream_apart names source nodes (earlier ++ behind.more) behind.fit n other second there its in
      true≢false (sym (among_last second.port earlier)
      ∙ (λ i. is_among second.port (earlier ++ (ap (λ port. port ∷ []) (sym same) ∙ sym (behind.own first is)) i)) ∙ apart)

  nodes_apart : (nodes : List NodeC) (earlier : List (List ℕ)) → unfit_line names source earlier (filter_map stream_of nodes) ≡ None
      → (n m : ℕ) (node other : NodeC) (first second : StreamC) → slice_get nodes n ≡ Some node → slice_get nodes m ≡ Some other
      → stream_of node ≡ Some first → stream_of other ≡ Some second → first.port ≡ second.port → n ≡ m
  nodes_apart [] earlier fit n m node other first second at there is its same = cc
  nodes_apart (x ∷ xs) earlier fit zero zero node other first second at there is its same = refl
  nodes_apart (x ∷ xs) earlier fit zero (suc m) node other first second at there is its same =
      let node_is : x ≡ node = cc in
      absurd (other_port x xs earlier (fit_behind x xs earlier fit) first second (ap stream_of node_is ∙ is) m other there its same)
  nodes_apart (x ∷ xs) earlier fit (suc n) zero node other first second at there is its same =
      let other_is : x ≡ other = cc in
      absurd (other_port x xs earlier (fit_behind x xs earlier fit) second first (ap stream_of other_is ∙ its) n node at is (sym same))
  nodes_apart (x ∷ xs) earlier fit (suc n) (suc m) node other first second at there is its same =
      let behind = fit_behind x xs earlier fit in
      ap suc (nodes_apart xs (earlier ++ behind.more) behind.fit n m node other first second at there is its same)

-- programs and their cores

members_nodes : (sources : List (List ℕ)) (programs : List Accepted) (from : ℕ) → length sources ≡ length programs
    → map (λ (member : MemberView). member.nodes) (program_members sources programs from) ≡ map nodes_in (map core_of programs)
members_nodes [] [] from many = refl
members_nodes [] (program ∷ programs) from many = absurd (omega (arith, many))
members_nodes (source ∷ sources) [] from many = absurd (omega (arith, many))
members_nodes (source ∷ sources) (program ∷ programs) from many =
    ap (λ counts. nodes_in program.core ∷ counts) (members_nodes sources programs (from + 1) (omega (arith, many)))

zip_cores : (texts : List ℕ → List ℕ) (programs : List Accepted) (owns : List Inputs)
    → AllZip (λ (program : Accepted) own. AreInputs program.core texts own) programs owns
    → AllZip (λ core own. AreInputs core texts own) (map core_of programs) owns
zip_cores texts [] [] each = each
zip_cores texts [] (own ∷ owns) each = absurd each
zip_cores texts (program ∷ programs) [] each = absurd each
zip_cores texts (program ∷ programs) (own ∷ owns) each = (each.0, zip_cores texts programs owns each.1)

-- acts

-- a table before the acts of a run, and finishes behind them
run_bytes : (name : List ℕ) (lines : List (List ℕ)) (acts : List Act) (finishes : List (List ℕ)) → bytes_eq name std_out ≡ false
    → bytes_for name (written (write_each (told lines) ++ (acts ++ finish_each finishes))) ≡ bytes_for name (written acts)
run_bytes name lines acts finishes other =
    ap (bytes_for name) (written-append (write_each (told lines)) (acts ++ finish_each finishes))
    ∙ bytes_for-append name (written (write_each (told lines))) (written (acts ++ finish_each finishes))
    ∙ (λ i. bytes_for name (all_written (told lines) i) ++ bytes_for name (written-append acts (finish_each finishes) i))
    ∙ (λ i. told_silent name lines other i ++ bytes_for name (written acts ++ finishes_write_nothing finishes i))
    ∙ ap (bytes_for name) (append-nil (written acts))

module _ (named : Named) (text : List ℕ) (names : List (List ℕ)) (texts : List ℕ → List ℕ) (programs : List Accepted)
    (may : MayUnite names (named.source ∷ named.others) (union_texts text named texts) programs) where
  abbrev sources : List (List ℕ)
  sources = named.source ∷ named.others

  abbrev cores : List Core
  cores = map core_of programs

  runs : All IsRunnable cores
  runs = All-map IsRunnable core_of programs
      (each_accepted (λ program. IsRunnable program.core) (λ source program is. sound_runs program.core (accepted_sound source program is))
      (union_texts text named texts) programs may.accepted)

  union_is : (accepted : List Accepted) → All (λ (program : Accepted). IsRunnable program.core) accepted
      → union_core accepted ≡ united_all (map core_of accepted)
  union_is [] all = refl
  union_is (program ∷ accepted) all = sym (first_program program.core (map core_of accepted)
      (All-head (λ (other : Accepted). IsRunnable other.core) program accepted all).formed.frame.exceptions)

  same_core : union_core programs ≡ united_all cores
  same_core = union_is programs
      (each_accepted (λ program. IsRunnable program.core) (λ source program is. sound_runs program.core (accepted_sound source program is))
      (union_texts text named texts) programs may.accepted)

  apart : ArePortsApart (union_core programs)
  apart = nodes_apart names named.source (union_core programs).nodes []
      (union_fit names named.source named.others programs (many_programs named text texts programs may.accepted) may.fit may.apart)

  module _ (coming : Inputs) (are : AreInputs (union_core programs) texts coming) (steps : ℕ) where
    all_are : AreInputs (united_all cores) texts coming
    all_are = subst (λ core. AreInputs core texts coming) same_core are

    pub union_owes : (place : ℕ) (program : Accepted) → slice_get programs place ≡ Some program → (own : Inputs) → AreInputs program.core texts own
        → (n : ℕ) (stream : StreamC) → slice_get program.core.nodes n ≡ Some (To stream) → bytes_eq stream.port std_out ≡ false
        → bytes_for stream.port (written (owed_union steps sources programs coming).acts)
        ≡ bytes_for stream.port (written (owed_run false (supersteps_made (union_core programs) coming false steps) program.core own).acts)
    union_owes place program found own own_is n stream at other =
        let members = program_members sources programs 1 in
        let made : Core → ℕ = λ core. supersteps_made core coming false steps in
        let table = union_table sources programs in
        run_bytes stream.port table (members_acts (union_core programs) members coming false steps) (run_finishes (union_core programs)) other
        ∙ ap (λ core. bytes_for stream.port (written (members_acts core members coming false steps))) same_core
        ∙ writes_as_alone cores runs texts coming all_are (subst ArePortsApart same_core apart) place program.core own
        (record { there = mapped core_of programs place program found; are = own_is }) n stream at other members false steps
        ∙ ap (λ core. bytes_for stream.port (written (run_acts program.core own false (made core)))) (sym same_core)
        ∙ sym (run_bytes stream.port (space_table program.core) (run_acts program.core own false (made (union_core programs)))
        (run_finishes program.core) other)

    -- what is told

    members_are : map (λ (member : MemberView). member.nodes) (program_members sources programs 1) ≡ map nodes_in cores
    members_are = members_nodes sources programs 1 (many_programs named text texts programs may.accepted)

    pub bad_line : (round : ℕ) → blocked_round (union_core programs) coming (span_of false) steps ≡ Some round
        → TellsBadLine cores (program_members sources programs 1) texts coming false steps round
    bad_line round is = bad_line_as_alone cores runs texts coming all_are (program_members sources programs 1) members_are false steps round
        (ap (λ core. blocked_round core coming (span_of false) steps) (sym same_core) ∙ is)

    pub all_peaks : (owns : List Inputs) → AllZip (λ program own. AreInputs program.core texts own) programs owns
        → blocked_round (union_core programs) coming (span_of false) steps ≡ None
        → members_writes (union_core programs) (program_members sources programs 1) coming false steps
        ≡ told (own_peaks cores (program_members sources programs 1) owns steps)
    all_peaks owns each none =
        ap (λ core. members_writes core (program_members sources programs 1) coming false steps) same_core
        ∙ peaks_as_alone cores runs texts coming all_are (program_members sources programs 1) members_are false steps owns (zip_cores texts programs owns each)
        (ap (λ core. blocked_round core coming (span_of false) steps) (sym same_core) ∙ none)

    -- answers

    abbrev Blocks : ℕ → Type 0
    Blocks round = BlocksOne cores texts (span_of false) steps round

    least : IsLeastOf Blocks (blocked_round (united_all cores) coming (span_of false) steps)
    least = blocked_as_programs cores runs texts coming all_are (span_of false) steps

    abbrev union_answer : Status
    union_answer = (owed_union steps sources programs coming).answer

    answer_is : union_answer ≡ run_status (blocked_round (united_all cores) coming (span_of false) steps)
    answer_is = ap (λ core. run_status (blocked_round core coming (span_of false) steps)) same_core

    one_of : (round : ℕ) → Blocks round → BlocksRun programs texts steps
    one_of round holds =
        let was = was_mapped core_of programs holds.place holds.program holds.alone.there in
        let own_is : AreInputs was.0.core texts holds.own = subst (λ core. AreInputs core texts holds.own) (sym was.2) holds.alone.are in
        record {
          place = holds.place;
          program = was.0;
          own = holds.own;
          there = was.1;
          are = own_is;
          blocked = ap (λ core. run_status (blocked_round core holds.own (span_of false) steps)) was.2 ∙ ap run_status holds.blocked;
        }

    pub some_blocked : union_answer ≡ BadValue → BlocksRun programs texts steps
    some_blocked is = by (blocked_round (united_all cores) coming (span_of false) steps) (sym answer_is ∙ is) least
      where
        by : (o : Option ℕ) → run_status o ≡ BadValue → IsLeastOf Blocks o → BlocksRun programs texts steps
        by None none first = cc
        by (Some round) some first = one_of round first.0

    pub union_blocked : BlocksRun programs texts steps → union_answer ≡ BadValue
    union_blocked holds = by (blocked_round holds.program.core holds.own (span_of false) steps) refl
      where
        with_round : (round : ℕ) → Blocks round → (o : Option ℕ) → IsLeastOf Blocks o → run_status o ≡ BadValue
        with_round round blocks None none = absurd (none round blocks)
        with_round round blocks (Some first) some = refl

        by : (o : Option ℕ) → blocked_round holds.program.core holds.own (span_of false) steps ≡ o → union_answer ≡ BadValue
        by None none = (let clash : run_status None ≡ BadValue = sym (ap run_status none) ∙ holds.blocked in cc)
        by (Some round) some = answer_is ∙ with_round round (record {
          place = holds.place;
          program = holds.program.core;
          own = holds.own;
          alone = record { there = mapped core_of programs holds.place holds.program holds.there; are = holds.are };
          blocked = some;
        }) (blocked_round (united_all cores) coming (span_of false) steps) least
