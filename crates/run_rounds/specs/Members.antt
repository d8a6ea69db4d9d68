-- The run of a union of programs: its rounds are those of one core, and what is told besides is told program by program.
use Rattle.std.specs.Prelude.{◌≡◌, ℕ, suc, ◌+◌, ◌-◌, nat_lt, if◌then◌else◌, map, sum, Bool, List, [], ◌∷◌, ◌++◌, Option, None, Some, slice_get, codes, decimal, Result, Ok, Err}
use Rattle.std.specs.List.{flat_map, range_with_len}
use Rattle.std.specs.Option.{is_some, unwrap_or}
use Rattle.hume_model.specs.declared.core_tree.Core.{Core}
use Rattle.hume_net.specs.Start.{start}
use Rattle.hume_ports.specs.declared.port.Failed.{Failed}
use Rattle.hume_ports.specs.Port.{PortView}
use Rattle.hume_ports.specs.Delivery.{Pairs}
use Rattle.net_costs.specs.Steps.{peaks}
use Rattle.port_acts.specs.Acts.{Act, write_each}
use Rattle.port_acts.specs.Ends.{Made, Fails}
use Rattle.trace_print.specs.TraceLines.{peak_there}
use Rattle.run_rounds.specs.declared.members.Member.{Member}
use Rattle.run_rounds.specs.Streams.{std_out}
use Rattle.run_rounds.specs.Inputs.{Inputs}
use Rattle.run_rounds.specs.Writes.{bad_value_line, blocked_by, blocked_round, name_of, span_of, told}
use Rattle.run_rounds.specs.RunActs.{made_acts, run_few}
use Rattle.run_rounds.specs.Runs.{Comes}

-- a program of a union: the line that names it, and how many nodes it has
pub record MemberView : Type 0 where
  pub head : List ℕ
  pub nodes : ℕ

-- what is seen of a program
abbrev pub view_of : Member → MemberView
view_of member = record { head = member.head.items; nodes = member.nodes }

abbrev pub views : List Member → List MemberView
views members = map view_of members

-- the line that names a program, and then those of its nodes, which are the nodes from this number on
abbrev pub one_member : (ℕ → List (List ℕ)) → ℕ → MemberView → List (List ℕ)
one_member of first member = member.head ∷ flat_map of (range_with_len first member.nodes)

-- the lines of all programs; the nodes of each stand behind those of the programs before it
abbrev pub member_lines : (ℕ → List (List ℕ)) → ℕ → List MemberView → List (List ℕ)
member_lines of first [] = []
member_lines of first (member ∷ later) = one_member of first member ++ member_lines of (first + member.nodes) later

-- how many nodes they have together
abbrev pub nodes_of : List MemberView → ℕ
nodes_of members = sum (map (λ (member : MemberView). member.nodes) members)

-- how many programs come before the one that has the node
abbrev pub members_before : List MemberView → ℕ → ℕ
members_before [] node = 0
members_before (member ∷ later) node = if nat_lt node member.nodes then 0 else suc (members_before later (node - member.nodes))

-- program NUMBER bad value STREAM line LINE
abbrev pub member_bad_line : ℕ → List ℕ → ℕ → List ℕ
member_bad_line number name line = codes "program " ++ decimal number ++ codes " " ++ bad_value_line name line

-- the bad line of the stream that blocks a round is told with the number of its program, counted from 1
abbrev pub member_bad_writes : Core → List MemberView → Inputs → Option ℕ → Pairs
member_bad_writes core members inputs None = []
member_bad_writes core members inputs (Some n) =
    (std_out, member_bad_line (suc (members_before members n)) (name_of (slice_get core.nodes n)) (unwrap_or (inputs.bad n) 0)) ∷ []

-- what is told once the rounds are made, by the first blocked one: peaks, or a bad line
abbrev pub members_until : Core → List MemberView → Inputs → Bool → ℕ → Option ℕ → Pairs
members_until core members inputs traced steps None =
    told (member_lines (λ n. peak_there (peaks core (start core inputs.good) steps n) (slice_get core.nodes n)) 0 members)
members_until core members inputs traced steps (Some round) = member_bad_writes core members inputs (blocked_by core inputs traced steps round)

abbrev pub members_writes : Core → List MemberView → Inputs → Bool → ℕ → Pairs
members_writes core members inputs traced steps = members_until core members inputs traced steps (blocked_round core inputs (span_of traced) steps)

-- The acts of the run of a union: the rounds of its core, and what is told of its programs.
abbrev pub members_acts : Core → List MemberView → Inputs → Bool → ℕ → List Act
members_acts core members inputs traced steps = made_acts core inputs traced steps ++ write_each (members_writes core members inputs traced steps)

-- The run of a union has made all acts that the texts of the ports owe, and is blocked where they block it.
pub record MembersRun (core : Core) (members : List MemberView) (traced : Bool) (steps : ℕ) (olds news : List PortView) (blocked : Bool) : Type 0 where
  pub comes : Comes core olds
  pub taken : Pairs
  pub made : Made (members_acts core members comes.inputs traced steps) taken olds news
  pub blocks : blocked ≡ is_some (blocked_round core comes.inputs (span_of traced) steps)

-- One of these acts has failed.
pub record MembersFail (core : Core) (members : List MemberView) (traced : Bool) (steps : ℕ) (olds news : List PortView) : Type 0 where
  pub comes : Comes core olds
  pub fails : Fails (run_few core) [] (members_acts core members comes.inputs traced steps) olds news

abbrev pub EndsMembers : Core → List MemberView → Bool → ℕ → List PortView → List PortView → Result Bool Failed → Type 0
EndsMembers core members traced steps olds news (Ok blocked) = MembersRun core members traced steps olds news blocked
EndsMembers core members traced steps olds news (Err failed) = MembersFail core members traced steps olds news
