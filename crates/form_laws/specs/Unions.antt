-- What comes to each program of a union, in which round the run of all is blocked, how far it goes, and what it tells.
use Rattle.std.specs.Prelude.{◌≡◌, ◌≤◌, ◌<◌, ◌+◌, ℕ, suc, nat_lt, Bool, List, [], ◌∷◌, ◌++◌, length, take, drop, Option, None, Some, slice_get, if◌then◌else◌}
use Rattle.hume_model.specs.declared.core_tree.Core.{Core}
use Rattle.hume_net.specs.Start.{start}
use Rattle.hume_net.specs.rounds.Rounds.{begins}
use Rattle.net_costs.specs.Steps.{peaks}
use Rattle.trace_print.specs.TraceLines.{peak_lines}
use Rattle.run_rounds.specs.Inputs.{AreInputs, Inputs}
use Rattle.run_rounds.specs.Members.{MemberView, member_bad_line, members_writes}
use Rattle.run_rounds.specs.Streams.{std_out}
use Rattle.run_rounds.specs.Writes.{bad_value_line, bad_value_writes, blocked_by, blocked_round, span_of}
use Rattle.union_laws.specs.Shares.{nodes_before}
use Rattle.union_laws.specs.Union.{united_all}

-- inputs

-- the share of the program that stands at a place of a list, of what comes to the union of all
abbrev pub own_inputs : List Core → ℕ → Core → Inputs → Inputs
own_inputs programs place program coming = record {
  good = take (length program.nodes) (drop (nodes_before programs place) coming.good);
  bad = λ n. if nat_lt n (length program.nodes) then coming.bad (nodes_before programs place + n) else None;
}

-- Each program's share is what comes to it alone from these texts, and nothing comes to other nodes.
pub record AreInputsOfEach (programs : List Core) (texts : List ℕ → List ℕ) (coming : Inputs) : Type 0 where
  pub count : length coming.good ≡ length (united_all programs).nodes
  pub each : (place : ℕ) (program : Core) → slice_get programs place ≡ Some program → AreInputs program texts (own_inputs programs place program coming)
  pub none : (n : ℕ) → length (united_all programs).nodes ≤ n → coming.bad n ≡ None

-- The program stands at that place of the list, and this comes to it alone from these texts.
pub record ComesAlone (programs : List Core) (texts : List ℕ → List ℕ) (place : ℕ) (program : Core) (own : Inputs) : Type 0 where
  pub there : slice_get programs place ≡ Some program
  pub are : AreInputs program texts own

-- rounds

-- One of the programs, run alone over these texts, is first blocked in that round.
pub record BlocksOne (programs : List Core) (texts : List ℕ → List ℕ) (span steps round : ℕ) : Type 0 where
  pub place : ℕ
  pub program : Core
  pub own : Inputs
  pub alone : ComesAlone programs texts place program own
  pub blocked : blocked_round program own span steps ≡ Some round

-- It is the least number of which that holds, or it holds of none.
abbrev pub IsLeastOf : (ℕ → Type 0) → Option ℕ → Type 0
IsLeastOf Holds None = (n : ℕ) → Holds n → ⊥
IsLeastOf Holds (Some n) = Holds n × ((other : ℕ) → Holds other → n ≤ other)

-- how many supersteps are made: all, or those of the rounds before a blocked one
abbrev pub made_before : ℕ → ℕ → Option ℕ → ℕ
made_before span steps None = steps
made_before span steps (Some round) = begins span round

-- how many supersteps a run makes
abbrev pub supersteps_made : Core → Inputs → Bool → ℕ → ℕ
supersteps_made core coming traced steps = made_before (span_of traced) steps (blocked_round core coming (span_of traced) steps)

-- what is told

-- In a blocked round of a union the first program that is blocked in it has its bad line told, as the program tells it alone, behind
-- its number.
pub record TellsBadLine (programs : List Core) (members : List MemberView) (texts : List ℕ → List ℕ) (coming : Inputs) (traced : Bool) (steps round : ℕ)
    : Type 0 where
  pub place : ℕ
  pub program : Core
  pub own : Inputs
  pub alone : ComesAlone programs texts place program own
  pub blocked : blocked_round program own (span_of traced) steps ≡ Some round
  pub first : (earlier : ℕ) (other : Core) (others : Inputs) → earlier < place → ComesAlone programs texts earlier other others
      → blocked_round other others (span_of traced) steps ≡ Some round → ⊥
  pub name : List ℕ
  pub line : ℕ
  pub tells : bad_value_writes program own (blocked_by program own traced steps round) ≡ (std_out, bad_value_line name line) ∷ []
  pub told : members_writes (united_all programs) members coming traced steps ≡ (std_out, member_bad_line (suc place) name line) ∷ []

-- the line that names each program, and then the peaks that the program tells alone
abbrev pub own_peaks : List Core → List MemberView → List Inputs → ℕ → List (List ℕ)
own_peaks (program ∷ programs) (member ∷ members) (own ∷ owns) steps =
    (member.head ∷ peak_lines program (peaks program (start program own.good) steps)) ++ own_peaks programs members owns steps
own_peaks _ _ _ steps = []
