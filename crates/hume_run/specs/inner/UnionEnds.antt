-- How the parts of a union's call end that come after its sources were read.
use Rattle.std.specs.Prelude.{◌≡◌, ◌⊎◌, ◌≤◌, ℕ, Bool, false, List, [], length, IfOk, Result, All}
use Rattle.std.specs.Option.{is_some}
use Rattle.hume_ports.specs.declared.port.Failed.{Failed}
use Rattle.hume_ports.specs.Port.{PortView}
use Rattle.hume_ports.specs.Ports.{names}
use Rattle.hume_ports.specs.Delivery.{Pairs}
use Rattle.port_acts.specs.Ends.{Ends, never}
use Rattle.hume_front.specs.declared.acceptance.Accepted.{Accepted}
use Rattle.run_rounds.specs.Members.{nodes_of, views}
use Rattle.run_rounds.specs.Opened.{core_in, traced_in}
use Rattle.run_rounds.specs.RunActs.{run_few}
use Rattle.run_rounds.specs.Runs.{Comes}
use Rattle.run_rounds.specs.Writes.{blocked_round, span_of}
use Rattle.hume_calls.specs.declared.status.Status.{Status}
use Rattle.hume_calls.specs.declared.program_refusal.ProgramRefusal.{ProgramRefusal}
use Rattle.hume_run.specs.declared.union.opening.OpenedUnion.{OpenedUnion}
use Rattle.hume_calls.specs.Unions.{IsUnionRefusal, MayUnite, program_members, union_core}
use Rattle.hume_calls.specs.Owed.{owed_program_refused, owed_union}
use Rattle.hume_calls.specs.Bounds.{KeepsBounds}
use Rattle.hume_calls.specs.Ended.{EndsAfter, RunsOut}
use Rattle.hume_calls.specs.Opening.{IsOpen}

-- the program keeps its bounds
abbrev pub IsBounded : Accepted → Type 0
IsBounded program = KeepsBounds program.core program.costs

-- All memory of a union of programs with these sources is taken. The report's port is at the given place.
pub record IsOpenUnion (out : ℕ) (sources : List (List ℕ)) (union : OpenedUnion) : Type 0 where
  pub is_open : IsOpen out union.opened
  pub untraced : traced_in union.opened.running ≡ false
  pub core : core_in union.opened.running ≡ union_core union.programs.items
  pub bounded : All IsBounded union.programs.items
  pub members : views union.members.items ≡ program_members sources union.programs.items 1
  pub nodes : nodes_of (views union.members.items) ≤ length (core_in union.opened.running).nodes

-- The acts of the union were made or one of them failed.
pub record UnionEnds (steps : ℕ) (sources : List (List ℕ)) (programs : List Accepted) (old new : List PortView) (result : Result Bool Failed) : Type 0 where
  pub comes : Comes (union_core programs) old
  pub taken : Pairs
  pub ends : Ends (run_few (union_core programs)) [] (owed_union steps sources programs comes.inputs).acts taken old new result
  pub blocked : IfOk result (λ blocked. blocked ≡ is_some (blocked_round (union_core programs) comes.inputs (span_of false) steps))

-- The call ends as one that owes the run of what comes from its ports.
pub record RunsUnion (steps : ℕ) (sources : List (List ℕ)) (programs : List Accepted) (old new : List PortView) (status : Status) : Type 0 where
  pub comes : Comes (union_core programs) old
  pub ends : EndsAfter (run_few (union_core programs)) [] (owed_union steps sources programs comes.inputs) old new status

-- Memory ran out, or a program is refused, or all of them run.
abbrev pub EndsUnion : ℕ → List (List ℕ) → List (List ℕ) → List PortView → List PortView → Status → Type 0
EndsUnion steps sources texts old new status =
    RunsOut old new status
    ⊎ (((refusal : ProgramRefusal) × IsUnionRefusal (names old) sources texts refusal × EndsAfter never [] (owed_program_refused refusal) old new status)
    ⊎ ((programs : List Accepted) × MayUnite (names old) sources texts programs × RunsUnion steps sources programs old new status))
