-- The sources of a union, and the ports of its programs.
use Rattle.std.specs.Prelude.{◌≡◌, ◌⊎◌, ℕ, List, [], map, None, Some, Vec}
use Rattle.std.specs.List.{flat_map}
use Rattle.std.specs.declared.alloc.Global.{Global}
use Rattle.hume_front.specs.declared.acceptance.Accepted.{Accepted}
use Rattle.run_rounds.specs.Streams.{ports_of, streams}
use Rattle.hume_calls.specs.declared.program_refusal.ProgramRefusal.{ProgramRefusal}
use Rattle.hume_calls.specs.Unions.{shared_program, unfit_program}

-- the bytes of each
abbrev pub texts_of : List (Vec ℕ Global) → List (List ℕ)
texts_of texts = map (λ (text : Vec ℕ Global). text.items) texts

-- the ports of all streams of the programs
abbrev pub earlier_ports : List Accepted → List (List ℕ)
earlier_ports programs = flat_map (λ (program : Accepted). ports_of (streams program.core)) programs

-- A program has a stream that can't have its port, or one whose port is shared.
abbrev pub IsPortRefusal : List (List ℕ) → List (List ℕ) → List Accepted → ProgramRefusal → Type 0
IsPortRefusal names sources programs refusal =
    (unfit_program names sources programs 1 ≡ Some refusal)
    ⊎ ((unfit_program names sources programs 1 ≡ None) × (shared_program sources [] programs 1 ≡ Some refusal))
