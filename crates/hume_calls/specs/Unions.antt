-- Several sources whose programs run as one net: which of them are refused, and what is reported of them.
use Rattle.std.specs.Prelude.{◌≡◌, ◌⊎◌, ⊤, ℕ, ◌+◌, List, [], ◌∷◌, ◌++◌, length, map, Option, None, Some, codes, decimal, if◌then◌else◌}
use Rattle.std.specs.List.{filter_map}
use Rattle.std.specs.Str.{bytes_eq}
use Rattle.hume_base.specs.declared.rule.Rule.{Rule}
use Rattle.hume_base.specs.declared.rule.Rule.TheVariants.{C55, C56, C57}
use Rattle.hume_model.specs.declared.core_tree.StreamC.{StreamC}
use Rattle.hume_model.specs.declared.core_tree.Core.{Core}
use Rattle.hume_ports.specs.Ports.{is_among}
use Rattle.hume_front.specs.declared.acceptance.Accepted.{Accepted}
use Rattle.hume_front.specs.Accepted.{IsAccepted, Breaks}
use Rattle.run_rounds.specs.Members.{MemberView}
use Rattle.run_rounds.specs.Streams.{streams, ports_of}
use Rattle.trace_print.specs.table.Table.{box_line, total_line_of}
use Rattle.union_laws.specs.Union.{followed_by}
use Rattle.union_front.specs.Unions.{PassesAt, StaysWithin, first_of, others_of}
use Rattle.hume_calls.specs.declared.program_refusal.ProgramRefusal.{ProgramRefusal}
use Rattle.hume_calls.specs.Reading.{source_text}
use Rattle.hume_calls.specs.Words.{Named}
use Rattle.hume_calls.specs.Streams.{unfit_line}

-- refusals

-- Each of the sources is accepted, as the program in its place.
abbrev pub AreAccepted : List (List ℕ) → List Accepted → Type 0
AreAccepted [] [] = ⊤
AreAccepted (text ∷ texts) (program ∷ programs) = IsAccepted text program × AreAccepted texts programs
AreAccepted _ _ = ⊥

-- The first of the sources that isn't accepted breaks this rule. The first source has the number `from`.
abbrev pub BreaksFirst : List (List ℕ) → ℕ → ProgramRefusal → Type 0
BreaksFirst [] from refusal = ⊥
BreaksFirst (text ∷ texts) from refusal =
    ((refusal.program ≡ from) × Breaks text refusal.refusal) ⊎ (((program : Accepted) × IsAccepted text program) × BreaksFirst texts (from + 1) refusal)

-- a line of a program breaks the rule, if there is such a line; or else a later program does
abbrev pub line_or : Rule → ℕ → Option ℕ → Option ProgramRefusal → Option ProgramRefusal
line_or rule number None later = later
line_or rule number (Some line) later = Some (record { program = number; refusal = record { rule = rule; line = line } })

-- the first program, of those from this number on, with a stream that can't have its port even where the program runs alone
abbrev pub unfit_program : List (List ℕ) → List (List ℕ) → List Accepted → ℕ → Option ProgramRefusal
unfit_program names (source ∷ sources) (program ∷ programs) from =
    line_or C55 from (unfit_line names source [] (streams program.core)) (unfit_program names sources programs (from + 1))
unfit_program names _ _ from = None

-- the line of the first stream whose port is taken
abbrev pub taken_line : List (List ℕ) → List StreamC → Option ℕ
taken_line taken [] = None
taken_line taken (stream ∷ later) = if is_among stream.port taken then Some stream.line else taken_line taken later

-- the first program with a stream whose port is a program's source, or that of an earlier program's stream
abbrev pub shared_program : List (List ℕ) → List (List ℕ) → List Accepted → ℕ → Option ProgramRefusal
shared_program sources earlier [] from = None
shared_program sources earlier (program ∷ programs) from =
    line_or C57 from (taken_line (sources ++ earlier) (streams program.core))
    (shared_program sources (earlier ++ ports_of (streams program.core)) programs (from + 1))

-- The first program that breaks a rule: of its own; or else on its streams' ports; or else a port that is shared; or else with it
-- the union passes a limit.
pub data IsUnionRefusal (names sources texts : List (List ℕ)) : ProgramRefusal → Type 0 where
  broken : (refusal : ProgramRefusal) → BreaksFirst texts 1 refusal → IsUnionRefusal names sources texts refusal
  unfit : (programs : List Accepted) → AreAccepted texts programs → (refusal : ProgramRefusal) → unfit_program names sources programs 1 ≡ Some refusal
      → IsUnionRefusal names sources texts refusal
  shared : (programs : List Accepted) → AreAccepted texts programs → unfit_program names sources programs 1 ≡ None
      → (refusal : ProgramRefusal) → shared_program sources [] programs 1 ≡ Some refusal → IsUnionRefusal names sources texts refusal
  over : (programs : List Accepted) → AreAccepted texts programs → unfit_program names sources programs 1 ≡ None
      → shared_program sources [] programs 1 ≡ None → (place : ℕ) → PassesAt (first_of programs) (others_of programs) 2 place
      → IsUnionRefusal names sources texts (record { program = place; refusal = record { rule = C56; line = 1 } })

-- All sources are accepted, their streams' ports are apart, and the union stays within the limits.
pub record MayUnite (names sources texts : List (List ℕ)) (programs : List Accepted) : Type 0 where
  pub accepted : AreAccepted texts programs
  pub fit : unfit_program names sources programs 1 ≡ None
  pub apart : shared_program sources [] programs 1 ≡ None
  pub within : StaysWithin (first_of programs) (others_of programs)

-- a run of all

-- program NUMBER SOURCE
abbrev pub program_line : ℕ → List ℕ → List ℕ
program_line number source = codes "program " ++ decimal number ++ codes " " ++ source ++ 10 ∷ []

-- the table of bounds: each program's boxes behind the line that names it, from this number on
abbrev pub program_tables : List (List ℕ) → List Accepted → ℕ → List (List ℕ)
program_tables (source ∷ sources) (program ∷ programs) from =
    (program_line from source ∷ filter_map (box_line program.core) program.core.nodes) ++ program_tables sources programs (from + 1)
program_tables _ _ from = []

-- the core of all programs
abbrev pub union_core : List Accepted → Core
union_core programs = followed_by (first_of programs) (others_of programs)

-- the table, and the words that all boxes may take together
abbrev pub union_table : List (List ℕ) → List Accepted → List (List ℕ)
union_table sources programs = program_tables sources programs 1 ++ total_line_of (union_core programs) ∷ []

-- the programs as the report has them, from this number on
abbrev pub program_members : List (List ℕ) → List Accepted → ℕ → List MemberView
program_members (source ∷ sources) (program ∷ programs) from =
    record { head = program_line from source; nodes = length program.core.nodes } ∷ program_members sources programs (from + 1)
program_members _ _ from = []

-- the text of a source: that of the first one is given, and any other has what its port has to read
abbrev pub text_of : List ℕ → List ℕ → (List ℕ → List ℕ) → List ℕ → List ℕ
text_of first text texts source = if bytes_eq source first then text else source_text (texts source)

-- the texts of all sources
abbrev pub union_texts : List ℕ → Named → (List ℕ → List ℕ) → List (List ℕ)
union_texts text named texts = text ∷ map (text_of named.source text texts) named.others
