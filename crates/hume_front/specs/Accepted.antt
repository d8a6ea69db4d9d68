-- Which sources are accepted, and which rule a source breaks that isn't.
use Rattle.std.specs.Prelude.{◌≡◌, ℕ, ◌≤◌, ◌<◌, List, length, None}
use Rattle.hume_base.specs.declared.limits.TheConstants.{MAX_SOURCE_BYTES}
use Rattle.hume_base.specs.declared.finding.Finding.{Finding}
use Rattle.hume_base.specs.declared.rule.Rule.{Rule}
use Rattle.hume_base.specs.declared.rule.Rule.TheVariants.{C70}
use Rattle.hume_base.specs.declared.rule.Refusal.{Refusal}
use Rattle.hume_base.specs.declared.token.Token.{Token}
use Rattle.hume_base.specs.Least.{IsLeast}
use Rattle.hume_base.specs.Places.{line_at}
use Rattle.hume_base.specs.Rules.{phase_of}
use Rattle.hume_ast.specs.declared.tree.Program.{Program}
use Rattle.hume_ast.specs.Places.{StandsFor}
use Rattle.hume_lex.specs.BadPlaces.{IsRead, BreaksTokens}
use Rattle.parse_errors.specs.WrongTokens.{BreaksGrammar}
use Rattle.check_rules.specs.CoreOf.{IsCoreOf}
use Rattle.wiring_check.specs.Wires.{IsWiringOf}
use Rattle.hume_check.specs.Refused.{IsRefusedFor}
use Rattle.space_costs.specs.NodeCosts.{AreCosts}
use Rattle.hume_front.specs.Broken.{BreaksProgram}
use Rattle.hume_front.specs.declared.acceptance.Accepted.{Accepted}
use Rattle.hume_front.specs.declared.acceptance.Sound.{Sound}
use Rattle.hume_front.specs.declared.error.FrontError.{FrontError}
use Rattle.hume_front.specs.declared.error.FrontError.TheVariants.{Refused, NoMemory}

-- the source is short enough, its tokens are within the limits, and they stand for the program
pub record IsProgramOf (text : List ℕ) (program : Program) : Type 0 where
  pub short : length text ≤ MAX_SOURCE_BYTES
  pub tokens : List Token
  pub read : IsRead text tokens
  pub spelled : StandsFor tokens program

-- The source has a program that breaks no rule, the program's core, the wires of the core's inputs and outputs, and the most
-- that each of its nodes may take.
pub record IsAccepted (text : List ℕ) (accepted : Accepted) : Type 0 where
  pub program : IsProgramOf text accepted.program
  pub fine : IsLeast (BreaksProgram text accepted.program) None
  pub core : IsCoreOf text accepted.program accepted.core
  pub wiring : IsWiringOf accepted.core accepted.wiring
  pub costs : AreCosts accepted.core accepted.costs

-- The least rule that the source breaks: it is too long; or else a rule on tokens at its first bad place; or else a rule on the
-- grammar, as its tokens stand for no program; or else the least of the rules that its program breaks.
pub data Breaks (text : List ℕ) : Refusal → Type 0 where
  too_long : MAX_SOURCE_BYTES < length text → Breaks text (record { rule = C70; line = 1 })
  bad_token : length text ≤ MAX_SOURCE_BYTES → (rule : Rule) (place : ℕ) → BreaksTokens text rule place
      → Breaks text (record { rule = rule; line = line_at text place })
  no_program : length text ≤ MAX_SOURCE_BYTES → (tokens : List Token) → IsRead text tokens
      → (rule : Rule) (place : ℕ) → BreaksGrammar tokens (length text) rule place
      → Breaks text (record { rule = rule; line = line_at text place })
  in_program : (program : Program) → IsProgramOf text program
      → (refusal : Refusal) → IsRefusedFor (BreaksProgram text program) text program.decls refusal → Breaks text refusal

-- a source isn't accepted for a rule that it breaks, or for want of memory
abbrev pub IsUnaccepted : List ℕ → FrontError → Type 0
IsUnaccepted text (Refused refusal) = Breaks text refusal
IsUnaccepted text NoMemory = Unit {0}

-- the phase of the rules on what boxes may take, the last one in which a source is asked
abbrev pub bounds_phase : ℕ
bounds_phase = 10

-- The source has a program that breaks no rules but perhaps some on what boxes may take, the program's core, and the wires of the
-- core's inputs and outputs.
pub record IsSound (text : List ℕ) (sound : Sound) : Type 0 where
  pub program : IsProgramOf text sound.program
  pub fine : (finding : Finding) → BreaksProgram text sound.program finding → phase_of finding.rule ≡ bounds_phase
  pub core : IsCoreOf text sound.program sound.core
  pub wiring : IsWiringOf sound.core sound.wiring

-- The least rule that the source breaks is none on what boxes may take.
pub record BreaksSoundness (text : List ℕ) (refusal : Refusal) : Type 0 where
  pub breaks : Breaks text refusal
  pub early : phase_of refusal.rule < bounds_phase

-- a source isn't sound for such a rule, or it wasn't read for want of memory
abbrev pub IsUnsound : List ℕ → FrontError → Type 0
IsUnsound text (Refused refusal) = BreaksSoundness text refusal
IsUnsound text NoMemory = Unit {0}
