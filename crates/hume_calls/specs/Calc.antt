-- What is refused of a script, and of the core that it makes.
use Rattle.std.specs.Prelude.{◌≡◌, ℕ, List, [], ◌∷◌, None, Some, Ok, Err}
use Rattle.hume_base.specs.declared.rule.Refusal.{Refusal}
use Rattle.hume_base.specs.declared.rule.Rule.{Rule}
use Rattle.hume_base.specs.declared.rule.Rule.TheVariants.{C55, C90, C91, C92, C93, C94}
use Rattle.hume_base.specs.Least.{IsLeast}
use Rattle.hume_model.specs.declared.core_tree.Core.{Core}
use Rattle.hume_model.specs.Declarations.{IsRefusal}
use Rattle.box_costs.specs.CostRules.{BreaksCosts}
use Rattle.calculus_laws.specs.declared.step.CalcError.{CalcError}
use Rattle.calculus_laws.specs.declared.step.CalcError.TheVariants.{CannotUnfold, CannotName, CannotSwap, NotApart, NoMemory}
use Rattle.box_calculus.specs.declared.scripts.ScriptError.{ScriptError}
use Rattle.box_calculus.specs.declared.scripts.ScriptError.TheVariants as script
use Rattle.box_calculus.specs.Scripts.{scripted}
use Rattle.run_rounds.specs.Streams.{streams}
use Rattle.hume_calls.specs.Streams.{unfit_line}

-- the rule that a step breaks which isn't made; none isn't made for want of memory
abbrev pub rule_of_cause : CalcError → Rule
rule_of_cause CannotUnfold = C91
rule_of_cause CannotName = C92
rule_of_cause CannotSwap = C93
rule_of_cause NotApart = C94
rule_of_cause NoMemory = C90

-- the rule that a line of a script breaks; none does for want of memory
abbrev pub script_refusal : ScriptError → Refusal
script_refusal (script.Bad line) = record { rule = C90; line = line }
script_refusal (script.Refused cause line) = record { rule = rule_of_cause cause; line = line }
script_refusal script.NoMemory = record { rule = C90; line = 0 }

-- What is refused first, once the script of these lines is read: a line of it; a box of the core that it makes, which takes too
-- much; or a stream whose port is unfit. The script's port can't be a stream's either.
pub data IsScriptRefusal (core : Core) (lines : List ℕ) (names : List (List ℕ)) (source port : List ℕ) : Refusal → Type 0 where
  of_line : (error : ScriptError) → scripted core lines ≡ Err error → IsScriptRefusal core lines names source port (script_refusal error)
  of_box : (new : Core) → scripted core lines ≡ Ok new → (refusal : Refusal) → IsRefusal new (BreaksCosts new) refusal
      → IsScriptRefusal core lines names source port refusal
  of_stream : (new : Core) → scripted core lines ≡ Ok new → IsLeast (BreaksCosts new) None → (line : ℕ)
      → unfit_line names source (port ∷ []) (streams new) ≡ Some line → IsScriptRefusal core lines names source port (record { rule = C55; line = line })
