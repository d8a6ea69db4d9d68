-- How a machine runs a whole rule of a box: from the inputs that are built to the outputs.
use Rattle.std.specs.Prelude.{◌≡◌, ℕ, ◌+◌, ◌≤◌, max, List, [], ◌∷◌, ◌++◌, length, Option, Some, None, slice_get}
use Rattle.hume_base.specs.declared.types.Value.{Value}
use Rattle.hume_model.specs.declared.core_tree.RuleC.{RuleC}
use Rattle.hume_model.specs.declared.core_tree.BoxC.{BoxC}
use Rattle.hume_model.specs.declared.core_tree.Core.{Core}
use Rattle.hume_model.specs.declared.outcome.Outputs.{Outputs}
use Rattle.hume_model.specs.declared.outcome.Outputs.TheVariants.{Asserts, Throws}
use Rattle.hume_model.specs.Matching.{bound}
use Rattle.hume_model.specs.Results.{result_of}
use Rattle.hume_model.specs.Firing.{handled}
use Rattle.box_costs.specs.ResultSpending.{built_values, inputs_built, rule_spent}
use Rattle.box_heap.specs.Heaps.{Object}
use Rattle.box_heap.specs.Standing.{AllStand}
use Rattle.box_code.specs.declared.program.BoxProgram.{BoxProgram}
use Rattle.box_code.specs.Machine.{Setting, Machine, EndsAfter, used}
use Rattle.code_laws.specs.Ending.{flat_outputs}

-- the machine is where the rule begins, with a word for each input that is built and nothing else on the stack
pub record IsReady (program : BoxProgram) (number : ℕ) (rule : RuleC) (ins : List (Option Value)) (m : Machine) : Type 0 where
  pub begins : slice_get program.rules number ≡ Some m.at
  pub inputs : AllStand m.objects (built_values rule.pats ins) m.stack
  pub low : length m.stack ≤ m.peak
  pub unraised : m.raised ≡ None

-- the exception that the result raises, if it raises one
abbrev pub exception_of : Outputs → Option ℕ
exception_of (Asserts outs) = None
exception_of (Throws exn carried) = Some exn

-- The machine ends with the flat words of what the rule gives, or else its handler, and knows which exception that handled. So
-- much was spent as the rule spends: words of the heap, with those that build the inputs, height of the stack, and exactly so
-- many instructions. A handler begins with a word.
pub record RuleRuns (s : Setting) (core : Core) (b : BoxC) (rule : RuleC) (ins : List (Option Value)) (m : Machine) : Type 0 where
  pub end : Machine
  pub more : List Object
  pub comes : EndsAfter s m end (rule_spent core b ins rule).cost.work
  pub gives : end.outs ≡ flat_outputs s.types s.outs (handled core b.handlers (result_of core (bound rule.pats ins) rule.result))
  pub raised : end.raised ≡ exception_of (result_of core (bound rule.pats ins) rule.result)
  pub objects : end.objects ≡ m.objects ++ more
  pub heap : inputs_built rule.pats ins + used more ≡ (rule_spent core b ins rule).cost.heap
  pub peak : end.peak ≡ max m.peak (rule_spent core b ins rule).cost.stack
  pub handler_word : (exn : ℕ) → end.raised ≡ Some exn → 1 ≤ end.peak
