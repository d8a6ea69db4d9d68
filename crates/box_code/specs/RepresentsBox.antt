-- Which program stands for which box.
use Rattle.std.specs.Prelude.{◌≡◌, ◌==◌, ◌<◌, ℕ, length, Option, Some, None, slice_get}
use Rattle.std.specs.List.{find}
use Rattle.hume_model.specs.declared.core_tree.RuleC.{RuleC}
use Rattle.hume_model.specs.declared.core_tree.HandC.{HandC}
use Rattle.hume_model.specs.declared.core_tree.BoxC.{BoxC}
use Rattle.hume_model.specs.declared.core_tree.Core.{Core}
use Rattle.hume_model.specs.BoxTyping.{port_types}
use Rattle.box_costs.specs.Bounds.{box_bound}
use Rattle.box_code.specs.declared.program.BoxProgram.{BoxProgram}
use Rattle.box_code.specs.Represents.{FunctionsStand, RuleStands, HandlerStands}

-- the rule of the number stands where the program says
pub record HasRule (entry : ℕ → Option ℕ) (program : BoxProgram) (number : ℕ) (rule : RuleC) : Type 0 where
  pub place : ℕ
  pub begins : slice_get program.rules number ≡ Some place
  pub stands : RuleStands program.code.words entry rule place

-- so does the handler for the exception
pub record HasHandler (entry : ℕ → Option ℕ) (program : BoxProgram) (exn : ℕ) (handler : HandC) : Type 0 where
  pub place : ℕ
  pub begins : slice_get program.handlers exn ≡ Some place
  pub stands : HandlerStands program.code.words entry handler place

-- the handler of the box for an exception
abbrev pub handler_of : BoxC → ℕ → Option HandC
handler_of b exn = find (λ (handler : HandC). handler.exn == exn) b.handlers

-- Each rule and each handler of the box stands in the program's code, with the functions that they call, and the bounds are
-- those of the box.
pub record RepresentsBox (core : Core) (b : BoxC) (program : BoxProgram) : Type 0 where
  pub entry : ℕ → Option ℕ
  pub functions : FunctionsStand program.code.words entry core
  pub rules : (number : ℕ) (rule : RuleC) → slice_get b.rules number ≡ Some rule → HasRule entry program number rule
  pub handlers : (exn : ℕ) (handler : HandC) → handler_of b exn ≡ Some handler → HasHandler entry program exn handler
  pub others : (exn : ℕ) → exn < length core.exns → handler_of b exn ≡ None → slice_get program.handlers exn ≡ Some (length program.code.words)
  pub outs : program.outs ≡ port_types b.outs
  pub heap : program.heap ≡ (box_bound core b).heap
  pub stack : program.stack ≡ (box_bound core b).stack
  pub work : program.work ≡ (box_bound core b).work
