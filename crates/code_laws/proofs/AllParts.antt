-- What a machine comes to where the code of several parts stands.
use Rattle.std.specs.Prelude.{◌≡◌, ℕ, ◌+◌, ◌≤◌, List, ◌++◌, length}
use Rattle.hume_base.specs.declared.types.Value.{Value}
use Rattle.hume_model.specs.declared.outcome.Several.{Several}
use Rattle.hume_model.specs.declared.outcome.Several.TheVariants.{All, Raised}
use Rattle.box_costs.specs.declared.cost.Cost.{Cost}
use Rattle.box_heap.specs.Heaps.{Object}
use Rattle.box_heap.specs.Standing.{AllStand}
use Rattle.box_code.specs.Machine.{Setting, Machine, used}
use Rattle.code_laws.specs.Running.{Comes, later, Threw}

-- words for the values come on the words below
pub record GaveAll (s : Setting) (m : Machine) (base : List ℕ) (high to : ℕ) (values : List Value) (cost : Cost) : Type 0 where
  pub words : List ℕ
  pub more : List Object
  pub size : used more ≡ cost.heap
  pub top : length words ≤ cost.stack
  pub stands : AllStand (m.objects ++ more) values words
  pub comes : Comes s m (later m to (base ++ words) more (high + cost.stack)) cost.work

abbrev pub RunAll : Setting → Machine → List ℕ → ℕ → ℕ → Several → Cost → Type 0
RunAll s m base high to (All values) cost = GaveAll s m base high to values cost
RunAll s m base high to (Raised exn carried) cost = Threw s m high exn carried cost
