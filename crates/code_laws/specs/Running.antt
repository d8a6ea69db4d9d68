-- What a machine comes to where code stands: with which outcome, and at which cost.
use Rattle.std.specs.Prelude.{◌≡◌, ℕ, ◌+◌, ◌≤◌, max, List, [], ◌∷◌, ◌++◌, Option, Some, None}
use Rattle.hume_base.specs.declared.types.Value.{Value}
use Rattle.hume_model.specs.declared.outcome.Outcome.{Outcome}
use Rattle.hume_model.specs.declared.outcome.Outcome.TheVariants.{Gives, Raises}
use Rattle.box_costs.specs.declared.cost.Cost.{Cost}
use Rattle.box_costs.specs.Spending.{Spent}
use Rattle.box_heap.specs.Heaps.{Object}
use Rattle.box_heap.specs.Standing.{Stands}
use Rattle.box_code.specs.Machine.{Setting, Machine, Goes, used, run}

-- after so many instructions the machine is so
pub record Comes (s : Setting) (m n : Machine) (count : ℕ) : Type 0 where
  pub leads : run s count m ≡ Goes n

-- the machine at a place, with these words on the stack, more objects, and a stack that was so high
abbrev pub later : Machine → ℕ → List ℕ → List Object → ℕ → Machine
later m to stack more peak =
    record { at = to; stack = stack; peak = max m.peak peak; objects = m.objects ++ more; outs = m.outs; raised = m.raised }

-- the machine at the handler, with what the exception carries
abbrev pub thrown : Setting → Machine → ℕ → ℕ → List Object → ℕ → Machine
thrown s m exn word more peak = record {
  at = s.handlers exn;
  stack = word ∷ [];
  peak = max m.peak peak;
  objects = m.objects ++ more;
  outs = m.outs;
  raised = Some exn;
}

-- A word for the value comes on the words below. So much was spent: on a stack that was so high, in new objects, and by
-- exactly so many instructions.
pub record Gave (s : Setting) (m : Machine) (base : List ℕ) (high to : ℕ) (value : Value) (cost : Cost) : Type 0 where
  pub word : ℕ
  pub more : List Object
  pub size : used more ≡ cost.heap
  pub top : 1 ≤ cost.stack
  pub stands : Stands (m.objects ++ more) value word
  pub comes : Comes s m (later m to (base ++ word ∷ []) more (high + cost.stack)) cost.work

-- a word for what an exception carries, or 0
abbrev pub StandsFor : List Object → Option Value → ℕ → Type 0
StandsFor objects None word = word ≡ 0
StandsFor objects (Some value) word = Stands objects value word

-- the machine is at the handler, with a word for what the exception carries
pub record Threw (s : Setting) (m : Machine) (high exn : ℕ) (carried : Option Value) (cost : Cost) : Type 0 where
  pub word : ℕ
  pub more : List Object
  pub size : used more ≡ cost.heap
  pub top : 1 ≤ max m.peak (high + cost.stack)
  pub stands : StandsFor (m.objects ++ more) carried word
  pub comes : Comes s m (thrown s m exn word more (high + cost.stack)) cost.work

abbrev pub Runs : Setting → Machine → List ℕ → ℕ → ℕ → Outcome → Cost → Type 0
Runs s m base high to (Gives value) cost = Gave s m base high to value cost
Runs s m base high to (Raises exn carried) cost = Threw s m high exn carried cost

-- the same with what is spent
abbrev pub RunsSpent : Setting → Machine → List ℕ → ℕ → ℕ → Spent Outcome → Type 0
RunsSpent s m base high to spent = Runs s m base high to spent.outcome spent.cost
