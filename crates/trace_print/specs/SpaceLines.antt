-- The lines that tell the bounds of boxes, each with its newline.
use Rattle.std.specs.Prelude.{ℕ, ◌<◌, ◌^◌, List, [], ◌∷◌, ◌++◌, codes, decimal}
use Rattle.box_costs.specs.declared.cost.Cost.{Cost}

-- a number behind its label
abbrev pub counted : List ℕ → ℕ → List ℕ
counted label count = label ++ decimal count

-- box NAME heap H stack S work W
abbrev pub space_line : List ℕ → Cost → List ℕ
space_line name bound =
    codes "box " ++ name ++ counted (codes " heap ") bound.heap ++ counted (codes " stack ") bound.stack ++ counted (codes " work ") bound.work ++ 10 ∷ []

-- total heap H stack S
abbrev pub total_line : ℕ → ℕ → List ℕ
total_line heap stack = counted (codes "total heap ") heap ++ counted (codes " stack ") stack ++ 10 ∷ []

-- each part is a number of 32 bits
pub record AreNumbers (bound : Cost) : Type 0 where
  pub heap : bound.heap < 2 ^ 32
  pub stack : bound.stack < 2 ^ 32
  pub work : bound.work < 2 ^ 32
