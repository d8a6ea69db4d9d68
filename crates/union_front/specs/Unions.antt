-- The union of accepted programs, and when it passes a limit.
use Rattle.std.specs.Prelude.{◌≡◌, ◌⊎◌, ⊤, ℕ, ◌+◌, List, [], ◌∷◌, map, None}
use Rattle.hume_base.specs.Least.{IsLeast}
use Rattle.hume_model.specs.declared.core_tree.Core.{Core}
use Rattle.hume_model.specs.HandlerRules.{BreaksHandlers}
use Rattle.hume_model.specs.WellFormed.{IsWellFormed}
use Rattle.hume_model.specs.WireRules.{BreaksWires}
use Rattle.hume_net.specs.StatePlaces.{BoxesHandleAll}
use Rattle.hume_text.specs.Names.{HaveNames}
use Rattle.box_costs.specs.CostRules.{BreaksCosts}
use Rattle.space_costs.specs.NodeCosts.{AreCosts}
use Rattle.wiring_check.specs.Wires.{IsWiringOf}
use Rattle.hume_front.specs.declared.acceptance.Accepted.{Accepted}
use Rattle.phase_workers.specs.Runnable.{IsRunnable}
use Rattle.union_laws.specs.Room.{HasRoom}
use Rattle.union_laws.specs.Union.{no_program, united}
use Rattle.union_front.specs.declared.union.Union.{Union}

abbrev pub core_of : Accepted → Core
core_of program = program.core

-- the core of the first program
abbrev pub first_of : List Accepted → Core
first_of [] = no_program
first_of (program ∷ others) = program.core

-- those of the others
abbrev pub others_of : List Accepted → List Core
others_of [] = []
others_of (program ∷ others) = map core_of others

-- The core is well-formed and breaks no rule on wires and handlers, and its constructors have names. Cores of accepted sources are so.
pub record IsSound (core : Core) : Type 0 where
  pub formed : IsWellFormed core
  pub wires : IsLeast (BreaksWires core) None
  pub handlers : IsLeast (BreaksHandlers core) None
  pub names : HaveNames core.types

abbrev pub IsSoundProgram : Accepted → Type 0
IsSoundProgram program = IsSound program.core

-- The union has no more of anything than a program may have, and its boxes no greater bounds.
pub record IsInLimits (core : Core) : Type 0 where
  pub room : HasRoom core
  pub bounds : IsLeast (BreaksCosts core) None

-- No limit is passed with any of these behind a core.
abbrev pub StaysWithin : Core → List Core → Type 0
StaysWithin core [] = ⊤
StaysWithin core (next ∷ later) = IsInLimits (united core next) × StaysWithin (united core next) later

-- The program of that place is the first at which a limit is passed: of these behind a core, the first of which has the place `from`.
abbrev pub PassesAt : Core → List Core → ℕ → ℕ → Type 0
PassesAt core [] from place = ⊥
PassesAt core (next ∷ later) from place =
    ((place ≡ from) × (IsInLimits (united core next) → ⊥)) ⊎ (IsInLimits (united core next) × PassesAt (united core next) later (from + 1) place)

-- The union is that core, which can be run, with its wiring and its bounds.
pub record IsUnion (core : Core) (union : Union) : Type 0 where
  pub is_core : union.core ≡ core
  pub sound : IsSound core
  pub runnable : IsRunnable core
  pub handles : BoxesHandleAll core
  pub wiring : IsWiringOf core union.wiring
  pub costs : AreCosts core union.costs
  pub limits : IsInLimits core
