-- Steps of the port at a place: taken apart, weakened, and cut in two.
use Rattle.std.proofs.Common.{◌≡◌, ℕ, List, [], ◌∷◌, refl, zero, suc}
use Rattle.hume_ports.specs.Port.{PortView}
use Rattle.hume_ports.specs.Ports.{StepAt}

-- what each such step is, the step at the place is
pub step_weaken : (olds news : List PortView) (at : ℕ) (step other : PortView → PortView → Type 0) → ((old new : PortView) → step old new → other old new)
    → StepAt olds news at step → StepAt olds news at other
step_weaken [] news at step other law s = absurd s
step_weaken (old ∷ olds) [] at step other law s = absurd s
step_weaken (old ∷ olds) (new ∷ news) zero step other law s = (law old new s.0, s.1)
step_weaken (old ∷ olds) (new ∷ news) (suc at) step other law s = (s.0, step_weaken olds news at step other law s.1)

-- the port at the place was this one and is that one
abbrev pub Becomes : PortView → PortView → PortView → PortView → Type 0
Becomes before after old new = (old ≡ before) × (new ≡ after)

-- the port before and after a step at a place
pub record Ends (step : PortView → PortView → Type 0) (olds news : List PortView) (at : ℕ) : Type 0 where
  pub before : PortView
  pub after : PortView
  pub steps : step before after
  pub becomes : StepAt olds news at (Becomes before after)

pub ends_of : (olds news : List PortView) (at : ℕ) (step : PortView → PortView → Type 0) → StepAt olds news at step → Ends step olds news at
ends_of [] news at step s = absurd s
ends_of (old ∷ olds) [] at step s = absurd s
ends_of (old ∷ olds) (new ∷ news) zero step s = record { before = old; after = new; steps = s.0; becomes = ((refl, refl), s.1) }
ends_of (old ∷ olds) (new ∷ news) (suc at) step s =
    let rest = ends_of olds news at step s.1 in
    record { before = rest.before; after = rest.after; steps = rest.steps; becomes = (s.0, rest.becomes) }

-- a step from one known port to another
pub becoming : (olds news : List PortView) (at : ℕ) (before after : PortView) (step : PortView → PortView → Type 0) → step before after
    → StepAt olds news at (Becomes before after) → StepAt olds news at step
becoming olds news at before after step is s =
    step_weaken olds news at (Becomes before after) step (λ old new e. rw (e.0, e.1) is) s

-- two steps at the place, by way of that port
pub record Cut (before mid after : PortView) (olds news : List PortView) (at : ℕ) : Type 0 where
  pub mids : List PortView
  pub one : StepAt olds mids at (Becomes before mid)
  pub two : StepAt mids news at (Becomes mid after)

pub between : (olds news : List PortView) (at : ℕ) (before mid after : PortView) → StepAt olds news at (Becomes before after)
    → Cut before mid after olds news at
between [] news at before mid after s = absurd s
between (old ∷ olds) [] at before mid after s = absurd s
between (old ∷ olds) (new ∷ news) zero before mid after s = record { mids = mid ∷ olds; one = ((s.0.0, refl), refl); two = ((refl, s.0.1), s.1) }
between (old ∷ olds) (new ∷ news) (suc at) before mid after s =
    let rest = between olds news at before mid after s.1 in
    record { mids = old ∷ rest.mids; one = (refl, rest.one); two = (s.0, rest.two) }

-- a step that changes nothing
pub nothing_at : (olds news : List PortView) (at : ℕ) → StepAt olds news at (λ old new. new ≡ old) → news ≡ olds
nothing_at [] news at s = absurd s
nothing_at (old ∷ olds) [] at s = absurd s
nothing_at (old ∷ olds) (new ∷ news) zero s = rw (s.0, s.1) refl
nothing_at (old ∷ olds) (new ∷ news) (suc at) s = rw (s.0, nothing_at olds news at s.1) refl
