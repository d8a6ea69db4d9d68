-- What the proofs of a run use of an engine besides its contracts.
use Rattle.std.proofs.Common.{◌≡◌, ℕ, [], refl}
use Rattle.phase_workers.specs.Engines.{EngineView as Engine}
use Rattle.phase_workers.specs.Engines.{queue_at}

-- the values that a queue holds are told by the state alone
pub queues_show_no_values : (engine : Engine) (n : ℕ) → (queue_at engine n).values ≡ []
queues_show_no_values engine n = refl
