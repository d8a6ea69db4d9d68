-- Acts that go on by rounds, each of which reads first and then writes.
use Rattle.std.specs.Prelude.{◌≡◌, ℕ, List, ◌∷◌, ◌++◌}
use Rattle.std.specs.List.{flat_map}
use Rattle.port_acts.specs.Acts.{Act, written}

-- the reads and the writes of these rounds, by the acts of each
abbrev pub round_acts : (ℕ → List Act) → (ℕ → List Act) → List ℕ → List Act
round_acts reading writing rounds = flat_map (λ round. reading round ++ writing round) rounds

-- The act is among the reads of one of the rounds, and before it exactly the earlier rounds have written.
pub record StandsInRound (reading writing : ℕ → List Act) (rounds : List ℕ) (before : List Act) (act : Act) : Type 0 where
  pub earlier : List ℕ
  pub round : ℕ
  pub later : List ℕ
  pub in_order : rounds ≡ earlier ++ round ∷ later
  pub read : List Act
  pub unread : List Act
  pub is : reading round ≡ read ++ act ∷ unread
  pub wrote : written before ≡ flat_map (λ done. written (writing done)) earlier
