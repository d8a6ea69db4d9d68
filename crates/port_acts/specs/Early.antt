-- How a call ends before it knows what it owes: it has read some ports, its source first, and written nothing.
use Rattle.std.specs.Prelude.{◌≡◌, ◌⊎◌, ℕ, List, [], ◌++◌, map}
use Rattle.hume_ports.specs.Port.{PortView}
use Rattle.hume_ports.specs.Delivery.{Pairs}
use Rattle.port_acts.specs.Acts.{Act, wants, written}
use Rattle.port_acts.specs.Ends.{Few, Made, Fails, Owed}

-- names of ports that are read whole, each with the number of bytes at which reading stops
abbrev pub Reads : Type 0
Reads = List (List ℕ × ℕ)

-- a want for each read
abbrev pub read_each : Reads → List Act
read_each reads = map (λ read. wants read.0 read.1) reads

-- the names of the reads
abbrev pub names_read : Reads → List (List ℕ)
names_read reads = map (λ read. read.0) reads

-- what a call owes, after the reads by which it came to know it
abbrev pub after_reads : {Status : Type 0} → Reads → Owed Status → Owed Status
after_reads reads owed = record { acts = read_each reads ++ owed.acts; answer = owed.answer }

-- Memory ran out when some of the acts had been made, in order, and nothing had been written.
pub record Stops (acts : List Act) (old new : List PortView) : Type 0 where
  pub before : List Act
  pub later : List Act
  pub in_order : acts ≡ before ++ later
  pub unwritten : written before ≡ []
  pub taken : Pairs
  pub made : Made before taken old new

-- The call has only read ports of these names: memory ran out, or one of the reads failed.
abbrev pub EndsEarly : {Status : Type 0} → Few → Reads → Status → Status → List PortView → List PortView → Status → Type 0
EndsEarly few reads no_memory fault old new status =
    ((status ≡ no_memory) × Stops (read_each reads) old new) ⊎ ((status ≡ fault) × Fails few [] (read_each reads) old new)
