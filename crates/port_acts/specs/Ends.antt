-- How a call ends that owes a list of acts.
use Rattle.std.specs.Prelude.{◌≡◌, ◌⊎◌, ⊤, ℕ, false, true, List, [], ◌∷◌, ◌++◌, take, Option, None, Result, Ok, Err}
use Rattle.hume_ports.specs.declared.port.Failed.{Failed}
use Rattle.hume_ports.specs.Port.{PortView, Rose}
use Rattle.hume_ports.specs.Ports.{flushed_of, is_among, of_first, Untouched}
use Rattle.hume_ports.specs.Delivery.{Pairs, Progress, Failure, Roomy, bytes_for}
use Rattle.port_acts.specs.Acts.{Act, wants, writes, finishes, name_of, names_of, count_of, written, wanted, is_finished}

-- Nothing was taken from a port that the acts don't read.
abbrev pub OnlyWanted : List Act → Pairs → Type 0
OnlyWanted acts taken = (name : List ℕ) → is_among name (wanted acts) ≡ false → bytes_for name taken ≡ []

-- All of the acts were made: the bytes of `taken` were read by them, and no call has failed.
pub record Made (acts : List Act) (taken : Pairs) (old new : List PortView) : Type 0 where
  -- each port has what it had, followed by what the acts write to it, and no count of any port has changed
  pub progress : Progress old new taken (written acts)
  pub only_wanted : OnlyWanted acts taken
  -- a port that is finished, and not written to afterwards, is flushed
  pub flushed : (name : List ℕ) → is_finished name acts ≡ true → flushed_of name new ≡ true
  -- no port is touched that the acts don't name
  pub untouched : Untouched (names_of acts) old new

-- When a call that wants that number of values of a name has too few: the bytes are all that it has taken from the name.
abbrev pub Few : Type 1
Few = List ℕ → ℕ → List ℕ → Type 0

-- Never: of acts without wants.
abbrev pub never : Few
never name count bytes = ⊥

-- When no bytes have come: of a single read.
abbrev pub nothing : Few
nothing name count bytes = bytes ≡ []

-- If the act is a want, it has too few bytes.
abbrev pub IsFew : Few → Act → List ℕ → Type 0
IsFew few (wants name count) bytes = few name count bytes
IsFew few (writes name other) bytes = ⊤
IsFew few (finishes name) bytes = ⊤

-- What an act that failed has given: a write possibly a prefix of its bytes.
abbrev pub IsPart : Act → Pairs → Type 0
IsPart (wants name count) given = given ≡ []
IsPart (writes name bytes) given = (count : ℕ) × (given ≡ (name, take count bytes) ∷ [])
IsPart (finishes name) given = given ≡ []

-- One of the acts failed, when all before it had been made. The call had taken the bytes of `earlier` before the old ports.
pub record Fails (few : Few) (earlier : Pairs) (acts : List Act) (old new : List PortView) : Type 0 where
  pub before : List Act
  pub act : Act
  pub later : List Act
  pub in_order : acts ≡ before ++ act ∷ later
  -- the ports as the acts before it left them
  pub mid : List PortView
  pub taken : Pairs
  pub made : Made before taken old mid
  -- what it read and gave before it failed; a count of its port has risen, and no other port is touched
  pub read : Pairs
  pub only_wanted : OnlyWanted (act ∷ []) read
  pub given : Pairs
  pub part : IsPart act given
  pub failure : Failure (count_of act) (name_of act) mid new read given
  pub is_few : IsFew few act (bytes_for (name_of act) (earlier ++ (taken ++ read)))
  pub alone : Untouched (name_of act ∷ []) mid new
  -- where each port has room for what is written to it, no call fails
  pub no_room : Roomy old (written acts) → ⊥

-- The acts were made, or one of them failed.
abbrev pub Ends : {T : Type 0} → Few → Pairs → List Act → Pairs → List PortView → List PortView → Result T Failed → Type 0
Ends few earlier acts taken old new (Ok value) = Made acts taken old new
Ends few earlier acts taken old new (Err failed) = Fails few earlier acts old new

-- What a call owes: acts, and an answer once they are made.
pub record Owed (Status : Type 0) : Type 0 where
  pub acts : List Act
  pub answer : Status

-- The call gives the owed answer and has made all acts, or it tells a fault and one of them failed.
abbrev pub EndsAs : {Status : Type 0} → Few → Owed Status → Status → List PortView → List PortView → Status → Type 0
EndsAs few owed fault old new status =
    ((status ≡ owed.answer) × (taken : Pairs) × Made owed.acts taken old new) ⊎ ((status ≡ fault) × Fails few [] owed.acts old new)

-- what the laws speak of

-- No such count of any port has risen.
abbrev pub NoneRose : (PortView → ℕ) → List PortView → List PortView → Type 0
NoneRose count old new = (name : List ℕ) → Rose (of_first 0 count name old) (of_first 0 count name new) → ⊥

-- the bytes written so far to the first port with that name, where it tells them
abbrev pub bytes_of : List ℕ → List PortView → Option (List ℕ)
bytes_of name ports = of_first None (λ port. port.bytes) name ports
