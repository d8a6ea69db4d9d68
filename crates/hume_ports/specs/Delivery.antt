-- What calls of several ports add up to: the bytes that each gave and got, while no call failed and after one did.
use Rattle.std.specs.Prelude.{◌≡◌, ◌+◌, ◌≤◌, ℕ, true, false, List, [], ◌∷◌, ◌++◌, map, Some, if◌then◌else◌, ⊤, length}
use Rattle.std.specs.Str.{bytes_eq}
use Rattle.std.specs.Io.KnownBytes.{Appends, Consumes}
use Rattle.hume_ports.specs.Port.{PortView, Rose}
use Rattle.hume_ports.specs.Ports.{names, of_first, flushed_of, is_among}

-- names, each with bytes of the port that it means, in the order of the calls
abbrev pub Pairs : Type 0
Pairs = List (List ℕ × List ℕ)

-- the bytes of the pairs with that name, in order
abbrev pub bytes_for : List ℕ → Pairs → List ℕ
bytes_for name [] = []
bytes_for name (pair ∷ pairs) =
    if bytes_eq name pair.0 then pair.1 ++ bytes_for name pairs else bytes_for name pairs

-- the pairs with other names
abbrev pub without : List ℕ → Pairs → Pairs
without name [] = []
without name (pair ∷ pairs) =
    if bytes_eq name pair.0 then without name pairs else pair ∷ without name pairs

-- Each port moves from the old to the new by the bytes of the pairs with its name, in order. Of ports with one
-- name the first has them, and the others none.
abbrev pub EachPort : (PortView → PortView → List ℕ → Type 0) → List PortView → List PortView → Pairs → Type 0
EachPort moves [] [] pairs = ⊤
EachPort moves (old ∷ olds) (new ∷ news) pairs =
    moves old new (bytes_for old.name pairs) × EachPort moves olds news (without old.name pairs)
EachPort moves olds news pairs = ⊥

-- Each port has what it had, followed by the bytes of the pairs with its name, in order. Nothing is said of a
-- port that doesn't tell its bytes.
abbrev pub Delivered : List PortView → List PortView → Pairs → Type 0
Delivered olds news pairs = EachPort (λ old new bytes. Appends old.bytes new.bytes bytes) olds news pairs

-- Each port has lost the bytes of the pairs with its name, in order, from the front of what it had left. Nothing
-- is said of a port that doesn't tell what it has left.
abbrev pub Drawn : List PortView → List PortView → Pairs → Type 0
Drawn olds news pairs = EachPort (λ old new bytes. Consumes old.left new.left bytes) olds news pairs

-- No count of any port has changed.
pub record SameFaults (old new : List PortView) : Type 0 where
  pub reads : map (λ port. port.read_faults) new ≡ map (λ port. port.read_faults) old
  pub writes : map (λ port. port.write_faults) new ≡ map (λ port. port.write_faults) old
  pub finishes : map (λ port. port.finish_faults) new ≡ map (λ port. port.finish_faults) old

-- the names of the pairs
abbrev pub names_in : Pairs → List (List ℕ)
names_in pairs = map (λ pair. pair.0) pairs

-- The first port of a name that was flushed, and to which none of the pairs went, is flushed still.
abbrev pub StaysFlushed : List PortView → List PortView → Pairs → Type 0
StaysFlushed old new given =
    (name : List ℕ) → is_among name (names_in given) ≡ false
    → flushed_of name old ≡ true → flushed_of name new ≡ true

-- No call has failed since the old ports. The bytes of `taken` were read from them, and those of `given` written.
pub record Progress (old new : List PortView) (taken given : Pairs) : Type 0 where
  pub same_names : names new ≡ names old
  pub same_rooms : map (λ port. port.room) new ≡ map (λ port. port.room) old
  pub same_faults : SameFaults old new
  pub drawn : Drawn old new taken
  pub delivered : Delivered old new given
  pub flushed : StaysFlushed old new given

-- A call on the first port with that name has failed, and this count of it has risen. Until then the bytes of
-- `taken` were read from the ports, and those of `given` written.
pub record Failure (count : PortView → ℕ) (name : List ℕ) (old new : List PortView) (taken given : Pairs)
    : Type 0 where
  pub same_names : names new ≡ names old
  pub rose : Rose (of_first 0 count name old) (of_first 0 count name new)
  pub drawn : Drawn old new taken
  pub delivered : Delivered old new given

-- A read of the first port with that name has failed.
abbrev pub ReadFailure : List ℕ → List PortView → List PortView → Pairs → Pairs → Type 0
ReadFailure name old new taken given = Failure (λ port. port.read_faults) name old new taken given

-- A write to the first port with that name has failed.
abbrev pub WriteFailure : List ℕ → List PortView → List PortView → Pairs → Pairs → Type 0
WriteFailure name old new taken given = Failure (λ port. port.write_faults) name old new taken given

-- A finish of the first port with that name has failed.
abbrev pub FinishFailure : List ℕ → List PortView → List PortView → Pairs → Pairs → Type 0
FinishFailure name old new taken given = Failure (λ port. port.finish_faults) name old new taken given

-- The port tells its bytes and a room, and so many more bytes go into it.
pub record HasRoom (port : PortView) (more : ℕ) : Type 0 where
  pub room : ℕ
  pub bytes : List ℕ
  pub told_room : port.room ≡ Some room
  pub told_bytes : port.bytes ≡ Some bytes
  pub fits : length bytes + more ≤ room

-- Each port has room for the bytes of the pairs with its name, of ports with one name the first.
abbrev pub Roomy : List PortView → Pairs → Type 0
Roomy [] pairs = ⊤
Roomy (port ∷ ports) pairs =
    HasRoom port (length (bytes_for port.name pairs)) × Roomy ports (without port.name pairs)
