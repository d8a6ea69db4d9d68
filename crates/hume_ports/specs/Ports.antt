-- A list of ports: which port a name means, and what a call of one of them leaves as it was.
use Rattle.std.specs.Prelude.{◌≡◌, ℕ, Bool, false, List, [], ◌∷◌, map, Option, None, Some, if◌then◌else◌, zero, suc, ⊤}
use Rattle.std.specs.Option.{option_map}
use Rattle.std.specs.List.{list_any}
use Rattle.std.specs.Str.{bytes_eq}
use Rattle.hume_ports.specs.Port.{PortView}

-- the names of the ports, in order
abbrev pub names : List PortView → List (List ℕ)
names ports = map (λ port. port.name) ports

-- the least place of that name
abbrev pub place_of : List ℕ → List (List ℕ) → Option ℕ
place_of name [] = None
place_of name (first ∷ others) = if bytes_eq first name then Some 0 else option_map suc (place_of name others)

-- The fact holds of the name whose first port stands at that place, if there is one.
abbrev pub ForNameAt : ℕ → List PortView → (List ℕ → Type 0) → Type 0
ForNameAt at ports fact = (name : List ℕ) → place_of name (names ports) ≡ Some at → fact name

-- a fact of the first port with that name, or else the value that is given
abbrev pub of_first : {X : Type 0} → X → (PortView → X) → List ℕ → List PortView → X
of_first default fact name [] = default
of_first default fact name (first ∷ others) =
    if bytes_eq first.name name then fact first else of_first default fact name others

-- the bytes left to read in the first port with that name, where it tells them
abbrev pub left_of : List ℕ → List PortView → Option (List ℕ)
left_of name ports = of_first None (λ port. port.left) name ports

-- whether the first port with that name is flushed
abbrev pub flushed_of : List ℕ → List PortView → Bool
flushed_of name ports = of_first false (λ port. port.flushed) name ports

-- Only the port at that place changes, and it by this step.
abbrev pub StepAt : List PortView → List PortView → ℕ → (PortView → PortView → Type 0) → Type 0
StepAt (old ∷ olds) (new ∷ news) zero step = step old new × (news ≡ olds)
StepAt (old ∷ olds) (new ∷ news) (suc at) step = (new ≡ old) × StepAt olds news at step
StepAt olds news at step = ⊥

-- whether the name is one of these
abbrev pub is_among : List ℕ → List (List ℕ) → Bool
is_among name others = list_any (bytes_eq name) others

-- these names but that one
abbrev pub other_names : List ℕ → List (List ℕ) → List (List ℕ)
other_names name [] = []
other_names name (other ∷ others) =
    if bytes_eq name other then other_names name others else other ∷ other_names name others

-- Each port but the first ones with these names is exactly as before. So behind the first port of a name the
-- other names count.
abbrev pub Untouched : List (List ℕ) → List PortView → List PortView → Type 0
Untouched touched [] [] = ⊤
Untouched touched (old ∷ olds) (new ∷ news) =
    (is_among old.name touched ≡ false → new ≡ old) × Untouched (other_names old.name touched) olds news
Untouched touched olds news = ⊥
