-- The search for the first port of a name.
use Rattle.std.proofs.Common.{◌≡◌, ℕ, ◌<◌, ◌+◌, List, [], ◌∷◌, length, map, get_or, Some, None, refl, arith, true, false, below_more, subst, zero, suc, ap}
use Rattle.std.specs.Option.{option_map}
use Rattle.std.specs.Str.{bytes_eq}
use Rattle.std.proofs.lemmas.List.{get_or-map, length-map}
use Rattle.hume_ports.specs.Port.{PortView}
use Rattle.hume_ports.specs.Ports.{place_of, names}

-- no port before that place has the name
abbrev pub NoneBefore : List ℕ → List PortView → ℕ → Type 0
NoneBefore name ports at = (k : ℕ) (d : PortView) → k < at → bytes_eq (get_or ports k d).name name ≡ false

place_found : (name : List ℕ) (ports : List PortView) (at : ℕ) (port : PortView) → NoneBefore name ports at → at < length ports → bytes_eq (get_or ports at port).name name ≡ true → Some at ≡ place_of name (names ports)
place_found name [] at port before h is = absurd (omega arith)
place_found name (first ∷ others) zero port before h is = rw is refl
place_found name (first ∷ others) (suc at) port before h is =
    rw (before 0 port (omega arith)) (ap (option_map suc) (place_found name others at port (λ k d below. before (suc k) d (omega arith)) (omega arith) is))

place_missing : (name : List ℕ) (ports : List PortView) → NoneBefore name ports (length ports) → None ≡ place_of name (names ports)
place_missing name [] before = refl
place_missing name (first ∷ others) before =
    rw (before 0 first (omega arith)) (ap (option_map suc) (place_missing name others (λ k d below. before (suc k) d (omega arith))))

-- the port at a place has the name, and none before it
pub found : {D : Type 0} (view : D → PortView) (ports : List D) (name : List ℕ) (at : ℕ) (port : D) → NoneBefore name (map view ports) at → at < length ports → port ≡ get_or ports at port → bytes_eq (view port).name name ≡ true → Some at ≡ place_of name (names (map view ports))
found {D} view ports name at port before h item is =
    let P : D → Type 0 = λ x. bytes_eq (view x).name name ≡ true in
    place_found name (map view ports) at (view port) before (simp length-map h) (rw (get_or-map view ports at port (view port) h) (subst P item is))

-- nor has the port at the next place
pub passed : {D : Type 0} (view : D → PortView) (ports : List D) (name : List ℕ) (at : ℕ) (port : D) → NoneBefore name (map view ports) at → at < length ports → port ≡ get_or ports at port → bytes_eq (view port).name name ≡ false → NoneBefore name (map view ports) (at + 1)
passed {D} view ports name at port before h item isnt k d below =
    let P : D → Type 0 = λ x. bytes_eq (view x).name name ≡ false in
    below_more (λ j. bytes_eq (get_or (map view ports) j d).name name ≡ false) at (λ j. before j d) (rw (get_or-map view ports at port d h) (subst P item isnt)) k below

pub missing : {D : Type 0} (view : D → PortView) (ports : List D) (name : List ℕ) (at : ℕ) → NoneBefore name (map view ports) at → at ≡ length ports → None ≡ place_of name (names (map view ports))
missing view ports name at before e =
    let P : ℕ → Type 0 = NoneBefore name (map view ports) in
    let whole : at ≡ length (map view ports) = simp length-map e in
    place_missing name (map view ports) (subst P whole before)
