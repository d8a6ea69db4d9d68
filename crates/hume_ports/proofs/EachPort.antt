-- Moves of each port by the bytes of its pairs: none, one after another, and those of one call.
use Rattle.std.proofs.Common.{◌≡◌, ℕ, List, [], ◌∷◌, ◌++◌, refl, zero, suc, true, false, Some, append-nil, subst, inl, inr}
use Rattle.std.specs.Str.{bytes_eq}
use Rattle.std.proofs.lemmas.Bool.{cases_Bool}
use Rattle.hume_ports.specs.Port.{PortView}
use Rattle.hume_ports.specs.Ports.{StepAt, place_of, names, of_first}
use Rattle.hume_ports.specs.Delivery.{Pairs, EachPort, bytes_for, without}
use Rattle.hume_ports.proofs.Names.{place-zero, place-suc, bytes_for-append, without-append, bytes_for-without, same_name, bytes_eq-swap}

-- a port moves by no bytes where it stays
abbrev pub Stays : (PortView → PortView → List ℕ → Type 0) → Type 0
Stays moves = (port : PortView) → moves port port []

-- moves in turn are one by the bytes in turn
abbrev pub Joins : (PortView → PortView → List ℕ → Type 0) → Type 0
Joins moves = (old mid new : PortView) (x y : List ℕ) → moves old mid x → moves mid new y → moves old new (x ++ y)

pub EachPort-nothing : (moves : PortView → PortView → List ℕ → Type 0) → Stays moves → (ports : List PortView) → EachPort moves ports ports []
EachPort-nothing moves stays [] = tt
EachPort-nothing moves stays (port ∷ ports) = (stays port, EachPort-nothing moves stays ports)

-- what moves in turn moves together
pub EachPort-on : (moves : PortView → PortView → List ℕ → Type 0) → Joins moves → (olds mids news : List PortView) (ps qs : Pairs) → EachPort moves olds mids ps → names mids ≡ names olds → EachPort moves mids news qs → EachPort moves olds news (ps ++ qs)
EachPort-on moves joins [] [] [] ps qs d same e = tt
EachPort-on moves joins [] [] (new ∷ news) ps qs d same e = absurd e
EachPort-on moves joins [] (mid ∷ mids) news ps qs d same e = absurd d
EachPort-on moves joins (old ∷ olds) [] news ps qs d same e = absurd d
EachPort-on moves joins (old ∷ olds) (mid ∷ mids) [] ps qs d same e = absurd e
EachPort-on moves joins (old ∷ olds) (mid ∷ mids) (new ∷ news) ps qs d same e =
    let name : mid.name ≡ old.name = cc in
    let tails : names mids ≡ names olds = cc in
    let P : List ℕ → Type 0 = λ n. moves mid new (bytes_for n qs) in
    let Q : List ℕ → Type 0 = λ n. EachPort moves mids news (without n qs) in (
      rw (bytes_for-append old.name ps qs) (joins old mid new (bytes_for old.name ps) (bytes_for old.name qs) d.0 (subst P name e.0)),
      rw (without-append old.name ps qs) (EachPort-on moves joins olds mids news (without old.name ps) (without old.name qs) d.1 tails (subst Q name e.1)),
    )

-- a step of the first port of a name moves it by a pair
pub EachPort-one : (moves : PortView → PortView → List ℕ → Type 0) → Stays moves → (olds news : List PortView) (name bytes : List ℕ) (at : ℕ) (step : PortView → PortView → Type 0) → ((old new : PortView) → step old new → moves old new bytes) → place_of name (names olds) ≡ Some at → StepAt olds news at step → EachPort moves olds news ((name, bytes) ∷ [])
EachPort-one moves stays [] news name bytes at step law e s = absurd s
EachPort-one moves stays (old ∷ olds) [] name bytes at step law e s = absurd s
EachPort-one moves stays (old ∷ olds) (new ∷ news) name bytes zero step law e s =
    let here = place-zero (bytes_eq old.name name) (place_of name (names olds)) e in
    (rw (here, append-nil) (law old new s.0), rw (here, s.1) (EachPort-nothing moves stays olds))
EachPort-one moves stays (old ∷ olds) (new ∷ news) name bytes (suc at) step law e s =
    let behind = place-suc (bytes_eq old.name name) (place_of name (names olds)) at e in
    (rw (behind.0, s.0) (stays old), rw behind.0 (EachPort-one moves stays olds news name bytes at step law behind.1 s.1))

-- a step by no bytes
pub EachPort-kept : (moves : PortView → PortView → List ℕ → Type 0) → Stays moves → (olds news : List PortView) (at : ℕ) (step : PortView → PortView → Type 0) → ((old new : PortView) → step old new → moves old new []) → StepAt olds news at step → EachPort moves olds news []
EachPort-kept moves stays [] news at step law s = absurd s
EachPort-kept moves stays (old ∷ olds) [] at step law s = absurd s
EachPort-kept moves stays (old ∷ olds) (new ∷ news) zero step law s = (law old new s.0, rw s.1 (EachPort-nothing moves stays olds))
EachPort-kept moves stays (old ∷ olds) (new ∷ news) (suc at) step law s = (rw s.0 (stays old), EachPort-kept moves stays olds news at step law s.1)

-- the pairs have the same bytes for each name
abbrev pub SameBytes : Pairs → Pairs → Type 0
SameBytes ps qs = (name : List ℕ) → bytes_for name ps ≡ bytes_for name qs

SameBytes-without : (other : List ℕ) (ps qs : Pairs) → SameBytes ps qs → SameBytes (without other ps) (without other qs)
SameBytes-without other ps qs same name = rw (bytes_for-without name other ps, bytes_for-without name other qs, same name) refl

-- only the bytes for each name count, and not how they are cut into pairs or in which order the names come
pub EachPort-same : (moves : PortView → PortView → List ℕ → Type 0) (olds news : List PortView) (ps qs : Pairs) → SameBytes ps qs → EachPort moves olds news ps → EachPort moves olds news qs
EachPort-same moves [] [] ps qs same d = tt
EachPort-same moves [] (new ∷ news) ps qs same d = absurd d
EachPort-same moves (old ∷ olds) [] ps qs same d = absurd d
EachPort-same moves (old ∷ olds) (new ∷ news) ps qs same d =
    let P : List ℕ → Type 0 = λ bytes. moves old new bytes in
    (subst P (same old.name) d.0, EachPort-same moves olds news (without old.name ps) (without old.name qs) (SameBytes-without old.name ps qs same) d.1)

-- how the first port of a name moves
pub EachPort-first : {X : Type 0} (default : X) (fact : PortView → X) (P : X → X → List ℕ → Type 0) → ((bytes : List ℕ) → P default default bytes) → (olds news : List PortView) (name : List ℕ) (pairs : Pairs) → names news ≡ names olds → EachPort (λ old new bytes. P (fact old) (fact new) bytes) olds news pairs → P (of_first default fact name olds) (of_first default fact name news) (bytes_for name pairs)
EachPort-first default fact P nowhere [] [] name pairs same d = nowhere (bytes_for name pairs)
EachPort-first default fact P nowhere [] (new ∷ news) name pairs same d = absurd d
EachPort-first default fact P nowhere (old ∷ olds) [] name pairs same d = absurd d
EachPort-first default fact P nowhere (old ∷ olds) (new ∷ news) name pairs same d =
    let name-is : new.name ≡ old.name = cc in
    let tails : names news ≡ names olds = cc in
    elim (cases_Bool (bytes_eq old.name name)) [
      | inl here ↦
          let still : bytes_eq new.name name ≡ true = rw name-is here in
          let Q : List ℕ → Type 0 = λ n. P (fact old) (fact new) (bytes_for n pairs) in
          rw (here, still) (subst Q (same_name old.name name here) d.0)
      | inr behind ↦
          let still : bytes_eq new.name name ≡ false = rw name-is behind in
          let Q : List ℕ → Type 0 = λ bytes. P (of_first default fact name olds) (of_first default fact name news) bytes in
          let rest : bytes_for name (without old.name pairs) ≡ bytes_for name pairs = rw (bytes_for-without name old.name pairs, bytes_eq-swap old.name name behind) refl in
          rw (behind, still) (subst Q rest (EachPort-first default fact P nowhere olds news name (without old.name pairs) tails d.1))
    ]
