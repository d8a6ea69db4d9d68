-- What a step of one port does in the list of all ports.
use Rattle.std.proofs.Common.{◌≡◌, ℕ, ◌<◌, List, [], ◌∷◌, length, map, get_or, true, false, cond, Some, refl, ap, arith, zero, suc}
use Rattle.std.specs.Str.{bytes_eq}
use Rattle.std.proofs.Math.ListN.{set}
use Rattle.hume_ports.specs.Port.{PortView}
use Rattle.hume_ports.specs.Ports.{StepAt, names, place_of, of_first}
use Rattle.hume_ports.proofs.Names.{place-zero, place-suc}

-- a step of the box at a place is one of the view at that place
pub step_at : {D : Type 0} (view : D → PortView) (ports : List D) (at : ℕ) (port after : D) (step : PortView → PortView → Type 0) → at < length ports → step (view (get_or ports at port)) (view after) → StepAt (map view ports) (map view (set ports at after)) at step
step_at view [] at port after step h s = absurd (omega arith)
step_at view (first ∷ others) zero port after step h s = (s, refl)
step_at view (first ∷ others) (suc at) port after step h s = (refl, step_at view others at port after step (omega arith) s)

-- what each step keeps is kept in the whole list
pub step_same : {X : Type 0} (fact : PortView → X) (olds news : List PortView) (at : ℕ) (step : PortView → PortView → Type 0) → ((old new : PortView) → step old new → fact new ≡ fact old) → StepAt olds news at step → map fact news ≡ map fact olds
step_same fact [] news at step same s = absurd s
step_same fact (old ∷ olds) [] at step same s = absurd s
step_same fact (old ∷ olds) (new ∷ news) zero step same s = rw (same old new s.0, s.1) refl
step_same fact (old ∷ olds) (new ∷ news) (suc at) step same s = rw (s.0, step_same fact olds news at step same s.1) refl

-- what a step does to the first port of a name, if it stands at the step's place
pub of_first-step : {X : Type 0} (default : X) (fact : PortView → X) (name : List ℕ) (olds news : List PortView) (at : ℕ) (step : PortView → PortView → Type 0) (P : X → X → Type 0) → ((old new : PortView) → step old new → P (fact old) (fact new)) → ((old new : PortView) → step old new → new.name ≡ old.name) → place_of name (names olds) ≡ Some at → StepAt olds news at step → P (of_first default fact name olds) (of_first default fact name news)
of_first-step default fact name [] news at step P law same e s = absurd s
of_first-step default fact name (old ∷ olds) [] at step P law same e s = absurd s
of_first-step default fact name (old ∷ olds) (new ∷ news) zero step P law same e s =
    let here : bytes_eq old.name name ≡ true = place-zero (bytes_eq old.name name) (place_of name (names olds)) e in
    let still : bytes_eq new.name name ≡ true = rw (same old new s.0) here in
    rw (still, here) (law old new s.0)
of_first-step default fact name (old ∷ olds) (new ∷ news) (suc at) step P law same e s =
    let behind = place-suc (bytes_eq old.name name) (place_of name (names olds)) at e in
    rw (s.0, behind.0) (of_first-step default fact name olds news at step P law same behind.1 s.1)

-- what a step does to the first port of any name
pub of_first-any_step : {X : Type 0} (default : X) (fact : PortView → X) (name : List ℕ) (olds news : List PortView) (at : ℕ) (step : PortView → PortView → Type 0) (P : X → X → Type 0) → ((x : X) → P x x) → ((old new : PortView) → step old new → P (fact old) (fact new)) → ((old new : PortView) → step old new → new.name ≡ old.name) → StepAt olds news at step → P (of_first default fact name olds) (of_first default fact name news)
of_first-any_step default fact name [] news at step P stays law same s = absurd s
of_first-any_step default fact name (old ∷ olds) [] at step P stays law same s = absurd s
of_first-any_step {X} default fact name (old ∷ olds) (new ∷ news) zero step P stays law same s =
    let rest : X = of_first default fact name olds in
    let still : bytes_eq new.name name ≡ bytes_eq old.name name = ap (λ n. bytes_eq n name) (same old new s.0) in
    rw (still, s.1) (elim (bytes_eq old.name name) as (λ b. P (cond b (fact old) rest) (cond b (fact new) rest)) [ true ↦ law old new s.0 | false ↦ stays rest ])
of_first-any_step {X} default fact name (old ∷ olds) (new ∷ news) (suc at) step P stays law same s =
    let rest : P (of_first default fact name olds) (of_first default fact name news) = of_first-any_step default fact name olds news at step P stays law same s.1 in
    rw s.0 (elim (bytes_eq old.name name) as (λ b. P (cond b (fact old) (of_first default fact name olds)) (cond b (fact old) (of_first default fact name news))) [ true ↦ stays (fact old) | false ↦ rest ])

-- what no port has changed is the same of the first port of each name
pub of_first-same : {X : Type 0} (default : X) (fact : PortView → X) (name : List ℕ) (olds news : List PortView) → names news ≡ names olds → map fact news ≡ map fact olds → of_first default fact name news ≡ of_first default fact name olds
of_first-same default fact name [] [] same e = refl
of_first-same default fact name [] (new ∷ news) same e = cc
of_first-same default fact name (old ∷ olds) [] same e = cc
of_first-same default fact name (old ∷ olds) (new ∷ news) same e =
    let name-is : new.name ≡ old.name = cc in
    let head : fact new ≡ fact old = cc in
    let names-tail : names news ≡ names olds = cc in
    let tail : map fact news ≡ map fact olds = cc in
    let rest : of_first default fact name news ≡ of_first default fact name olds = of_first-same default fact name olds news names-tail tail in
    cc
