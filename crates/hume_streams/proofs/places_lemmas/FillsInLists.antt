-- What a fill of one port is to the list of all ports.
use Rattle.std.proofs.Common.{◌≡◌, ℕ, List, [], ◌∷◌, ap, ◌∙◌, true, false, zero, suc, None, Some, Option, Ok, Err, Result, inl, inr}
use Rattle.std.specs.Str.{bytes_eq}
use Rattle.std.proofs.lemmas.Bool.{cases_Bool}
use Rattle.hume_base.specs.declared.types.Ty.{Ty}
use Rattle.hume_base.specs.declared.types.Types.{Types}
use Rattle.hume_ports.specs.Port.{PortView, Rose}
use Rattle.hume_ports.specs.Ports.{StepAt, Untouched, ForNameAt, names, place_of, of_first}
use Rattle.hume_ports.specs.Delivery.{Pairs, without, Progress, ReadFailure, Roomy}
use Rattle.hume_ports.proofs.Steps.{step_same, of_first-step, of_first-any_step}
use Rattle.hume_ports.proofs.EachPort.{EachPort-one, EachPort-kept}
use Rattle.hume_ports.proofs.Untouched.{Untouched-step}
use Rattle.hume_ports.proofs.Progress.{appending, consuming, appending-stays, consuming-stays}
use Rattle.std.specs.Io.KnownBytes.{Appends}
use Rattle.std.proofs.KnownBytes.{Appends-nil}
use Rattle.hume_streams.specs.declared.queue.FillError.{FillError}
use Rattle.hume_streams.specs.declared.queue.FillError.TheVariants.{BadValue, Failed}
use Rattle.hume_streams.specs.Queues.{QueueView}
use Rattle.hume_streams.specs.Fills.{Drawn, Fills, EndsFill}
use Rattle.hume_streams.specs.places.FillsOfPorts.{first_port, ReadsBytes, FillsFrom, NoReadFails}
use Rattle.hume_streams.proofs.places_lemmas.StepsAt.{Becomes, ends_of, becoming}

-- bytes were read from the port, and its count of failed reads did this
abbrev Draws : (ℕ → ℕ → Type 0) → List ℕ → PortView → PortView → Type 0
Draws counts bytes old new = Drawn old new bytes × counts old.read_faults new.read_faults

abbrev Same : ℕ → ℕ → Type 0
Same old new = new ≡ old

-- what a port that gave bytes keeps
record Keeps (old new : PortView) : Type 0 where
  name : new.name ≡ old.name
  bytes : Appends old.bytes new.bytes []

keeps : (counts : ℕ → ℕ → Type 0) (bytes : List ℕ) (old new : PortView) → Draws counts bytes old new → Keeps old new
keeps counts bytes old new is = record {
  name = ap (λ (p : PortView). p.name) is.0.keeps;
  bytes = rw (ap (λ (p : PortView). p.bytes) is.0.keeps) (Appends-nil old.bytes);
}

draws_names : (counts : ℕ → ℕ → Type 0) (olds news : List PortView) (at : ℕ) (bytes : List ℕ) → StepAt olds news at (Draws counts bytes)
    → names news ≡ names olds
draws_names counts olds news at bytes s = step_same (λ port. port.name) olds news at (Draws counts bytes) (λ old new is. (keeps counts bytes old new is).name) s

draws_progress : (olds news : List PortView) (at : ℕ) (name bytes : List ℕ) → place_of name (names olds) ≡ Some at → StepAt olds news at (Draws Same bytes)
    → Progress olds news ((name, bytes) ∷ []) []
draws_progress olds news at name bytes e s = record {
  same_names = draws_names Same olds news at bytes s;
  same_rooms = step_same (λ port. port.room) olds news at (Draws Same bytes) (λ old new is. ap (λ (p : PortView). p.room) is.0.keeps) s;
  same_faults = record {
    reads = step_same (λ port. port.read_faults) olds news at (Draws Same bytes) (λ old new is. is.1) s;
    writes = step_same (λ port. port.write_faults) olds news at (Draws Same bytes) (λ old new is. ap (λ (p : PortView). p.write_faults) is.0.keeps) s;
    finishes = step_same (λ port. port.finish_faults) olds news at (Draws Same bytes) (λ old new is. ap (λ (p : PortView). p.finish_faults) is.0.keeps) s;
  };
  drawn = EachPort-one consuming consuming-stays olds news name bytes at (Draws Same bytes) (λ old new is. is.0.left) e s;
  delivered = EachPort-kept appending appending-stays olds news at (Draws Same bytes) (λ old new is. (keeps Same bytes old new is).bytes) s;
  flushed = λ other out.
      of_first-any_step false (λ port. port.flushed) other olds news at (Draws Same bytes) (λ a b. a ≡ true → b ≡ true) (λ x h. h)
      (λ old new is before. ap (λ (p : PortView). p.flushed) is.0.keeps ∙ before) (λ old new is. ap (λ (p : PortView). p.name) is.0.keeps) s;
}

draws_failure : (olds news : List PortView) (at : ℕ) (name bytes : List ℕ) → place_of name (names olds) ≡ Some at → StepAt olds news at (Draws Rose bytes)
    → ReadFailure name olds news ((name, bytes) ∷ []) []
draws_failure olds news at name bytes e s = record {
  same_names = draws_names Rose olds news at bytes s;
  rose = of_first-step 0 (λ port. port.read_faults) name olds news at (Draws Rose bytes) Rose (λ old new is. is.1)
      (λ old new is. (keeps Rose bytes old new is).name) e s;
  drawn = EachPort-one consuming consuming-stays olds news name bytes at (Draws Rose bytes) (λ old new is. is.0.left) e s;
  delivered = EachPort-kept appending appending-stays olds news at (Draws Rose bytes) (λ old new is. (keeps Rose bytes old new is).bytes) s;
}

-- the port was the first of its name, and is
first_becomes : (olds news : List PortView) (at : ℕ) (name : List ℕ) (before after : PortView) → after.name ≡ before.name
    → place_of name (names olds) ≡ Some at → StepAt olds news at (Becomes before after)
    → (first_port name olds ≡ Some before) × (first_port name news ≡ Some after)
first_becomes olds news at name before after same e s =
    of_first-step None (λ port. Some port) name olds news at (Becomes before after) (λ a b. (a ≡ Some before) × (b ≡ Some after))
    (λ old new is. (ap (λ p. Some p) is.0, ap (λ p. Some p) is.1)) (λ old new is. rw (is.0, is.1) same) e s

reads_bytes : (types : Types) (ty : Ty) (want : ℕ) (new : QueueView) (before after : PortView) (result : Result (Unit {0}) FillError)
    (olds news : List PortView) (at : ℕ) (name bytes : List ℕ)
    → Drawn before after bytes → EndsFill types ty want new before after result → place_of name (names olds) ≡ Some at
    → StepAt olds news at (Becomes before after) → ReadsBytes name bytes olds news result
reads_bytes types ty want new before after (Ok done) olds news at name bytes d f e s =
    draws_progress olds news at name bytes e (becoming olds news at before after (Draws Same bytes) (d, f.0) s)
reads_bytes types ty want new before after (Err (BadValue line)) olds news at name bytes d f e s =
    draws_progress olds news at name bytes e (becoming olds news at before after (Draws Same bytes) (d, f.0) s)
reads_bytes types ty want new before after (Err Failed) olds news at name bytes d f e s =
    draws_failure olds news at name bytes e (becoming olds news at before after (Draws Rose bytes) (d, f.0) s)

-- the step of a fill
abbrev FillStep : Types → Ty → ℕ → QueueView → QueueView → Result (Unit {0}) FillError → PortView → PortView → Type 0
FillStep types ty want old new result before after = Fills types ty want old new before after result

pub fills_from : (types : Types) (ty : Ty) (want : ℕ) (old new : QueueView) (result : Result (Unit {0}) FillError) (olds news : List PortView) (at : ℕ)
    → StepAt olds news at (λ before after. Fills types ty want old new before after result)
    → ForNameAt at olds (λ name. FillsFrom types ty want old new name olds news result)
fills_from types ty want old new result olds news at s = λ name e.
    let ends = ends_of olds news at (FillStep types ty want old new result) s in
    let first = first_becomes olds news at name ends.before ends.after (ap (λ (p : PortView). p.name) ends.steps.drawn.keeps) e ends.becomes in record {
      before = ends.before;
      after = ends.after;
      was_first = first.0;
      is_first = first.1;
      fills = ends.steps;
      reads = reads_bytes types ty want new ends.before ends.after result olds news at name ends.steps.bytes ends.steps.drawn ends.steps.ends e ends.becomes;
    }

pub fill_names : (types : Types) (ty : Ty) (want : ℕ) (old new : QueueView) (result : Result (Unit {0}) FillError) (olds news : List PortView) (at : ℕ)
    → StepAt olds news at (λ before after. Fills types ty want old new before after result) → names news ≡ names olds
fill_names types ty want old new result olds news at s =
    step_same (λ port. port.name) olds news at (FillStep types ty want old new result) (λ before after is. ap (λ (p : PortView). p.name) is.drawn.keeps) s

pub fill_untouched : (types : Types) (ty : Ty) (want : ℕ) (old new : QueueView) (result : Result (Unit {0}) FillError) (olds news : List PortView) (at : ℕ)
    → StepAt olds news at (λ before after. Fills types ty want old new before after result) → ForNameAt at olds (λ name. Untouched (name ∷ []) olds news)
fill_untouched types ty want old new result olds news at s name e = Untouched-step olds news name at (FillStep types ty want old new result) e s

none_some : (room : Option ℕ) (n : ℕ) → room ≡ None → room ≡ Some n → ⊥
none_some room n none some = cc

-- a port that tells its room is none whose step needs that it doesn't
no_room : (olds news : List PortView) (pairs : Pairs) (at : ℕ) (step : PortView → PortView → Type 0)
    → ((old new : PortView) → step old new → old.room ≡ None) → StepAt olds news at step → Roomy olds pairs → ⊥
no_room [] news pairs at step law s r = absurd s
no_room (old ∷ olds) [] pairs at step law s r = absurd s
no_room (old ∷ olds) (new ∷ news) pairs zero step law s r = none_some old.room r.0.room (law old new s.0) r.0.told_room
no_room (old ∷ olds) (new ∷ news) pairs (suc at) step law s r = no_room olds news (without old.name pairs) at step law s.1 r.1

pub fill_roomy : (types : Types) (ty : Ty) (want : ℕ) (old new : QueueView) (result : Result (Unit {0}) FillError) (olds news : List PortView) (at : ℕ)
    → StepAt olds news at (λ before after. Fills types ty want old new before after result) → Roomy olds [] → NoReadFails result
fill_roomy types ty want old new (Ok done) olds news at s r = tt
fill_roomy types ty want old new (Err (BadValue line)) olds news at s r = tt
fill_roomy types ty want old new (Err Failed) olds news at s r =
    no_room olds news [] at (FillStep types ty want old new (Err Failed)) (λ before after is. is.ends.2) s r

nothing_some : (port : PortView) → ◌≡◌ {A = Option PortView} None (Some port) → ⊥
nothing_some port e = cc

same_port : (a b : PortView) → ◌≡◌ {A = Option PortView} (Some a) (Some b) → a ≡ b
same_port a b e = cc

-- a fact of the first port is one of the port
pub of_first-port : {X : Type 0} (default : X) (fact : PortView → X) (name : List ℕ) (ports : List PortView) (port : PortView)
    → first_port name ports ≡ Some port → of_first default fact name ports ≡ fact port
of_first-port default fact name [] port e = absurd (nothing_some port e)
of_first-port default fact name (first ∷ others) port e =
    elim (cases_Bool (bytes_eq first.name name)) [
      | inl here ↦
          let same : Some first ≡ Some port = rw here at e in
          rw here (ap fact (same_port first port same))
      | inr behind ↦
          let rest : first_port name others ≡ Some port = rw behind at e in
          rw behind (of_first-port default fact name others port rest)
    ]
