-- What a read, a write or a finish of one port is to the list of all ports.
use Rattle.std.proofs.Common.{◌≡◌, ℕ, ◌<◌, ◌≤◌, List, [], ◌∷◌, take, length, sym, ap, subst, ◌∙◌, true, false, Option, Some, None, Ok, Err, Result, IfOk, OnOk, OnErr, zero, suc}
use Rattle.std.proofs.Math.Seq.{take-length}
use Rattle.std.specs.Io.KnownBytes.{Appends, Consumes, Keeps, IsAtEnd}
use Rattle.hume_ports.specs.declared.port.Failed.{Failed}
use Rattle.hume_ports.specs.Port.{PortView, IsRead, IsWrite, IsFinish, Rose}
use Rattle.hume_ports.specs.Ports.{StepAt, Untouched, ForNameAt, names, left_of, flushed_of}
use Rattle.hume_ports.specs.Delivery.{Pairs, Progress, ReadFailure, WriteFailure, FinishFailure, Delivered, Drawn, StaysFlushed}
use Rattle.hume_ports.proofs.Steps.{step_same, of_first-step, of_first-any_step}
use Rattle.std.proofs.KnownBytes.{Appends-nil, Consumes-nil}
use Rattle.hume_ports.proofs.EachPort.{EachPort-one, EachPort-kept}
use Rattle.hume_ports.proofs.Untouched.{Untouched-step, of_first-untouched}
use Rattle.hume_ports.proofs.Progress.{appending, consuming, appending-stays, consuming-stays}

-- a port's name, room and counts are as before
record Quiet (old new : PortView) : Type 0 where
  name : new.name ≡ old.name
  room : new.room ≡ old.room
  reads : new.read_faults ≡ old.read_faults
  writes : new.write_faults ≡ old.write_faults
  finishes : new.finish_faults ≡ old.finish_faults

Progress-step : (olds news : List PortView) (at : ℕ) (step : PortView → PortView → Type 0) (taken given : Pairs) → ((old new : PortView) → step old new → Quiet old new) → StepAt olds news at step → Drawn olds news taken → Delivered olds news given → StaysFlushed olds news given → Progress olds news taken given
Progress-step olds news at step taken given quiet s drawn delivered flushed = record {
  same_names = step_same (λ port. port.name) olds news at step (λ old new is. (quiet old new is).name) s;
  same_rooms = step_same (λ port. port.room) olds news at step (λ old new is. (quiet old new is).room) s;
  same_faults = record {
    reads = step_same (λ port. port.read_faults) olds news at step (λ old new is. (quiet old new is).reads) s;
    writes = step_same (λ port. port.write_faults) olds news at step (λ old new is. (quiet old new is).writes) s;
    finishes = step_same (λ port. port.finish_faults) olds news at step (λ old new is. (quiet old new is).finishes) s;
  };
  drawn = drawn;
  delivered = delivered;
  flushed = flushed;
}

Drawn-kept : (olds news : List PortView) (at : ℕ) (step : PortView → PortView → Type 0) → ((old new : PortView) → step old new → new.left ≡ old.left) → StepAt olds news at step → Drawn olds news []
Drawn-kept olds news at step same s = EachPort-kept consuming consuming-stays olds news at step (λ old new is. rw (same old new is) (Consumes-nil old.left)) s

Delivered-kept : (olds news : List PortView) (at : ℕ) (step : PortView → PortView → Type 0) → ((old new : PortView) → step old new → new.bytes ≡ old.bytes) → StepAt olds news at step → Delivered olds news []
Delivered-kept olds news at step same s = EachPort-kept appending appending-stays olds news at step (λ old new is. rw (same old new is) (Appends-nil old.bytes)) s

-- a step that unflushes no port
StaysFlushed-step : (olds news : List PortView) (at : ℕ) (step : PortView → PortView → Type 0) (given : Pairs) → ((old new : PortView) → step old new → old.flushed ≡ true → new.flushed ≡ true) → ((old new : PortView) → step old new → new.name ≡ old.name) → StepAt olds news at step → StaysFlushed olds news given
StaysFlushed-step olds news at step given law same s name out =
    of_first-any_step false (λ port. port.flushed) name olds news at step (λ a b. a ≡ true → b ≡ true) (λ x h. h) law same s

-- a read with that result
abbrev Reads : Result ℕ Failed → List ℕ → PortView → PortView → Type 0
Reads result buf old new = IsRead old new result buf

pub read_names : (olds news : List PortView) (at : ℕ) (result : Result ℕ Failed) (buf : List ℕ) → StepAt olds news at (λ old new. IsRead old new result buf) → names news ≡ names olds
read_names olds news at result buf s = step_same (λ port. port.name) olds news at (Reads result buf) (λ old new is. ap (λ p. p.name) is.keeps) s

pub read_untouched : (olds news : List PortView) (at : ℕ) (result : Result ℕ Failed) (buf : List ℕ) → StepAt olds news at (λ old new. IsRead old new result buf) → ForNameAt at olds (λ name. Untouched (name ∷ []) olds news)
read_untouched olds news at result buf s name e = Untouched-step olds news name at (Reads result buf) e s

Quiet-read : (old new : PortView) (count : ℕ) (buf : List ℕ) → IsRead old new (Ok count) buf → Quiet old new
Quiet-read old new count buf is = record {
  name = ap (λ p. p.name) is.keeps;
  room = ap (λ p. p.room) is.keeps;
  reads = is.count.ok;
  writes = ap (λ p. p.write_faults) is.keeps;
  finishes = ap (λ p. p.finish_faults) is.keeps;
}

pub read_taken : (olds news : List PortView) (at : ℕ) (result : Result ℕ Failed) (buf : List ℕ) → StepAt olds news at (λ old new. IsRead old new result buf) → IfOk result (λ count. ForNameAt at olds (λ name. Progress olds news ((name, take count buf) ∷ []) []))
read_taken olds news at (Err failed) buf s = tt
read_taken olds news at (Ok count) buf s = λ name e.
    Progress-step olds news at (Reads (Ok count) buf) ((name, take count buf) ∷ []) []
    (λ old new is. Quiet-read old new count buf is) s
    (EachPort-one consuming consuming-stays olds news name (take count buf) at (Reads (Ok count) buf) (λ old new is. is.bytes.0) e s)
    (Delivered-kept olds news at (Reads (Ok count) buf) (λ old new is. ap (λ p. p.bytes) is.keeps) s)
    (StaysFlushed-step olds news at (Reads (Ok count) buf) [] (λ old new is before. ap (λ p. p.flushed) is.keeps ∙ before) (λ old new is. ap (λ p. p.name) is.keeps) s)

pub read_end : (olds news : List PortView) (at : ℕ) (result : Result ℕ Failed) (buf : List ℕ) → 0 < length buf → StepAt olds news at (λ old new. IsRead old new result buf) → IfOk result (λ count. count ≡ 0 → ForNameAt at olds (λ name. IsAtEnd (left_of name news)))
read_end olds news at (Err failed) buf h s = tt
read_end olds news at (Ok count) buf h s = λ none name e.
    of_first-step None (λ port. port.left) name olds news at (Reads (Ok count) buf) (λ a b. IsAtEnd b) (λ old new is. is.bytes.1 none h) (λ old new is. ap (λ p. p.name) is.keeps) e s

-- what is left after a read that took nothing
nothing_read : (before after : Option (List ℕ)) → Keeps before after → Consumes before after []
nothing_read None after same = tt
nothing_read (Some bytes) None same = absurd same
nothing_read (Some bytes) (Some rest) same = sym same

pub read_failed : (olds news : List PortView) (at : ℕ) (result : Result ℕ Failed) (buf : List ℕ) → StepAt olds news at (λ old new. IsRead old new result buf) → OnErr result (ForNameAt at olds (λ name. ReadFailure name olds news [] []))
read_failed olds news at (Ok count) buf s = tt
read_failed olds news at (Err failed) buf s = λ name e. record {
  same_names = read_names olds news at (Err failed) buf s;
  rose = of_first-step 0 (λ port. port.read_faults) name olds news at (Reads (Err failed) buf) Rose (λ old new is. is.count.failed) (λ old new is. ap (λ p. p.name) is.keeps) e s;
  drawn = EachPort-kept consuming consuming-stays olds news at (Reads (Err failed) buf) (λ old new is. nothing_read old.left new.left is.bytes) s;
  delivered = Delivered-kept olds news at (Reads (Err failed) buf) (λ old new is. ap (λ p. p.bytes) is.keeps) s;
}

-- a write with that result
abbrev Writes : Result (Unit {0}) Failed → List ℕ → PortView → PortView → Type 0
Writes result written old new = IsWrite old new result written

pub write_names : (olds news : List PortView) (at : ℕ) (result : Result (Unit {0}) Failed) (written : List ℕ) → StepAt olds news at (λ old new. IsWrite old new result written) → names news ≡ names olds
write_names olds news at result written s = step_same (λ port. port.name) olds news at (Writes result written) (λ old new is. ap (λ p. p.name) is.keeps) s

pub write_untouched : (olds news : List PortView) (at : ℕ) (result : Result (Unit {0}) Failed) (written : List ℕ) → StepAt olds news at (λ old new. IsWrite old new result written) → ForNameAt at olds (λ name. Untouched (name ∷ []) olds news)
write_untouched olds news at result written s name e = Untouched-step olds news name at (Writes result written) e s

Quiet-write : (old new : PortView) (written : List ℕ) → IsWrite old new (Ok tt) written → Quiet old new
Quiet-write old new written is = record {
  name = ap (λ p. p.name) is.keeps;
  room = ap (λ p. p.room) is.keeps;
  reads = ap (λ p. p.read_faults) is.keeps;
  writes = is.count.ok;
  finishes = ap (λ p. p.finish_faults) is.keeps;
}

all_written : (old new : PortView) (written : List ℕ) → IsWrite old new (Ok tt) written → Appends old.bytes new.bytes written
all_written old new written is =
    let P : List ℕ → Type 0 = λ bytes. Appends old.bytes new.bytes bytes in
    subst P (ap (λ n. take n written) is.bytes.3 ∙ take-length written) is.bytes.2

pub write_given : (olds news : List PortView) (at : ℕ) (result : Result (Unit {0}) Failed) (written : List ℕ) → StepAt olds news at (λ old new. IsWrite old new result written) → OnOk result (ForNameAt at olds (λ name. Progress olds news [] ((name, written) ∷ [])))
write_given olds news at (Err failed) written s = tt
write_given olds news at (Ok u) written s = λ name e.
    Progress-step olds news at (Writes (Ok u) written) [] ((name, written) ∷ [])
    (λ old new is. Quiet-write old new written is) s
    (Drawn-kept olds news at (Writes (Ok u) written) (λ old new is. ap (λ p. p.left) is.keeps) s)
    (EachPort-one appending appending-stays olds news name written at (Writes (Ok u) written) (λ old new is. all_written old new written is) e s)
    (λ other out before. of_first-untouched false (λ port. port.flushed) other (name ∷ []) olds news out (write_names olds news at (Ok u) written s) (write_untouched olds news at (Ok u) written s name e) ∙ before)

-- the step of a failed write, with how many bytes it took
part_at : (olds news : List PortView) (written : List ℕ) (at : ℕ) (failed : Failed) → StepAt olds news at (λ old new. IsWrite old new (Err failed) written) → (count : ℕ) × (count ≤ length written) × StepAt olds news at (λ old new. Appends old.bytes new.bytes (take count written))
part_at [] news written at failed s = absurd s
part_at (old ∷ olds) [] written at failed s = absurd s
part_at (old ∷ olds) (new ∷ news) written zero failed s = (s.0.bytes.0, s.0.bytes.1, (s.0.bytes.2, s.1))
part_at (old ∷ olds) (new ∷ news) written (suc at) failed s =
    let rest = part_at olds news written at failed s.1 in (rest.0, rest.1, (s.0, rest.2))

pub write_failed : (olds news : List PortView) (at : ℕ) (result : Result (Unit {0}) Failed) (written : List ℕ) → StepAt olds news at (λ old new. IsWrite old new result written) → OnErr result (ForNameAt at olds (λ name. (count : ℕ) × (count ≤ length written) × WriteFailure name olds news [] ((name, take count written) ∷ [])))
write_failed olds news at (Ok u) written s = tt
write_failed olds news at (Err failed) written s = λ name e.
    let part = part_at olds news written at failed s in (
      part.0,
      part.1,
      record {
        same_names = write_names olds news at (Err failed) written s;
        rose = of_first-step 0 (λ port. port.write_faults) name olds news at (Writes (Err failed) written) Rose (λ old new is. is.count.failed) (λ old new is. ap (λ p. p.name) is.keeps) e s;
        drawn = Drawn-kept olds news at (Writes (Err failed) written) (λ old new is. ap (λ p. p.left) is.keeps) s;
        delivered = EachPort-one appending appending-stays olds news name (take part.0 written) at (λ old new. Appends old.bytes new.bytes (take part.0 written)) (λ old new is. is) e part.2;
      },
    )

-- a finish with that result
abbrev Finishes : Result (Unit {0}) Failed → PortView → PortView → Type 0
Finishes result old new = IsFinish old new result

pub finish_names : (olds news : List PortView) (at : ℕ) (result : Result (Unit {0}) Failed) → StepAt olds news at (λ old new. IsFinish old new result) → names news ≡ names olds
finish_names olds news at result s = step_same (λ port. port.name) olds news at (Finishes result) (λ old new is. ap (λ p. p.name) is.keeps) s

pub finish_untouched : (olds news : List PortView) (at : ℕ) (result : Result (Unit {0}) Failed) → StepAt olds news at (λ old new. IsFinish old new result) → ForNameAt at olds (λ name. Untouched (name ∷ []) olds news)
finish_untouched olds news at result s name e = Untouched-step olds news name at (Finishes result) e s

Quiet-finish : (old new : PortView) → IsFinish old new (Ok tt) → Quiet old new
Quiet-finish old new is = record {
  name = ap (λ p. p.name) is.keeps;
  room = ap (λ p. p.room) is.keeps;
  reads = ap (λ p. p.read_faults) is.keeps;
  writes = ap (λ p. p.write_faults) is.keeps;
  finishes = is.count.ok;
}

pub finish_quiet : (olds news : List PortView) (at : ℕ) (result : Result (Unit {0}) Failed) → StepAt olds news at (λ old new. IsFinish old new result) → OnOk result (Progress olds news [] [])
finish_quiet olds news at (Err failed) s = tt
finish_quiet olds news at (Ok u) s =
    Progress-step olds news at (Finishes (Ok u)) [] [] Quiet-finish s
    (Drawn-kept olds news at (Finishes (Ok u)) (λ old new is. ap (λ p. p.left) is.keeps) s)
    (Delivered-kept olds news at (Finishes (Ok u)) (λ old new is. ap (λ p. p.bytes) is.keeps) s)
    (StaysFlushed-step olds news at (Finishes (Ok u)) [] (λ old new is before. ap (λ p. p.flushed) is.keeps) (λ old new is. ap (λ p. p.name) is.keeps) s)

pub finish_flushed : (olds news : List PortView) (at : ℕ) (result : Result (Unit {0}) Failed) → StepAt olds news at (λ old new. IsFinish old new result) → OnOk result (ForNameAt at olds (λ name. flushed_of name news ≡ true))
finish_flushed olds news at (Err failed) s = tt
finish_flushed olds news at (Ok u) s = λ name e.
    of_first-step false (λ port. port.flushed) name olds news at (Finishes (Ok u)) (λ a b. b ≡ true) (λ old new is. ap (λ p. p.flushed) is.keeps) (λ old new is. ap (λ p. p.name) is.keeps) e s

pub finish_failed : (olds news : List PortView) (at : ℕ) (result : Result (Unit {0}) Failed) → StepAt olds news at (λ old new. IsFinish old new result) → OnErr result (ForNameAt at olds (λ name. FinishFailure name olds news [] []))
finish_failed olds news at (Ok u) s = tt
finish_failed olds news at (Err failed) s = λ name e. record {
  same_names = finish_names olds news at (Err failed) s;
  rose = of_first-step 0 (λ port. port.finish_faults) name olds news at (Finishes (Err failed)) Rose (λ old new is. is.count.failed) (λ old new is. ap (λ p. p.name) is.keeps) e s;
  drawn = Drawn-kept olds news at (Finishes (Err failed)) (λ old new is. ap (λ p. p.left) is.keeps) s;
  delivered = Delivered-kept olds news at (Finishes (Err failed)) (λ old new is. ap (λ p. p.bytes) is.keeps) s;
}
