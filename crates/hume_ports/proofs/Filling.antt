-- Reads of one port in turn, until a buffer is full or nothing is left.
use Rattle.std.proofs.Common.{◌≡◌, ℕ, ◌<◌, ◌≤◌, ◌+◌, List, [], ◌∷◌, ◌++◌, take, length, length-append, length-take, append_assoc, append-nil, refl, arith, ap, sym, subst, ◌∙◌, true, false, cond, Option, Some, None, IfSome, Result, inl, inr}
use Rattle.std.proofs.Math.Seq.{take-length, take-append-add, take-append_seam}
use Rattle.std.proofs.lemmas.Bool.{cases_lt}
use Rattle.std.proofs.lemmas.List.{length-take-le, take-append-le, take_all}
use Rattle.std.specs.Str.{bytes_eq}
use Rattle.std.specs.Io.KnownBytes.{Consumes, IsAtEnd}
use Rattle.hume_ports.specs.declared.port.Failed.{Failed}
use Rattle.hume_ports.specs.Port.{PortView, IsRead}
use Rattle.hume_ports.specs.Ports.{StepAt, ForNameAt, Untouched, names, left_of}
use Rattle.hume_ports.specs.Delivery.{Progress, ReadFailure, Roomy}
use Rattle.hume_ports.proofs.Names.{bytes_for-one, place-kept}
use Rattle.hume_ports.proofs.EachPort.{SameBytes}
use Rattle.hume_ports.proofs.Untouched.{Untouched-start, Untouched-on}
use Rattle.hume_ports.proofs.Progress.{Progress-start, Progress-on, Progress-same_taken, read_failure-on, Drawn-first}
use Rattle.hume_ports.proofs.Rooms.{Roomy-kept}

-- so far these bytes were read from the port at that place, and nothing else was done
pub record HasRead (olds news : List PortView) (at : ℕ) (taken : List ℕ) : Type 0 where
  pub progress : ForNameAt at olds (λ name. Progress olds news ((name, taken) ∷ []) [])
  pub untouched : ForNameAt at olds (λ name. Untouched (name ∷ []) olds news)
  pub same_names : names news ≡ names olds
  pub roomy : Roomy olds [] → Roomy news []

no_bytes : (name : List ℕ) → SameBytes [] ((name, []) ∷ [])
no_bytes name other = elim (bytes_eq other name) as (λ b. ◌≡◌ {A = List ℕ} [] (cond b [] [])) [ true ↦ refl | false ↦ refl ]

joined_bytes : (name x y : List ℕ) → SameBytes ((name, x) ∷ (name, y) ∷ []) ((name, x ++ y) ∷ [])
joined_bytes name x y other = elim (bytes_eq other name) as (λ b. cond b (x ++ cond b (y ++ []) []) (cond b (y ++ []) []) ≡ cond b ((x ++ y) ++ []) []) [ true ↦ sym (append_assoc x y []) | false ↦ refl ]

pub HasRead-start : (ports : List PortView) (at : ℕ) → HasRead ports ports at []
HasRead-start ports at = record {
  progress = λ name e. Progress-same_taken ports ports [] ((name, []) ∷ []) [] (no_bytes name) (Progress-start ports);
  untouched = λ name e. Untouched-start (name ∷ []) ports;
  same_names = refl;
  roomy = λ r. r;
}

-- what a read says of the list
pub record OneRead (mids news : List PortView) (at : ℕ) (result : Result ℕ Failed) (buf : List ℕ) : Type 0 where
  pub step : StepAt mids news at (λ old new. IsRead old new result buf)
  pub same_names : names news ≡ names mids
  pub untouched : ForNameAt at mids (λ name. Untouched (name ∷ []) mids news)

pub names_after : (olds mids news : List PortView) (at : ℕ) (taken : List ℕ) (result : Result ℕ Failed) (buf : List ℕ) → HasRead olds mids at taken → OneRead mids news at result buf → names news ≡ names olds
names_after olds mids news at taken result buf h r = r.same_names ∙ h.same_names

pub untouched_after : (olds mids news : List PortView) (at : ℕ) (taken : List ℕ) (result : Result ℕ Failed) (buf : List ℕ) → HasRead olds mids at taken → OneRead mids news at result buf → ForNameAt at olds (λ name. Untouched (name ∷ []) olds news)
untouched_after olds mids news at taken result buf h r name e =
    Untouched-on (name ∷ []) olds mids news (h.untouched name e) h.same_names (r.untouched name (place-kept olds mids at name h.same_names e))

roomy_after : (mids news : List PortView) (at : ℕ) (result : Result ℕ Failed) (buf : List ℕ) → OneRead mids news at result buf → Roomy mids [] → Roomy news []
roomy_after mids news at result buf r = Roomy-kept mids news at (λ old new. IsRead old new result buf) (λ old new is. (ap (λ p. p.room) is.keeps, ap (λ p. p.bytes) is.keeps)) r.step

pub HasRead-on : (olds mids news : List PortView) (at : ℕ) (x y : List ℕ) (result : Result ℕ Failed) (buf : List ℕ) → HasRead olds mids at x → OneRead mids news at result buf → ForNameAt at mids (λ name. Progress mids news ((name, y) ∷ []) []) → HasRead olds news at (x ++ y)
HasRead-on olds mids news at x y result buf h r taken = record {
  progress = λ name e.
      Progress-same_taken olds news ((name, x) ∷ (name, y) ∷ []) ((name, x ++ y) ∷ []) [] (joined_bytes name x y)
      (Progress-on olds mids news ((name, x) ∷ []) ((name, y) ∷ []) [] [] (h.progress name e) (taken name (place-kept olds mids at name h.same_names e)));
  untouched = untouched_after olds mids news at x result buf h r;
  same_names = names_after olds mids news at x result buf h r;
  roomy = λ room. roomy_after mids news at result buf r (h.roomy room);
}

-- the part of a buffer that is filled, after one more read behind it
take_filled : (buf part rest : List ℕ) (filled count : ℕ) → filled ≤ length buf → count ≤ length part → take (filled + count) (take filled buf ++ (part ++ rest)) ≡ take filled buf ++ take count part
take_filled buf part rest filled count h g =
    let P : ℕ → Type 0 = λ n. take (n + count) (take filled buf ++ (part ++ rest)) ≡ take filled buf ++ take count part in
    subst P (length-take-le filled buf h) (take-append-add (take filled buf) (part ++ rest) count ∙ ap (λ t. take filled buf ++ t) (take-append-le count part rest g))

pub HasRead-filled : (olds mids news : List PortView) (at : ℕ) (buf part rest : List ℕ) (filled count : ℕ) (result : Result ℕ Failed) → filled ≤ length buf → count ≤ length part → HasRead olds mids at (take filled buf) → OneRead mids news at result part → ForNameAt at mids (λ name. Progress mids news ((name, take count part) ∷ []) []) → HasRead olds news at (take (filled + count) (take filled buf ++ (part ++ rest)))
HasRead-filled olds mids news at buf part rest filled count result h g p r taken =
    rw (take_filled buf part rest filled count h g) (HasRead-on olds mids news at (take filled buf) (take count part) result part p r taken)

-- the last read, at the end, which gave nothing
pub HasRead-end : (olds mids news : List PortView) (at : ℕ) (buf part rest : List ℕ) (filled count : ℕ) (result : Result ℕ Failed) → filled ≤ length buf → count ≡ 0 → HasRead olds mids at (take filled buf) → OneRead mids news at result part → ForNameAt at mids (λ name. Progress mids news ((name, take count part) ∷ []) []) → HasRead olds news at (take filled (take filled buf ++ (part ++ rest)))
HasRead-end olds mids news at buf part rest filled count result h none p r taken =
    let P : ℕ → Type 0 = λ n. HasRead olds news at (take n (take filled buf ++ (part ++ rest))) in
    let same : filled + count ≡ filled = omega arith in
    subst P same (HasRead-filled olds mids news at buf part rest filled count result h (omega arith) p r taken)

pub filled_within : (buf part rest : List ℕ) (filled count : ℕ) → filled ≤ length buf → count ≤ length part → filled + count ≤ length (take filled buf ++ (part ++ rest))
filled_within buf part rest filled count h g = simp (length-append, length-take) (omega arith)

-- at the end nothing is left
pub end_after : (olds mids news : List PortView) (at : ℕ) (taken : List ℕ) → HasRead olds mids at taken → ForNameAt at mids (λ name. IsAtEnd (left_of name news)) → ForNameAt at olds (λ name. IsAtEnd (left_of name news))
end_after olds mids news at taken h end name e = end name (place-kept olds mids at name h.same_names e)

take_front : (buf more : List ℕ) (filled : ℕ) → filled ≤ length buf → take filled (take filled buf ++ more) ≡ take filled buf
take_front buf more filled h =
    let P : ℕ → Type 0 = λ n. take n (take filled buf ++ more) ≡ take filled buf in
    subst P (length-take-le filled buf h) (take-append_seam (take filled buf) more)

-- a failed read after others
pub failed_after : (olds mids news : List PortView) (at : ℕ) (buf part rest : List ℕ) (filled : ℕ) → filled ≤ length buf → 0 < length part → HasRead olds mids at (take filled buf) → ForNameAt at mids (λ name. ReadFailure name mids news [] []) → ForNameAt at olds (λ name. (count : ℕ) × (count < length (take filled buf ++ (part ++ rest))) × ReadFailure name olds news ((name, take count (take filled buf ++ (part ++ rest))) ∷ []) [])
failed_after olds mids news at buf part rest filled h some p failed name e =
    let P : List ℕ → Type 0 = λ bytes. ReadFailure name olds news ((name, bytes) ∷ []) [] in
    let whole : ReadFailure name olds news ((name, take filled buf) ∷ []) [] =
    read_failure-on name olds mids news ((name, take filled buf) ∷ []) [] (p.progress name e) (failed name (place-kept olds mids at name p.same_names e)) in
    (filled, simp (length-append, length-take) (omega arith), subst P (sym (take_front buf (part ++ rest) filled h)) whole)

-- what was read until the buffer was full or the bytes ended is the front of the bytes
front_of : (before after : Option (List ℕ)) (buf : List ℕ) (count : ℕ) → count ≤ length buf → Consumes before after (take count buf) → (count < length buf → IsAtEnd after) → IfSome before (λ left. take count buf ≡ take (length buf) left)
front_of None after buf count h c end = tt
front_of (Some left) None buf count h c end = absurd c
front_of (Some left) (Some rest) buf count h c end =
    elim (cases_lt count (length buf)) [
      | inl less ↦
          let all : left ≡ take count buf = rw (c, end less, append-nil) refl in
          let short : length left ≤ length buf = rw (all, length-take) (omega arith) in
          rw (take_all (length buf) left short) (sym all)
      | inr full ↦
          let count-is : count ≡ length buf = omega arith in
          let whole : take count buf ≡ buf = rw (count-is) (take-length buf) in
          rw (c, whole) (sym (take-append_seam buf rest))
    ]

pub front_after : (olds news : List PortView) (at : ℕ) (buf : List ℕ) (count : ℕ) → count ≤ length buf → HasRead olds news at (take count buf) → (count < length buf → ForNameAt at olds (λ name. IsAtEnd (left_of name news))) → ForNameAt at olds (λ name. IfSome (left_of name olds) (λ left. take count buf ≡ take (length buf) left))
front_after olds news at buf count h p end name e =
    let P : List ℕ → Type 0 = λ bytes. Consumes (left_of name olds) (left_of name news) bytes in
    front_of (left_of name olds) (left_of name news) buf count h
    (subst P (bytes_for-one name (take count buf)) (Drawn-first olds news name ((name, take count buf) ∷ []) p.same_names (p.progress name e).drawn))
    (λ less. end less name e)
