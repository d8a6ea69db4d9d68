-- Where there is room no call fails, and what is delivered leaves room for the rest.
use Rattle.std.proofs.Common.{rules, ◌≡◌, ℕ, ◌≤◌, ◌+◌, List, [], ◌∷◌, ◌++◌, map, refl, arith, zero, suc, Option, Some, None, append-nil, length-append, Result, length, IfSome, IsOk, IsSome, OnErr, ◌↔◌, ap, sym, ◌∙◌, subst}
use Rattle.std.specs.Str.{bytes_eq}
use Rattle.std.specs.Io.KnownBytes.{Appends}
use Rattle.hume_ports.specs.declared.port.Failed.{Failed}
use Rattle.hume_ports.specs.Port.{PortView, IsRead, IsWrite, IsFinish}
use Rattle.hume_ports.specs.Ports.{StepAt, place_of, names}
use Rattle.hume_ports.specs.Delivery.{Pairs, Delivered, Progress, HasRoom, Roomy, bytes_for, without}
use Rattle.hume_ports.proofs.Names.{place-zero, place-suc, bytes_for-append, without-append}

-- room for all is room for the first of them
pub Roomy-first : (ports : List PortView) (ps qs : Pairs) → Roomy ports (ps ++ qs) → Roomy ports ps
Roomy-first [] ps qs r = tt
Roomy-first (port ∷ ports) ps qs r =
    let P : Pairs → Type 0 = λ pairs. Roomy ports pairs in
    let all : bytes_for port.name (ps ++ qs) ≡ bytes_for port.name ps ++ bytes_for port.name qs = bytes_for-append port.name ps qs in (
      record {
        room = r.0.room;
        bytes = r.0.bytes;
        told_room = r.0.told_room;
        told_bytes = r.0.told_bytes;
        fits = omega (arith, r.0.fits, ap length all, length-append (bytes_for port.name ps) (bytes_for port.name qs));
      },
      Roomy-first ports (without port.name ps) (without port.name qs) (subst P (without-append port.name ps qs) r.1),
    )

-- room for some is room for none
pub Roomy-nothing : (ports : List PortView) (pairs : Pairs) → Roomy ports pairs → Roomy ports []
Roomy-nothing ports pairs r = Roomy-first ports [] pairs r

grown : (a b : Option (List ℕ)) (x y : List ℕ) → a ≡ Some x → Appends a b y → b ≡ Some (x ++ y)
grown None b x y e h = cc
grown (Some a) None x y e h = absurd h
grown (Some a) (Some b) x y e h =
    let same : a ≡ x = cc in
    rw (h, same) refl

-- when the first of them are delivered there is room for the others
pub Roomy-delivered : (olds mids : List PortView) (ps qs : Pairs) → Delivered olds mids ps → names mids ≡ names olds → map (λ port. port.room) mids ≡ map (λ port. port.room) olds → Roomy olds (ps ++ qs) → Roomy mids qs
Roomy-delivered [] [] ps qs d same rooms r = tt
Roomy-delivered [] (mid ∷ mids) ps qs d same rooms r = absurd d
Roomy-delivered (old ∷ olds) [] ps qs d same rooms r = absurd d
Roomy-delivered (old ∷ olds) (mid ∷ mids) ps qs d same rooms r =
    let name : mid.name ≡ old.name = cc in
    let tails : names mids ≡ names olds = cc in
    let room : mid.room ≡ old.room = cc in
    let room-tails : map (λ port. port.room) mids ≡ map (λ port. port.room) olds = cc in
    let all : bytes_for old.name (ps ++ qs) ≡ bytes_for old.name ps ++ bytes_for old.name qs = bytes_for-append old.name ps qs in
    let P : Pairs → Type 0 = λ pairs. Roomy olds pairs in
    let Q : List ℕ → Type 0 = λ n. HasRoom mid (length (bytes_for n qs)) in
    let R : List ℕ → Type 0 = λ n. Roomy mids (without n qs) in (
      subst Q (sym name) (record {
        room = r.0.room;
        bytes = r.0.bytes ++ bytes_for old.name ps;
        told_room = room ∙ r.0.told_room;
        told_bytes = grown old.bytes mid.bytes r.0.bytes (bytes_for old.name ps) r.0.told_bytes d.0;
        fits = omega (arith, r.0.fits, ap length all, length-append (bytes_for old.name ps) (bytes_for old.name qs), length-append r.0.bytes (bytes_for old.name ps));
      }),
      subst R (sym name) (Roomy-delivered olds mids (without old.name ps) (without old.name qs) d.1 tails room-tails (subst P (without-append old.name ps qs) r.1)),
    )

pub Roomy-on : (olds mids : List PortView) (ts ps qs : Pairs) → Progress olds mids ts ps → Roomy olds (ps ++ qs) → Roomy mids qs
Roomy-on olds mids ts ps qs p r = Roomy-delivered olds mids ps qs p.delivered p.same_names p.same_rooms r

some_is : (o : Option ℕ) (n : ℕ) → o ≡ Some n → IsSome o
some_is None n e = cc
some_is (Some x) n e = search rules

-- where each port tells its room, a step that a telling port doesn't fail is none that fails
told_ok : {T E : Type 0} (result : Result T E) (olds news : List PortView) (pairs : Pairs) (at : ℕ) (step : PortView → PortView → Type 0) → ((old new : PortView) → step old new → IsSome old.room → IsOk result) → StepAt olds news at step → Roomy olds pairs → IsOk result
told_ok result [] news pairs at step law s r = absurd s
told_ok result (old ∷ olds) [] pairs at step law s r = absurd s
told_ok result (old ∷ olds) (new ∷ news) pairs zero step law s r = law old new s.0 (some_is old.room r.0.room r.0.told_room)
told_ok result (old ∷ olds) (new ∷ news) pairs (suc at) step law s r = told_ok result olds news (without old.name pairs) at step law s.1 r.1

pub read_roomy : (olds news : List PortView) (at : ℕ) (result : Result ℕ Failed) (buf : List ℕ) → StepAt olds news at (λ old new. IsRead old new result buf) → Roomy olds [] → IsOk result
read_roomy olds news at result buf s r = told_ok result olds news [] at (λ old new. IsRead old new result buf) (λ old new is. is.room) s r

pub finish_roomy : (olds news : List PortView) (at : ℕ) (result : Result (Unit {0}) Failed) → StepAt olds news at (λ old new. IsFinish old new result) → Roomy olds [] → IsOk result
finish_roomy olds news at result s r = told_ok result olds news [] at (λ old new. IsFinish old new result) (λ old new is. is.room) s r

-- what holds where the room and the bytes are told holds of those that are
told : (room : Option ℕ) (bytes : Option (List ℕ)) (r : ℕ) (b : List ℕ) (P : ℕ → List ℕ → Type 0) → IfSome room (λ x. IfSome bytes (λ y. P x y)) → room ≡ Some r → bytes ≡ Some b → P r b
told None bytes r b P h e f = cc
told (Some x) None r b P h e f = cc
told (Some x) (Some y) r b P h e f =
    let same-room : x ≡ r = cc in
    let same-bytes : y ≡ b = cc in
    let Q : ℕ → Type 0 = λ n. P n y in
    subst (λ (l : List ℕ). P r l) same-bytes (subst Q same-room h)

write_fits : (old new : PortView) (result : Result (Unit {0}) Failed) (written : List ℕ) → IsWrite old new result written → HasRoom old (length written) → IsOk result
write_fits old new result written w r =
    (told old.room old.bytes r.room r.bytes (λ room bytes. (IsOk result ↔ (length bytes + length written ≤ room)) × OnErr result (IfSome new.bytes (λ after. length after ≡ room))) w.room r.told_room r.told_bytes).0.1 r.fits

pub write_roomy : (olds news : List PortView) (name written : List ℕ) (at : ℕ) (result : Result (Unit {0}) Failed) → place_of name (names olds) ≡ Some at → StepAt olds news at (λ old new. IsWrite old new result written) → Roomy olds ((name, written) ∷ []) → IsOk result
write_roomy [] news name written at result e s r = absurd s
write_roomy (old ∷ olds) [] name written at result e s r = absurd s
write_roomy (old ∷ olds) (new ∷ news) name written zero result e s r =
    let here = place-zero (bytes_eq old.name name) (place_of name (names olds)) e in
    let one : bytes_for old.name ((name, written) ∷ []) ≡ written = rw here (append-nil written) in
    let P : List ℕ → Type 0 = λ bytes. HasRoom old (length bytes) in
    write_fits old new result written s.0 (subst P one r.0)
write_roomy (old ∷ olds) (new ∷ news) name written (suc at) result e s r =
    let behind = place-suc (bytes_eq old.name name) (place_of name (names olds)) at e in
    let rest : without old.name ((name, written) ∷ []) ≡ (name, written) ∷ [] = rw behind.0 refl in
    let P : Pairs → Type 0 = λ pairs. Roomy olds pairs in
    write_roomy olds news name written at result behind.1 s.1 (subst P rest r.1)

-- a step that leaves the room and the bytes of each port leaves the room of all
pub Roomy-kept : (olds news : List PortView) (at : ℕ) (step : PortView → PortView → Type 0) → ((old new : PortView) → step old new → (new.room ≡ old.room) × (new.bytes ≡ old.bytes)) → StepAt olds news at step → Roomy olds [] → Roomy news []
Roomy-kept [] news at step law s r = absurd s
Roomy-kept (old ∷ olds) [] at step law s r = absurd s
Roomy-kept (old ∷ olds) (new ∷ news) zero step law s r =
    let same = law old new s.0 in (
      record {
        room = r.0.room;
        bytes = r.0.bytes;
        told_room = same.0 ∙ r.0.told_room;
        told_bytes = same.1 ∙ r.0.told_bytes;
        fits = r.0.fits;
      },
      rw s.1 r.1,
    )
Roomy-kept (old ∷ olds) (new ∷ news) (suc at) step law s r = (rw s.0 r.0, Roomy-kept olds news at step law s.1 r.1)
