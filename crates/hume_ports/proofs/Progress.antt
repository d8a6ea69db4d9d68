-- Calls in turn: while none has failed, and up to the first that has.
use Rattle.std.proofs.Common.{◌≡◌, ◌||◌, ℕ, List, [], ◌++◌, map, refl, append-nil, sym, ◌∙◌, subst, None}
use Rattle.std.specs.Io.KnownBytes.{Appends, Consumes}
use Rattle.std.proofs.KnownBytes.{Appends-nil, Appends-trans, Consumes-nil, Consumes-trans}
use Rattle.std.specs.Str.{bytes_eq}
use Rattle.std.proofs.lemmas.Bool.{or_parts}
use Rattle.std.proofs.lemmas.List.Folds.{list_any-append}
use Rattle.hume_ports.specs.Port.{PortView, Rose}
use Rattle.hume_ports.specs.Ports.{names, is_among, of_first, left_of}
use Rattle.hume_ports.specs.Delivery.{Pairs, Delivered, Drawn, StaysFlushed, Progress, Failure, ReadFailure, WriteFailure, FinishFailure, names_in, bytes_for}
use Rattle.hume_ports.proofs.Names.{names_in-append}
use Rattle.hume_ports.proofs.Steps.{of_first-same}
use Rattle.hume_ports.proofs.EachPort.{Stays, Joins, SameBytes, EachPort-nothing, EachPort-on, EachPort-same, EachPort-first}

abbrev pub appending : PortView → PortView → List ℕ → Type 0
appending old new bytes = Appends old.bytes new.bytes bytes

abbrev pub consuming : PortView → PortView → List ℕ → Type 0
consuming old new bytes = Consumes old.left new.left bytes

pub appending-stays : Stays appending
appending-stays port = Appends-nil port.bytes

pub appending-joins : Joins appending
appending-joins old mid new x y p q = Appends-trans old.bytes mid.bytes new.bytes x y p q

pub consuming-stays : Stays consuming
consuming-stays port = Consumes-nil port.left

pub consuming-joins : Joins consuming
consuming-joins old mid new x y p q = Consumes-trans old.left mid.left new.left x y p q

pub Delivered-nothing : (ports : List PortView) → Delivered ports ports []
Delivered-nothing ports = EachPort-nothing appending appending-stays ports

pub Delivered-on : (olds mids news : List PortView) (ps qs : Pairs) → Delivered olds mids ps → names mids ≡ names olds → Delivered mids news qs → Delivered olds news (ps ++ qs)
Delivered-on olds mids news ps qs d same e = EachPort-on appending appending-joins olds mids news ps qs d same e

pub Drawn-nothing : (ports : List PortView) → Drawn ports ports []
Drawn-nothing ports = EachPort-nothing consuming consuming-stays ports

pub Drawn-on : (olds mids news : List PortView) (ps qs : Pairs) → Drawn olds mids ps → names mids ≡ names olds → Drawn mids news qs → Drawn olds news (ps ++ qs)
Drawn-on olds mids news ps qs d same e = EachPort-on consuming consuming-joins olds mids news ps qs d same e

-- what the first port of a name has given
pub Drawn-first : (olds news : List PortView) (name : List ℕ) (pairs : Pairs) → names news ≡ names olds → Drawn olds news pairs → Consumes (left_of name olds) (left_of name news) (bytes_for name pairs)
Drawn-first olds news name pairs same d = EachPort-first None (λ port. port.left) Consumes (λ bytes. tt) olds news name pairs same d

pub StaysFlushed-on : (olds mids news : List PortView) (ps qs : Pairs) → StaysFlushed olds mids ps → StaysFlushed mids news qs → StaysFlushed olds news (ps ++ qs)
StaysFlushed-on olds mids news ps qs p q name out before =
    let split : is_among name (names_in (ps ++ qs)) ≡ (is_among name (names_in ps) || is_among name (names_in qs)) =
    rw (names_in-append ps qs) (list_any-append (bytes_eq name) (names_in ps) (names_in qs)) in
    let neither = or_parts (is_among name (names_in ps)) (is_among name (names_in qs)) (sym split ∙ out) in
    q name neither.1 (p name neither.0 before)

pub Progress-start : (ports : List PortView) → Progress ports ports [] []
Progress-start ports = record {
  same_names = refl;
  same_rooms = refl;
  same_faults = record { reads = refl; writes = refl; finishes = refl };
  drawn = Drawn-nothing ports;
  delivered = Delivered-nothing ports;
  flushed = λ name out before. before;
}

pub Progress-on : (olds mids news : List PortView) (ts us ps qs : Pairs) → Progress olds mids ts ps → Progress mids news us qs → Progress olds news (ts ++ us) (ps ++ qs)
Progress-on olds mids news ts us ps qs p q = record {
  same_names = q.same_names ∙ p.same_names;
  same_rooms = q.same_rooms ∙ p.same_rooms;
  same_faults = record {
    reads = q.same_faults.reads ∙ p.same_faults.reads;
    writes = q.same_faults.writes ∙ p.same_faults.writes;
    finishes = q.same_faults.finishes ∙ p.same_faults.finishes;
  };
  drawn = Drawn-on olds mids news ts us p.drawn p.same_names q.drawn;
  delivered = Delivered-on olds mids news ps qs p.delivered p.same_names q.delivered;
  flushed = StaysFlushed-on olds mids news ps qs p.flushed q.flushed;
}

-- of what was taken only the bytes for each name count
pub Progress-same_taken : (olds news : List PortView) (ts us ps : Pairs) → SameBytes ts us → Progress olds news ts ps → Progress olds news us ps
Progress-same_taken olds news ts us ps same p = record {
  same_names = p.same_names;
  same_rooms = p.same_rooms;
  same_faults = p.same_faults;
  drawn = EachPort-same consuming olds news ts us same p.drawn;
  delivered = p.delivered;
  flushed = p.flushed;
}

-- a failed call after calls that have not failed, where these have kept its count
pub Failure-on : (count : PortView → ℕ) (name : List ℕ) (olds mids news : List PortView) (ts us ps qs : Pairs) → Progress olds mids ts ps → map count mids ≡ map count olds → Failure count name mids news us qs → Failure count name olds news (ts ++ us) (ps ++ qs)
Failure-on count name olds mids news ts us ps qs p kept f =
    let P : ℕ → Type 0 = λ before. Rose before (of_first 0 count name news) in
    record {
      same_names = f.same_names ∙ p.same_names;
      rose = subst P (of_first-same 0 count name olds mids p.same_names kept) f.rose;
      drawn = Drawn-on olds mids news ts us p.drawn p.same_names f.drawn;
      delivered = Delivered-on olds mids news ps qs p.delivered p.same_names f.delivered;
    }

-- a failed fill, which has taken a part
pub fill_failure-on : (name : List ℕ) (olds mids news : List PortView) (ts us ps : Pairs) → Progress olds mids ts ps → ReadFailure name mids news us [] → ReadFailure name olds news (ts ++ us) ps
fill_failure-on name olds mids news ts us ps p f =
    let P : Pairs → Type 0 = λ pairs. ReadFailure name olds news (ts ++ us) pairs in
    subst P (append-nil ps) (Failure-on (λ port. port.read_faults) name olds mids news ts us ps [] p p.same_faults.reads f)

-- a failed read
pub read_failure-on : (name : List ℕ) (olds mids news : List PortView) (ts ps : Pairs) → Progress olds mids ts ps → ReadFailure name mids news [] [] → ReadFailure name olds news ts ps
read_failure-on name olds mids news ts ps p f =
    let P : Pairs → Type 0 = λ pairs. ReadFailure name olds news pairs ps in
    subst P (append-nil ts) (fill_failure-on name olds mids news ts [] ps p f)

-- a failed write, which has given a part
pub write_failure-on : (name : List ℕ) (olds mids news : List PortView) (ts ps qs : Pairs) → Progress olds mids ts ps → WriteFailure name mids news [] qs → WriteFailure name olds news ts (ps ++ qs)
write_failure-on name olds mids news ts ps qs p f =
    let P : Pairs → Type 0 = λ pairs. WriteFailure name olds news pairs (ps ++ qs) in
    subst P (append-nil ts) (Failure-on (λ port. port.write_faults) name olds mids news ts [] ps qs p p.same_faults.writes f)

-- a failed finish
pub finish_failure-on : (name : List ℕ) (olds mids news : List PortView) (ts ps : Pairs) → Progress olds mids ts ps → FinishFailure name mids news [] [] → FinishFailure name olds news ts ps
finish_failure-on name olds mids news ts ps p f =
    let Q : Pairs → Type 0 = λ pairs. FinishFailure name olds news ts pairs in
    let whole : FinishFailure name olds news (ts ++ []) (ps ++ []) = Failure-on (λ port. port.finish_faults) name olds mids news ts [] ps [] p p.same_faults.finishes f in
    let R : Pairs → Type 0 = λ pairs. FinishFailure name olds news pairs (ps ++ []) in
    subst Q (append-nil ps) (subst R (append-nil ts) whole)
