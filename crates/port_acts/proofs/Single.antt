-- One act alone: a want that is read for in turn, a write, a finish.
use Rattle.std.proofs.Common.{◌≡◌, ◌≤◌, ℕ, List, [], ◌∷◌, ◌++◌, length, take, OnOk, OnErr, IfOk, IsOk, refl, sym, ◌∙◌, true, subst, inl, inr, append-nil, append_assoc, Ok, Err, Result}
use Rattle.std.proofs.lemmas.Bool.{true≢false, cases_Bool}
use Rattle.std.specs.Str.{bytes_eq}
use Rattle.hume_ports.specs.declared.port.Failed.{Failed}
use Rattle.hume_ports.specs.Port.{PortView}
use Rattle.hume_ports.specs.Ports.{flushed_of, ForNameAt, Untouched, names}
use Rattle.hume_ports.specs.Delivery.{Pairs, Progress, Failure, ReadFailure, WriteFailure, FinishFailure, Roomy, bytes_for}
use Rattle.hume_ports.proofs.Names.{same_name, bytes_for-append, place-kept}
use Rattle.hume_ports.proofs.Progress.{Progress-start, Progress-on, fill_failure-on}
use Rattle.hume_ports.proofs.Rooms.{Roomy-on}
use Rattle.hume_ports.proofs.Untouched.{Untouched-start, Untouched-on}
use Rattle.port_acts.specs.Acts.{Act, wants, writes, finishes, name_of, count_of, written}
use Rattle.port_acts.specs.Ends.{Few, never, nothing, OnlyWanted, Made, IsFew, IsPart, Fails, Ends}
use Rattle.port_acts.proofs.Making.{Made-start}
use Rattle.port_acts.proofs.Failing.{failure_since, Fails-untouched, Ends-on, Fails-stop}

-- a want

-- of what was read only the want's name has bytes
pub only_of : (name : List ℕ) (count : ℕ) (bytes : List ℕ) → OnlyWanted (wants name count ∷ []) ((name, bytes) ∷ [])
only_of name count bytes other out = elim (cases_Bool (bytes_eq other name)) [
  | inl is ↦ absurd (true≢false (rw is at out))
  | inr isnt ↦ rw isnt refl
]

pub want_made : (name : List ℕ) (count : ℕ) (bytes : List ℕ) (olds news : List PortView) → Progress olds news ((name, bytes) ∷ []) []
    → Untouched (name ∷ []) olds news → Made (wants name count ∷ []) ((name, bytes) ∷ []) olds news
want_made name count bytes olds news p u = record {
  progress = p;
  only_wanted = only_of name count bytes;
  flushed = λ other out. absurd (true≢false (sym out));
  untouched = u;
}

-- a want for which nothing is read, since enough has come or the end
pub want_unread : (name : List ℕ) (count : ℕ) (ports : List PortView) → Made (wants name count ∷ []) [] ports ports
want_unread name count ports = record {
  progress = Progress-start ports;
  only_wanted = λ other out. refl;
  flushed = λ other out. absurd (true≢false (sym out));
  untouched = Untouched-start (name ∷ []) ports;
}

-- reads in turn for one want
pub want_goes_on : (name : List ℕ) (count : ℕ) (ts us : Pairs) (olds mids news : List PortView) → Made (wants name count ∷ []) ts olds mids
    → Made (wants name count ∷ []) us mids news → Made (wants name count ∷ []) (ts ++ us) olds news
want_goes_on name count ts us olds mids news m n = record {
  progress = Progress-on olds mids news ts us [] [] m.progress n.progress;
  only_wanted = λ other out. bytes_for-append other ts us ∙ rw (m.only_wanted other out, n.only_wanted other out) refl;
  flushed = λ other out. absurd (true≢false (sym out));
  untouched = Untouched-on (name ∷ []) olds mids news m.untouched m.progress.same_names n.untouched;
}

pub want_fails : (few : Few) (earlier : Pairs) (name : List ℕ) (count : ℕ) (read : Pairs) (olds news : List PortView) → ReadFailure name olds news read []
    → OnlyWanted (wants name count ∷ []) read → few name count (bytes_for name (earlier ++ read)) → (Roomy olds [] → ⊥) → Untouched (name ∷ []) olds news
    → Fails few earlier (wants name count ∷ []) olds news
want_fails few earlier name count read olds news f only is no_room u = record {
  before = [];
  act = wants name count;
  later = [];
  in_order = refl;
  mid = olds;
  taken = [];
  made = Made-start olds;
  read = read;
  only_wanted = only;
  given = [];
  part = refl;
  failure = f;
  is_few = is;
  alone = u;
  no_room = no_room;
}

-- what has failed is the only act
single : (act other : Act) (before later : List Act) → act ∷ [] ≡ before ++ other ∷ later → (before ≡ []) × (other ≡ act)
single act other [] later e = (refl, cc)
single act other (first ∷ []) later e = cc
single act other (first ∷ second ∷ before) later e = cc

-- what a failed want tells
record WantFailed (few : Few) (earlier : Pairs) (name : List ℕ) (count : ℕ) (olds news : List PortView) : Type 0 where
  read : Pairs
  failure : ReadFailure name olds news read []
  only_wanted : OnlyWanted (wants name count ∷ []) read
  is_few : few name count (bytes_for name (earlier ++ read))

want_failed : (few : Few) (earlier : Pairs) (name : List ℕ) (count : ℕ) (olds news : List PortView) → Fails few earlier (wants name count ∷ []) olds news
    → WantFailed few earlier name count olds news
want_failed few earlier name count olds news f =
    let is = single (wants name count) f.act f.before f.later f.in_order in
    let since = failure_since few earlier (wants name count ∷ []) olds news f in
    let given : f.given ≡ [] = subst (λ (act : Act). IsPart act f.given) is.1 f.part in
    let all : written f.before ++ f.given ≡ [] = rw (is.0, given) refl in
    let P : Pairs → Type 0 = λ pairs. ReadFailure name olds news (f.taken ++ f.read) pairs in
    let Q : Act → Type 0 = λ act. Failure (count_of act) (name_of act) olds news (f.taken ++ f.read) (written f.before ++ f.given) in
    let front : (other : List ℕ) → bytes_for other f.taken ≡ [] = λ other. f.made.only_wanted other (rw is.0 refl) in
    let part : OnlyWanted (wants name count ∷ []) f.read = subst (λ (act : Act). OnlyWanted (act ∷ []) f.read) is.1 f.only_wanted in
    record {
      read = f.taken ++ f.read;
      failure = subst P all (subst Q is.1 since);
      only_wanted = λ other out. bytes_for-append other f.taken f.read ∙ rw (front other, part other out) refl;
      is_few = subst (λ (act : Act). IsFew few act (bytes_for (name_of act) (earlier ++ (f.taken ++ f.read)))) is.1 f.is_few;
    }

-- a read that fails after others for one want
pub want_stops : (few : Few) (earlier ts : Pairs) (name : List ℕ) (count : ℕ) (olds mids news : List PortView) → Made (wants name count ∷ []) ts olds mids
    → Fails few (earlier ++ ts) (wants name count ∷ []) mids news → Fails few earlier (wants name count ∷ []) olds news
want_stops few earlier ts name count olds mids news m f =
    let w = want_failed few (earlier ++ ts) name count mids news f in
    want_fails few earlier name count (ts ++ w.read) olds news
    (fill_failure-on name olds mids news ts w.read [] m.progress w.failure)
    (λ other out. bytes_for-append other ts w.read ∙ rw (m.only_wanted other out, w.only_wanted other out) refl)
    (subst (λ (pairs : Pairs). few name count (bytes_for name pairs)) (append_assoc earlier ts w.read) w.is_few)
    (λ room. f.no_room (Roomy-on olds mids ts [] [] m.progress room))
    (Untouched-on (name ∷ []) olds mids news m.untouched m.progress.same_names (Fails-untouched few (earlier ++ ts) (wants name count ∷ []) mids news f))

-- a single read that fails where too few had come
pub read_is_few : (few : Few) (earlier : Pairs) (name : List ℕ) (count : ℕ) (olds news : List PortView) → few name count (bytes_for name earlier)
    → Fails nothing [] (wants name count ∷ []) olds news → Fails few earlier (wants name count ∷ []) olds news
read_is_few few earlier name count olds news is f =
    let w = want_failed nothing [] name count olds news f in
    let same : bytes_for name (earlier ++ w.read) ≡ bytes_for name earlier =
    bytes_for-append name earlier w.read ∙ rw w.is_few (append-nil (bytes_for name earlier)) in
    want_fails few earlier name count w.read olds news w.failure w.only_wanted
    (subst (λ (bytes : List ℕ). few name count bytes) (sym same) is) f.no_room (Fails-untouched nothing [] (wants name count ∷ []) olds news f)

-- a write

pub write_made : (name bytes : List ℕ) (olds news : List PortView) → Progress olds news [] ((name, bytes) ∷ []) → Untouched (name ∷ []) olds news
    → Made (writes name bytes ∷ []) [] olds news
write_made name bytes olds news p u = record {
  progress = p;
  only_wanted = λ other out. refl;
  flushed = λ other out. elim (cases_Bool (bytes_eq other name)) [
    | inl is ↦ absurd (true≢false (sym (rw is at out)))
    | inr isnt ↦ absurd (true≢false (sym (rw isnt at out)))
  ];
  untouched = u;
}

pub write_fails : (few : Few) (earlier : Pairs) (name bytes : List ℕ) (count : ℕ) (olds news : List PortView)
    → WriteFailure name olds news [] ((name, take count bytes) ∷ [])
    → (Roomy olds ((name, bytes) ∷ []) → ⊥) → Untouched (name ∷ []) olds news → Fails few earlier (writes name bytes ∷ []) olds news
write_fails few earlier name bytes count olds news f no_room u = record {
  before = [];
  act = writes name bytes;
  later = [];
  in_order = refl;
  mid = olds;
  taken = [];
  made = Made-start olds;
  read = [];
  only_wanted = λ other out. refl;
  given = (name, take count bytes) ∷ [];
  part = (count, refl);
  failure = f;
  is_few = tt;
  alone = u;
  no_room = no_room;
}

-- a finish

pub finish_made : (name : List ℕ) (olds news : List PortView) → Progress olds news [] [] → flushed_of name news ≡ true
    → Untouched (name ∷ []) olds news → Made (finishes name ∷ []) [] olds news
finish_made name olds news p out u = record {
  progress = p;
  only_wanted = λ other none. refl;
  flushed = λ other is_out. elim (cases_Bool (bytes_eq other name)) [
    | inl is ↦ rw (same_name other name is) out
    | inr isnt ↦ absurd (true≢false (sym (rw isnt at is_out)))
  ];
  untouched = u;
}

pub finish_fails : (few : Few) (earlier : Pairs) (name : List ℕ) (olds news : List PortView) → FinishFailure name olds news [] []
    → (Roomy olds [] → ⊥) → Untouched (name ∷ []) olds news → Fails few earlier (finishes name ∷ []) olds news
finish_fails few earlier name olds news f no_room u = record {
  before = [];
  act = finishes name;
  later = [];
  in_order = refl;
  mid = olds;
  taken = [];
  made = Made-start olds;
  read = [];
  only_wanted = λ other out. refl;
  given = [];
  part = refl;
  failure = f;
  is_few = tt;
  alone = u;
  no_room = no_room;
}

-- what the calls of a place say of the name there

pub read_ends : (olds news : List PortView) (at : ℕ) (buf : List ℕ) (result : Result ℕ Failed)
    → IfOk result (λ count. ForNameAt at olds (λ name. Progress olds news ((name, take count buf) ∷ []) []))
    → ForNameAt at olds (λ name. Untouched (name ∷ []) olds news)
    → IfOk result (λ count. ForNameAt at olds (λ name. (wanted : ℕ) → Made (wants name wanted ∷ []) ((name, take count buf) ∷ []) olds news))
read_ends olds news at buf (Ok count) taken untouched = λ name e wanted. want_made name wanted (take count buf) olds news (taken name e) (untouched name e)
read_ends olds news at buf (Err failed) taken untouched = tt

pub read_stops : (olds news : List PortView) (at : ℕ) (result : Result ℕ Failed)
    → OnErr result (ForNameAt at olds (λ name. ReadFailure name olds news [] []))
    → (Roomy olds [] → IsOk result) → ForNameAt at olds (λ name. Untouched (name ∷ []) olds news)
    → OnErr result (ForNameAt at olds (λ name. (wanted : ℕ) → Fails nothing [] (wants name wanted ∷ []) olds news))
read_stops olds news at (Ok count) failed roomy untouched = tt
read_stops olds news at (Err f) failed roomy untouched = λ name e wanted.
    want_fails nothing [] name wanted [] olds news (failed name e) (λ other out. refl) refl (λ room. absurd (true≢false (sym (roomy room)))) (untouched name e)

pub write_ends : (olds news : List PortView) (at : ℕ) (bytes : List ℕ) (result : Result (Unit {0}) Failed)
    → OnOk result (ForNameAt at olds (λ name. Progress olds news [] ((name, bytes) ∷ [])))
    → OnErr result (ForNameAt at olds (λ name. (count : ℕ) × (count ≤ length bytes) × WriteFailure name olds news [] ((name, take count bytes) ∷ [])))
    → ForNameAt at olds (λ name. Roomy olds ((name, bytes) ∷ []) → IsOk result)
    → ForNameAt at olds (λ name. Untouched (name ∷ []) olds news)
    → ForNameAt at olds (λ name. Ends never [] (writes name bytes ∷ []) [] olds news result)
write_ends olds news at bytes (Ok done) given failed roomy untouched name e = write_made name bytes olds news (given name e) (untouched name e)
write_ends olds news at bytes (Err f) given failed roomy untouched name e =
    let part = failed name e in
    write_fails never [] name bytes part.0 olds news part.2 (λ room. absurd (true≢false (sym (roomy name e room)))) (untouched name e)

pub finish_ends : (olds news : List PortView) (at : ℕ) (result : Result (Unit {0}) Failed)
    → OnOk result (Progress olds news [] []) → OnOk result (ForNameAt at olds (λ name. flushed_of name news ≡ true))
    → OnErr result (ForNameAt at olds (λ name. FinishFailure name olds news [] []))
    → (Roomy olds [] → IsOk result) → ForNameAt at olds (λ name. Untouched (name ∷ []) olds news)
    → ForNameAt at olds (λ name. Ends never [] (finishes name ∷ []) [] olds news result)
finish_ends olds news at (Ok done) quiet flushed failed roomy untouched name e = finish_made name olds news quiet (flushed name e) (untouched name e)
finish_ends olds news at (Err f) quiet flushed failed roomy untouched name e =
    finish_fails never [] name olds news (failed name e) (λ room. absurd (true≢false (sym (roomy room)))) (untouched name e)

-- a write and a finish

pub line_stops : (olds news : List PortView) (at : ℕ) (bytes : List ℕ) → ForNameAt at olds (λ name. Fails never [] (writes name bytes ∷ []) olds news)
    → ForNameAt at olds (λ name. Fails never [] (writes name bytes ∷ finishes name ∷ []) olds news)
line_stops olds news at bytes fails name e = Fails-stop never [] (writes name bytes ∷ []) (finishes name ∷ []) olds news (fails name e)

pub line_ends : (olds mids news : List PortView) (at : ℕ) (bytes : List ℕ) (result : Result (Unit {0}) Failed) → names mids ≡ names olds
    → ForNameAt at olds (λ name. Made (writes name bytes ∷ []) [] olds mids)
    → ForNameAt at mids (λ name. Ends never [] (finishes name ∷ []) [] mids news result)
    → ForNameAt at olds (λ name. Ends never [] (writes name bytes ∷ finishes name ∷ []) [] olds news result)
line_ends olds mids news at bytes result same made ends name e =
    Ends-on never [] [] [] (writes name bytes ∷ []) (finishes name ∷ []) olds mids news result (made name e) (ends name (place-kept olds mids at name same e))
