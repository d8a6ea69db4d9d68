-- Calls that end before they write, and what calls that owe the same have in common.
use Rattle.std.proofs.Common.{◌≡◌, ℕ, List, [], ◌∷◌, ◌++◌, refl, sym, ◌∙◌, ap, subst, append_assoc, inl, inr, Some}
use Rattle.std.proofs.lemmas.List.{map-append}
use Rattle.hume_ports.specs.Port.{PortView}
use Rattle.hume_ports.specs.Ports.{Untouched}
use Rattle.hume_ports.specs.Delivery.{Pairs, Delivered, SameFaults, bytes_for}
use Rattle.hume_ports.proofs.Untouched.{Untouched-more}
use Rattle.port_acts.specs.Acts.{Act, wants, names_of, written}
use Rattle.port_acts.specs.Ends.{Few, Made, Fails, Owed, EndsAs, bytes_of}
use Rattle.port_acts.specs.Early.{Reads, read_each, names_read, after_reads, Stops, EndsEarly}
use Rattle.port_acts.proofs.ActLists.{written-append, within_first}
use Rattle.port_acts.proofs.Making.{Made-on, delivered_bytes}
use Rattle.port_acts.proofs.Failing.{Fails-on, Fails-stop, Fails-nothing, Fails-untouched}

-- acts that were made, and wrote nothing, come before those of which memory stopped some
pub Stops-on : (ts : Pairs) (ps qs : List Act) (olds mids news : List PortView) → Made ps ts olds mids → written ps ≡ [] → Stops qs mids news
    → Stops (ps ++ qs) olds news
Stops-on ts ps qs olds mids news m none s = record {
  before = ps ++ s.before;
  later = s.later;
  in_order = ap (λ (acts : List Act). ps ++ acts) s.in_order ∙ sym (append_assoc ps s.before s.later);
  unwritten = written-append ps s.before ∙ rw (none, s.unwritten) refl;
  taken = ts ++ s.taken;
  made = Made-on ps s.before ts s.taken olds mids news m s.made;
}

-- acts that come later are not begun
pub Stops-more : (ps qs : List Act) (olds news : List PortView) → Stops ps olds news → Stops (ps ++ qs) olds news
Stops-more ps qs olds news s = record {
  before = s.before;
  later = s.later ++ qs;
  in_order = ap (λ (acts : List Act). acts ++ qs) s.in_order ∙ append_assoc s.before s.later qs;
  unwritten = s.unwritten;
  taken = s.taken;
  made = s.made;
}

pub Stops-nothing : (acts : List Act) (olds news : List PortView) → Stops acts olds news → Delivered olds news []
Stops-nothing acts olds news s =
    let P : Pairs → Type 0 = λ pairs. Delivered olds news pairs in
    subst P s.unwritten s.made.progress.delivered

pub Stops-quiet : (acts : List Act) (olds news : List PortView) → Stops acts olds news → SameFaults olds news
Stops-quiet acts olds news s = s.made.progress.same_faults

pub Stops-untouched : (acts : List Act) (olds news : List PortView) → Stops acts olds news → Untouched (names_of acts) olds news
Stops-untouched acts olds news s =
    let P : List Act → Type 0 = λ all. Untouched (names_of all) olds news in
    subst P (sym s.in_order) (Untouched-more (names_of s.before) (names_of (s.before ++ s.later)) olds news (within_first s.before s.later) s.made.untouched)

-- reads

pub read_each-append : (first second : Reads) → read_each (first ++ second) ≡ read_each first ++ read_each second
read_each-append first second = map-append (λ read. wants read.0 read.1) first second

pub reads_write_nothing : (reads : Reads) → written (read_each reads) ≡ []
reads_write_nothing [] = refl
reads_write_nothing (read ∷ reads) = reads_write_nothing reads

pub names_are_read : (reads : Reads) → names_of (read_each reads) ≡ names_read reads
names_are_read [] = refl
names_are_read (read ∷ reads) = ap (λ (others : List (List ℕ)). read.0 ∷ others) (names_are_read reads)

pub early_nothing : {Status : Type 0} (few : Few) (reads : Reads) (no_memory fault : Status) (olds news : List PortView) (status : Status)
    → EndsEarly few reads no_memory fault olds news status → Delivered olds news []
early_nothing few reads no_memory fault olds news status (inl stops) = Stops-nothing (read_each reads) olds news stops.1
early_nothing few reads no_memory fault olds news status (inr fails) = Fails-nothing few [] (read_each reads) olds news fails.1 (reads_write_nothing reads)

pub early_untouched : {Status : Type 0} (few : Few) (reads : Reads) (no_memory fault : Status) (olds news : List PortView) (status : Status)
    → EndsEarly few reads no_memory fault olds news status → Untouched (names_read reads) olds news
early_untouched few reads no_memory fault olds news status ends =
    let P : List (List ℕ) → Type 0 = λ touched. Untouched touched olds news in
    subst P (names_are_read reads) (elim ends [
      | inl stops ↦ Stops-untouched (read_each reads) olds news stops.1
      | inr fails ↦ Fails-untouched few [] (read_each reads) olds news fails.1
    ])

pub early_quiet : {Status : Type 0} (few : Few) (reads : Reads) (no_memory fault : Status) (olds news : List PortView) (status : Status)
    → EndsEarly few reads no_memory fault olds news status → (status ≡ fault → ⊥) → SameFaults olds news
early_quiet few reads no_memory fault olds news status (inl stops) answered = Stops-quiet (read_each reads) olds news stops.1
early_quiet few reads no_memory fault olds news status (inr fails) answered = absurd (answered fails.0)

-- calls that begin with reads

pub whole_made : {Status : Type 0} (few : Few) (reads : Reads) (owed : Owed Status) (fault : Status) (ts us : Pairs) (olds mids news : List PortView)
    → Made (read_each reads) ts olds mids → Made owed.acts us mids news → EndsAs few (after_reads reads owed) fault olds news owed.answer
whole_made few reads owed fault ts us olds mids news m n = inl (refl, ts ++ us, Made-on (read_each reads) owed.acts ts us olds mids news m n)

pub whole_fails : {Status : Type 0} (few : Few) (reads : Reads) (owed : Owed Status) (fault : Status) (ts : Pairs) (olds mids news : List PortView)
    → Made (read_each reads) ts olds mids → Fails few ts owed.acts mids news → EndsAs few (after_reads reads owed) fault olds news fault
whole_fails few reads owed fault ts olds mids news m f = inr (refl, Fails-on few [] ts (read_each reads) owed.acts olds mids news m f)

pub early_fails : {Status : Type 0} (few : Few) (reads : Reads) (owed : Owed Status) (fault : Status) (olds news : List PortView)
    → Fails few [] (read_each reads) olds news → EndsAs few (after_reads reads owed) fault olds news fault
early_fails few reads owed fault olds news f = inr (refl, Fails-stop few [] (read_each reads) owed.acts olds news f)

-- calls that owe the same

pub answered : {Status : Type 0} (few : Few) (owed : Owed Status) (fault : Status) (olds news : List PortView) (status : Status)
    → EndsAs few owed fault olds news status → (status ≡ fault → ⊥) → (status ≡ owed.answer) × (taken : Pairs) × Made owed.acts taken olds news
answered few owed fault olds news status (inl made) no_fault = made
answered few owed fault olds news status (inr fails) no_fault = absurd (no_fault fails.0)

pub bytes_owed : {Status : Type 0} (few : Few) (owed : Owed Status) (fault : Status) (olds news : List PortView) (status : Status) (name had : List ℕ)
    → EndsAs few owed fault olds news status → (status ≡ fault → ⊥)
    → bytes_of name olds ≡ Some had → bytes_of name news ≡ Some (had ++ bytes_for name (written owed.acts))
bytes_owed few owed fault olds news status name had ends no_fault told =
    let made = answered few owed fault olds news status ends no_fault in
    delivered_bytes olds news (written owed.acts) name had made.2.progress.same_names made.2.progress.delivered told

-- acts and answers that are the same are the same owed
pub Owed-same : {Status : Type 0} (a b : Owed Status) → a.acts ≡ b.acts → a.answer ≡ b.answer → a ≡ b
Owed-same {Status} a b acts answer =
    let owed : List Act → Status → Owed Status = λ x y. record { acts = x; answer = y } in
    ap (λ (x : List Act). owed x a.answer) acts ∙ ap (λ (y : Status). owed b.acts y) answer

pub end_alike : {Status : Type 0} (few : Few) (owed : Owed Status) (fault : Status) (olds news others later : List PortView) (status other : Status)
    → EndsAs few owed fault olds news status → EndsAs few owed fault others later other → (status ≡ fault → ⊥) → (other ≡ fault → ⊥)
    → (status ≡ other) × ((name had : List ℕ) → bytes_of name olds ≡ Some had → bytes_of name others ≡ Some had → bytes_of name news ≡ bytes_of name later)
end_alike few owed fault olds news others later status other ends too no_fault nor_there = (
  (answered few owed fault olds news status ends no_fault).0 ∙ sym (answered few owed fault others later other too nor_there).0,
  λ name had told there. bytes_owed few owed fault olds news status name had ends no_fault told
      ∙ sym (bytes_owed few owed fault others later other name had too nor_there there),
)
