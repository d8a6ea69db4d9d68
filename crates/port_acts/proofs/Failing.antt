-- A failed act after others and before others, and what a failure tells.
use Rattle.std.proofs.Common.{◌≡◌, ℕ, List, [], ◌∷◌, ◌++◌, map, refl, sym, ◌∙◌, ap, subst, append_assoc, append-nil, ◌<◌, length, length-append, arith, Ok, Err, Result}
use Rattle.hume_ports.specs.declared.port.Failed.{Failed}
use Rattle.hume_ports.specs.Port.{PortView, Rose}
use Rattle.hume_ports.specs.Ports.{Untouched, of_first}
use Rattle.hume_ports.specs.Delivery.{Pairs, SameFaults, Failure, Roomy, Delivered, bytes_for}
use Rattle.hume_ports.proofs.Progress.{Failure-on}
use Rattle.hume_ports.proofs.Rooms.{Roomy-on, Roomy-first}
use Rattle.hume_ports.proofs.Untouched.{Untouched-more}
use Rattle.port_acts.specs.Acts.{Act, wants, writes, finishes, name_of, names_of, count_of, written_by, written, FinishesLast}
use Rattle.port_acts.specs.Ends.{Few, never, Made, IsFew, IsPart, Fails, Ends, NoneRose}
use Rattle.port_acts.proofs.ActLists.{written-append, within_first, all_before}
use Rattle.port_acts.proofs.Making.{Made-on, both_untouched}

-- acts that were made come before the failed one
pub Fails-on : (few : Few) (earlier ts : Pairs) (ps qs : List Act) (olds mids news : List PortView) → Made ps ts olds mids
    → Fails few (earlier ++ ts) qs mids news → Fails few earlier (ps ++ qs) olds news
Fails-on few earlier ts ps qs olds mids news m f =
    let R : Pairs → Type 0 = λ pairs. Roomy olds pairs in
    let P : Pairs → Type 0 = λ pairs. IsFew few f.act (bytes_for (name_of f.act) pairs) in
    record {
      before = ps ++ f.before;
      act = f.act;
      later = f.later;
      in_order = ap (λ (acts : List Act). ps ++ acts) f.in_order ∙ sym (append_assoc ps f.before (f.act ∷ f.later));
      mid = f.mid;
      taken = ts ++ f.taken;
      made = Made-on ps f.before ts f.taken olds mids f.mid m f.made;
      read = f.read;
      only_wanted = f.only_wanted;
      given = f.given;
      part = f.part;
      failure = f.failure;
      is_few = subst P (append_assoc earlier ts (f.taken ++ f.read) ∙ ap (λ (pairs : Pairs). earlier ++ pairs) (sym (append_assoc ts f.taken f.read))) f.is_few;
      alone = f.alone;
      no_room = λ room. f.no_room (Roomy-on olds mids ts (written ps) (written qs) m.progress (subst R (written-append ps qs) room));
    }

-- acts after the failed one are not begun
pub Fails-stop : (few : Few) (earlier : Pairs) (ps qs : List Act) (olds news : List PortView) → Fails few earlier ps olds news
    → Fails few earlier (ps ++ qs) olds news
Fails-stop few earlier ps qs olds news f =
    let R : Pairs → Type 0 = λ pairs. Roomy olds pairs in
    record {
      before = f.before;
      act = f.act;
      later = f.later ++ qs;
      in_order = ap (λ (acts : List Act). acts ++ qs) f.in_order ∙ append_assoc f.before (f.act ∷ f.later) qs;
      mid = f.mid;
      taken = f.taken;
      made = f.made;
      read = f.read;
      only_wanted = f.only_wanted;
      given = f.given;
      part = f.part;
      failure = f.failure;
      is_few = f.is_few;
      alone = f.alone;
      no_room = λ room. f.no_room (Roomy-first olds (written ps) (written qs) (subst R (written-append ps qs) room));
    }

IsFew-other : (few other : Few) (earlier sooner read : Pairs) (act : Act)
    → ((name : List ℕ) (count : ℕ) → few name count (bytes_for name (earlier ++ read)) → other name count (bytes_for name (sooner ++ read)))
    → IsFew few act (bytes_for (name_of act) (earlier ++ read)) → IsFew other act (bytes_for (name_of act) (sooner ++ read))
IsFew-other few other earlier sooner read (wants name count) law is = law name count is
IsFew-other few other earlier sooner read (writes name bytes) law is = tt
IsFew-other few other earlier sooner read (finishes name) law is = tt

-- a failure where too few had come by one measure is one where too few had come by another
pub Fails-few : (few other : Few) (earlier sooner : Pairs) (acts : List Act) (olds news : List PortView) (f : Fails few earlier acts olds news)
    → IsFew other f.act (bytes_for (name_of f.act) (sooner ++ (f.taken ++ f.read))) → Fails other sooner acts olds news
Fails-few few other earlier sooner acts olds news f is = record {
  before = f.before;
  act = f.act;
  later = f.later;
  in_order = f.in_order;
  mid = f.mid;
  taken = f.taken;
  made = f.made;
  read = f.read;
  only_wanted = f.only_wanted;
  given = f.given;
  part = f.part;
  failure = f.failure;
  is_few = is;
  alone = f.alone;
  no_room = f.no_room;
}

-- acts without wants fail by any measure
pub Fails-any : (few : Few) (earlier : Pairs) (acts : List Act) (olds news : List PortView) → Fails never [] acts olds news → Fails few earlier acts olds news
Fails-any few earlier acts olds news f =
    Fails-few never few [] earlier acts olds news f (IsFew-other never few [] earlier (f.taken ++ f.read) f.act (λ name count none. absurd none) f.is_few)

-- after some acts the others do what they do
pub Ends-on : {T : Type 0} (few : Few) (earlier ts us : Pairs) (ps qs : List Act) (olds mids news : List PortView) (result : Result T Failed)
    → Made ps ts olds mids → Ends few (earlier ++ ts) qs us mids news result → Ends few earlier (ps ++ qs) (ts ++ us) olds news result
Ends-on few earlier ts us ps qs olds mids news (Ok value) m e = Made-on ps qs ts us olds mids news m e
Ends-on few earlier ts us ps qs olds mids news (Err failed) m e = Fails-on few earlier ts ps qs olds mids news m e

pub Ends-any : {T : Type 0} (few : Few) (earlier : Pairs) (acts : List Act) (taken : Pairs) (olds news : List PortView) (result : Result T Failed)
    → Ends never [] acts taken olds news result → Ends few earlier acts taken olds news result
Ends-any few earlier acts taken olds news (Ok value) e = e
Ends-any few earlier acts taken olds news (Err failed) e = Fails-any few earlier acts olds news e

-- an act that fails where others are still to come
pub then_fails : (few : Few) (earlier : Pairs) (ps : List Act) (act : Act) (rest : List Act) (whole : List Act) (ts : Pairs) (olds mids news : List PortView)
    → whole ≡ ps ++ act ∷ rest → Made ps ts olds mids → Fails few (earlier ++ ts) (act ∷ []) mids news → Fails few earlier whole olds news
then_fails few earlier ps act rest whole ts olds mids news e m f =
    let P : List Act → Type 0 = λ acts. Fails few earlier acts olds news in
    subst P (sym e) (Fails-on few earlier ts ps (act ∷ rest) olds mids news m (Fails-stop few (earlier ++ ts) (act ∷ []) rest mids news f))

pub done_with_room : {T : Type 0} (few : Few) (earlier taken : Pairs) (acts : List Act) (olds news : List PortView) (result : Result T Failed)
    → Ends few earlier acts taken olds news result → Roomy olds (written acts) → Made acts taken olds news
done_with_room few earlier taken acts olds news (Ok value) e room = e
done_with_room few earlier taken acts olds news (Err failed) e room = absurd (e.no_room room)

-- what a failure tells

pub same_counts : (act : Act) (olds mids : List PortView) → SameFaults olds mids → map (count_of act) mids ≡ map (count_of act) olds
same_counts (wants name count) olds mids same = same.reads
same_counts (writes name bytes) olds mids same = same.writes
same_counts (finishes name) olds mids same = same.finishes

-- a count of the act's port has risen
abbrev HasRisen : Act → List PortView → List PortView → Type 0
HasRisen act olds news = Rose (of_first 0 (count_of act) (name_of act) olds) (of_first 0 (count_of act) (name_of act) news)

-- the failure, seen from the old ports
pub failure_since : (few : Few) (earlier : Pairs) (acts : List Act) (olds news : List PortView) (f : Fails few earlier acts olds news)
    → Failure (count_of f.act) (name_of f.act) olds news (f.taken ++ f.read) (written f.before ++ f.given)
failure_since few earlier acts olds news f =
    Failure-on (count_of f.act) (name_of f.act) olds f.mid news f.taken f.read (written f.before) f.given f.made.progress
    (same_counts f.act olds f.mid f.made.progress.same_faults) f.failure

-- only ports of the acts up to the failed one are touched
pub untouched_since : (few : Few) (earlier : Pairs) (acts : List Act) (olds news : List PortView) (f : Fails few earlier acts olds news)
    → Untouched (names_of (f.before ++ f.act ∷ [])) olds news
untouched_since few earlier acts olds news f =
    both_untouched f.before (f.act ∷ []) olds f.mid news f.made.untouched f.made.progress.same_names f.alone

pub Fails-untouched : (few : Few) (earlier : Pairs) (acts : List Act) (olds news : List PortView) → Fails few earlier acts olds news
    → Untouched (names_of acts) olds news
Fails-untouched few earlier acts olds news f =
    let P : List Act → Type 0 = λ all. Untouched (names_of all) olds news in
    let whole : (f.before ++ f.act ∷ []) ++ f.later ≡ acts = append_assoc f.before (f.act ∷ []) f.later ∙ sym f.in_order in
    subst P whole (Untouched-more (names_of (f.before ++ f.act ∷ [])) (names_of ((f.before ++ f.act ∷ []) ++ f.later)) olds news
    (within_first (f.before ++ f.act ∷ []) f.later) (untouched_since few earlier acts olds news f))

pub Ends-untouched : {T : Type 0} (few : Few) (earlier taken : Pairs) (acts : List Act) (olds news : List PortView) (result : Result T Failed)
    → Ends few earlier acts taken olds news result → Untouched (names_of acts) olds news
Ends-untouched few earlier taken acts olds news (Ok value) e = e.untouched
Ends-untouched few earlier taken acts olds news (Err failed) e = Fails-untouched few earlier acts olds news e

-- where only read counts rose, too few had come for a want
abbrev AtWant : Few → Act → Pairs → Pairs → Type 0
AtWant few act taken given = (name : List ℕ) × (count : ℕ) × (act ≡ wants name count) × few name count (bytes_for name taken) × (given ≡ [])

at_want : (few : Few) (act : Act) (taken given : Pairs) (olds news : List PortView) → IsPart act given → HasRisen act olds news
    → NoneRose (λ port. port.write_faults) olds news → NoneRose (λ port. port.finish_faults) olds news
    → IsFew few act (bytes_for (name_of act) taken) → AtWant few act taken given
at_want few (wants name count) taken given olds news part rose no_write no_finish is = (name, count, refl, is, part)
at_want few (writes name bytes) taken given olds news part rose no_write no_finish is = absurd (no_write name rose)
at_want few (finishes name) taken given olds news part rose no_write no_finish is = absurd (no_finish name rose)

pub read_tells : (few : Few) (earlier : Pairs) (acts : List Act) (olds news : List PortView) (f : Fails few earlier acts olds news)
    → NoneRose (λ port. port.write_faults) olds news → NoneRose (λ port. port.finish_faults) olds news
    → (name : List ℕ) × (count : ℕ) × (f.act ≡ wants name count)
    × few name count (bytes_for name (earlier ++ (f.taken ++ f.read))) × Delivered olds news (written f.before)
read_tells few earlier acts olds news f no_write no_finish =
    let since = failure_since few earlier acts olds news f in
    let want = at_want few f.act (earlier ++ (f.taken ++ f.read)) f.given olds news f.part since.rose no_write no_finish f.is_few in
    let P : Pairs → Type 0 = λ pairs. Delivered olds news pairs in
    (want.0, want.1, want.2, want.3, subst P (ap (λ (given : Pairs). written f.before ++ given) want.4 ∙ append-nil (written f.before)) since.delivered)

-- where only write counts rose, some write wasn't made
write_left : (act : Act) (before later : List Act) (olds news : List PortView) → HasRisen act olds news
    → NoneRose (λ port. port.read_faults) olds news → NoneRose (λ port. port.finish_faults) olds news
    → length (written before) < length (written (before ++ act ∷ later))
write_left (wants name count) before later olds news rose no_read no_finish = absurd (no_read name rose)
write_left (writes name bytes) before later olds news rose no_read no_finish =
    rw (written-append before (writes name bytes ∷ later), length-append (written before) ((name, bytes) ∷ written later)) (omega arith)
write_left (finishes name) before later olds news rose no_read no_finish = absurd (no_finish name rose)

pub write_tells : (few : Few) (earlier : Pairs) (acts : List Act) (olds news : List PortView) (f : Fails few earlier acts olds news)
    → NoneRose (λ port. port.read_faults) olds news → NoneRose (λ port. port.finish_faults) olds news → length (written f.before) < length (written acts)
write_tells few earlier acts olds news f no_read no_finish =
    let P : List Act → Type 0 = λ all. length (written f.before) < length (written all) in
    subst P (sym f.in_order) (write_left f.act f.before f.later olds news (failure_since few earlier acts olds news f).rose no_read no_finish)

-- where only finish counts rose, and no write comes after a finish, all was written
all_given : (act : Act) (before later : List Act) (given : Pairs) (olds news : List PortView) → IsPart act given → HasRisen act olds news
    → NoneRose (λ port. port.read_faults) olds news → NoneRose (λ port. port.write_faults) olds news
    → FinishesLast (before ++ act ∷ later) → written before ++ given ≡ written (before ++ act ∷ later)
all_given (wants name count) before later given olds news part rose no_read no_write last = absurd (no_read name rose)
all_given (writes name bytes) before later given olds news part rose no_read no_write last = absurd (no_write name rose)
all_given (finishes name) before later given olds news part rose no_read no_write last =
    ap (λ (pairs : Pairs). written before ++ pairs) part ∙ append-nil (written before) ∙ all_before before later name last

pub finish_tells : (few : Few) (earlier : Pairs) (acts : List Act) (olds news : List PortView) → Fails few earlier acts olds news
    → NoneRose (λ port. port.read_faults) olds news → NoneRose (λ port. port.write_faults) olds news → FinishesLast acts → Delivered olds news (written acts)
finish_tells few earlier acts olds news f no_read no_write last =
    let since = failure_since few earlier acts olds news f in
    let all = all_given f.act f.before f.later f.given olds news f.part since.rose no_read no_write (subst FinishesLast f.in_order last) in
    let P : Pairs → Type 0 = λ pairs. Delivered olds news pairs in
    subst P (all ∙ ap written (sym f.in_order)) since.delivered

-- an act that writes nothing has given nothing
no_part : (act : Act) (given : Pairs) → IsPart act given → written_by act ≡ [] → given ≡ []
no_part (wants name count) given part none = part
no_part (writes name bytes) given part none = cc
no_part (finishes name) given part none = part

front_is_nothing : (ps qs : Pairs) → ps ++ qs ≡ [] → (ps ≡ []) × (qs ≡ [])
front_is_nothing [] qs e = (refl, e)
front_is_nothing (pair ∷ ps) qs e = cc

-- acts that write nothing, and fail, have given nothing
pub Fails-nothing : (few : Few) (earlier : Pairs) (acts : List Act) (olds news : List PortView) → Fails few earlier acts olds news
    → written acts ≡ [] → Delivered olds news []
Fails-nothing few earlier acts olds news f none =
    let all : written f.before ++ written (f.act ∷ f.later) ≡ [] = sym (written-append f.before (f.act ∷ f.later)) ∙ ap written (sym f.in_order) ∙ none in
    let both = front_is_nothing (written f.before) (written (f.act ∷ f.later)) all in
    let part : f.given ≡ [] = no_part f.act f.given f.part (front_is_nothing (written_by f.act) (written f.later) both.1).0 in
    let P : Pairs → Type 0 = λ pairs. Delivered olds news pairs in
    subst P (rw (both.0, part) refl) (failure_since few earlier acts olds news f).delivered
