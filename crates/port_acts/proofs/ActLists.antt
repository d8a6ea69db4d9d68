-- Acts that follow one another.
use Rattle.std.proofs.Common.{◌≡◌, ◌⊎◌, ℕ, Bool, List, [], ◌∷◌, ◌++◌, refl, sym, ◌∙◌, ap, true, false, cond, inl, inr}
use Rattle.std.specs.Str.{bytes_eq}
use Rattle.std.proofs.lemmas.Bool.{cases_Bool, or_parts}
use Rattle.std.proofs.lemmas.List.{map-append}
use Rattle.std.proofs.lemmas.List.Folds.{list_any-append}
use Rattle.std.proofs.lemmas.Grind.{flat_map-append}
use Rattle.hume_ports.specs.Ports.{is_among}
use Rattle.hume_ports.specs.Delivery.{Pairs, names_in}
use Rattle.hume_ports.proofs.Names.{bytes_for-append}
use Rattle.hume_ports.proofs.Untouched.{Within}
use Rattle.port_acts.specs.Acts.{Act, wants, writes, finishes, name_of, names_of, written_by, written, wanted_by, wanted, is_out_after, is_finished, FinishesLast}
use Rattle.port_acts.specs.Ends.{OnlyWanted}

pub written-append : (ps qs : List Act) → written (ps ++ qs) ≡ written ps ++ written qs
written-append ps qs = flat_map-append written_by ps qs

pub names_of-append : (ps qs : List Act) → names_of (ps ++ qs) ≡ names_of ps ++ names_of qs
names_of-append ps qs = map-append name_of ps qs

-- a name that is not among both lists is among neither
among_neither : (name : List ℕ) (few more both : List (List ℕ)) → both ≡ few ++ more → is_among name both ≡ false
    → (is_among name few ≡ false) × (is_among name more ≡ false)
among_neither name few more both is out =
    or_parts (is_among name few) (is_among name more) (sym (ap (is_among name) is ∙ list_any-append (bytes_eq name) few more) ∙ out)

pub within_first : (ps qs : List Act) → Within (names_of ps) (names_of (ps ++ qs))
within_first ps qs name out = (among_neither name (names_of ps) (names_of qs) (names_of (ps ++ qs)) (names_of-append ps qs) out).0

pub within_last : (ps qs : List Act) → Within (names_of qs) (names_of (ps ++ qs))
within_last ps qs name out = (among_neither name (names_of ps) (names_of qs) (names_of (ps ++ qs)) (names_of-append ps qs) out).1

pub OnlyWanted-on : (ps qs : List Act) (ts us : Pairs) → OnlyWanted ps ts → OnlyWanted qs us → OnlyWanted (ps ++ qs) (ts ++ us)
OnlyWanted-on ps qs ts us o p name out =
    let neither = among_neither name (wanted ps) (wanted qs) (wanted (ps ++ qs)) (flat_map-append wanted_by ps qs) out in
    bytes_for-append name ts us ∙ rw (o name neither.0, p name neither.1) refl

pub is_out_after-append : (name : List ℕ) (before : Bool) (ps qs : List Act)
    → is_out_after name before (ps ++ qs) ≡ is_out_after name (is_out_after name before ps) qs
is_out_after-append name before [] qs = refl
is_out_after-append name before (wants other count ∷ ps) qs = is_out_after-append name before ps qs
is_out_after-append name before (writes other bytes ∷ ps) qs = is_out_after-append name (cond (bytes_eq name other) false before) ps qs
is_out_after-append name before (finishes other ∷ ps) qs = is_out_after-append name (cond (bytes_eq name other) true before) ps qs

-- what is out after the acts was finished by them, or it was out before and isn't written to
pub out_by : (name : List ℕ) (before : Bool) (acts : List Act) → is_out_after name before acts ≡ true
    → (is_finished name acts ≡ true) ⊎ ((before ≡ true) × (is_among name (names_in (written acts)) ≡ false))
out_by name before [] out = inr (out, refl)
out_by name before (wants other count ∷ acts) out = out_by name before acts out
out_by name before (writes other bytes ∷ acts) out = elim (cases_Bool (bytes_eq name other)) [
  | inl is ↦ inl (rw is (rw is at out))
  | inr isnt ↦ rw isnt (out_by name before acts (rw isnt at out))
]
out_by name before (finishes other ∷ acts) out = elim (cases_Bool (bytes_eq name other)) [
  | inl is ↦ inl (rw is (rw is at out))
  | inr isnt ↦ rw isnt (out_by name before acts (rw isnt at out))
]

-- after a finish nothing is written
pub all_before : (before later : List Act) (name : List ℕ) → FinishesLast (before ++ finishes name ∷ later)
    → written before ≡ written (before ++ finishes name ∷ later)
all_before [] later name last = sym last.0
all_before (wants other count ∷ before) later name last = all_before before later name last
all_before (writes other bytes ∷ before) later name last = ap (λ (pairs : Pairs). (other, bytes) ∷ pairs) (all_before before later name last)
all_before (finishes other ∷ before) later name last = all_before before later name last.1
