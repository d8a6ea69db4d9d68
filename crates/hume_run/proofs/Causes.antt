-- A fault comes from a port of the call.
use Rattle.std.proofs.Common.{◌≡◌, ◌⊎◌, ℕ, Bool, true, false, ◌||◌, List, [], ◌∷◌, ◌++◌, refl, ap, ◌∙◌, subst, inl, inr}
use Rattle.std.specs.Str.{bytes_eq}
use Rattle.std.proofs.lemmas.Grind.{flat_map-append}
use Rattle.std.proofs.lemmas.List.Folds.{list_any-append}
use Rattle.hume_ports.specs.Port.{PortView}
use Rattle.hume_ports.specs.Ports.{is_among}
use Rattle.hume_ports.specs.Delivery.{names_in}
use Rattle.hume_ports.proofs.Names.{bytes_eq-self, same_name, names_in-append}
use Rattle.port_acts.specs.Acts.{Act, wants, writes, finishes, name_of, count_of, wanted, wanted_by, written, finished, finished_by}
use Rattle.port_acts.specs.Early.{after_reads}
use Rattle.port_acts.specs.Ends.{Fails, IsFew, Owed, never}
use Rattle.port_acts.proofs.ActLists.{written-append}
use Rattle.port_acts.proofs.Failing.{failure_since}
use Rattle.hume_calls.specs.declared.status.Status.{Status}
use Rattle.hume_calls.specs.declared.order.Order.{Order}
use Rattle.hume_calls.specs.Words.{Named}
use Rattle.hume_calls.specs.Few.{call_few}
use Rattle.hume_calls.specs.Reading.{source_reads}
use Rattle.hume_calls.specs.Faults.{CountRose, ReadRose, HasFault, of_source, of_read, of_write, of_finish, HasFaultAlone, alone_write, alone_finish}

or_right : (a b : Bool) → b ≡ true → (a || b) ≡ true
or_right true b is = refl
or_right false b is = is

or_split : (a b : Bool) → (a || b) ≡ true → (a ≡ true) ⊎ (b ≡ true)
or_split true b is = inl refl
or_split false b is = inr is

-- a name in the middle of names is among them
among_middle : (name : List ℕ) (before later all : List (List ℕ)) → all ≡ before ++ name ∷ later → is_among name all ≡ true
among_middle name before later all is =
    let here : is_among name (name ∷ later) ≡ true = ap (λ (b : Bool). b || is_among name later) (bytes_eq-self name) in
    ap (is_among name) is ∙ list_any-append (bytes_eq name) before (name ∷ later) ∙ or_right (is_among name before) (is_among name (name ∷ later)) here

module _ (source : List ℕ) (most : ℕ) (owed : Owed Status) (olds news : List PortView) where
  read_fault : (name : List ℕ) → is_among name (source ∷ wanted owed.acts) ≡ true → ReadRose name olds news → HasFault source owed olds news
  read_fault name among rose = elim (or_split (bytes_eq name source) (is_among name (wanted owed.acts)) among) [
    | inl is ↦ of_source (subst (λ (n : List ℕ). ReadRose n olds news) (same_name name source is) rose)
    | inr is ↦ of_read name is rose
  ]

  -- by the act that failed
  fault_of : (act : Act) (before later : List Act) → wants source most ∷ owed.acts ≡ before ++ act ∷ later → CountRose (count_of act) (name_of act) olds news
      → HasFault source owed olds news
  fault_of (wants name count) before later e rose =
      read_fault name (among_middle name (wanted before) (wanted later) (source ∷ wanted owed.acts)
      (ap wanted e ∙ flat_map-append wanted_by before (wants name count ∷ later))) rose
  fault_of (writes name bytes) before later e rose =
      of_write name (among_middle name (names_in (written before)) (names_in (written later)) (names_in (written owed.acts))
      (ap (λ (acts : List Act). names_in (written acts)) e ∙ ap names_in (written-append before (writes name bytes ∷ later))
      ∙ names_in-append (written before) ((name, bytes) ∷ written later))) rose
  fault_of (finishes name) before later e rose =
      of_finish name (among_middle name (finished before) (finished later) (finished owed.acts)
      (ap finished e ∙ flat_map-append finished_by before (finishes name ∷ later))) rose

pub has_fault : (order : Order) (named : Named) (text : List ℕ) (texts : List ℕ → List ℕ) (owed : Owed Status) (olds news : List PortView)
    → Fails (call_few order named text texts) [] (after_reads (source_reads named.source) owed).acts olds news → HasFault named.source owed olds news
has_fault order named text texts owed olds news f =
    fault_of named.source 262145 owed olds news f.act f.before f.later f.in_order
    (failure_since (call_few order named text texts) [] (after_reads (source_reads named.source) owed).acts olds news f).rose

-- a call without a source

module _ (owed : Owed Status) (olds news : List PortView) where
  -- by the act that failed, which is no read
  alone_of : (act : Act) (before later : List Act) (bytes : List ℕ) → owed.acts ≡ before ++ act ∷ later → IsFew never act bytes
      → CountRose (count_of act) (name_of act) olds news → HasFaultAlone owed olds news
  alone_of (wants name count) before later bytes e few rose = absurd few
  alone_of (writes name out) before later bytes e few rose =
      alone_write name (among_middle name (names_in (written before)) (names_in (written later)) (names_in (written owed.acts))
      (ap (λ (acts : List Act). names_in (written acts)) e ∙ ap names_in (written-append before (writes name out ∷ later))
      ∙ names_in-append (written before) ((name, out) ∷ written later))) rose
  alone_of (finishes name) before later bytes e few rose =
      alone_finish name (among_middle name (finished before) (finished later) (finished owed.acts)
      (ap finished e ∙ flat_map-append finished_by before (finishes name ∷ later))) rose

  pub has_fault_alone : Fails never [] owed.acts olds news → HasFaultAlone owed olds news
  has_fault_alone f = alone_of f.act f.before f.later _ f.in_order f.is_few (failure_since never [] owed.acts olds news f).rose
