-- Lists of acts of one kind.
use Rattle.std.proofs.Common.{◌≡◌, ℕ, Bool, List, [], ◌∷◌, ◌++◌, refl, sym, ap, ◌∙◌, subst, true, false, cond, inl, inr}
use Rattle.std.specs.Str.{bytes_eq}
use Rattle.std.proofs.lemmas.Bool.{cases_Bool}
use Rattle.hume_ports.specs.Ports.{is_among}
use Rattle.hume_ports.specs.Delivery.{Pairs}
use Rattle.port_acts.specs.Acts.{Act, wants, writes, finishes, written, finished, write_each, finish_each, is_out_after, is_finished, FinishesLast}
use Rattle.port_acts.specs.Early.{Reads, read_each}
use Rattle.port_acts.proofs.ActLists.{is_out_after-append}

pub all_written : (pairs : Pairs) → written (write_each pairs) ≡ pairs
all_written [] = refl
all_written (pair ∷ pairs) = ap (λ (others : Pairs). pair ∷ others) (all_written pairs)

pub finishes_write_nothing : (names : List (List ℕ)) → written (finish_each names) ≡ []
finishes_write_nothing [] = refl
finishes_write_nothing (name ∷ names) = finishes_write_nothing names

pub writes_finish_nothing : (pairs : Pairs) → finished (write_each pairs) ≡ []
writes_finish_nothing [] = refl
writes_finish_nothing (pair ∷ pairs) = writes_finish_nothing pairs

pub reads_finish_nothing : (reads : Reads) → finished (read_each reads) ≡ []
reads_finish_nothing [] = refl
reads_finish_nothing (read ∷ reads) = reads_finish_nothing reads

both_true : (b : Bool) → cond b true true ≡ true
both_true true = refl
both_true false = refl

stays_out : (name : List ℕ) (names : List (List ℕ)) → is_out_after name true (finish_each names) ≡ true
stays_out name [] = refl
stays_out name (other ∷ names) =
    let P : Bool → Type 0 = λ out. is_out_after name out (finish_each names) ≡ true in
    subst P (sym (both_true (bytes_eq name other))) (stays_out name names)

comes_out : (name : List ℕ) (before : Bool) (names : List (List ℕ)) → is_among name names ≡ true → is_out_after name before (finish_each names) ≡ true
comes_out name before [] among = cc
comes_out name before (other ∷ names) among =
    let P : Bool → Type 0 = λ is. is_out_after name (cond is true before) (finish_each names) ≡ true in
    elim (cases_Bool (bytes_eq name other)) [
      | inl is ↦ subst P (sym is) (stays_out name names)
      | inr isnt ↦ subst P (sym isnt) (comes_out name before names (rw isnt at among))
    ]

-- each of the names that come last is finished
pub each_is_finished : (acts : List Act) (names : List (List ℕ)) (name : List ℕ) → is_among name names ≡ true
    → is_finished name (acts ++ finish_each names) ≡ true
each_is_finished acts names name among =
    is_out_after-append name false acts (finish_each names) ∙ comes_out name (is_out_after name false acts) names among

-- finishes at the end of acts that have none come after all writes
pub finishes_are_last : (acts : List Act) (names : List (List ℕ)) → finished acts ≡ [] → FinishesLast (acts ++ finish_each names)
finishes_are_last [] [] none = tt
finishes_are_last [] (name ∷ names) none = (finishes_write_nothing names, finishes_are_last [] names none)
finishes_are_last (wants name count ∷ acts) names none = finishes_are_last acts names none
finishes_are_last (writes name bytes ∷ acts) names none = finishes_are_last acts names none
finishes_are_last (finishes name ∷ acts) names none = cc
