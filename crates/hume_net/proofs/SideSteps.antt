-- What is kept of the values on a wire at a place of a side by a half step: where it holds of no values, of those without
-- the oldest, and of those with one more that is asserted.
use Rattle.std.proofs.Common.{◌≡◌, ℕ, zero, suc, ◌<◌, Bool, true, false, if◌then◌else◌, List, [], ◌∷◌, ◌++◌, map, length, Option, Some, None, slice_get, refl, subst, sym, inl, inr, arith}
use Rattle.std.proofs.lemmas.List.{append-nil}
use Rattle.std.proofs.lemmas.Bool.{and_parts, cases_lt}
use Rattle.std.specs.Option.{is_some, option_flatten, option_to_list, unwrap_or}
use Rattle.hume_base.specs.declared.types.Value.{Value}
use Rattle.hume_model.specs.declared.core_tree.BoxC.{BoxC}
use Rattle.hume_model.specs.declared.core_tree.NodeC.{NodeC}
use Rattle.hume_model.specs.declared.core_tree.NodeC.TheVariants.{Rules, From, To}
use Rattle.hume_model.specs.declared.core_tree.Core.{Core}
use Rattle.hume_model.specs.declared.outcome.Firing.{Firing}
use Rattle.hume_model.specs.Firing.{fire}
use Rattle.hume_net.specs.declared.state.Part.{Part}
use Rattle.hume_net.specs.declared.state.HalfStep.{HalfStep}
use Rattle.hume_net.specs.HalfSteps.{oldest, without_oldest, without_taken, with_asserted, have_room, fired, idle, execute, assert_pending, assert_next}
use Rattle.hume_net.specs.Sides.{numbered}
use Rattle.hume_net.proofs.Gathered.{numbered_get, numbered_past}

-- the values on the wire at a place of a side, and the value at a place of outputs
abbrev pub on_side : List (List Value) → ℕ → List Value
on_side side i = unwrap_or (slice_get side i) []

abbrev pub value_at : List (Option Value) → ℕ → Option Value
value_at values i = option_flatten (slice_get values i)

module _ (Keeps : List Value → Type 0) (none : Keeps []) where
  pub numbered_keeps : (bound : ℕ) (says : ℕ → List Value) (i : ℕ) → Keeps (says i) → Keeps (on_side (numbered bound says) i)
  numbered_keeps bound says i keeps = elim (cases_lt i bound) [
    | inl less ↦ subst (λ o. Keeps (unwrap_or o [])) (sym (numbered_get bound says i less)) keeps
    | inr past ↦ subst (λ o. Keeps (unwrap_or o [])) (sym (numbered_past 0 bound says i past)) none
  ]

  module _ (later : (wire : List Value) → Keeps wire → Keeps (without_oldest wire)) where
    one_taken : (is_taken : Bool) (wire : List Value) → Keeps wire → Keeps (if is_taken then without_oldest wire else wire)
    one_taken true wire keeps = later wire keeps
    one_taken false wire keeps = keeps

    without_taken_keeps : (taken : List Bool) (wires : List (List Value)) (i : ℕ) → Keeps (on_side wires i) → Keeps (on_side (without_taken taken wires) i)
    without_taken_keeps taken [] i keeps = keeps
    without_taken_keeps [] (wire ∷ wires) i keeps = keeps
    without_taken_keeps (t ∷ taken) (wire ∷ wires) zero keeps = one_taken t wire keeps
    without_taken_keeps (t ∷ taken) (wire ∷ wires) (suc i) keeps = without_taken_keeps taken wires i keeps

    all_later : (wires : List (List Value)) (i : ℕ) → Keeps (on_side wires i) → Keeps (on_side (map without_oldest wires) i)
    all_later [] i keeps = keeps
    all_later (wire ∷ wires) zero keeps = later wire keeps
    all_later (wire ∷ wires) (suc i) keeps = all_later wires i keeps

    fired_keeps : (b : BoxC) (part : Part) (wires : List (List Value)) (f : Option Firing) (i : ℕ) → Keeps (on_side wires i) → Keeps (on_side (fired b part wires f).side i)
    fired_keeps b part wires None i keeps = keeps
    fired_keeps b part wires (Some firing) i keeps = without_taken_keeps firing.taken wires i keeps

    choice_keeps : (busy : Bool) (b : BoxC) (part : Part) (wires : List (List Value)) (f : Option Firing) (i : ℕ) → Keeps (on_side wires i)
        → Keeps (on_side (if busy then idle part wires else fired b part wires f).side i)
    choice_keeps true b part wires f i keeps = keeps
    choice_keeps false b part wires f i keeps = fired_keeps b part wires f i keeps

    pub execute_keeps : (core : Core) (node : NodeC) (part : Part) (wires : List (List Value)) (i : ℕ) → Keeps (on_side wires i)
        → Keeps (on_side (execute core node part wires).side i)
    execute_keeps core (Rules b) part wires i keeps = choice_keeps (is_some part.pending) b part wires (fire core b part.order (map oldest wires)) i keeps
    execute_keeps core (From stream) part wires i keeps = keeps
    execute_keeps core (To stream) part wires i keeps = all_later wires i keeps

  -- what is kept where a value is asserted at a place of a side, which has room there
  abbrev pub MayAssert : List (Option Value) → List Bool → List (List Value) → ℕ → Type 0
  MayAssert values rooms wires i = (v : Value) → i < length wires → value_at values i ≡ Some v → (slice_get rooms i ≡ Some false → ⊥) → Keeps (on_side wires i ++ v ∷ [])

  one_more : (wire : List Value) (value : Option Value) → Keeps wire → ((v : Value) → value ≡ Some v → Keeps (wire ++ v ∷ [])) → Keeps (wire ++ option_to_list value)
  one_more wire None keeps may = subst Keeps (sym (append-nil wire)) keeps
  one_more wire (Some v) keeps may = may v refl

  no_rooms : (values : List (Option Value)) → have_room values [] ≡ true
  no_rooms [] = refl
  no_rooms (value ∷ values) = refl

  with_asserted_keeps : (values : List (Option Value)) (rooms : List Bool) (wires : List (List Value)) (i : ℕ) → have_room values rooms ≡ true
      → Keeps (on_side wires i) → MayAssert values rooms wires i → Keeps (on_side (with_asserted values wires) i)
  with_asserted_keeps values rooms [] i roomy keeps may = keeps
  with_asserted_keeps [] rooms (wire ∷ wires) i roomy keeps may = keeps
  with_asserted_keeps (value ∷ values) [] (wire ∷ wires) zero roomy keeps may = one_more wire value keeps (λ v h. may v (omega arith) h (λ e. (cc)))
  with_asserted_keeps (value ∷ values) [] (wire ∷ wires) (suc i) roomy keeps may =
      with_asserted_keeps values [] wires i (no_rooms values) keeps (λ v less h free. may v (omega arith) h (λ e. (cc)))
  with_asserted_keeps (None ∷ values) (room ∷ rooms) (wire ∷ wires) zero roomy keeps may = one_more wire None keeps (λ v h. (cc))
  with_asserted_keeps (Some x ∷ values) (room ∷ rooms) (wire ∷ wires) zero roomy keeps may =
      may x (omega arith) refl (λ e. (let free : room ≡ true = (and_parts _ _ roomy).0 in cc))
  with_asserted_keeps (None ∷ values) (room ∷ rooms) (wire ∷ wires) (suc i) roomy keeps may =
      with_asserted_keeps values rooms wires i roomy keeps (λ v less h free. may v (omega arith) h free)
  with_asserted_keeps (Some x ∷ values) (room ∷ rooms) (wire ∷ wires) (suc i) roomy keeps may =
      with_asserted_keeps values rooms wires i (and_parts _ _ roomy).1 keeps (λ v less h free. may v (omega arith) h free)

  asserted_when : (room : Bool) (before next : Part) (values : List (Option Value)) (rooms : List Bool) (wires : List (List Value)) (i : ℕ)
      → have_room values rooms ≡ room → Keeps (on_side wires i) → MayAssert values rooms wires i
      → Keeps (on_side (if room then (let half : HalfStep = record { part = next; side = with_asserted values wires } in half) else idle before wires).side i)
  asserted_when true before next values rooms wires i roomy keeps may = with_asserted_keeps values rooms wires i roomy keeps may
  asserted_when false before next values rooms wires i roomy keeps may = keeps

  pub pending_keeps : (part : Part) (rooms : List Bool) (wires : List (List Value)) (pending : Option (List (Option Value))) (i : ℕ) → Keeps (on_side wires i)
      → ((values : List (Option Value)) → pending ≡ Some values → MayAssert values rooms wires i) → Keeps (on_side (assert_pending part rooms wires pending).side i)
  pending_keeps part rooms wires None i keeps may = keeps
  pending_keeps part rooms wires (Some values) i keeps may =
      asserted_when (have_room values rooms) part (record part { pending = None }) values rooms wires i refl keeps (may values refl)

  pub next_keeps : (part : Part) (rooms : List Bool) (wires : List (List Value)) (coming : List Value) (i : ℕ) → Keeps (on_side wires i)
      → ((v : Value) (later : List Value) → coming ≡ v ∷ later → MayAssert (Some v ∷ []) rooms wires i) → Keeps (on_side (assert_next part rooms wires coming).side i)
  next_keeps part rooms wires [] i keeps may = keeps
  next_keeps part rooms wires (v ∷ later) i keeps may =
      asserted_when (have_room (Some v ∷ []) rooms) part (record part { coming = later }) (Some v ∷ []) rooms wires i refl keeps (may v later refl)
