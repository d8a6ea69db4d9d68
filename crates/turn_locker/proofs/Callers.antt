-- For who calls a locker: when a wire and a node may be passed and what that leaves, and how all items are placed.
use Rattle.std.proofs.Common.{◌≡◌, ◌≢◌, ℕ, zero, suc, ◌+◌, ◌-◌, ◌<◌, ◌≤◌, List, [], ◌∷◌, sym, refl, ap, ◌∙◌, subst, arith, eq-eqb, ne_eqb}
use mathlib.Core.Logic.{dite}
use mathlib.Core.Option.{none, some, some-ne-none}
use native.Mathlib.Decide.{ℕ_discrete}
use Rattle.std.proofs.lemmas.Bool.{lt-ltb, le-ltb}
use Rattle.hume_net.specs.declared.plan.Plan.{Plan}
use Rattle.hume_net.specs.Times.{mover}
use Rattle.turn_locker.specs.declared.view.View.{View}
use Rattle.turn_locker.specs.Asking.{MayPass, MayPassNode, MayPassWire}
use Rattle.turn_locker.specs.Held.{held_at, without, pairs_but}
use Rattle.turn_locker.specs.Views.{held_at_first, passed_with}
use Rattle.turn_locker.proofs.Updates.{held_here, held_else}

pub node_may_pass : (plan : Plan) (node time : ℕ) (v : View) → node < plan.nodes → MayPassNode plan node time v → MayPass plan node time v
node_may_pass plan node time v less may = record { a_node = λ _. may; a_wire = λ beyond. absurd (omega (arith, less, beyond)) }

pub wire_may_pass : (plan : Plan) (wire time : ℕ) (v : View) → MayPassWire plan wire time v → MayPass plan (plan.nodes + wire) time v
wire_may_pass plan wire time v may = record {
  a_node = λ less. absurd (omega (arith, less));
  a_wire = λ _. subst (λ (w : ℕ). MayPassWire plan w time v) (let same : wire ≡ plan.nodes + wire - plan.nodes = omega arith in same) may;
}

pub passed_node : (plan : Plan) (node time : ℕ) (pairs : List (ℕ × ℕ)) → node < plan.nodes → passed_with plan node time pairs ≡ pairs_but node pairs
passed_node plan node time pairs less = rw (lt-ltb node plan.nodes less) refl

pub passed_wire : (plan : Plan) (wire time : ℕ) (pairs : List (ℕ × ℕ)) → passed_with plan (plan.nodes + wire) time pairs ≡ (mover plan time wire, wire) ∷ pairs
passed_wire plan wire time pairs =
    let beyond : plan.nodes ≤ plan.nodes + wire = omega arith in let same : plan.nodes + wire - plan.nodes ≡ wire = omega arith in
    rw (le-ltb (plan.nodes + wire) plan.nodes beyond) (λ k. (mover plan time (same k), same k) ∷ pairs)

-- items are placed from the last one on

without_absent : (item : ℕ) (hs : List (ℕ × ℕ)) → held_at item hs ≡ none → without item hs ≡ hs
without_absent item [] gone = refl
without_absent item (h ∷ hs) gone = dite (ℕ_discrete h.0 item)
    (λ same. absurd (some-ne-none h.1 (sym (rw (eq-eqb h.0 item same) refl) ∙ gone)))
    (λ other. rw (ne_eqb h.0 item other) (ap (λ xs. h ∷ xs) (without_absent item hs (sym (not_here h item hs other) ∙ gone))))
  where
    not_here : (h : ℕ × ℕ) (item : ℕ) (hs : List (ℕ × ℕ)) → h.0 ≢ item → held_at item (h ∷ hs) ≡ held_at item hs
    not_here h item hs other = rw (ne_eqb h.0 item other) refl

none_above : (count item : ℕ) → count ≤ item → held_at item (held_at_first count) ≡ none
none_above zero item le = refl
none_above (suc count) item le = held_else count 0 item (held_at_first count) (λ e. omega (arith, e)) ∙ none_above count item (omega arith)

pub last_held : (item : ℕ) → held_at item (held_at_first (suc item)) ≡ some 0
last_held item = held_here item 0 (held_at_first item)

pub without_last : (item : ℕ) → without item (held_at_first (suc item)) ≡ held_at_first item
without_last item = rw (eq-eqb item item refl) (without_absent item (held_at_first item) (none_above item item (omega arith)))
