-- What a seat holds on its way through a side, and what it may pass and put back there.
use Rattle.std.proofs.Common.{◌≡◌, ◌≢◌, ℕ, zero, suc, Bool, true, false, if◌then◌else◌, ◌+◌, ◌-◌, ◌<◌, List, [], ◌∷◌, drop, length, get_or, sym, refl, ap, ◌∙◌, subst, eq-eqb, ne_eqb, arith}
use mathlib.Core.Logic.{dite}
use mathlib.Core.Option.{none, some, some-ne-none}
use native.Mathlib.Decide.{ℕ_discrete, dec_le}
use Rattle.std.specs.Prelude.{slice_index}
use Rattle.std.proofs.lemmas.List.{get_or-drop, length-drop}
use Rattle.std.proofs.Math.Seq.{drop-cons, drop-length}
use Rattle.hume_net.specs.declared.plan.Plan.{Plan}
use Rattle.hume_net.specs.Times.{mover}
use Rattle.turn_locker.specs.declared.view.View.{View}
use Rattle.turn_locker.specs.Asking.{MayPassNode, MayPassWire, MayPutBack}
use Rattle.turn_locker.specs.Held.{held_at, without, has_pair, pairs_but}
use Rattle.turn_locker.specs.Views.{passes, puts_back}
use Rattle.turn_locker.proofs.Callers.{passed_node, passed_wire}
use Rattle.turn_locker.proofs.Updates.{held_here, held_else, pair_here, or_right}
use Rattle.turn_workers.specs.inner.Stacks.{IsSide, stack, pairs_of}

pub without_absent : (i : ℕ) (hs : List (ℕ × ℕ)) → held_at i hs ≡ none → without i hs ≡ hs
without_absent i [] gone = refl
without_absent i (h ∷ hs) gone = dite (ℕ_discrete h.0 i)
    (λ same. absurd (some-ne-none h.1 (sym (rw (eq-eqb h.0 i same) refl) ∙ gone)))
    (λ other. rw (ne_eqb h.0 i other) (ap (λ xs. h ∷ xs) (without_absent i hs (sym (held_at_else h i hs other) ∙ gone))))
  where
    held_at_else : (h : ℕ × ℕ) (i : ℕ) (hs : List (ℕ × ℕ)) → h.0 ≢ i → held_at i (h ∷ hs) ≡ held_at i hs
    held_at_else h i hs other = rw (ne_eqb h.0 i other) refl

pub node_there : (nodes node t : ℕ) (side : List ℕ) (k : ℕ) → node < nodes → held_at node (stack nodes node t side k) ≡ some t
node_there nodes node t side zero lt = held_here node t []
node_there nodes node t side (suc k) lt = held_else (nodes + slice_index side k) t node (stack nodes node t side k) (λ e. omega (arith, e))
    ∙ node_there nodes node t side k lt

pub wire_there : (nodes node t : ℕ) (side : List ℕ) (k j : ℕ) → j < k → held_at (nodes + slice_index side j) (stack nodes node t side k) ≡ some t
wire_there nodes node t side zero j lt = absurd (omega arith)
wire_there nodes node t side (suc k) j lt = dite (ℕ_discrete (nodes + slice_index side j) (nodes + slice_index side k))
    (λ e. ap (λ q. held_at q ((nodes + slice_index side k, t) ∷ stack nodes node t side k)) e
    ∙ held_here (nodes + slice_index side k) t (stack nodes node t side k))
    (λ other. held_else (nodes + slice_index side k) t (nodes + slice_index side j) (stack nodes node t side k) other
    ∙ wire_there nodes node t side k j (let apart : j ≢ k = λ f. other (ap (λ i. nodes + slice_index side i) f) in omega (arith, apart)))

pub wire_gone : (nodes node t : ℕ) (side : List ℕ) (k w : ℕ) → node < nodes → ((j : ℕ) → j < k → slice_index side j ≢ w)
    → held_at (nodes + w) (stack nodes node t side k) ≡ none
wire_gone nodes node t side zero w lt apart = held_else node t (nodes + w) [] (λ e. omega (arith, e))
wire_gone nodes node t side (suc k) w lt apart = held_else (nodes + slice_index side k) t (nodes + w) (stack nodes node t side k)
    (λ e. apart k (omega arith) (omega (arith, e)))
    ∙ wire_gone nodes node t side k w lt (λ j near. apart j (omega arith))

pub pair_there : (node : ℕ) (ws : List ℕ) (k x : ℕ) → k < length ws → slice_index ws k ≡ x → has_pair node x (pairs_of node ws) ≡ true
pair_there node [] k x lt e = absurd (omega arith)
pair_there node (w ∷ ws) zero x lt e = ap (λ z. has_pair node z (pairs_of node (w ∷ ws))) (sym e) ∙ pair_here node w (pairs_of node ws)
pair_there node (w ∷ ws) (suc k) x lt e = or_right _ _ (pair_there node ws k x (omega arith) e)

pub true_is_not_false : true ≡ false → ⊥
true_is_not_false e = cc e

module _ (plan : Plan) (node t : ℕ) (side : List ℕ) (lt : node < plan.nodes) (is : IsSide plan t node side) where
  -- the top of the stack goes
  pub top_goes : (k : ℕ) → k < length side → without (plan.nodes + slice_index side k) (stack plan.nodes node t side (suc k)) ≡ stack plan.nodes node t side k
  top_goes k near = let w : ℕ = slice_index side k in let i : ℕ = plan.nodes + w in
      rw (eq-eqb i i refl) (without_absent i (stack plan.nodes node t side k) (wire_gone plan.nodes node t side k w lt
      (λ j below e. let same : j ≡ k = is.once j k (omega arith) near e in omega (arith, same))))

  module _ (k : ℕ) (near : k < length side) (v : View) (held : v.held ≡ stack plan.nodes node t side (suc k))
      (passed : v.passed ≡ pairs_of node (drop (suc k) side)) where
    moves : mover plan t (slice_index side k) ≡ node
    moves = (is.of_side k near).1

    pub may_pass_wire : MayPassWire plan (slice_index side k) t v
    may_pass_wire = record {
      is_wire = (is.of_side k near).0;
      wire_held = ap (held_at (plan.nodes + slice_index side k)) held ∙ held_here (plan.nodes + slice_index side k) t (stack plan.nodes node t side k);
      node_held = (λ i. held_at (moves i) (held i)) ∙ node_there plan.nodes node t side (suc k) lt;
      others_held = λ x in_side un.
          let f = is.all x (in_side.0, in_side.1 ∙ moves) in let j : ℕ = f.0 in let there : j < length side = f.1 in
          dite (dec_le (suc k) j)
          (λ late. let yes = pair_there node (drop (suc k) side) (j - suc k) x (let l = length-drop (suc k) side in omega (arith, l))
          (get_or-drop (suc k) side (j - suc k) 0 ∙ (ap (λ i. get_or side i 0) (let e : suc k + (j - suc k) ≡ j = omega arith in e) ∙ f.2)) in
          absurd (true_is_not_false (sym yes ∙ ((λ i. has_pair (sym moves i) x (sym passed i)) ∙ un))))
          (λ early. ap (held_at (plan.nodes + x)) held ∙ ap (λ (z : ℕ). held_at (plan.nodes + z) (stack plan.nodes node t side (suc k))) (sym f.2)
          ∙ wire_there plan.nodes node t side (suc k) j (omega (arith, early)));
    }

    -- a pass of the wire on top leaves the stack below, and one pair more
    pub held_passed : (passes plan (plan.nodes + slice_index side k) t v).held ≡ stack plan.nodes node t side k
    held_passed = ap (without (plan.nodes + slice_index side k)) held ∙ top_goes k near

    pub pairs_passed : (passes plan (plan.nodes + slice_index side k) t v).passed ≡ pairs_of node (drop k side)
    pairs_passed = passed_wire plan (slice_index side k) t v.passed ∙ ((λ i. (moves i, slice_index side k) ∷ passed i)
        ∙ ap (pairs_of node) (sym (drop-cons side k 0 near)))

  pub may_pass_node : (v : View) → v.held ≡ (node, t) ∷ [] → v.passed ≡ pairs_of node side → MayPassNode plan node t v
  may_pass_node v held passed = record {
    node_held = ap (held_at node) held ∙ held_here node t [];
    all_passed = λ x in_side. let f = is.all x in_side in ap (has_pair node x) passed ∙ pair_there node side f.0 x f.1 f.2;
  }

-- a seat that has passed nothing may put back whatever it holds
pub may_put_back : (plan : Plan) (item time : ℕ) (v : View) → held_at item v.held ≡ some time → v.passed ≡ [] → MayPutBack plan item time v
may_put_back plan item time v held none_passed = record {
  is_held = held;
  no_node = λ w. ap (has_pair item w) none_passed;
  no_wire = λ node other t w pair. absurd (true_is_not_false (sym pair ∙ ap (has_pair node other) none_passed));
}

pub but_all : (node : ℕ) (ws : List ℕ) → pairs_but node (pairs_of node ws) ≡ []
but_all node [] = refl
but_all node (w ∷ ws) = rw (eq-eqb node node refl) (but_all node ws)

pub alone_goes : (node t : ℕ) → without node ((node, t) ∷ []) ≡ []
alone_goes node t = rw (eq-eqb node node refl) refl

-- on the way through a side, as the code meets it

module _ (plan : Plan) (node t : ℕ) (side : List ℕ) (lt : node < plan.nodes) (is : IsSide plan t node side) (k m : ℕ) (near : k < length side)
    (longer : m ≡ k + 1)
    (v : View) (held : v.held ≡ stack plan.nodes node t side m) (number : ℕ) (at : number ≡ slice_index side k) where
  next : m ≡ suc k
  next = omega (arith, longer)

  held_next : v.held ≡ stack plan.nodes node t side (suc k)
  held_next = held ∙ ap (stack plan.nodes node t side) next

  -- the wire may be put back
  pub one_put_back : v.passed ≡ [] → MayPutBack plan (plan.nodes + number) t v
  one_put_back none_passed = may_put_back plan (plan.nodes + number) t v
      ((λ i. held_at (plan.nodes + at i) (held_next i)) ∙ held_here (plan.nodes + slice_index side k) t (stack plan.nodes node t side k)) none_passed

  pub held_put_back : (new : View) → new ≡ puts_back (plan.nodes + number) v → new.held ≡ stack plan.nodes node t side k
  held_put_back new view = ap (λ (x : View). x.held) view ∙ ((λ i. without (plan.nodes + at i) (held_next i)) ∙ top_goes plan node t side lt is k near)

  module _ (passed : v.passed ≡ pairs_of node (drop m side)) (time : ℕ) (later : time ≡ t + 1) where
    passed_next : v.passed ≡ pairs_of node (drop (suc k) side)
    passed_next = passed ∙ ap (λ (n : ℕ). pairs_of node (drop n side)) next

    before : t ≡ time - 1
    before = omega (arith, later)

    -- the wire may be passed
    pub one_may_pass : MayPassWire plan number (time - 1) v
    one_may_pass = subst (λ (y : ℕ × ℕ). MayPassWire plan y.0 y.1 v) (λ i. (sym at i, before i))
        (may_pass_wire plan node t side lt is k near v held_next passed_next)

    pub held_one_passed : (new : View) → new ≡ passes plan (plan.nodes + number) (time - 1) v → new.held ≡ stack plan.nodes node t side k
    held_one_passed new view = ap (λ (x : View). x.held) view
        ∙ ((λ i. (passes plan (plan.nodes + at i) (sym before i) v).held) ∙ held_passed plan node t side lt is k near v held_next passed_next)

    pub pairs_one_passed : (new : View) → new ≡ passes plan (plan.nodes + number) (time - 1) v → new.passed ≡ pairs_of node (drop k side)
    pairs_one_passed new view = ap (λ (x : View). x.passed) view
        ∙ ((λ i. (passes plan (plan.nodes + at i) (sym before i) v).passed) ∙ pairs_passed plan node t side lt is k near v held_next passed_next)

-- the node goes last, with its pairs
module _ (plan : Plan) (node t : ℕ) (side : List ℕ) (lt : node < plan.nodes) (is : IsSide plan t node side) (v : View) (held : v.held ≡ (node, t) ∷ []) where
  pub nothing_held : (new : View) → new.held ≡ without node v.held → new.held ≡ []
  nothing_held new view = view ∙ (ap (without node) held ∙ alone_goes node t)

  module _ (passed : v.passed ≡ pairs_of node side) (time : ℕ) (later : time ≡ t + 1) where
    pub node_may_go : MayPassNode plan node (time - 1) v
    node_may_go = subst (λ (x : ℕ). MayPassNode plan node x v) (let e : t ≡ time - 1 = omega (arith, later) in e)
        (may_pass_node plan node t side lt is v held passed)

    pub no_pairs : (new : View) → new ≡ passes plan node (time - 1) v → new.passed ≡ []
    no_pairs new view = ap (λ (x : View). x.passed) view ∙ (passed_node plan node (time - 1) v.passed lt ∙ (ap (pairs_but node) passed ∙ but_all node side))

-- where the half steps were made, the whole side was claimed, so no wire of it was passed yet
pub none_passed : (number claimed : ℕ) (side : List ℕ) (made : Bool) (pairs : List (ℕ × ℕ)) → (made ≡ true → claimed ≡ length side) → pairs ≡ []
    → pairs ≡ (if made then pairs_of number (drop claimed side) else [])
none_passed number claimed side true pairs whole empty = empty ∙ sym (ap (λ k. pairs_of number (drop k side)) (whole refl) ∙ ap (pairs_of number) (drop-length side))
none_passed number claimed side false pairs whole empty = empty
