-- The passes of a wire and of a node keep the rule.
use Rattle.std.proofs.Common.{◌≡◌, ◌≢◌, ℕ, Bool, true, false, nat_lt, if◌then◌else◌, ◌+◌, ◌-◌, ◌/◌, ◌%◌, ◌<◌, ◌≤◌, List, [], ◌∷◌, length, set, sym, refl, ap, ◌∙◌, subst, ◌⊎◌, inl, inr, ⊎_elim, arith, length-set, get_or-set_same, eq-eqb, ne_eqb}
use Rattle.std.proofs.lemmas.Bool.{ltb-false, ltb-true}
use mathlib.Core.Logic.{dite}
use mathlib.Core.Option.{none, some, some-injective, some-ne-none}
use native.Mathlib.Decide.{ℕ_discrete}
use lib.ListN.{get_elem?}
use Rattle.std.specs.Prelude.{Option, Some, None}
use Rattle.atomic_table.specs.Table.{State, Me, step, gives, Allows}
use Rattle.atomic_table.specs.Table as table
use Rattle.atomic_table.proofs.Lists.{at_set, set_here, set_else}
use Rattle.hume_net.specs.declared.plan.Plan.{Plan}
use Rattle.hume_net.specs.Plan.{wires_of, producer_of, consumer_of}
use Rattle.hume_net.specs.Times.{mover, IsOfSide}
use Rattle.turn_locker.specs.declared.view.View.{View}
use Rattle.turn_locker.specs.Asking.{MayPass, MayPassWire, MayPassNode}
use Rattle.turn_locker.specs.Held.{items_of, held_at, without, has_pair, pairs_but}
use Rattle.turn_locker.specs.Rule.{home_word, is_out, Whereabouts, home, clock_of, executed, asserted, IsTied, AreTied, AreUnderWay, KeepsTurns}
use Rattle.turn_locker.specs.Views.{passed_by, passes}
use Rattle.turn_locker.specs.Plays.{passed_on, with_slot}
use Rattle.turn_locker.proofs.Clocks.{wire_even, wire_odd, executed_goes, asserted_goes, not_even, not_odd}
use Rattle.turn_locker.proofs.Moved.{moved, after}
use Rattle.turn_locker.proofs.Steps.{held_once, not_out_else}
use Rattle.turn_locker.proofs.Updates.{put, put_here, put_else, without_here, without_else, pair_here, pair_else, but_here, but_else, passed_seat, seat_passed, passed_same, passed_now, not_true, true_not_false, distinct_but}

-- what the pass of a node, and that of a wire, make of a view
abbrev passes_node : ℕ → View → View
passes_node node v = record v { held = without node v.held; passed = pairs_but node v.passed; out = None; seen = None }

abbrev passes_wire : Plan → ℕ → ℕ → View → View
passes_wire plan wire time v = record v { held = without (plan.nodes + wire) v.held; passed = (mover plan time wire, wire) ∷ v.passed; out = None; seen = None }

mover_even : (plan : Plan) (t w : ℕ) → t % 2 ≡ 0 → mover plan t w ≡ consumer_of plan w
mover_even plan t w e = rw (eq-eqb (t % 2) 0 e) refl

mover_odd : (plan : Plan) (t w : ℕ) → t % 2 ≢ 0 → mover plan t w ≡ producer_of plan w
mover_odd plan t w e = rw (ne_eqb (t % 2) 0 e) refl

-- the wire that is passed is held no more, and stands in a pair
under_way_wire : (plan : Plan) (w t m : ℕ) (hs qs : List (ℕ × ℕ)) → mover plan t w ≡ m → w < wires_of plan → m < plan.nodes
    → held_at (plan.nodes + w) hs ≡ some t → held_at m hs ≡ some t
    → ((x : ℕ) → IsOfSide plan t m x → has_pair m x qs ≡ false → held_at (plan.nodes + x) hs ≡ some t) → AreUnderWay plan hs qs
    → AreUnderWay plan (without (plan.nodes + w) hs) ((m, w) ∷ qs)
under_way_wire plan w t m hs qs moves is_wire is_node wire node others ok n y pair =
    let hs' = without (plan.nodes + w) hs in
    let stays : (j u : ℕ) → j ≢ plan.nodes + w → held_at j hs ≡ some u → held_at j hs' ≡ some u = λ j u no h. without_else (plan.nodes + w) j hs no ∙ h in
    dite (ℕ_discrete n m)
    (λ e. record {
      time = t;
      is_node = (let b : m < plan.nodes = is_node in omega (arith, e));
      node_held = stays n t (λ f. let b : m < plan.nodes = is_node in omega (arith, e, f)) (ap (λ q. held_at q hs) e ∙ node);
      of_side = side e;
      others_held = λ x in_side un. let x_no : x ≢ w = λ f. true_not_false (has_pair n x ((m, w) ∷ qs))
          (subst (λ (z : ℕ × ℕ). has_pair z.0 z.1 ((m, w) ∷ qs) ≡ true) (λ k. (sym e k, sym f k)) (pair_here m w qs)) un in
          stays (plan.nodes + x) t (λ f. x_no (omega (arith, f))) (others x (in_side.0, in_side.1 ∙ e)
          (subst (λ (z : ℕ). has_pair z x qs ≡ false) e (sym (pair_else m w n x qs (λ both. x_no both.1)) ∙ un)));
    })
    (λ no.
    let k = ok n y (sym (pair_else m w n y qs (λ both. no both.0)) ∙ pair) in record {
      time = k.time;
      is_node = k.is_node;
      node_held = stays n k.time (λ f. let b = k.is_node in omega (arith, f)) k.node_held;
      of_side = k.of_side;
      others_held = λ x in_side un. let h = k.others_held x in_side (sym (pair_else m w n x qs (λ both. no both.0)) ∙ un) in
          stays (plan.nodes + x) k.time (λ f. let same : x ≡ w = omega (arith, f) in
          let time : k.time ≡ t = some-injective k.time t (sym h ∙ (ap (λ (z : ℕ). held_at (plan.nodes + z) hs) same ∙ wire)) in
          absurd (no (sym in_side.1 ∙ ((λ i. mover plan (time i) (same i)) ∙ moves)))) h;
    })
  where
    side : n ≡ m → IsOfSide plan t n y
    side e = dite (ℕ_discrete y w)
        (λ f. (subst (λ (z : ℕ). z < wires_of plan) (sym f) is_wire, (λ k. mover plan t (f k)) ∙ (moves ∙ sym e)))
        (λ f. let k = ok n y (sym (pair_else m w n y qs (λ both. f both.1)) ∙ pair) in
        let time : k.time ≡ t = some-injective k.time t (sym k.node_held ∙ (ap (λ q. held_at q hs) e ∙ node)) in
        subst (λ (u : ℕ). IsOfSide plan u n y) time k.of_side)

-- a node that is passed goes with its pairs
under_way_node : (plan : Plan) (n : ℕ) (hs qs : List (ℕ × ℕ)) → n < plan.nodes → AreUnderWay plan hs qs → AreUnderWay plan (without n hs) (pairs_but n qs)
under_way_node plan n hs qs is_node ok m y pair =
    let no : m ≢ n = λ e. true_not_false (has_pair m y (pairs_but n qs)) pair (ap (λ (z : ℕ). has_pair z y (pairs_but n qs)) e ∙ but_here n y qs) in
    let k = ok m y (sym (but_else n m y qs no) ∙ pair) in record {
      time = k.time;
      is_node = k.is_node;
      node_held = without_else n m hs no ∙ k.node_held;
      of_side = k.of_side;
      others_held = λ x in_side un. without_else n (plan.nodes + x) hs (λ e. omega (arith, e)) ∙ k.others_held x in_side (sym (but_else n m x qs no) ∙ un);
    }

tied_same : {wire wire' : ℕ} {c c' p p' : ℕ} {b b' d d' : Bool} → wire' ≡ wire → executed c' b' ≡ executed c b → asserted p' d' ≡ asserted p d
    → IsTied wire c p b d → IsTied wire' c' p' b' d'
tied_same e f g k = let sum = k.time in let low = k.not_behind in let high = k.not_ahead in
    record {
      time = e ∙ (sum ∙ (λ i. sym f i + sym g i));
      not_behind = subst (λ (y : ℕ × ℕ). y.0 ≤ y.1) (λ i. (sym g i, sym f i)) low;
      not_ahead = subst (λ (y : ℕ × ℕ). y.0 ≤ y.1 + 1) (λ i. (sym f i, sym g i)) high;
    }

module _ {T : Type 0} (number_of time_of : T → ℕ) (right : T → Type 0) (plan : Plan) where
  abbrev St : Type 0
  St = State (Option T) View

  abbrev K : St → Type 0
  K = KeepsTurns number_of time_of right plan

  abbrev M : Type 0
  M = Me (Option T) View

  abbrev clock : (ℕ → Whereabouts T) → ℕ → ℕ
  clock where_is i = clock_of time_of (where_is i)

  -- the time of an item that a seat holds
  clock_held : (s : St) (r : K s) (id : ℕ) (v : View) → get_elem? s.views id ≡ some v → (i t : ℕ) → held_at i v.held ≡ some t → clock r.where_is i ≡ t
  clock_held s r id v at i t h = ap (clock_of time_of) ((r.each_seat id v at).holds i t h).1

  -- no other seat has a pair of a node that a seat holds
  pairs_once : (s : St) (r : K s) (id : ℕ) (v w : View) → get_elem? s.views id ≡ some v → (n t x : ℕ) → held_at n v.held ≡ some t
      → has_pair n x w.passed ≡ false → passed_by (set s.views id w) n x ≡ false
  pairs_once s r id v w at n t x h none_left = not_true (passed_by (set s.views id w) n x) (λ yes.
      let f = passed_seat (set s.views id w) n x yes in let j : ℕ = f.0 in let u : View = f.1 in
      ⊎_elim (λ (y : (j ≡ id) × (w ≡ u)). true_not_false (has_pair n x w.passed) (ap (λ (z : View). has_pair n x z.passed) y.1 ∙ f.3) none_left)
      (λ (y : (j ≢ id) × (get_elem? s.views j ≡ some u)). let k = (r.each_seat j u y.1).pairs n x f.3 in
      y.0 (held_once number_of time_of right plan s r id v at n t h j k.time ((r.each_seat j u y.1).holds n k.time k.node_held).1))
      (at_set s.views id j w u f.2))

  -- a wire that is held at the time of its mover isn't in a pair of it yet
  not_passed_yet : (s : St) (r : K s) (id w t : ℕ) (v : View) → get_elem? s.views id ≡ some v → MayPassWire plan w t v
      → has_pair (mover plan t w) w v.passed ≡ false
  not_passed_yet s r id w t v at may = let m : ℕ = mover plan t w in not_true (has_pair m w v.passed) (λ yes.
      let wire : clock r.where_is (plan.nodes + w) ≡ t = clock_held s r id v at (plan.nodes + w) t may.wire_held in
      let node : clock r.where_is m ≡ t = clock_held s r id v at m t may.node_held in
      let passed : passed_by s.views m w ≡ true = seat_passed s.views m w id v at yes in
      let tie = r.times w may.is_wire in let p : ℕ = producer_of plan w in let q : ℕ = consumer_of plan w in
      dite (ℕ_discrete (t % 2) 0)
      (λ even. let is : m ≡ q = mover_even plan t w even in
      not_even t (clock r.where_is p) (passed_by s.views p w) even
      (subst (λ (y : ℕ × ℕ × Bool). IsTied y.0 y.1 (clock r.where_is p) y.2 (passed_by s.views p w))
      (λ k. (wire k, (ap (clock r.where_is) (sym is) ∙ node) k, (ap (λ n. passed_by s.views n w) (sym is) ∙ passed) k)) tie))
      (λ no. let is : m ≡ p = mover_odd plan t w no in let odd : t % 2 ≡ 1 = omega arith in
      not_odd t (clock r.where_is q) (passed_by s.views q w) odd
      (subst (λ (y : ℕ × ℕ × Bool). IsTied y.0 (clock r.where_is q) y.1 (passed_by s.views q w) y.2)
      (λ k. (wire k, (ap (clock r.where_is) (sym is) ∙ node) k, (ap (λ n. passed_by s.views n w) (sym is) ∙ passed) k)) tie)))

  times_node : (s : St) (r : K s) (id n t : ℕ) (v : View) (c : Whereabouts T) → get_elem? s.views id ≡ some v → n < plan.nodes → MayPassNode plan n t v
      → clock_of time_of c ≡ t + 1
      → AreTied plan (λ j. clock_of time_of (put r.where_is n c j)) (passed_by (set s.views id (passes_node n v)))
  times_node s r id n t v c at node may timed x lt =
      let w : View = passes_node n v in
      let old : clock r.where_is n ≡ t = clock_held s r id v at n t may.node_held in
      let clock' : ℕ → ℕ = λ j. clock_of time_of (put r.where_is n c j) in let passed' = passed_by (set s.views id w) in
      let new : clock' n ≡ t + 1 = ap (clock_of time_of) (put_here r.where_is n c) ∙ timed in
      let else_clock : (j : ℕ) → j ≢ n → clock' j ≡ clock r.where_is j = λ j no. ap (clock_of time_of) (put_else r.where_is n c j no) in
      let else_passed : (m : ℕ) → m ≢ n → passed' m x ≡ passed_by s.views m x = λ m no. passed_same s.views m x id v w at (but_else n m x v.passed no) in
      let gone : passed' n x ≡ false = pairs_once s r id v w at n t x may.node_held (but_here n x v.passed) in
      let was : mover plan t x ≡ n → passed_by s.views n x ≡ true = λ e. seat_passed s.views n x id v at (may.all_passed x (lt, e)) in
      let p : ℕ = producer_of plan x in let q : ℕ = consumer_of plan x in
      tied_same (else_clock (plan.nodes + x) (λ e. omega arith))
      (dite (ℕ_discrete q n)
      (λ e. (λ k. executed (clock' (e k)) (passed' (e k) x))
      ∙ ((λ k. executed (new k) (gone k))
      ∙ (executed_goes t (passed_by s.views n x) (λ even. was (mover_even plan t x even ∙ e))
      ∙ ((λ k. executed (sym old k) (passed_by s.views n x)) ∙ (λ k. executed (clock r.where_is (sym e k)) (passed_by s.views (sym e k) x))))))
      (λ no. λ k. executed (else_clock q no k) (else_passed q no k)))
      (dite (ℕ_discrete p n)
      (λ e. (λ k. asserted (clock' (e k)) (passed' (e k) x))
      ∙ ((λ k. asserted (new k) (gone k))
      ∙ (asserted_goes t (passed_by s.views n x) (λ odd. let no : t % 2 ≢ 0 = λ z. omega arith in was (mover_odd plan t x no ∙ e))
      ∙ ((λ k. asserted (sym old k) (passed_by s.views n x)) ∙ (λ k. asserted (clock r.where_is (sym e k)) (passed_by s.views (sym e k) x))))))
      (λ no. λ k. asserted (else_clock p no k) (else_passed p no k)))
      (r.times x lt)

  passes_node_step : (slots n id t new : ℕ) (x : T) (me : M) → n < plan.nodes → 0 < me.0.share → me.1 ≡ (n, Some x) ∷ [] → me.0.out ≡ Some n
      → MayPassNode plan n t me.0
      → number_of x ≡ n → time_of x ≡ t + 1 → right x → new ≡ home_word (time_of x) → Allows K slots id me n (λ _. new) (λ _ m. m ≡ (passes_node n me.0, []))
  passes_node_step slots i id t new x me node pos has is may numbered clocked ok timed s r _ at _ =
      let v : View = me.0 in let seat = r.each_seat id v at in let mine = seat.holds i t may.node_held in
      let long : length s.words ≡ items_of plan = r.words_are in let wide : length s.homes ≡ items_of plan = r.homes_are in
      let near : i < items_of plan = mine.0 in
      let w : View = passes_node i v in let homes = set s.homes i (some (Some x)) in (
        w,
        gives,
        tt,
        subst (λ hs. K (after number_of time_of right s i new hs id w)) (ap (λ c. table.put_back s.homes c) (sym has))
            (moved number_of time_of right plan s r i new id (home x) homes v w at (length-set s.homes i (some (Some x)))
            (λ k other. set_else s.homes i k (some (Some x)) other)
            (λ k other. (without_else i k v.held other, sym (ap (λ o. is_out o k) is ∙ not_out_else i k other)))
            (held_once number_of time_of right plan s r id v at i t may.node_held)
            (get_or-set_same s.words i new 0 (omega arith) ∙ timed, set_here s.homes i (some (Some x)) (omega arith), numbered, ok)
            (λ u h'. absurd (some-ne-none u (sym h' ∙ without_here i v.held))) refl refl pos
            (under_way_node plan i v.held v.passed node seat.pairs) (distinct_but i v.passed seat.distinct)
            (times_node s r id i t v (home x) at node may clocked)),
        λ k. (w, ap table.rest has k),
      )

  times_wire : (s : St) (r : K s) (id w t : ℕ) (v : View) (c : Whereabouts T) → get_elem? s.views id ≡ some v → MayPassWire plan w t v
      → clock_of time_of c ≡ t + 1
      → AreTied plan (λ j. clock_of time_of (put r.where_is (plan.nodes + w) c j)) (passed_by (set s.views id (passes_wire plan w t v)))
  times_wire s r id w t v c at may timed x lt =
      let u : View = passes_wire plan w t v in let m : ℕ = mover plan t w in let i : ℕ = plan.nodes + w in
      let here : clock r.where_is i ≡ t = clock_held s r id v at i t may.wire_held in
      let node : clock r.where_is m ≡ t = clock_held s r id v at m t may.node_held in
      let clock' : ℕ → ℕ = λ j. clock_of time_of (put r.where_is i c j) in let passed' = passed_by (set s.views id u) in
      let new : clock' i ≡ t + 1 = ap (clock_of time_of) (put_here r.where_is i c) ∙ timed in
      let else_clock : (j : ℕ) → j ≢ i → clock' j ≡ clock r.where_is j = λ j no. ap (clock_of time_of) (put_else r.where_is i c j no) in
      let else_passed : (n : ℕ) → ¬ ((n ≡ m) × (x ≡ w))
      → passed' n x ≡ passed_by s.views n x = λ n no. passed_same s.views n x id v u at (pair_else m w n x v.passed no) in
      let p : ℕ = producer_of plan x in let q : ℕ = consumer_of plan x in
      let p_else = else_clock p (λ e. let b = r.planned.producers x lt in omega arith) in
      let q_else = else_clock q (λ e. let b = r.planned.consumers x lt in omega arith) in
      dite (ℕ_discrete x w)
      (λ e. let now : (n : ℕ) → n ≡ m
      → passed' n x ≡ true = λ n f. passed_now s.views n x id v u at
      (subst (λ (z : ℕ × ℕ). has_pair z.0 z.1 u.passed ≡ true) (λ k. (sym f k, sym e k)) (pair_here m w v.passed)) in
      let wire' : clock' (plan.nodes + x) ≡ t + 1 = ap (λ (z : ℕ). clock' (plan.nodes + z)) e ∙ new in
      let wire : clock r.where_is (plan.nodes + x) ≡ t = ap (λ (z : ℕ). clock r.where_is (plan.nodes + z)) e ∙ here in
      dite (ℕ_discrete (t % 2) 0)
      (λ even. let is : m ≡ q = mover_even plan t w even ∙ ap (consumer_of plan) (sym e) in
      let mt : clock r.where_is q ≡ t = ap (clock r.where_is) (sym is) ∙ node in
      let same : (passed' p x ≡ passed_by s.views p x) ⊎ (clock r.where_is p ≡ t) = dite (ℕ_discrete p m) (λ f. inr (ap (clock r.where_is) f ∙ node))
      (λ f. inl (else_passed p (λ both. f both.0))) in
      let k = subst (λ (y : ℕ × ℕ). IsTied y.0 y.1 (clock r.where_is p) (passed_by s.views q x) (passed_by s.views p x)) (λ h. (wire h, mt h)) (r.times x lt) in
      subst (λ (y : ℕ × ℕ × ℕ × Bool). IsTied y.0 y.1 y.2 y.3 (passed' p x)) (λ h. (sym wire' h, sym (q_else ∙ mt) h, sym p_else h, sym (now q (sym is)) h))
      (wire_even t (clock r.where_is p) (passed_by s.views q x) (passed_by s.views p x) (passed' p x) even same k))
      (λ no. let odd : t % 2 ≡ 1 = omega arith in let is : m ≡ p = mover_odd plan t w no ∙ ap (producer_of plan) (sym e) in
      let mt : clock r.where_is p ≡ t = ap (clock r.where_is) (sym is) ∙ node in
      let same : (passed' q x ≡ passed_by s.views q x) ⊎ (clock r.where_is q ≡ t) = dite (ℕ_discrete q m) (λ f. inr (ap (clock r.where_is) f ∙ node))
      (λ f. inl (else_passed q (λ both. f both.0))) in
      let k = subst (λ (y : ℕ × ℕ). IsTied y.0 (clock r.where_is q) y.1 (passed_by s.views q x) (passed_by s.views p x)) (λ h. (wire h, mt h)) (r.times x lt) in
      subst (λ (y : ℕ × ℕ × ℕ × Bool). IsTied y.0 y.1 y.2 (passed' q x) y.3) (λ h. (sym wire' h, sym q_else h, sym (p_else ∙ mt) h, sym (now p (sym is)) h))
      (wire_odd t (clock r.where_is q) (passed_by s.views q x) (passed' q x) (passed_by s.views p x) odd same k)))
      (λ no. subst (λ (y : ℕ × ℕ × ℕ × Bool × Bool). IsTied y.0 y.1 y.2 y.3 y.4)
      (λ k. (
        sym (else_clock (plan.nodes + x) (λ e. no (omega (arith, e)))) k,
        sym q_else k,
        sym p_else k,
        sym (else_passed q (λ both. no both.1)) k,
        sym (else_passed p (λ both. no both.1)) k,
      )) (r.times x lt))

  mover_below : (s : St) (r : K s) (w t : ℕ) → w < wires_of plan → mover plan t w < plan.nodes
  mover_below s r w t lt = dite (ℕ_discrete (t % 2) 0)
      (λ even. subst (λ (n : ℕ). n < plan.nodes) (sym (mover_even plan t w even)) (r.planned.consumers w lt))
      (λ no. subst (λ (n : ℕ). n < plan.nodes) (sym (mover_odd plan t w no)) (r.planned.producers w lt))

  passes_wire_step : (slots w id t new : ℕ) (x : T) (me : M) → 0 < me.0.share → me.1 ≡ (plan.nodes + w, Some x) ∷ [] → me.0.out ≡ Some (plan.nodes + w)
      → MayPassWire plan w t me.0
      → number_of x ≡ plan.nodes + w → time_of x ≡ t + 1 → right x → new ≡ home_word (time_of x)
      → Allows K slots id me (plan.nodes + w) (λ _. new) (λ _ m. m ≡ (passes_wire plan w t me.0, []))
  passes_wire_step slots y id t new x me pos has is may numbered clocked ok timed s r _ at _ =
      let v : View = me.0 in let i : ℕ = plan.nodes + y in let seat = r.each_seat id v at in let mine = seat.holds i t may.wire_held in
      let long : length s.words ≡ items_of plan = r.words_are in let wide : length s.homes ≡ items_of plan = r.homes_are in
      let near : i < items_of plan = mine.0 in
      let w : View = passes_wire plan y t v in let homes = set s.homes i (some (Some x)) in (
        w,
        gives,
        tt,
        subst (λ hs. K (after number_of time_of right s i new hs id w)) (ap (λ c. table.put_back s.homes c) (sym has))
            (moved number_of time_of right plan s r i new id (home x) homes v w at (length-set s.homes i (some (Some x)))
            (λ k other. set_else s.homes i k (some (Some x)) other)
            (λ k other. (without_else i k v.held other, sym (ap (λ o. is_out o k) is ∙ not_out_else i k other)))
            (held_once number_of time_of right plan s r id v at i t may.wire_held)
            (get_or-set_same s.words i new 0 (omega arith) ∙ timed, set_here s.homes i (some (Some x)) (omega arith), numbered, ok)
            (λ u h'. absurd (some-ne-none u (sym h' ∙ without_here i v.held))) refl refl pos
            (under_way_wire plan y t (mover plan t y) v.held v.passed refl may.is_wire
            (mover_below s r y t may.is_wire) may.wire_held may.node_held may.others_held seat.pairs)
            (not_passed_yet s r id y t v at may, seat.distinct)
            (times_wire s r id y t v (home x) at may clocked)),
        λ k. (w, ap table.rest has k),
      )

  passes_of : (i t : ℕ) (v : View) (b : Bool) → nat_lt i plan.nodes ≡ b
      → passes plan i t v ≡ record v {
        held = without i v.held;
        passed = if b then pairs_but i v.passed else (mover plan t (i - plan.nodes), i - plan.nodes) ∷ v.passed;
        out = None;
        seen = None;
      }
  passes_of i t v b e = λ k. record v {
    held = without i v.held;
    passed = if e k then pairs_but i v.passed else (mover plan t (i - plan.nodes), i - plan.nodes) ∷ v.passed;
    out = None;
    seen = None;
  }

  told : (slots i id t new : ℕ) (me : M) (w : View) → me.0.plan ≡ plan → new ≡ home_word (t + 1) → passes plan i t me.0 ≡ w
      → Allows K slots id me i (λ _. new) (λ _ m. m ≡ (w, [])) → Allows K slots id me i (λ _. new) (λ _ m. passed_on (step slots i new 0 none) me new m)
  told slots i id t new me w same_plan stored is allows s r a b c =
      let g = allows s r a b c in let time : t ≡ new / 2 - 1 = omega (arith, stored) in
      (g.0, g.1, g.2, g.3, g.4 ∙ (λ k. (sym is k, [])) ∙ (λ k. (passes (sym same_plan k) i (time k) me.0, [])))

  pub passes_step : (slots i id t new : ℕ) (x : T) (me : M) → me.0.plan ≡ plan → 0 < me.0.share → me.1 ≡ (i, Some x) ∷ [] → me.0.out ≡ Some i
      → MayPass plan i t me.0
      → number_of x ≡ i → time_of x ≡ t + 1 → right x → new ≡ home_word (time_of x)
      → Allows K slots id me i (λ _. new) (λ _ m. passed_on (step slots i new 0 none) me new m)
  passes_step slots i id t new x me same_plan pos has is may numbered clocked ok timed = by (nat_lt i plan.nodes) refl
    where
      stored : new ≡ home_word (t + 1)
      stored = timed ∙ ap home_word clocked

      by : (b : Bool) → nat_lt i plan.nodes ≡ b → Allows K slots id me i (λ _. new) (λ _ m. passed_on (step slots i new 0 none) me new m)
      by true e = let node : i < plan.nodes = ltb-true i plan.nodes e in
          told slots i id t new me (passes_node i me.0) same_plan stored (passes_of i t me.0 true e)
          (passes_node_step slots i id t new x me node pos has is (may.a_node node) numbered clocked ok timed)
      by false e = let beyond : plan.nodes ≤ i = ltb-false i plan.nodes e in let y : ℕ = i - plan.nodes in
          let same : plan.nodes + y ≡ i = omega (arith, beyond) in
          told slots i id t new me (passes_wire plan y t me.0) same_plan stored
          (passes_of i t me.0 false e ∙ (λ k. record (passes_wire plan y t me.0) { held = without (sym same k) me.0.held }))
          (subst (λ (q : ℕ). me.1 ≡ (q, Some x) ∷ [] → me.0.out ≡ Some q → number_of x ≡ q
          → Allows K slots id me q (λ _. new) (λ _ m. m ≡ (passes_wire plan y t me.0, []))) same
          (λ a b n. passes_wire_step slots y id t new x me pos a b (may.a_wire beyond) n clocked ok timed) has is numbered)

-- the slot of an item may be out
pub slot_pass : (plan : Plan) (i t : ℕ) (v : View) → MayPass plan i t v → MayPass plan i t (with_slot i v)
slot_pass plan i t v may = record {
  a_node = λ lt. let it = may.a_node lt in record { node_held = it.node_held; all_passed = it.all_passed };
  a_wire = λ le. let it = may.a_wire le in record { is_wire = it.is_wire; wire_held = it.wire_held; node_held = it.node_held; others_held = it.others_held };
}

-- an item that may be passed is held
pub held_to_pass : (plan : Plan) (i t : ℕ) (v : View) → MayPass plan i t v → held_at i v.held ≡ some t
held_to_pass plan i t v may = by (nat_lt i plan.nodes) refl
  where
    by : (b : Bool) → nat_lt i plan.nodes ≡ b → held_at i v.held ≡ some t
    by true e = let node : i < plan.nodes = ltb-true i plan.nodes e in (may.a_node node).node_held
    by false e = let beyond : plan.nodes ≤ i = ltb-false i plan.nodes e in let same : plan.nodes + (i - plan.nodes) ≡ i = omega (arith, beyond) in
        ap (λ (q : ℕ). held_at q v.held) (sym same) ∙ (may.a_wire beyond).wire_held
