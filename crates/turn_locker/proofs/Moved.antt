-- One item and one seat move, or views alone, and the rule stays.
use Rattle.std.proofs.Common.{◌≡◌, ◌≢◌, ℕ, Bool, ◌+◌, ◌<◌, List, length, get_or, set, sym, refl, ap, ◌∙◌, subst, ⊎_elim, arith, length-set, get_or-set_other}
use mathlib.Core.Logic.{dite}
use mathlib.Core.Option.{some, some-injective}
use mathlib.Core.Option as maybe
use native.Mathlib.Decide.{ℕ_discrete}
use lib.ListN.{get_elem?}
use lib.Seq.{set-get_or}
use Rattle.std.specs.Prelude.{Option, None}
use Rattle.atomic_table.specs.Table.{State}
use Rattle.atomic_table.proofs.Lists.{at_set, set_else}
use Rattle.hume_net.specs.declared.plan.Plan.{Plan}
use Rattle.hume_net.specs.Plan.{producer_of, consumer_of}
use Rattle.turn_locker.specs.declared.view.View.{View}
use Rattle.turn_locker.specs.Held.{items_of, held_at, has_pair, AreDistinct}
use Rattle.turn_locker.specs.Views.{passed_by, total_share, looks}
use Rattle.turn_locker.specs.Rule.{is_out, held_slot, AreUnderWay, IsTied, AreTied, Whereabouts, home, held, clock_of, IsThere, IsSeated, KeepsTurns}
use Rattle.turn_locker.proofs.Updates.{put, at_put, set_mine, total_set, passed_same}

module _ {T : Type 0} (number_of time_of : T → ℕ) (right : T → Type 0) where
  abbrev pub St : Type 0
  St = State (Option T) View

  abbrev pub K : Plan → St → Type 0
  K = KeepsTurns number_of time_of right

  abbrev pub L : St → ℕ → Whereabouts T → Type 0
  L = IsThere number_of time_of right

  abbrev pub after : St → ℕ → ℕ → List (maybe.Option (Option T)) → ℕ → View → St
  after s i n homes id w = record { words = set s.words i n; homes = homes; views = set s.views id w }

  -- what the seat says of every item but i
  abbrev pub SameBut : ℕ → View → View → Type 0
  SameBut i v w = (j : ℕ) → j ≢ i → (held_at j w.held ≡ held_at j v.held) × (is_out w.out j ≡ is_out v.out j)

  there_still : (s : St) (i n id : ℕ) (homes : List (maybe.Option (Option T))) (v w : View) → get_elem? s.views id ≡ some v → SameBut i v w
      → (j : ℕ) → j ≢ i → get_elem? homes j ≡ get_elem? s.homes j → (c : Whereabouts T) → L s j c → L (after s i n homes id w) j c
  there_still s i n id homes v w at same j other home_is (home x) l = (get_or-set_other s.words i j n 0 other ∙ l.0, home_is ∙ l.1, l.2, l.3)
  there_still s i n id homes v w at same j other home_is (held k t) l = let u : View = l.1.0 in dite (ℕ_discrete k id)
      (λ e. let is : u ≡ v = some-injective u v (sym l.1.1 ∙ (ap (get_elem? s.views) e ∙ at)) in (
        get_or-set_other s.words i j n 0 other ∙ l.0,
        (
          w,
          ap (get_elem? (set s.views id w)) e ∙ set_mine s.views id w v at,
          (same j other).0 ∙ (ap (λ (z : View). held_at j z.held) (sym is) ∙ l.1.2),
          home_is ∙ (l.1.3 ∙ ap (λ b. some (held_slot b)) (ap (λ (z : View). is_out z.out j) is ∙ sym (same j other).1)),
        ),
      ))
      (λ no. (
        get_or-set_other s.words i j n 0 other ∙ l.0,
        (u, set_else s.views id k w no ∙ l.1.1, l.1.2, home_is ∙ l.1.3),
      ))

  -- the item i and the seat's view change
  pub moved : (plan : Plan) (s : St) (r : K plan s) (i n id : ℕ) (c : Whereabouts T) (homes : List (maybe.Option (Option T))) (v w : View)
      → get_elem? s.views id ≡ some v → length homes ≡ length s.homes → ((j : ℕ) → j ≢ i → get_elem? homes j ≡ get_elem? s.homes j) → SameBut i v w
      → ((j t : ℕ) → r.where_is i ≡ held j t → j ≡ id) → L (after s i n homes id w) i c
      → ((t : ℕ) → held_at i w.held ≡ some t → (i < items_of plan) × (c ≡ held id t))
      → w.plan ≡ v.plan → w.share ≡ v.share → 0 < v.share
      → AreUnderWay plan w.held w.passed → AreDistinct w.passed → AreTied plan (λ j. clock_of time_of (put r.where_is i c j)) (passed_by (set s.views id w))
      → K plan (after s i n homes id w)
  moved plan s r i n id c homes v w at long home_is same mine here knows plans shares pos pairs distinct times =
      let old = r.each_seat id v at in
      record {
        where_is = put r.where_is i c;
        planned = r.planned;
        words_are = length-set s.words i n ∙ r.words_are;
        homes_are = long ∙ r.homes_are;
        shares = (let t = total_set s.views id v w at in let o = r.shares in omega arith);
        each_item = λ j lt. at_put r.where_is i c (L (after s i n homes id w)) j here
            (λ other. there_still s i n id homes v w at same j other (home_is j other) (r.where_is j) (r.each_item j lt));
        each_seat = λ j u e. ⊎_elim
            (λ (x : (j ≡ id) × (w ≡ u)). subst (λ (y : ℕ × View). IsSeated plan (put r.where_is i c) y.0 y.1) (λ k. (sym x.0 k, x.1 k)) record {
              plans = λ _. plans ∙ old.plans pos;
              spent = λ none_left. absurd (omega arith);
              holds = λ k t h. at_put r.where_is i c (λ q d. held_at q w.held ≡ some t → (q < items_of plan) × (d ≡ held id t)) k (knows t)
                  (λ other h'. old.holds k t (sym (same k other).0 ∙ h')) h;
              pairs = pairs;
              distinct = distinct;
            })
            (λ (x : (j ≢ id) × (get_elem? s.views j ≡ some u)). let theirs = r.each_seat j u x.1 in record {
              plans = theirs.plans;
              spent = theirs.spent;
              holds = λ k t h. let was = theirs.holds k t h in (
                was.0,
                at_put r.where_is i c (λ q d. q ≡ k → d ≡ held j t) k
                    (λ is. absurd (x.0 (mine j t (ap r.where_is is ∙ was.1)))) (λ _ _. was.1) refl,
              );
              pairs = theirs.pairs;
              distinct = theirs.distinct;
            })
            (at_set s.views id j w u e);
        times = times;
      }

  abbrev pub clock : (ℕ → Whereabouts T) → ℕ → ℕ
  clock where_is i = clock_of time_of (where_is i)

  clock_same : (where_is : ℕ → Whereabouts T) (i : ℕ) (c : Whereabouts T) → clock_of time_of c ≡ clock where_is i → (j : ℕ)
      → clock (put where_is i c) j ≡ clock where_is j
  clock_same where_is i c same j = at_put where_is i c (λ q d. clock_of time_of d ≡ clock where_is q) j same (λ _. refl)

  -- the times and the pairs stay
  pub times_stay : (plan : Plan) (s : St) (r : K plan s) (i id : ℕ) (c : Whereabouts T) (v w : View) → get_elem? s.views id ≡ some v
      → clock_of time_of c ≡ clock r.where_is i → w.passed ≡ v.passed
      → AreTied plan (λ j. clock_of time_of (put r.where_is i c j)) (passed_by (set s.views id w))
  times_stay plan s r i id c v w at same pairs x lt =
      let a = clock_same r.where_is i c same in let b : (n : ℕ)
      → passed_by (set s.views id w) n x ≡ passed_by s.views n x = λ n. passed_same s.views n x id v w at (ap (has_pair n x) pairs) in
      let p : ℕ = producer_of plan x in let q : ℕ = consumer_of plan x in
      subst (λ (y : ℕ × ℕ × ℕ × Bool × Bool). IsTied y.0 y.1 y.2 y.3 y.4)
      (λ k. (sym (a (plan.nodes + x)) k, sym (a q) k, sym (a p) k, sym (b q) k, sym (b p) k)) (r.times x lt)

  -- only the views change, and what they hold stays
  pub reviewed : (plan : Plan) (s : St) (r : K plan s) (views : List View)
      → ((j : ℕ) (u : View) → get_elem? s.views j ≡ some u → (i t : ℕ) → held_at i u.held ≡ some t
      → (z : View) × (get_elem? views j ≡ some z) × (z.held ≡ u.held) × (z.out ≡ u.out))
      → ((j : ℕ) (u : View) → get_elem? views j ≡ some u → IsSeated plan r.where_is j u) → total_share views ≡ 65536
      → ((n w : ℕ) → passed_by views n w ≡ passed_by s.views n w)
      → K plan record { words = s.words; homes = s.homes; views = views }
  reviewed plan s r views stays seats total pairs = record {
    where_is = r.where_is;
    planned = r.planned;
    words_are = r.words_are;
    homes_are = r.homes_are;
    shares = total;
    each_item = λ i lt. there i (r.where_is i) (r.each_item i lt);
    each_seat = seats;
    times = subst (AreTied plan (λ i. clock_of time_of (r.where_is i))) (λ k n w. sym (pairs n w) k) r.times;
  }
    where
      there : (i : ℕ) (c : Whereabouts T) → L s i c → L record { words = s.words; homes = s.homes; views = views } i c
      there i (home x) l = l
      there i (held j t) l = let k = stays j l.1.0 l.1.1 i t l.1.2 in
          (l.0, (k.0, k.1, ap (held_at i) k.2 ∙ l.1.2, l.1.3 ∙ ap (λ o. some (held_slot (is_out o i))) (sym k.3)))

  -- a seat that has no slot out looks at an item
  pub looked_at : (plan : Plan) (s : St) (r : K plan s) (i id item word : ℕ) (v : View) → get_elem? s.views id ≡ some v → v.out ≡ None
      → K plan (after s i (get_or s.words i 0) s.homes id (looks item word v))
  looked_at plan s r i id item word v at none_out =
      let w : View = looks item word v in let old = r.each_seat id v at in
      subst (K plan) (λ k. record { words = sym (set-get_or s.words i 0) k; homes = s.homes; views = set s.views id w })
      (reviewed plan s r (set s.views id w)
      (λ j u e k t h. dite (ℕ_discrete j id)
      (λ same. let is : u ≡ v = some-injective u v (sym e ∙ (ap (get_elem? s.views) same ∙ at)) in (
        w,
        ap (get_elem? (set s.views id w)) same ∙ set_mine s.views id w v at,
        ap (λ (y : View). y.held) (sym is),
        sym (ap (λ (y : View). y.out) is ∙ none_out),
      ))
      (λ no. (u, set_else s.views id j w no ∙ e, refl, refl)))
      (λ j u e. ⊎_elim
      (λ (x : (j ≡ id) × (w ≡ u)). subst (λ (y : ℕ × View). IsSeated plan r.where_is y.0 y.1) (λ k. (sym x.0 k, x.1 k))
      record { plans = old.plans; spent = old.spent; holds = old.holds; pairs = old.pairs; distinct = old.distinct })
      (λ (x : (j ≢ id) × (get_elem? s.views j ≡ some u)). r.each_seat j u x.1)
      (at_set s.views id j w u e))
      (let t = total_set s.views id v w at in let o = r.shares in omega arith)
      (λ n x. passed_same s.views n x id v w at refl))
