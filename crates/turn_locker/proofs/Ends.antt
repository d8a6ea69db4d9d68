-- The table at the start, seats that are cut and joined, and the table at the end.
use Rattle.std.proofs.Common.{◌≡◌, ◌≢◌, ℕ, zero, suc, false, ◌||◌, ◌+◌, ◌<◌, ◌≤◌, List, [], ◌∷◌, ◌++◌, length, map, replicate, set, sym, refl, ap, ◌∙◌, subst, ⊎_elim, arith}
use mathlib.Core.Logic.{dite}
use mathlib.Core.Option.{some, some-injective, some-ne-none}
use native.Mathlib.Decide.{ℕ_discrete}
use lib.ListN.{get_elem?}
use Rattle.std.specs.Prelude.{Option, Some, None}
use Rattle.std.proofs.lemmas.List.{get_or-replicate}
use Rattle.atomic_table.specs.Table.{State, opening, Splits, Joins, Final, Seen}
use Rattle.atomic_table.proofs.Lists.{at_set, at_snoc, set_else, at_longer}
use Rattle.hume_net.specs.declared.plan.Plan.{Plan}
use Rattle.hume_net.specs.Plan.{IsPlan, wires_of, producer_of, consumer_of}
use Rattle.hume_net.specs.Times.{AreBalanced, wire_time}
use Rattle.turn_locker.specs.declared.view.View.{View}
use Rattle.turn_locker.specs.Closing.{AreHome}
use Rattle.turn_locker.specs.Held.{items_of, held_at, has_pair}
use Rattle.turn_locker.specs.Rule.{Whereabouts, home, held, clock_of, AreTied, IsThere, IsSeated, KeepsTurns}
use Rattle.turn_locker.specs.Views.{held_at_first, passed_by, total_share, newcomer, kept_share, new_share, both_shares, spent, HoldsNothing}
use Rattle.turn_locker.proofs.Clocks.{executed_alone, asserted_alone}
use Rattle.turn_locker.proofs.Moved.{reviewed}
use Rattle.turn_locker.proofs.Updates.{held_here, held_else, set_mine, total_set, passed_same}
use Rattle.turn_locker.proofs.Values.{value_there}

all_held : (n i : ℕ) → i < n → held_at i (held_at_first n) ≡ some 0
all_held zero i lt = absurd (omega arith)
all_held (suc n) i lt = dite (ℕ_discrete i n)
    (λ e. ap (λ q. held_at q ((n, 0) ∷ held_at_first n)) e ∙ held_here n 0 (held_at_first n))
    (λ no. held_else n 0 i (held_at_first n) no ∙ all_held n i (omega arith))

held_below : (n i t : ℕ) → held_at i (held_at_first n) ≡ some t → (i < n) × (t ≡ 0)
held_below zero i t h = absurd (some-ne-none t (sym h))
held_below (suc n) i t h = dite (ℕ_discrete i n)
    (λ e. ((omega (arith, e)), sym (some-injective 0 t (sym (ap (λ q. held_at q ((n, 0) ∷ held_at_first n)) e ∙ held_here n 0 (held_at_first n)) ∙ h))))
    (λ no. let k = held_below n i t (sym (held_else n 0 i (held_at_first n) no) ∙ h) in let lt = k.0 in (omega arith, k.1))

homes_none : {T : Type 0} (n i : ℕ) → i < n → get_elem? (map some (replicate {A = Option T} n None)) i ≡ some (some None)
homes_none zero i lt = absurd (omega arith)
homes_none (suc n) zero lt = refl
homes_none (suc n) (suc i) lt = homes_none n i (omega arith)

length_homes : (T : Type 0) (n : ℕ) → length (map some (replicate {A = Option T} n None)) ≡ n
length_homes T zero = refl
length_homes T (suc n) = ap suc (length_homes T n)

length_ones : (n x : ℕ) → length (replicate n x) ≡ n
length_ones zero x = refl
length_ones (suc n) x = ap suc (length_ones n x)

one_seat : (v : View) (j : ℕ) (u : View) → get_elem? (v ∷ []) j ≡ some u → (j ≡ 0) × (v ≡ u)
one_seat v zero u e = (refl, some-injective v u e)
one_seat v (suc j) u e = absurd (some-ne-none u (sym e))

total_snoc : (vs : List View) (w : View) → total_share (vs ++ w ∷ []) ≡ total_share vs + w.share
total_snoc [] w = omega arith
total_snoc (v ∷ vs) w = let k = total_snoc vs w in omega arith

passed_snoc : (vs : List View) (w : View) (n x : ℕ) → w.passed ≡ [] → passed_by (vs ++ w ∷ []) n x ≡ passed_by vs n x
passed_snoc [] w n x e = ap (λ qs. has_pair n x qs || false) e
passed_snoc (v ∷ vs) w n x e = ap (λ b. has_pair n x v.passed || b) (passed_snoc vs w n x e)

share_at : (vs : List View) (j : ℕ) (u : View) → get_elem? vs j ≡ some u → u.share ≤ total_share vs
share_at [] j u e = absurd (some-ne-none u (sym e))
share_at (x ∷ xs) zero u e = let same = ap (λ (y : View). y.share) (some-injective x u e) in omega arith
share_at (x ∷ xs) (suc j) u e = let k = share_at xs j u e in omega arith

-- beside a seat with the whole share all seats are spent
others_none : (vs : List View) (i j : ℕ) (v u : View) → get_elem? vs i ≡ some v → get_elem? vs j ≡ some u → j ≢ i → total_share vs ≤ v.share → u.share ≡ 0
others_none [] i j v u at e apart le = absurd (some-ne-none v (sym at))
others_none (x ∷ xs) zero zero v u at e apart le = absurd (apart refl)
others_none (x ∷ xs) zero (suc j) v u at e apart le = let same = ap (λ (y : View). y.share) (some-injective x v at) in let k = share_at xs j u e in omega arith
others_none (x ∷ xs) (suc i) zero v u at e apart le = let same = ap (λ (y : View). y.share) (some-injective x u e) in let k = share_at xs i v at in omega arith
others_none (x ∷ xs) (suc i) (suc j) v u at e apart le = others_none xs i j v u at e (λ f. apart (ap suc f)) (omega arith)

none_passed : (vs : List View) (n x : ℕ) → ((j : ℕ) (u : View) → get_elem? vs j ≡ some u → u.passed ≡ []) → passed_by vs n x ≡ false
none_passed [] n x f = refl
none_passed (v ∷ vs) n x f = rw (f 0 v refl) (none_passed vs n x (λ j u e. f (suc j) u e))

-- where nothing is passed the times are balanced, and each wire has the time that its nodes give it
pub home_balanced : (plan : Plan) (clock : ℕ → ℕ) → AreTied plan clock (λ n w. false) → AreBalanced plan clock
home_balanced plan clock ties w less =
    let k = ties w less in let low = k.not_behind in let high = k.not_ahead in
    let x = executed_alone (clock (consumer_of plan w)) in let s = asserted_alone (clock (producer_of plan w)) in
    record { not_behind = omega (arith, low, x, s); not_ahead = omega (arith, high, x, s) }

pub home_wires : (plan : Plan) (clock : ℕ → ℕ) → AreTied plan clock (λ n w. false) → (w : ℕ) → w < wires_of plan
    → clock (plan.nodes + w) ≡ wire_time plan clock w
home_wires plan clock ties w less =
    let sum = (ties w less).time in let x = executed_alone (clock (consumer_of plan w)) in let s = asserted_alone (clock (producer_of plan w)) in
    omega (arith, sum, x, s)

module _ {T : Type 0} (number_of time_of : T → ℕ) (right : T → Type 0) (plan : Plan) where
  abbrev St : Type 0
  St = State (Option T) View

  abbrev K : St → Type 0
  K = KeepsTurns number_of time_of right plan

  pub opens : IsPlan plan → K (opening (replicate (items_of plan) 1) (replicate (items_of plan) None) (newcomer plan))
  opens ok = let n : ℕ = items_of plan in record {
    where_is = λ _. held 0 0;
    planned = ok;
    words_are = length_ones n 1;
    homes_are = length_homes T n;
    shares = refl;
    each_item = λ i lt. (get_or-replicate n i 1 0 lt, (newcomer plan, refl, all_held n i lt, homes_none n i lt));
    each_seat = λ j v e. let one = one_seat (newcomer plan) j v e in
        subst (λ (y : ℕ × View). IsSeated {T = T} plan (λ _. held 0 0) y.0 y.1) (λ k. (sym one.0 k, one.1 k)) record {
          plans = λ _. refl;
          spent = λ none_left. absurd (omega arith);
          holds = λ i t h. let k = held_below n i t h in (k.0, λ h. held 0 (sym k.1 h));
          pairs = λ m w p. cc p;
          distinct = tt;
        };
    times = λ w lt. record { time = refl; not_behind = omega arith; not_ahead = omega arith };
  }

  pub splits : (id : ℕ) (v : View) → 2 ≤ v.share → Splits K id v (kept_share v) (new_share v)
  splits id v share s r at =
      let old = r.each_seat id v at in let left : View = kept_share v in let right_view : View = new_share v in let vs = set s.views id left in
      let plans : v.plan ≡ plan = old.plans (omega arith) in
      reviewed number_of time_of right plan s r (vs ++ right_view ∷ [])
      (λ j u e i t h. dite (ℕ_discrete j id)
      (λ same. let is : u ≡ v = some-injective u v (sym e ∙ (ap (get_elem? s.views) same ∙ at)) in (
        left,
        at_longer vs (right_view ∷ []) j left (ap (get_elem? vs) same ∙ set_mine s.views id left v at),
        ap (λ (y : View). y.held) (sym is),
        ap (λ (y : View). y.out) (sym is),
      ))
      (λ no. (u, at_longer vs (right_view ∷ []) j u (set_else s.views id j left no ∙ e), refl, refl)))
      (λ j u e. ⊎_elim
      (λ (x : get_elem? vs j ≡ some u). ⊎_elim
      (λ (y : (j ≡ id) × (left ≡ u)). subst (λ (z : ℕ × View). IsSeated plan r.where_is z.0 z.1)
      (λ k. (sym y.0 k, y.1 k)) record {
        plans = λ _. plans;
        spent = λ none_left. absurd (omega arith);
        holds = old.holds;
        pairs = old.pairs;
        distinct = old.distinct;
      })
      (λ (y : (j ≢ id) × (get_elem? s.views j ≡ some u)). r.each_seat j u y.1)
      (at_set s.views id j left u x))
      (λ (x : right_view ≡ u). subst (λ (z : View). IsSeated plan r.where_is j z) x record {
        plans = λ _. plans;
        spent = λ _. (refl, refl);
        holds = λ i t h. absurd (some-ne-none t (sym h));
        pairs = λ n w p. cc p;
        distinct = tt;
      })
      (at_snoc vs right_view u j e))
      (let t = total_snoc vs right_view in let q = total_set s.views id v left at in let o = r.shares in omega arith)
      (λ n w. passed_snoc vs right_view n w refl ∙ passed_same s.views n w id v left at refl)

  pub joins : (id other : ℕ) (v w : View) → 0 < v.share → HoldsNothing w → Joins K id v other w (both_shares v w) spent
  joins id other v w share free s r at apart there =
      let old = r.each_seat id v at in let both : View = both_shares v w in let vs = set s.views id both in let us = set vs other spent in
      let w_at : get_elem? s.views other ≡ some w = sym (set_else s.views id other both apart) ∙ there in
      reviewed number_of time_of right plan s r us
      (λ j u e i t h. dite (ℕ_discrete j other)
      (λ same. let is : u ≡ w = some-injective u w (sym e ∙ (ap (get_elem? s.views) same ∙ w_at)) in
      absurd (some-ne-none t (sym h ∙ ap (held_at i) (ap (λ (y : View). y.held) is ∙ free.0))))
      (λ no. dite (ℕ_discrete j id)
      (λ same. let is : u ≡ v = some-injective u v (sym e ∙ (ap (get_elem? s.views) same ∙ at)) in (
        both,
        set_else vs other j spent no ∙ (ap (get_elem? vs) same ∙ set_mine s.views id both v at),
        ap (λ (y : View). y.held) (sym is),
        ap (λ (y : View). y.out) (sym is),
      ))
      (λ not_me. (u, set_else vs other j spent no ∙ (set_else s.views id j both not_me ∙ e), refl, refl))))
      (λ j u e. ⊎_elim
      (λ (y : (j ≡ other) × (spent ≡ u)). subst
      (λ (z : View). IsSeated plan r.where_is j z) y.1 record {
        plans = λ pos. absurd (omega arith);
        spent = λ _. (refl, refl);
        holds = λ i t h. absurd (some-ne-none t (sym h));
        pairs = λ n x p. cc p;
        distinct = tt;
      })
      (λ (y : (j ≢ other) × (get_elem? vs j ≡ some u)). ⊎_elim
      (λ (z : (j ≡ id) × (both ≡ u)). subst (λ (q : ℕ × View). IsSeated plan r.where_is q.0 q.1)
      (λ k. (sym z.0 k, z.1 k)) record {
        plans = λ _. old.plans share;
        spent = λ none_left. absurd (omega arith);
        holds = old.holds;
        pairs = old.pairs;
        distinct = old.distinct;
      })
      (λ (z : (j ≢ id) × (get_elem? s.views j ≡ some u)). r.each_seat j u z.1)
      (at_set s.views id j both u y.1))
      (at_set vs other j spent u e))
      (let t = total_set s.views id v both at in let q = total_set vs other w spent there in let o = r.shares in omega arith)
      (λ n x. passed_same vs n x other w spent there (ap (has_pair n x) (sym free.1)) ∙ passed_same s.views n x id v both at refl)

  -- where one seat has the whole share and holds nothing, each item is at home
  abbrev pub AtHome : (ℕ → ℕ) → List (Option T) → Type 0
  AtHome clock slots = (i : ℕ) → i < items_of plan → (x : T) × (get_elem? slots i ≡ some (Some x)) × (number_of x ≡ i) × (time_of x ≡ clock i) × right x

  pub closes : (id : ℕ) (v : View) (ws : List ℕ) (xs : List (Option T)) → v.share ≡ 65536 → HoldsNothing v → Final (Seen K id v) ws xs
      → (clock : ℕ → ℕ) × AreTied plan clock (λ n w. false) × (length xs ≡ items_of plan) × AtHome clock xs
  closes id v ws xs whole free (s, seen, _, long, at_home) =
      let r = seen.0 in let at = seen.1 in
      let idle : (j : ℕ) (u : View) → get_elem? s.views j ≡ some u → (u.held ≡ []) × (u.passed ≡ []) = λ j u e. dite (ℕ_discrete j id)
      (λ same. let is : v ≡ u = some-injective v u (sym at ∙ (ap (get_elem? s.views) (sym same) ∙ e)) in
      (ap (λ (y : View). y.held) (sym is) ∙ free.0, ap (λ (y : View). y.passed) (sym is) ∙ free.1))
      (λ no. (r.each_seat j u e).spent (others_none s.views id j v u at e no (let o = r.shares in omega arith))) in (
        (λ i. clock_of time_of (r.where_is i)),
        subst (AreTied plan (λ i. clock_of time_of (r.where_is i))) (λ k n x. none_passed s.views n x (λ j u e. (idle j u e).1) k) r.times,
        sym long ∙ r.homes_are,
        λ i lt. there i (r.where_is i) refl (r.each_item i lt) idle,
      )
    where
      there : (i : ℕ) (c : Whereabouts T) → seen.0.where_is i ≡ c → IsThere number_of time_of right s i c
          → ((j : ℕ) (u : View) → get_elem? s.views j ≡ some u → (u.held ≡ []) × (u.passed ≡ []))
          → (x : T) × (get_elem? xs i ≡ some (Some x)) × (number_of x ≡ i) × (time_of x ≡ clock_of time_of (seen.0.where_is i)) × right x
      there i (home x) e l idle = (x, at_home i (Some x) l.1, l.2, ap (clock_of time_of) (sym e), l.3)
      there i (held j t) e l idle = absurd (some-ne-none t (sym l.1.2 ∙ ap (held_at i) (idle j l.1.0 l.1.1).0))

  -- the values of the slots
  pub are_home : (clock : ℕ → ℕ) (slots : List (Option T)) (values : List T) → AreTied plan clock (λ n w. false) → length slots ≡ items_of plan
      → AtHome clock slots → map Some values ≡ slots
      → AreHome number_of time_of right plan values
  are_home clock slots values ties long each same = record {
    clock = clock;
    count = length_some values ∙ (ap length same ∙ long);
    each_item = λ i lt. let k = each i lt in (k.0, value_there values i k.0 (ap (λ xs. get_elem? xs i) same ∙ k.1), k.2, k.3, k.4);
    balanced = home_balanced plan clock ties;
    wires = home_wires plan clock ties;
  }
    where
      length_some : (xs : List T) → length xs ≡ length (map Some xs)
      length_some [] = refl
      length_some (x ∷ xs) = ap suc (length_some xs)
