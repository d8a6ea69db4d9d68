-- By the rule the counts of half steps are balanced, and so they are the times after a schedule.
use Rattle.std.proofs.Common.{◌≡◌, ◌≢◌, ℕ, zero, suc, Bool, true, false, ◌&&◌, ◌||◌, ◌+◌, ◌*◌, ◌/◌, ◌%◌, ◌<◌, ◌≤◌, ◌==◌, List, [], ◌∷◌, slice_index, Option, sym, refl, ap, ◌∙◌, subst, inl, inr, ◌⊎◌, arith}
use Rattle.std.proofs.lemmas.Bool.{eq-eqb, and_parts}
use mathlib.Core.Option.{some}
use lib.ListN.{get_elem?}
use Rattle.atomic_table.specs.Table.{State}
use Rattle.hume_net.specs.declared.plan.Plan.{Plan}
use Rattle.hume_net.specs.Lockstep.{executes, supers}
use Rattle.hume_net.specs.Plan.{IsPlan, producer_of, consumer_of}
use Rattle.hume_net.specs.Times.{IsOfSide, AreBalanced}
use Rattle.superstep_core.specs.Schedules.{AreScheduled, IsEnabled}
use Rattle.superstep_core.proofs.Progress.{least_is_enabled}
use Rattle.superstep_core.proofs.Reached.{balanced_are_reached}
use Rattle.superstep_core.proofs.Times.{parity, if_even, if_odd}
use Rattle.turn_locker.specs.declared.view.View.{View}
use Rattle.turn_locker.specs.Counts.{has_node, started_by, count_in}
use Rattle.turn_locker.specs.Held.{held_at, has_pair}
use Rattle.turn_locker.specs.Rule.{tick, executed, asserted, IsTied, AreTied, Whereabouts, home, held, clock_of, IsThere, KeepsTurns}
use Rattle.turn_locker.specs.Views.{passed_by}
use Rattle.turn_locker.proofs.Clocks.{executed_even, executed_odd, asserted_even, asserted_odd}
use Rattle.turn_locker.proofs.Ends.{home_balanced, home_wires}

not_even_time : (t : ℕ) → t % 2 ≡ 1 → t % 2 ≢ 0
not_even_time t odd even = omega (arith, odd, even)

not_odd_time : (t : ℕ) → t % 2 ≡ 0 → t % 2 ≢ 1
not_odd_time t even odd = omega (arith, odd, even)

-- one wire: either its end's count is the one of the tie, or it is 1 more, and then the tie leaves room for that

abbrev Counted : ℕ → ℕ → Type 0 → Type 0
Counted count tied room = (count ≡ tied) ⊎ ((count ≡ tied + 1) × room)

even_counted : (wire t s x : ℕ) (b any : Bool) → t % 2 ≡ 0 → x ≡ (t + 1) / 2 + tick b → wire ≡ x + s → (b ≡ true → any ≡ true)
    → (any ≡ true → b ≡ false → wire ≡ t)
    → Counted (executes (t + tick any)) x (x ≡ s)
even_counted wire t s x true true even is sum one waits = inl (omega (arith, even, is))
even_counted wire t s x true false even is sum one waits = let no_one : false ≡ true = one refl in cc no_one
even_counted wire t s x false true even is sum one waits = let time = waits refl refl in inr (omega (arith, even, is), omega (arith, even, is, sum, time))
even_counted wire t s x false false even is sum one waits = inl (omega (arith, even, is))

odd_counted : (wire t s x : ℕ) (b any : Bool) → t % 2 ≡ 1 → x ≡ t / 2 + tick b → wire ≡ s + x → (b ≡ true → any ≡ true) → (any ≡ true → b ≡ false → wire ≡ t)
    → Counted (supers (t + tick any)) x (s ≡ x + 1)
odd_counted wire t s x true true odd is sum one waits = inl (omega (arith, odd, is))
odd_counted wire t s x true false odd is sum one waits = let no_one : false ≡ true = one refl in cc no_one
odd_counted wire t s x false true odd is sum one waits = let time = waits refl refl in inr (omega (arith, odd, is), omega (arith, odd, is, sum, time))
odd_counted wire t s x false false odd is sum one waits = inl (omega (arith, odd, is))

even_same : (t x : ℕ) (any : Bool) → t % 2 ≡ 0 → x ≡ t / 2 + 0 → supers (t + tick any) ≡ x
even_same t x true even is = omega (arith, even, is)
even_same t x false even is = omega (arith, even, is)

odd_same : (t x : ℕ) (any : Bool) → t % 2 ≡ 1 → x ≡ (t + 1) / 2 + 0 → executes (t + tick any) ≡ x
odd_same t x true odd is = omega (arith, odd, is)
odd_same t x false odd is = omega (arith, odd, is)

both_counted : (e x p s : ℕ) → s ≤ x → x ≤ s + 1 → Counted e x (x ≡ s) → Counted p s (x ≡ s + 1) → (p ≤ e) × (e ≤ p + 1)
both_counted e x p s low high (inl a) (inl b) = (omega (arith, low, high, a, b), omega (arith, low, high, a, b))
both_counted e x p s low high (inl a) (inr b) =
    (let b0 = b.0 in let b1 = b.1 in omega (arith, low, high, a, b0, b1), let b0 = b.0 in let b1 = b.1 in omega (arith, low, high, a, b0, b1))
both_counted e x p s low high (inr a) (inl b) =
    (let a0 = a.0 in let a1 = a.1 in omega (arith, low, high, a0, a1, b), let a0 = a.0 in let a1 = a.1 in omega (arith, low, high, a0, a1, b))
both_counted e x p s low high (inr a) (inr b) = let a1 = a.1 in let b1 = b.1 in absurd (omega (arith, a1, b1))

-- c and p say whether the wire was passed by its end in this half step, cs and ps whether any wire was; a wire of the side of a
-- node that has started, and that is not passed, has the node's time
wire_balanced : (wire tc tp : ℕ) (c p cs ps : Bool) → IsTied wire tc tp c p → (c ≡ true → cs ≡ true) → (p ≡ true → ps ≡ true)
    → (cs ≡ true → tc % 2 ≡ 0 → c ≡ false → wire ≡ tc) → (ps ≡ true → tp % 2 ≡ 1 → p ≡ false → wire ≡ tp)
    → (supers (tp + tick ps) ≤ executes (tc + tick cs)) × (executes (tc + tick cs) ≤ supers (tp + tick ps) + 1)
wire_balanced wire tc tp c p cs ps k c_one p_one c_waits p_waits =
    both_counted (executes (tc + tick cs)) (executed tc c) (supers (tp + tick ps)) (asserted tp p) k.not_behind k.not_ahead
    (elim (parity tc) [
      | inl even ↦ even_counted wire tc (asserted tp p) (executed tc c) c cs even (executed_even tc c even) k.time c_one (λ any b. c_waits any even b)
      | inr odd ↦ inl (odd_same tc (executed tc c) cs odd (executed_odd tc c (not_even_time tc odd)))
    ])
    (elim (parity tp) [
      | inl even ↦ inl (even_same tp (asserted tp p) ps even (asserted_even tp p (not_odd_time tp even)))
      | inr odd ↦ odd_counted wire tp (executed tc c) (asserted tp p) p ps odd (asserted_odd tp p odd) k.time p_one (λ any b. p_waits any odd b)
    ])

-- pairs

or_left : (a b : Bool) → a ≡ true → (a || b) ≡ true
or_left true b e = refl
or_left false b e = cc

or_right : (a b : Bool) → b ≡ true → (a || b) ≡ true
or_right true b e = refl
or_right false b e = e

or_cases : (a b : Bool) → (a || b) ≡ true → (a ≡ true) ⊎ (b ≡ true)
or_cases true b e = inl refl
or_cases false b e = inr e

or_neither : (a b : Bool) → (a || b) ≡ false → (a ≡ false) × (b ≡ false)
or_neither true b e = cc
or_neither false b e = (refl, e)

pair_of_node : (n w : ℕ) (passed : List (ℕ × ℕ)) → has_pair n w passed ≡ true → has_node n passed ≡ true
pair_of_node n w [] e = cc
pair_of_node n w (q ∷ qs) e = elim (or_cases ((q.0 == n) && (q.1 == w)) (has_pair n w qs) e) [
  | inl here ↦ or_left (q.0 == n) (has_node n qs) (and_parts _ _ here).0
  | inr there ↦ or_right (q.0 == n) (has_node n qs) (pair_of_node n w qs there)
]

-- a node with a pair has a wire that was passed for it
node_of_pair : (n : ℕ) (passed : List (ℕ × ℕ)) → has_node n passed ≡ true → (w : ℕ) × (has_pair n w passed ≡ true)
node_of_pair n [] e = cc
node_of_pair n (q ∷ qs) e = elim (or_cases (q.0 == n) (has_node n qs) e) [
  | inl here ↦ (q.1, or_left ((q.0 == n) && (q.1 == q.1)) (has_pair n q.1 qs) (rw (here, eq-eqb q.1 q.1 refl) refl))
  | inr there ↦ (let it = node_of_pair n qs there in (it.0, or_right ((q.0 == n) && (q.1 == it.0)) (has_pair n it.0 qs) it.1))
]

passed_started : (views : List View) (n w : ℕ) → passed_by views n w ≡ true → started_by views n ≡ true
passed_started [] n w e = cc
passed_started (v ∷ vs) n w e = elim (or_cases (has_pair n w v.passed) (passed_by vs n w) e) [
  | inl here ↦ or_left (has_node n v.passed) (started_by vs n) (pair_of_node n w v.passed here)
  | inr there ↦ or_right (has_node n v.passed) (started_by vs n) (passed_started vs n w there)
]

-- the seat that has started a node's half step
starter : (views : List View) (n : ℕ) → started_by views n ≡ true → (j : ℕ) × (v : View) × (get_elem? views j ≡ some v) × (has_node n v.passed ≡ true)
starter [] n e = cc
starter (v ∷ vs) n e = elim (or_cases (has_node n v.passed) (started_by vs n) e) [
  | inl here ↦ (0, v, refl, here)
  | inr there ↦ (let it = starter vs n there in (suc it.0, it.1, it.2, it.3))
]

not_passed : (views : List View) (n w j : ℕ) (v : View) → passed_by views n w ≡ false → get_elem? views j ≡ some v → has_pair n w v.passed ≡ false
not_passed [] n w j v e at = cc
not_passed (u ∷ us) n w zero v e at = let same : u ≡ v = cc in
    ap (λ (x : View). has_pair n w x.passed) (sym same) ∙ (or_neither (has_pair n w u.passed) (passed_by us n w) e).0
not_passed (u ∷ us) n w (suc j) v e at = not_passed us n w j v (or_neither (has_pair n w u.passed) (passed_by us n w) e).1 at

module _ {T : Type 0} (number_of time_of : T → ℕ) (right : T → Type 0) (plan : Plan) (s : State (Option T) View)
    (k : KeepsTurns number_of time_of right plan s) where
  abbrev clock : ℕ → ℕ
  clock i = clock_of time_of (k.where_is i)

  -- a wire of the side of a node that has started, and that is not passed for it, has the node's time
  waits : (n w : ℕ) → started_by s.views n ≡ true → IsOfSide plan (clock n) n w → passed_by s.views n w ≡ false → clock (plan.nodes + w) ≡ clock n
  waits n w started side not_yet =
      let it = starter s.views n started in
      let pair = node_of_pair n it.1.passed it.3 in
      let sits = k.each_seat it.0 it.1 it.2 in
      let ok = sits.pairs n pair.0 pair.1 in
      let node_held : k.where_is n ≡ held it.0 ok.time = (sits.holds n ok.time ok.node_held).1 in
      let time : clock n ≡ ok.time = ap (clock_of time_of) node_held in
      let wire_held : held_at (plan.nodes + w) it.1.held ≡ some ok.time =
      ok.others_held w (subst (λ t. IsOfSide plan t n w) time side) (not_passed s.views n w it.0 it.1 not_yet it.2) in
      ap (clock_of time_of) (sits.holds (plan.nodes + w) ok.time wire_held).1 ∙ sym time

  word_clock : (i : ℕ) (x : Whereabouts T) → IsThere number_of time_of right s i x → slice_index s.words i / 2 ≡ clock_of time_of x
  word_clock i (home x) lies = let word = lies.0 in omega (arith, word)
  word_clock i (held j t) lies = let word = lies.0 in omega (arith, word)

  count_is : (n : ℕ) → n < plan.nodes → count_in s n ≡ clock n + tick (started_by s.views n)
  count_is n less = ap (λ t. t + tick (started_by s.views n)) (word_clock n (k.where_is n) (k.each_item n (omega (arith, less))))

  pub counts_balanced : AreBalanced plan (count_in s)
  counts_balanced w less =
      let c : ℕ = consumer_of plan w in
      let p : ℕ = producer_of plan w in
      let b = wire_balanced (clock (plan.nodes + w)) (clock c) (clock p) (passed_by s.views c w) (passed_by s.views p w) (started_by s.views c)
      (started_by s.views p)
      (k.times w less) (passed_started s.views c w) (passed_started s.views p w)
      (λ started even not_yet. waits c w started (less, if_even (clock c) _ _ even) not_yet)
      (λ started odd not_yet. waits p w started (less, if_odd (clock p) _ _ odd) not_yet) in
      let consumer_is = count_is c (k.planned.consumers w less) in
      let producer_is = count_is p (k.planned.producers w less) in
      let low = b.0 in let high = b.1 in
      record { not_behind = omega (arith, low, consumer_is, producer_is); not_ahead = omega (arith, high, consumer_is, producer_is) }

  pub counts_scheduled : (steps : ℕ) → ((n : ℕ) → n < plan.nodes → count_in s n ≤ 2 * steps)
      → AreScheduled plan steps (count_in s)
  counts_scheduled steps bounded = balanced_are_reached plan steps k.planned (count_in s) bounded counts_balanced

-- where nothing is passed, a node of the least time is enabled
pub home_enabled : (plan : Plan) (clock : ℕ → ℕ) (steps n : ℕ) → IsPlan plan → AreTied plan clock (λ n w. false) → n < plan.nodes → clock n < 2 * steps
    → ((m : ℕ) → m < plan.nodes → clock n ≤ clock m) → IsEnabled plan steps clock n
home_enabled plan clock steps n planned ties node below least = least_is_enabled plan steps clock n planned (home_balanced plan clock ties) node below least

pub home_ready : (plan : Plan) (clock : ℕ → ℕ) (n w : ℕ) → IsPlan plan → AreTied plan clock (λ n w. false) → n < plan.nodes
    → ((m : ℕ) → m < plan.nodes → clock n ≤ clock m) → IsOfSide plan (clock n) n w → clock (plan.nodes + w) ≡ clock n
home_ready plan clock n w planned ties node least side =
    home_wires plan clock ties w side.0 ∙ (home_enabled plan clock (clock n + 1) n planned ties node (omega arith) least).ready w side
