-- Peaks of no superstep, of one more, and of so many after others.
use Rattle.std.proofs.Common.{◌≡◌, ℕ, zero, suc, ◌+◌, ◌/◌, ◌%◌, List, [], ◌∷◌, ◌++◌, map, refl, ap, sym, ◌∙◌, arith}
use Rattle.std.specs.List.{range_with_len}
use Rattle.std.proofs.lemmas.List.{map-append}
use Rattle.hume_model.specs.declared.core_tree.Core.{Core}
use Rattle.hume_net.specs.declared.state.State.{State}
use Rattle.hume_net.specs.Lockstep.{superstep, lockstep, at_time, executes}
use Rattle.hume_net.proofs.Ranges.{first-more}
use Rattle.hume_net.proofs.Times.{even_state}
use Rattle.box_costs.specs.declared.cost.Cost.{Cost}
use Rattle.box_costs.specs.Costs.{any_of, either, nothing}
use Rattle.net_costs.specs.Steps.{step_spent, peaks}

-- greatest costs

same_costs : {x y : Cost} → x.heap ≡ y.heap → x.stack ≡ y.stack → x.work ≡ y.work → x ≡ y
same_costs heap stack work i = record { heap = heap i; stack = stack i; work = work i }

either_in_turn : (x y z : Cost) → either (either x y) z ≡ either x (either y z)
either_in_turn x y z = same_costs (omega arith) (omega arith) (omega arith)

either_alone : (x : Cost) → either x nothing ≡ x
either_alone x = same_costs (omega arith) (omega arith) (omega arith)

one_of_more : (xs : List Cost) (y : Cost) → any_of (xs ++ y ∷ []) ≡ either (any_of xs) y
one_of_more [] y = either_alone y ∙ same_costs (omega arith) (omega arith) (omega arith)
one_of_more (x ∷ xs) y = ap (either x) (one_of_more xs y) ∙ sym (either_in_turn x (any_of xs) y)

-- peaks

module _ (core : Core) (s : State) (n : ℕ) where
  abbrev spent : ℕ → Cost
  spent k = step_spent core (lockstep core s k) n

  pub no_peak : peaks core s 0 n ≡ nothing
  no_peak = refl

  pub next_peak : (k : ℕ) → peaks core s (k + 1) n ≡ either (peaks core s k n) (step_spent core (lockstep core s k) n)
  next_peak k =
      ap (λ ks. any_of (map spent ks)) (first-more k)
      ∙ ap any_of (map-append spent (range_with_len 0 k) (k ∷ []))
      ∙ one_of_more (map spent (range_with_len 0 k)) (spent k)

lockstep_on : (core : Core) (s : State) (j k : ℕ) → lockstep core s (j + k) ≡ lockstep core (lockstep core s j) k
unfolding lockstep
lockstep_on core s j zero = ap (lockstep core s) (let same : j + 0 ≡ j = omega arith in same)
lockstep_on core s j (suc k) =
    let next : j + suc k ≡ suc (j + k) = omega arith in
    ap (lockstep core s) next ∙ ap (superstep core) (lockstep_on core s j k)

module _ (core : Core) (s : State) (n : ℕ) where
  pub later_peak : (j k : ℕ) → peaks core s (j + k) n ≡ either (peaks core s j n) (peaks core (lockstep core s j) k n)
  later_peak j zero =
      let same : j + 0 ≡ j = omega arith in
      ap (λ steps. peaks core s steps n) same ∙ sym (either_alone (peaks core s j n))
  later_peak j (suc k) =
      let next : j + suc k ≡ (j + k) + 1 = omega arith in
      let more : suc k ≡ k + 1 = omega arith in
      let first = peaks core s j n in
      let second = peaks core (lockstep core s j) k n in
      let last = step_spent core (lockstep core (lockstep core s j) k) n in
      ap (λ steps. peaks core s steps n) next
      ∙ next_peak core s n (j + k)
      ∙ ap (λ peak. either peak (step_spent core (lockstep core s (j + k)) n)) (later_peak j k)
      ∙ ap (λ t. either (either first second) (step_spent core t n)) (lockstep_on core s j k)
      ∙ either_in_turn first second last
      ∙ ap (either first) (sym (next_peak core (lockstep core s j) n k))
      ∙ ap (λ steps. either first (peaks core (lockstep core s j) steps n)) (sym more)

  pub executed_peak : (time : ℕ) → time % 2 ≡ 0
      → peaks core s (executes (time + 1)) n ≡ either (peaks core s (executes time) n) (step_spent core (at_time core s time) n)
  executed_peak time even =
      let more : executes (time + 1) ≡ executes time + 1 = omega (arith, even) in
      let half : executes time ≡ time / 2 = omega (arith, even) in
      ap (λ steps. peaks core s steps n) more
      ∙ next_peak core s n (executes time)
      ∙ ap (λ t. either (peaks core s (executes time) n) (step_spent core t n)) (ap (lockstep core s) half ∙ sym (even_state core s time even))

  pub stepped_peak : (time : ℕ) → time % 2 ≡ 1 → peaks core s (executes (time + 1)) n ≡ peaks core s (executes time) n
  stepped_peak time odd =
      let same : executes (time + 1) ≡ executes time = omega (arith, odd) in
      ap (λ steps. peaks core s steps n) same
