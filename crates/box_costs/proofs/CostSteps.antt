-- Costs that are at most others, or the same.
use Rattle.std.proofs.Common.{◌≡◌, ℕ, ◌+◌, ◌≤◌, List, [], ◌∷◌, map, arith}
use Rattle.std.proofs.lemmas.List.Sums.{sum_by-cons}
use Rattle.std.specs.List.{sum}
use Rattle.box_costs.specs.declared.cost.Cost.{Cost}
use Rattle.box_costs.specs.Costs.{nothing, instructions, above, both, either, Way, tests_of_way, one_way, IsAtMost}

pub sum_more : (n : ℕ) (ns : List ℕ) → sum (n ∷ ns) ≡ n + sum ns
sum_more n ns = sum_by-cons (λ x. x) n ns

pub same_cost : (x y : Cost) → x.heap ≡ y.heap → x.stack ≡ y.stack → x.work ≡ y.work → x ≡ y
same_cost x y p q r = λ i. record { heap = p i; stack = q i; work = r i }

pub self_most : (x : Cost) → IsAtMost x x
self_most x = record { heap = omega arith; stack = omega arith; work = omega arith }

pub most_of : (x y z : Cost) → IsAtMost x y → IsAtMost y z → IsAtMost x z
most_of x y z p q = record { heap = omega (arith, p.heap, q.heap); stack = omega (arith, p.stack, q.stack); work = omega (arith, p.work, q.work) }

pub both_most : (a b c d : Cost) → IsAtMost a b → IsAtMost c d → IsAtMost (both a c) (both b d)
both_most a b c d p q = record { heap = omega (arith, p.heap, q.heap); stack = omega (arith, p.stack, q.stack); work = omega (arith, p.work, q.work) }

pub above_most : (n : ℕ) (a b : Cost) → IsAtMost a b → IsAtMost (above n a) (above n b)
above_most n a b p = record { heap = omega (arith, p.heap); stack = omega (arith, p.stack); work = omega (arith, p.work) }

pub nothing_most : (x : Cost) → IsAtMost nothing x
nothing_most x = record { heap = omega arith; stack = omega arith; work = omega arith }

pub tests_most : (m n : ℕ) → m ≤ n → IsAtMost (instructions m) (instructions n)
tests_most m n p = record { heap = omega arith; stack = omega arith; work = p }

pub left_most : (a b c : Cost) → IsAtMost a b → IsAtMost a (either b c)
left_most a b c p = record { heap = omega (arith, p.heap); stack = omega (arith, p.stack); work = omega (arith, p.work) }

pub right_most : (a b c : Cost) → IsAtMost a c → IsAtMost a (either b c)
right_most a b c p = record { heap = omega (arith, p.heap); stack = omega (arith, p.stack); work = omega (arith, p.work) }

-- the tests of the first way, and then what it takes, or the other ways
module _ (way : Way) (ways : List Way) where
  abbrev tests_left : ℕ
  tests_left = sum (map tests_of_way ways)

  all_tests : sum (map tests_of_way (way ∷ ways)) ≡ way.tests + sum (map tests_of_way ways)
  all_tests = sum_more way.tests (map tests_of_way ways)

  pub first_way : (tests : ℕ) (x : Cost) → tests ≤ way.tests → IsAtMost x way.taken → IsAtMost (both (instructions tests) x) (one_way (way ∷ ways))
  first_way tests x few p = record {
    heap = omega (arith, p.heap);
    stack = omega (arith, p.stack);
    work = let e = all_tests in omega (arith, p.work, e, few);
  }

  pub other_way : (tests : ℕ) (x : Cost) → tests ≤ way.tests → IsAtMost x (one_way ways) → IsAtMost (both (instructions tests) x) (one_way (way ∷ ways))
  other_way tests x few p = record {
    heap = omega (arith, p.heap);
    stack = omega (arith, p.stack);
    work = let e = all_tests in omega (arith, p.work, e, few);
  }

-- no way is taken
pub no_way : (ways : List Way) → IsAtMost (instructions 1) (one_way ways)
no_way ways = record { heap = omega arith; stack = omega arith; work = omega arith }

-- a single way whose tests all ran
pub single_way : (way : Way) → 1 ≤ way.taken.work → both (instructions way.tests) way.taken ≡ one_way (way ∷ [])
single_way way some = same_cost _ _ (omega arith) (omega arith) (let e = all_tests way [] in omega (arith, e, some))
