-- What it takes to evaluate, in heap, stack and work; and how costs make up others.
use Rattle.std.specs.Prelude.{ℕ, ◌+◌, ◌≤◌, max, List, [], ◌∷◌, map, sum}
use Rattle.box_costs.specs.declared.cost.Cost.{Cost}

-- so many words of heap, words of stack, and instructions
abbrev pub cost : ℕ → ℕ → ℕ → Cost
cost heap stack work = record { heap = heap; stack = stack; work = work }

-- no words and no instructions
abbrev pub nothing : Cost
nothing = cost 0 0 0

-- so many instructions, which need no more words
abbrev pub instructions : ℕ → Cost
instructions count = cost 0 0 count

-- so many words of objects
abbrev pub objects : ℕ → Cost
objects words = cost words 0 0

-- an instruction that leaves a word on the stack
abbrev pub pushed : Cost
pushed = cost 0 1 1

-- an instruction that makes an object of so many words, with one before them, and leaves its place on the stack
abbrev pub made : ℕ → Cost
made words = cost (1 + words) 1 1

-- the same with so many words below it on the stack
abbrev pub above : ℕ → Cost → Cost
above words x = cost x.heap (words + x.stack) x.work

-- the one and then the other: objects stay, and the stack is used again
abbrev pub both : Cost → Cost → Cost
both x y = cost (x.heap + y.heap) (max x.stack y.stack) (x.work + y.work)

-- the one or the other, each part by itself
abbrev pub either : Cost → Cost → Cost
either x y = cost (max x.heap y.heap) (max x.stack y.stack) (max x.work y.work)

-- one of several, each part by itself
abbrev pub any_of : List Cost → Cost
any_of [] = nothing
any_of (x ∷ xs) = either x (any_of xs)

-- parts from left to right, each above the words of those before it
abbrev pub in_order : List Cost → Cost
in_order [] = nothing
in_order (part ∷ parts) = both part (above 1 (in_order parts))

-- One of the ways to go on: the tests that lead to it, and what it then takes.
pub record Way : Type 0 where
  pub tests : ℕ
  pub taken : Cost

-- the tests of a way
abbrev pub tests_of_way : Way → ℕ
tests_of_way way = way.tests

-- what a way takes behind its tests
abbrev pub taken_by_way : Way → Cost
taken_by_way way = way.taken

-- one of several ways, or the raise where there is none: at most all tests, and the dearest way
abbrev pub one_way : List Way → Cost
one_way ways = both (instructions (sum (map tests_of_way ways))) (either (instructions 1) (any_of (map taken_by_way ways)))

-- so many variables are put on the stack, and above them comes what follows, which ends with so many instructions
abbrev pub with_variables : ℕ → ℕ → Cost → Cost
with_variables variables ending x = above variables (both (instructions variables) (both x (instructions ending)))

-- each part is at most that of the other
pub record IsAtMost (x y : Cost) : Type 0 where
  pub heap : x.heap ≤ y.heap
  pub stack : x.stack ≤ y.stack
  pub work : x.work ≤ y.work
