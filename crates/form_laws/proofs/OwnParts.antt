-- The nodes of a program are in a union as they are alone, superstep by superstep.
use Rattle.std.proofs.Common.{◌≡◌, ℕ, zero, suc, ◌+◌, ◌-◌, ◌<◌, ◌≤◌, List, [], ◌∷◌, length, map, sum, take, Some, slice_get, refl, ap, sym, ◌∙◌, arith, inl, inr, ◌⊎◌}
use Rattle.std.specs.List.{All}
use Rattle.std.proofs.lemmas.Bool.{cases_lt}
use Rattle.std.proofs.lemmas.List.Sums.{sum_by-cons}
use Rattle.hume_model.specs.declared.core_tree.Core.{Core}
use Rattle.hume_net.specs.declared.state.State.{State}
use Rattle.hume_net.specs.Lockstep.{lockstep}
use Rattle.hume_net.specs.Sides.{part_of}
use Rattle.hume_net.specs.Start.{start}
use Rattle.run_rounds.specs.Inputs.{Inputs}
use Rattle.union_laws.specs.Shares.{nodes_before, right, share}
use Rattle.union_laws.specs.Union.{followed_by, no_program, united, united_all}
use Rattle.union_laws.proofs.ProgramPeaks.{share_start}
use Rattle.union_laws.proofs.Programs.{share_alone}
use Rattle.union_laws.proofs.SharedNets.{RunsAlone}
use Rattle.union_laws.proofs.Unions.{all_nodes, left_share, right_share}
use Rattle.form_laws.specs.Unions.{own_inputs}

-- a program's nodes have their parts in its share
share_parts : (programs : List Core) (place : ℕ) (program : Core) (s : State) (n : ℕ) → n < length program.nodes
    → part_of s (nodes_before programs place + n) ≡ part_of (share programs place program s) n
share_parts programs place program s n within =
    let before : Core = united_all (take place programs) in
    let at : 0 + n ≡ n = omega arith in
    (right_share before program s).parts n within
    ∙ ap (part_of (right before s)) (sym at)
    ∙ (left_share program (right before s)).parts n within

module _ (programs : List Core) (each : All RunsAlone programs) (place : ℕ) (program : Core) (found : slice_get programs place ≡ Some program)
    (coming : Inputs) where
  pub own_parts : (k n : ℕ) → n < length program.nodes
      → part_of (lockstep (united_all programs) (start (united_all programs) coming.good) k) (nodes_before programs place + n)
      ≡ part_of (lockstep program (start program (own_inputs programs place program coming).good) k) n
  own_parts k n within =
      share_parts programs place program (lockstep (united_all programs) (start (united_all programs) coming.good) k) n within
      ∙ ap (λ s. part_of s n) (share_alone programs each place program found (start (united_all programs) coming.good) k)
      ∙ ap (λ s. part_of (lockstep program s k) n) (share_start programs each place program found coming.good)

  pub own_first_parts : (n : ℕ) → n < length program.nodes
      → part_of (start (united_all programs) coming.good) (nodes_before programs place + n)
      ≡ part_of (start program (own_inputs programs place program coming).good) n
  own_first_parts n within =
      share_parts programs place program (start (united_all programs) coming.good) n within
      ∙ ap (λ s. part_of s n) (share_start programs each place program found coming.good)

-- how many nodes programs have together

abbrev pub nodes_in : Core → ℕ
nodes_in core = length core.nodes

pub long_union : (core : Core) (programs : List Core) → length (followed_by core programs).nodes ≡ length core.nodes + sum (map nodes_in programs)
long_union core [] = omega arith
long_union core (next ∷ others) =
    let later = long_union (united core next) others in
    let both = all_nodes core next in
    let first = sum_by-cons (λ (n : ℕ). n) (nodes_in next) (map nodes_in others) in
    omega (arith, later, both, first)

-- the program to which a node of a union belongs
pub record Belongs (core : Core) (programs : List Core) (n : ℕ) : Type 0 where
  pub place : ℕ
  pub program : Core
  pub there : slice_get programs place ≡ Some program
  pub node : ℕ
  pub within : node < length program.nodes
  pub at : n ≡ length (followed_by core (take place programs)).nodes + node

pub belongs : (core : Core) (programs : List Core) (n : ℕ) → n < length (followed_by core programs).nodes → (n < length core.nodes) ⊎ Belongs core programs n
belongs core [] n within = inl within
belongs core (next ∷ others) n within = elim (belongs (united core next) others n within) [
  | inl front ↦ elim (cases_lt n (length core.nodes)) [
    | inl less ↦ inl less
    | inr more ↦ (let both = all_nodes core next in inr (record {
      place = 0;
      program = next;
      there = refl;
      node = n - length core.nodes;
      within = omega (arith, both, front, more);
      at = omega (arith, more);
    }))
  ]
  | inr later ↦ inr (record {
    place = suc later.place;
    program = later.program;
    there = later.there;
    node = later.node;
    within = later.within;
    at = later.at;
  })
]

-- each node of a union is one of a program
pub owner : (programs : List Core) (n : ℕ) → n < length (united_all programs).nodes → Belongs no_program programs n
owner programs n within = elim (belongs no_program programs n within) [
  | inl front ↦ absurd (omega (arith, front))
  | inr is ↦ is
]

-- the nodes of a program stand behind those of earlier ones, and within the union
pub earlier_nodes : (core : Core) (programs : List Core) (i j : ℕ) (program : Core) → i < j → slice_get programs i ≡ Some program
    → length (followed_by core (take i programs)).nodes + length program.nodes ≤ length (followed_by core (take j programs)).nodes
earlier_nodes core [] i j program less found = cc
earlier_nodes core (x ∷ xs) i zero program less found = absurd (omega (arith, less))
earlier_nodes core (x ∷ xs) zero (suc j) program less found =
    let same : x ≡ program = cc in
    let many : length x.nodes ≡ length program.nodes = ap nodes_in same in
    let both = all_nodes core x in
    let later = long_union (united core x) (take j xs) in
    omega (arith, many, both, later)
earlier_nodes core (x ∷ xs) (suc i) (suc j) program less found = earlier_nodes (united core x) xs i j program (omega (arith, less)) found

pub nodes_within : (core : Core) (programs : List Core) (place : ℕ) (program : Core) → slice_get programs place ≡ Some program
    → length (followed_by core (take place programs)).nodes + length program.nodes ≤ length (followed_by core programs).nodes
nodes_within core [] place program found = cc
nodes_within core (x ∷ xs) zero program found =
    let same : x ≡ program = cc in
    let many : length x.nodes ≡ length program.nodes = ap nodes_in same in
    let both = all_nodes core x in
    let later = long_union (united core x) xs in
    omega (arith, many, both, later)
nodes_within core (x ∷ xs) (suc place) program found = nodes_within (united core x) xs place program found
