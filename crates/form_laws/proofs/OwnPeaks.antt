-- A union tells the peaks of each program as the program tells them alone.
use Rattle.std.proofs.Common.{◌≡◌, ℕ, zero, suc, ◌+◌, ◌<◌, List, [], ◌∷◌, ◌++◌, map, length, sum, take, Some, slice_get, refl, ap, sym, ◌∙◌, arith}
use Rattle.std.specs.List.{All, flat_map, range_with_len}
use Rattle.std.proofs.lemmas.List.Sums.{sum_by-cons}
use Rattle.box_costs.specs.declared.cost.Cost.{Cost}
use Rattle.hume_model.specs.declared.core_tree.NodeC.{NodeC}
use Rattle.hume_model.specs.declared.core_tree.NodeC.TheVariants.{From, Rules, To}
use Rattle.hume_model.specs.declared.core_tree.Core.{Core}
use Rattle.hume_model.specs.WellFormed.{IsWellFormed}
use Rattle.hume_net.specs.Start.{start}
use Rattle.net_costs.specs.Steps.{peaks}
use Rattle.run_rounds.specs.Inputs.{Inputs}
use Rattle.run_rounds.specs.Members.{MemberView, member_lines}
use Rattle.trace_print.specs.TraceLines.{peak_there}
use Rattle.union_laws.specs.declared.moves.Moves.{Moves}
use Rattle.union_laws.specs.Moving.{moved_node}
use Rattle.union_laws.specs.Shares.{nodes_before}
use Rattle.union_laws.specs.Union.{behind, no_program, united_all}
use Rattle.union_laws.proofs.MovedCalls.{there_is}
use Rattle.union_laws.proofs.ProgramPeaks.{share_peaks, share_start}
use Rattle.form_laws.specs.Unions.{own_inputs, own_peaks}
use Rattle.form_laws.proofs.OwnInputs.{all_alone, stands}
use Rattle.form_laws.proofs.OwnParts.{long_union, nodes_in}

-- the line of a node there and alone
same_peak : (moves : Moves) (node : NodeC) (most : Cost) → peak_there most (Some (moved_node moves node)) ≡ peak_there most (Some node)
same_peak moves (Rules b) most = refl
same_peak moves (From stream) most = refl
same_peak moves (To stream) most = refl

-- lines of numbers from two places on
shifted : (f g : ℕ → List (List ℕ)) (a b count : ℕ) → ((n : ℕ) → n < count → f (a + n) ≡ g (b + n))
    → flat_map f (range_with_len a count) ≡ flat_map g (range_with_len b count)
shifted f g a b zero same = refl
shifted f g a b (suc count) same =
    let at : a ≡ a + 0 = omega arith in
    let there : b + 0 ≡ b = omega arith in
    let first : f a ≡ g b = ap f at ∙ same 0 (omega arith) ∙ ap g there in
    let later = shifted f g (a + 1) (b + 1) count (λ n less.
    let on : (a + 1) + n ≡ a + suc n = omega arith in
    let on_there : b + suc n ≡ (b + 1) + n = omega arith in
    ap f on ∙ same (suc n) (omega (arith, less)) ∙ ap g on_there) in
    λ i. first i ++ later i

module _ (lines : ℕ → List (List ℕ)) (steps : ℕ) where
  -- the lines are those of each program
  abbrev AreOwn : ℕ → List Core → List Inputs → Type 0
  AreOwn first programs owns = (place n : ℕ) (program : Core) (own : Inputs) → slice_get programs place ≡ Some program → slice_get owns place ≡ Some own
      → n < length program.nodes
      → lines (first + (sum (map nodes_in (take place programs)) + n)) ≡ peak_there (peaks program (start program own.good) steps n) (slice_get program.nodes n)

  lines_are : (first : ℕ) (programs : List Core) (members : List MemberView) (owns : List Inputs)
      → map (λ (member : MemberView). member.nodes) members ≡ map nodes_in programs → length owns ≡ length programs
      → AreOwn first programs owns → member_lines lines first members ≡ own_peaks programs members owns steps
  lines_are first [] [] owns same many are = refl
  lines_are first [] (member ∷ members) owns same many are = cc
  lines_are first (program ∷ programs) [] owns same many are = cc
  lines_are first (program ∷ programs) (member ∷ members) [] same many are = absurd (omega (arith, many))
  lines_are first (program ∷ programs) (member ∷ members) (own ∷ owns) same many are =
      let count : member.nodes ≡ length program.nodes = cc in
      let others : map (λ (member : MemberView). member.nodes) members ≡ map nodes_in programs = cc in
      let here = ap (λ k. flat_map lines (range_with_len first k)) count
      ∙ shifted lines (λ n. peak_there (peaks program (start program own.good) steps n) (slice_get program.nodes n)) first 0 (length program.nodes) (λ n less.
      let at : first + n ≡ first + (sum (map nodes_in (take 0 (program ∷ programs))) + n) = omega arith in
      let there : n ≡ 0 + n = omega arith in
      ap lines at ∙ are 0 n program own refl refl less
      ∙ ap (λ k. peak_there (peaks program (start program own.good) steps k) (slice_get program.nodes k)) there) in
      let later = lines_are (first + member.nodes) programs members owns others (omega (arith, many)) (λ place n other inputs found at less.
      let sums = sum_by-cons (λ (k : ℕ). k) (nodes_in program) (map nodes_in (take place programs)) in
      let on : (first + member.nodes) + (sum (map nodes_in (take place programs)) + n)
      ≡ first + (sum (map nodes_in (take (suc place) (program ∷ programs))) + n)
      = omega (arith, sums, count) in
      ap lines on ∙ are (suc place) n other inputs found at less) in
      λ i. (member.head ∷ here i) ++ later i

module _ (programs : List Core) (formed : All IsWellFormed programs) (coming : Inputs) (steps : ℕ) where
  abbrev union : Core
  union = united_all programs

  abbrev union_lines : ℕ → List (List ℕ)
  union_lines n = peak_there (peaks union (start union coming.good) steps n) (slice_get union.nodes n)

  module _ (place n : ℕ) (program : Core) (found : slice_get programs place ≡ Some program) (within : n < length program.nodes) where
    own_line : union_lines (nodes_before programs place + n)
        ≡ peak_there (peaks program (start program (own_inputs programs place program coming).good) steps n) (slice_get program.nodes n)
    own_line =
        let at = there_is program.nodes n within in
        let alone = all_alone programs formed in
        let most = share_peaks programs alone place program found (start union coming.good) steps n within
        ∙ ap (λ s. peaks program s steps n) (share_start programs alone place program found coming.good) in
        (λ i. peak_there (most i) ((stands programs formed place program found coming).nodes n at.0 at.1 i))
        ∙ same_peak (behind (united_all (take place programs))) at.0 (peaks program (start program (own_inputs programs place program coming).good) steps n)
        ∙ ap (peak_there (peaks program (start program (own_inputs programs place program coming).good) steps n)) (sym at.1)

  pub tells_peaks : (members : List MemberView) (owns : List Inputs) → map (λ (member : MemberView). member.nodes) members ≡ map nodes_in programs
      → length owns ≡ length programs
      → ((place : ℕ) (program : Core) (own : Inputs) → slice_get programs place ≡ Some program → slice_get owns place ≡ Some own
      → own ≡ own_inputs programs place program coming)
      → member_lines union_lines 0 members ≡ own_peaks programs members owns steps
  tells_peaks members owns same many are = lines_are union_lines steps 0 programs members owns same many (λ place n program own found at within.
      let long = long_union no_program (take place programs) in
      let on : 0 + (sum (map nodes_in (take place programs)) + n) ≡ nodes_before programs place + n = omega (arith, long) in
      ap union_lines on ∙ own_line place n program found within
      ∙ ap (λ (inputs : Inputs). peak_there (peaks program (start program inputs.good) steps n) (slice_get program.nodes n))
      (sym (are place program own found at)))
