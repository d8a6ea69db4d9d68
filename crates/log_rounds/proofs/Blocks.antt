-- The blocks of a log, one after another: which lines stand before which.
use Rattle.std.proofs.Common.{◌≡◌, ℕ, zero, suc, ◌+◌, ◌-◌, ◌<◌, ◌≤◌, List, [], ◌++◌, append-nil, append_assoc, refl, ap, sym, ◌∙◌, inl, inr, arith}
use Rattle.std.proofs.lemmas.Bool.{cases_lt}
use Rattle.std.specs.List.{concat, flat_map, range_with_len}
use Rattle.std.proofs.lemmas.List.Folds.{concat-append}
use Rattle.hume_model.specs.declared.core_tree.Core.{Core}
use Rattle.hume_net.specs.declared.state.State.{State}
use Rattle.hume_net.specs.Lockstep.{lockstep, mid}
use Rattle.run_log.specs.declared.half.Half.{Half}
use Rattle.run_log.specs.declared.half.Half.TheVariants.{Mid, End}
use Rattle.run_log.specs.Faults.{blocks_before}
use Rattle.run_log.specs.Logs.{block, log_lines, superstep_blocks}
use Rattle.run_log.specs.Moments.{block_at}
use Rattle.run_rounds.proofs.Ranges.{flat_more, flat_within}
use Rattle.log_rounds.specs.Outcomes.{HasBlock, lines_through, lines_until, moment_at}

-- lines that begin with others
abbrev pub LinesBegin : List (List ℕ) → List (List ℕ) → Type 0
LinesBegin all first = (rest : List (List ℕ)) × (all ≡ first ++ rest)

begin_in : (all middle first : List (List ℕ)) → LinesBegin all middle → LinesBegin middle first → LinesBegin all first
begin_in all middle first a m = (m.0 ++ a.0, a.1 ∙ ap (λ lines. lines ++ a.0) m.1 ∙ append_assoc first m.0 a.0)

pub lockstep_start : (core : Core) (first : State) → lockstep core first 0 ≡ first
unfolding lockstep
lockstep_start core first = refl

module _ (core : Core) (first : State) where
  abbrev Lines : ℕ → List (List ℕ)
  Lines count = log_lines core first count

  -- one superstep more
  pub lines_more : (done : ℕ) → Lines (suc done) ≡ Lines done ++ superstep_blocks core first (suc done)
  lines_more done =
      let last : 1 + done ≡ suc done = omega arith in
      ap (λ lines. block core End 0 first ++ lines)
      (flat_more (superstep_blocks core first) 1 done ∙ ap (λ k. flat_map (superstep_blocks core first) (range_with_len 1 done) ++ superstep_blocks core first k) last)
      ∙ sym (append_assoc (block core End 0 first) (flat_map (superstep_blocks core first) (range_with_len 1 done)) (superstep_blocks core first (suc done)))

  pub lines_within : (count total : ℕ) → count ≤ total → LinesBegin (Lines total) (Lines count)
  lines_within count total within =
      let its = flat_within (superstep_blocks core first) 1 count total within in (
        its.0,
        ap (λ lines. block core End 0 first ++ lines) its.1
            ∙ sym (append_assoc (block core End 0 first) (flat_map (superstep_blocks core first) (range_with_len 1 count)) its.0),
      )

  abbrev Through : Half → ℕ → List (List ℕ)
  Through half superstep = lines_through core first half superstep

  abbrev Until : Half → ℕ → List (List ℕ)
  Until half superstep = lines_until core first half superstep

  abbrev Block : Half → ℕ → List (List ℕ)
  Block half superstep = block_at core (moment_at core first half superstep)

  -- a block stands behind the lines before it
  pub through_is : (half : Half) (superstep : ℕ) → Through half superstep ≡ Until half superstep ++ Block half superstep
  through_is Mid superstep = refl
  through_is End zero = append-nil (block core End 0 first) ∙ ap (block core End 0) (sym (lockstep_start core first))
  through_is End (suc done) =
      let at : done ≡ suc done - 1 = omega arith in
      let middle : List (List ℕ) = block core Mid (suc done) (mid core (lockstep core first (suc done - 1))) in
      let last : List (List ℕ) = block core End (suc done) (lockstep core first (suc done)) in
      lines_more done ∙ ap (λ k. Lines k ++ (middle ++ last)) at ∙ sym (append_assoc (Lines (suc done - 1)) middle last)

  -- the lines through the midst of a superstep come before its end
  mid_within : (superstep : ℕ) → 1 ≤ superstep → LinesBegin (Lines superstep) (Through Mid superstep)
  mid_within zero one = absurd (omega (arith, one))
  mid_within (suc done) one = (Block End (suc done), through_is End (suc done))

  within_end : (half : Half) (superstep total : ℕ) → HasBlock total half superstep → LinesBegin (Lines total) (Through half superstep)
  within_end End superstep total there = lines_within superstep total there
  within_end Mid superstep total there =
      begin_in (Lines total) (Lines superstep) (Through Mid superstep) (lines_within superstep total there.1) (mid_within superstep there.0)

  pub through_within : (half : Half) (superstep total : ℕ) → HasBlock total half superstep → LinesBegin (Lines total) (Through half superstep)
  through_within half superstep total there = within_end half superstep total there

  -- which blocks stand before which
  pub through_before : (half other : Half) (superstep number total : ℕ) → HasBlock total half superstep → HasBlock total other number
      → blocks_before half superstep < blocks_before other number → LinesBegin (Until other number) (Through half superstep)
  through_before half Mid superstep number total there later less = within_end half superstep (number - 1) (shrunk half there less)
    where
      shrunk : (h : Half) → HasBlock total h superstep → blocks_before h superstep < blocks_before Mid number → HasBlock (number - 1) h superstep
      shrunk End there less = omega (arith, less)
      shrunk Mid there less = (there.0, omega (arith, less, there.0))
  through_before half End superstep zero total there later less = absurd (omega (arith, less))
  through_before half End superstep (suc done) total there later less = by half there less
    where
      upto : (h : Half) → HasBlock done h superstep → LinesBegin (Through Mid (suc done)) (Through h superstep)
      upto h has =
          let at : done ≡ suc done - 1 = omega arith in
          begin_in (Through Mid (suc done)) (Lines done) (Through h superstep)
          (Block Mid (suc done), ap (λ k. Lines k ++ Block Mid (suc done)) (sym at)) (within_end h superstep done has)

      by : (h : Half) → HasBlock total h superstep → blocks_before h superstep < blocks_before End (suc done) → LinesBegin (Through Mid (suc done)) (Through h superstep)
      by End there less = upto End (omega (arith, less))
      by Mid there less = elim (cases_lt done superstep) [
        | inr few ↦ upto Mid (there.0, few)
        | inl past ↦ (
            let same : suc done ≡ superstep = omega (arith, past, less, there.0) in
            ([], ap (Through Mid) same ∙ sym (append-nil (Through Mid superstep))))
      ]

-- blocks of one number are one
pub one_block : (half other : Half) (superstep number total : ℕ) → HasBlock total half superstep → HasBlock total other number
    → blocks_before half superstep ≡ blocks_before other number → (half ≡ other) × (superstep ≡ number)
one_block End End superstep number total there later same = (refl, omega (arith, same))
one_block Mid Mid superstep number total there later same = (refl, omega (arith, same, there.0, later.0))
one_block End Mid superstep number total there later same = absurd (omega (arith, same, later.0))
one_block Mid End superstep number total there later same = absurd (omega (arith, same, there.0))

-- the bytes of lines that begin with others
pub bytes_begin : (all first : List (List ℕ)) → LinesBegin all first → (rest : List ℕ) × (concat all ≡ concat first ++ rest)
bytes_begin all first b = (concat b.0, ap concat b.1 ∙ concat-append first b.0)
