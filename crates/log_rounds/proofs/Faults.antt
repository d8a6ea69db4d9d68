-- Faults of a log: they stay with what follows, and there is one.
use Rattle.std.proofs.Common.{◌≡◌, ◌⊎◌, ℕ, ◌+◌, ◌≤◌, List, ◌++◌, take, length, length-append, Option, None, Some, slice_get, refl, ap, sym, ◌∙◌, subst, inl, inr, arith}
use Rattle.std.specs.List.{concat}
use Rattle.std.proofs.lemmas.List.{append_cancel_left}
use Rattle.hume_model.specs.declared.core_tree.Core.{Core}
use Rattle.run_log.specs.declared.fault.LogFault.{LogFault}
use Rattle.run_log.specs.declared.half.Half.{Half}
use Rattle.run_log.specs.Faults.{EndsWithin, IsFault, IsFirstWrong, blamed, lines_before}
use Rattle.run_log.specs.Moments.{Moment, block_at}
use Rattle.run_log.proofs.Lists.{line_within}
use Rattle.run_log.proofs.Verdicts.{IsFaultBefore, fault_on}
use Rattle.log_rounds.proofs.Lines.{GoesOnWith, ends_within_or_not, lines_or_wrong, one_place, wrong_is_not}

-- a fault by the lines of a block and where the block stands
record IsFaultOf (core : Core) (lines : List (List ℕ)) (half : Half) (superstep : ℕ) (bytes : List ℕ) (fault : LogFault) : Type 0 where
  place : ℕ
  first : IsFirstWrong lines bytes place
  line : fault.line ≡ lines_before core half superstep + place + 1
  cut : EndsWithin first.line first.rest → fault.node ≡ None
  node : (EndsWithin first.line first.rest → ⊥) → fault.node ≡ blamed core half superstep place

-- moments with the same block have the same faults
pub fault_there : (core : Core) (moment other : Moment) (bytes : List ℕ) (fault : LogFault) → block_at core moment ≡ block_at core other
    → moment.half ≡ other.half → moment.superstep ≡ other.superstep → IsFault core moment bytes fault → IsFault core other bytes fault
fault_there core moment other bytes fault block half superstep is =
    let of : IsFaultOf core (block_at core moment) moment.half moment.superstep bytes fault =
    record { place = is.place; first = is.first; line = is.line; cut = is.cut; node = is.node } in
    let its : IsFaultOf core (block_at core other) other.half other.superstep bytes fault =
    subst (λ lines. IsFaultOf core lines other.half other.superstep bytes fault) block
    (subst (λ h. IsFaultOf core (block_at core moment) h other.superstep bytes fault) half
    (subst (λ k. IsFaultOf core (block_at core moment) moment.half k bytes fault) superstep of)) in
    record { place = its.place; first = its.first; line = its.line; cut = its.cut; node = its.node }

-- a fault of as many bytes as the block has is one of what goes on behind them
pub fault_stays : (core : Core) (moment : Moment) (bytes more : List ℕ) (fault : LogFault) → length (concat (block_at core moment)) ≤ length bytes
    → IsFault core moment bytes fault → IsFault core moment (bytes ++ more) fault
fault_stays core moment bytes more fault long is =
    let within = line_within (block_at core moment) is.place is.first.line is.first.there in
    let parts = ap length is.first.before ∙ length-append (concat (take is.place (block_at core moment))) is.first.rest in
    let before : IsFaultBefore core moment bytes fault = record { is = is; whole = omega (arith, within, parts, long) } in
    (fault_on core moment bytes more fault before).is

-- what differs from a block has a fault
abbrev pub AgreesOrFails : Core → Moment → List ℕ → Type 0
AgreesOrFails core moment bytes = GoesOnWith bytes (concat (block_at core moment)) ⊎ ((fault : LogFault) × IsFault core moment bytes fault)

wrong_fault : (core : Core) (moment : Moment) (bytes : List ℕ) (place : ℕ) → IsFirstWrong (block_at core moment) bytes place
    → (fault : LogFault) × IsFault core moment bytes fault
wrong_fault core moment bytes place first = elim (ends_within_or_not first.line first.rest) [
  | inl within ↦ (
    record { line = lines_before core moment.half moment.superstep + place + 1; node = None },
    record { place = place; first = first; line = refl; cut = λ is. refl; node = λ not. absurd (not within) },
  )
  | inr not ↦ (
    record { line = lines_before core moment.half moment.superstep + place + 1; node = blamed core moment.half moment.superstep place },
    record { place = place; first = first; line = refl; cut = λ is. absurd (not is); node = λ none. refl },
  )
]

pub agrees_or_fails : (core : Core) (moment : Moment) (bytes : List ℕ) → AgreesOrFails core moment bytes
agrees_or_fails core moment bytes = elim (lines_or_wrong (block_at core moment) bytes) [
  | inl on ↦ inl on
  | inr wrong ↦ inr (wrong_fault core moment bytes wrong.0 wrong.1)
]

pub fault_is_not : (core : Core) (moment : Moment) (bytes : List ℕ) (fault : LogFault) → IsFault core moment bytes fault
    → GoesOnWith bytes (concat (block_at core moment)) → ⊥
fault_is_not core moment bytes fault is on = wrong_is_not (block_at core moment) bytes is.place is.first on

-- of two faults of the same bytes
module _ (core : Core) (moment : Moment) (bytes : List ℕ) (fault other : LogFault) (p : IsFault core moment bytes fault) (q : IsFault core moment bytes other) where
  same_place : p.place ≡ q.place
  same_place = one_place (block_at core moment) bytes p.place q.place p.first q.first

  same_line : p.first.line ≡ q.first.line
  same_line =
      let there : ◌≡◌ {A = Option (List ℕ)} (Some p.first.line) (Some q.first.line) =
      sym p.first.there ∙ ap (slice_get (block_at core moment)) same_place ∙ q.first.there in
      cc

  same_rest : p.first.rest ≡ q.first.rest
  same_rest =
      append_cancel_left (concat (take p.place (block_at core moment))) p.first.rest q.first.rest
      (sym p.first.before ∙ q.first.before ∙ ap (λ k. concat (take k (block_at core moment)) ++ q.first.rest) (sym same_place))

  -- whether the bytes end within the line is the same of both
  within_too : EndsWithin p.first.line p.first.rest → EndsWithin q.first.line q.first.rest
  within_too within = (within.0, sym same_line ∙ within.1 ∙ ap (λ rest. rest ++ within.0) same_rest)

  within_back : EndsWithin q.first.line q.first.rest → EndsWithin p.first.line p.first.rest
  within_back within = (within.0, same_line ∙ within.1 ∙ ap (λ rest. rest ++ within.0) (sym same_rest))

  same_node : fault.node ≡ other.node
  same_node = elim (ends_within_or_not p.first.line p.first.rest) [
    | inl within ↦ p.cut within ∙ sym (q.cut (within_too within))
    | inr not ↦ p.node not ∙ ap (blamed core moment.half moment.superstep) same_place ∙ sym (q.node (λ within. not (within_back within)))
  ]

  pub one_fault : fault ≡ other
  one_fault =
      let line : fault.line ≡ other.line = p.line ∙ ap (λ k. lines_before core moment.half moment.superstep + k + 1) same_place ∙ sym q.line in
      λ i. record { line = line i; node = same_node i }
