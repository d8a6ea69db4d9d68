-- Something comes of each text that a log may have, and one thing.
use Rattle.std.proofs.Common.{◌≡◌, ◌⊎◌, ℕ, zero, suc, ◌-◌, ◌<◌, ◌≤◌, true, List, [], ◌∷◌, ◌++◌, append-nil, append_assoc, Option, None, Some, refl, ap, sym, ◌∙◌, subst, inl, inr, arith}
use Rattle.std.proofs.lemmas.Bool.{cases_lt}
use Rattle.std.proofs.lemmas.List.{append_cancel_left}
use Rattle.std.proofs.lemmas.List.Folds.{concat-append}
use Rattle.std.specs.List.{concat}
use Rattle.hume_model.specs.declared.core_tree.Core.{Core}
use Rattle.hume_net.specs.declared.state.State.{State}
use Rattle.hume_net.specs.Start.{start}
use Rattle.run_log.specs.declared.fault.LogFault.{LogFault}
use Rattle.run_log.specs.declared.half.Half.{Half}
use Rattle.run_log.specs.declared.half.Half.TheVariants.{Mid, End}
use Rattle.run_log.specs.Faults.{IsFault, blocks_before}
use Rattle.run_log.specs.Logs.{log_of}
use Rattle.run_log.specs.Moments.{block_at}
use Rattle.run_rounds.specs.Inputs.{Inputs}
use Rattle.run_rounds.specs.Writes.{blocked_by}
use Rattle.log_rounds.specs.Supersteps.{before_blocked, blocked_superstep, supersteps_made}
use Rattle.log_rounds.specs.Outcomes.{FailsAt, HasBlock, IsOutcome, Outcome, holds, fails, goes_on, blocked, is_held, is_wrong, is_longer, is_blocked, lines_through, lines_until, moment_at}
use Rattle.log_rounds.proofs.Lines.{GoesOnWith}
use Rattle.log_rounds.proofs.Blocks.{LinesBegin, bytes_begin, one_block, through_before, through_is, through_within}
use Rattle.log_rounds.proofs.Faults.{agrees_or_fails, fault_is_not, one_fault}
use Rattle.log_rounds.proofs.Supersteps.{all_made, made_before, stopped}

module _ (core : Core) (inputs : Inputs) (steps : ℕ) (text : List ℕ) where
  abbrev Made : ℕ
  Made = supersteps_made core inputs steps

  abbrev First : State
  First = start core inputs.good

  abbrev pub Through : Half → ℕ → List (List ℕ)
  Through half superstep = lines_through core First half superstep

  abbrev pub Until : Half → ℕ → List (List ℕ)
  Until half superstep = lines_until core First half superstep

  abbrev Block : Half → ℕ → List (List ℕ)
  Block half superstep = block_at core (moment_at core First half superstep)

  -- the text is right through a block, or before it
  abbrev pub AgreesThrough : Half → ℕ → Type 0
  AgreesThrough half superstep = GoesOnWith text (concat (Through half superstep))

  abbrev pub AgreesUntil : Half → ℕ → Type 0
  AgreesUntil half superstep = GoesOnWith text (concat (Until half superstep))

  agrees_less : (all first : List (List ℕ)) → LinesBegin all first → GoesOnWith text (concat all) → GoesOnWith text (concat first)
  agrees_less all first begin on =
      let bytes = bytes_begin all first begin in
      (bytes.0 ++ on.0, on.1 ∙ ap (λ front. front ++ on.0) bytes.1 ∙ append_assoc (concat first) bytes.0 on.0)

  pub until_through : (half other : Half) (superstep number : ℕ) → HasBlock Made half superstep → HasBlock Made other number
      → blocks_before half superstep < blocks_before other number → AgreesUntil other number → AgreesThrough half superstep
  until_through half other superstep number there later less on =
      agrees_less (Until other number) (Through half superstep) (through_before core First half other superstep number Made there later less) on

  pub end_through : (half : Half) (superstep total : ℕ) → HasBlock total half superstep → AgreesThrough End total → AgreesThrough half superstep
  end_through half superstep total there on = agrees_less (Through End total) (Through half superstep) (through_within core First half superstep total there) on

  through_bytes : (half : Half) (superstep : ℕ) → concat (Through half superstep) ≡ concat (Until half superstep) ++ concat (Block half superstep)
  through_bytes half superstep = ap concat (through_is core First half superstep) ∙ concat-append (Until half superstep) (Block half superstep)

  -- a text that is wrong in a block isn't right through it
  pub fails_not : (half : Half) (superstep : ℕ) (fault : LogFault) → FailsAt core inputs steps text half superstep fault → AgreesThrough half superstep → ⊥
  fails_not half superstep fault is on =
      let front : List ℕ = concat (Until half superstep) in
      let its : List ℕ = concat (Block half superstep) in
      fault_is_not core (moment_at core First half superstep) is.rest fault is.is_fault (
        on.0,
        append_cancel_left front is.rest (its ++ on.0)
            (sym is.agrees ∙ on.1 ∙ ap (λ all. all ++ on.0) (through_bytes half superstep) ∙ append_assoc front its on.0),
      )

  -- and not in one that is made, where all that is made is right
  pub fails_never : (half : Half) (superstep : ℕ) (fault : LogFault) → FailsAt core inputs steps text half superstep fault → AgreesThrough End Made → ⊥
  fails_never half superstep fault is on = fails_not half superstep fault is (end_through half superstep Made is.there on)

  -- two faults

  same_fault : (half : Half) (superstep : ℕ) (fault other : LogFault) → FailsAt core inputs steps text half superstep fault
      → FailsAt core inputs steps text half superstep other → fault ≡ other
  same_fault half superstep fault other p q =
      let rest : p.rest ≡ q.rest = append_cancel_left (concat (Until half superstep)) p.rest q.rest (sym p.agrees ∙ q.agrees) in
      one_fault core (moment_at core First half superstep) p.rest fault other p.is_fault
      (subst (λ bytes. IsFault core (moment_at core First half superstep) bytes other) (sym rest) q.is_fault)

  module _ (half other : Half) (superstep number : ℕ) (fault second : LogFault) (p : FailsAt core inputs steps text half superstep fault)
      (q : FailsAt core inputs steps text other number second) where
    not_later : blocks_before half superstep < blocks_before other number → ⊥
    not_later less = fails_not half superstep fault p (until_through half other superstep number p.there q.there less (q.rest, q.agrees))

    not_earlier : blocks_before other number < blocks_before half superstep → ⊥
    not_earlier less = fails_not other number second q (until_through other half number superstep q.there p.there less (p.rest, p.agrees))

    same_number : blocks_before half superstep ≡ blocks_before other number
    same_number = elim (cases_lt (blocks_before half superstep) (blocks_before other number)) [
      | inl less ↦ absurd (not_later less)
      | inr past ↦ elim (cases_lt (blocks_before other number) (blocks_before half superstep)) [
        | inl less ↦ absurd (not_earlier less)
        | inr more ↦ between (blocks_before half superstep) (blocks_before other number) past more
      ]
    ]
      where
        between : (a b : ℕ) → b ≤ a → a ≤ b → a ≡ b
        between a b less more = omega (arith, less, more)

    one_fails : ◌≡◌ {A = Outcome} (fails half superstep fault) (fails other number second)
    one_fails =
        let same = one_block half other superstep number Made p.there q.there same_number in
        let here : FailsAt core inputs steps text half superstep second =
        subst (λ h. FailsAt core inputs steps text h superstep second) (sym same.0) (subst (λ k. FailsAt core inputs steps text other k second) (sym same.1) q) in
        let one : fault ≡ second = same_fault half superstep fault second p here in
        λ i. fails (same.0 i) (same.1 i) (one i)

  -- what is right to its end

  made_all : blocked_superstep core inputs steps ≡ None → (rest : List ℕ) → text ≡ log_of core inputs.good steps ++ rest → AgreesThrough End Made
  made_all none rest is = (rest, is ∙ ap (λ k. log_of core inputs.good k ++ rest) (sym (all_made core inputs steps none)))

  made_stop : (superstep : ℕ) → blocked_superstep core inputs steps ≡ Some superstep → (rest : List ℕ) → text ≡ log_of core inputs.good (superstep - 1) ++ rest
      → AgreesThrough End Made
  made_stop superstep stop rest is = (rest, is ∙ ap (λ k. log_of core inputs.good k ++ rest) (sym (made_before core inputs steps superstep stop)))

  no_more : (log : List ℕ) (byte : ℕ) (rest : List ℕ) → text ≡ log → text ≡ log ++ byte ∷ rest → ⊥
  no_more log byte rest is more =
      let never : ◌≡◌ {A = List ℕ} [] (byte ∷ rest) = append_cancel_left log [] (byte ∷ rest) (append-nil log ∙ sym is ∙ more) in cc

  never_stops : (superstep : ℕ) → blocked_superstep core inputs steps ≡ None → blocked_superstep core inputs steps ≡ Some superstep → ⊥
  never_stops superstep none stop = (let both : ◌≡◌ {A = Option ℕ} None (Some superstep) = sym none ∙ stop in cc)

  -- a text with a fault has no other outcome
  fault_first : (half : Half) (superstep : ℕ) (fault : LogFault) → FailsAt core inputs steps text half superstep fault → (other : Outcome)
      → IsOutcome core inputs steps text other → fails half superstep fault ≡ other
  fault_first half superstep fault p _ (is_held none is) =
      absurd (fails_never half superstep fault p (made_all none [] (is ∙ sym (append-nil (log_of core inputs.good steps)))))
  fault_first half superstep fault p _ (is_longer none byte rest is) = absurd (fails_never half superstep fault p (made_all none (byte ∷ rest) is))
  fault_first half superstep fault p _ (is_blocked number node stop by rest is) =
      absurd (fails_never half superstep fault p (made_stop number stop rest is))
  fault_first half superstep fault p _ (is_wrong other number second q) = one_fails half other superstep number fault second p q

  stop_first : (superstep node : ℕ) → blocked_superstep core inputs steps ≡ Some superstep → blocked_by core inputs true steps superstep ≡ Some node → (rest : List ℕ)
      → text ≡ log_of core inputs.good (superstep - 1) ++ rest → (other : Outcome) → IsOutcome core inputs steps text other → blocked superstep node ≡ other
  stop_first superstep node stop by rest is _ (is_held none its) = absurd (never_stops superstep none stop)
  stop_first superstep node stop by rest is _ (is_longer none byte more its) = absurd (never_stops superstep none stop)
  stop_first superstep node stop by rest is _ (is_wrong half number fault q) =
      absurd (fails_never half number fault q (made_stop superstep stop rest is))
  stop_first superstep node stop by rest is _ (is_blocked number other stopping blocking more its) =
      let one : ◌≡◌ {A = Option ℕ} (Some superstep) (Some number) = sym stop ∙ stopping in
      let same : superstep ≡ number = cc in
      let two : ◌≡◌ {A = Option ℕ} (Some node) (Some other) = sym by ∙ ap (blocked_by core inputs true steps) same ∙ blocking in
      let too : node ≡ other = cc in
      λ i. blocked (same i) (too i)

  hold_first : blocked_superstep core inputs steps ≡ None → text ≡ log_of core inputs.good steps → (other : Outcome)
      → IsOutcome core inputs steps text other → holds ≡ other
  hold_first none is _ (is_held also its) = refl
  hold_first none is _ (is_longer also byte rest its) = absurd (no_more (log_of core inputs.good steps) byte rest is its)
  hold_first none is _ (is_blocked number node stop by rest its) = absurd (never_stops number none stop)
  hold_first none is _ (is_wrong half number fault q) =
      absurd (fails_never half number fault q (made_all none [] (is ∙ sym (append-nil (log_of core inputs.good steps)))))

  longer_first : blocked_superstep core inputs steps ≡ None → (byte : ℕ) (rest : List ℕ) → text ≡ log_of core inputs.good steps ++ byte ∷ rest → (other : Outcome)
      → IsOutcome core inputs steps text other → goes_on ≡ other
  longer_first none byte rest is _ (is_held also its) = absurd (no_more (log_of core inputs.good steps) byte rest its is)
  longer_first none byte rest is _ (is_longer also other more its) = refl
  longer_first none byte rest is _ (is_blocked number node stop by more its) = absurd (never_stops number none stop)
  longer_first none byte rest is _ (is_wrong half number fault q) = absurd (fails_never half number fault q (made_all none (byte ∷ rest) is))

  pub one_outcome : (first second : Outcome) → IsOutcome core inputs steps text first → IsOutcome core inputs steps text second → first ≡ second
  one_outcome _ second (is_held none is) other = hold_first none is second other
  one_outcome _ second (is_wrong half superstep fault p) other = fault_first half superstep fault p second other
  one_outcome _ second (is_longer none byte rest is) other = longer_first none byte rest is second other
  one_outcome _ second (is_blocked superstep node stop by rest is) other = stop_first superstep node stop by rest is second other

  -- an outcome is found block by block

  abbrev Fault : Type 0
  Fault = (half : Half) × (superstep : ℕ) × (fault : LogFault) × FailsAt core inputs steps text half superstep fault

  at_block : (half : Half) (superstep : ℕ) → HasBlock Made half superstep → AgreesUntil half superstep → Fault ⊎ AgreesThrough half superstep
  at_block half superstep there on = elim (agrees_or_fails core (moment_at core First half superstep) on.0) [
    | inl goes ↦ inr (
      goes.0,
      on.1 ∙ ap (λ rest. concat (Until half superstep) ++ rest) goes.1
          ∙ sym (append_assoc (concat (Until half superstep)) (concat (Block half superstep)) goes.0)
          ∙ ap (λ front. front ++ goes.0) (sym (through_bytes half superstep)),
    )
    | inr wrong ↦ inl (half, superstep, wrong.0, record { there = there; rest = on.0; agrees = on.1; is_fault = wrong.1 })
  ]

  pub until_mid : (done : ℕ) → AgreesThrough End done → AgreesUntil Mid (suc done)
  until_mid done on = (let at : done ≡ suc done - 1 = omega arith in subst (λ k. AgreesThrough End k) at on)

  search_from : (done : ℕ) → suc done ≤ Made → Fault ⊎ AgreesThrough End done → Fault ⊎ AgreesThrough End (suc done)
  search_from done within (inl fault) = inl fault
  search_from done within (inr on) = elim (at_block Mid (suc done) (omega arith, within) (until_mid done on)) [
    | inl fault ↦ inl fault
    | inr middle ↦ at_block End (suc done) within middle
  ]

  search : (count : ℕ) → count ≤ Made → Fault ⊎ AgreesThrough End count
  search zero within = at_block End 0 within (text, refl)
  search (suc done) within = search_from done within (search done (omega (arith, within)))

  -- all that is made is right
  right_as : (o : Option ℕ) → blocked_superstep core inputs steps ≡ o → (rest : List ℕ) → text ≡ log_of core inputs.good (before_blocked steps o) ++ rest
      → (outcome : Outcome) × IsOutcome core inputs steps text outcome
  right_as None none [] is = (holds, is_held none (is ∙ append-nil (log_of core inputs.good steps)))
  right_as None none (byte ∷ rest) is = (goes_on, is_longer none byte rest is)
  right_as (Some superstep) stop rest is =
      let its = stopped core inputs steps superstep stop in
      (blocked superstep its.node, is_blocked superstep its.node stop its.by rest is)

  pub some_outcome : (outcome : Outcome) × IsOutcome core inputs steps text outcome
  some_outcome = elim (search Made (omega arith)) [
    | inl fault ↦ (fails fault.0 fault.1 fault.2, is_wrong fault.0 fault.1 fault.2 fault.3)
    | inr on ↦ right_as (blocked_superstep core inputs steps) refl on.0 on.1
  ]
