-- The reads of a run by which a log is verified, superstep by superstep.
use Rattle.std.proofs.Common.{◌≡◌, ℕ, zero, suc, ◌+◌, ◌-◌, ◌<◌, ◌≤◌, true, false, List, [], ◌∷◌, ◌++◌, length, append_assoc, append-nil, Option, None, Some, refl, ap, sym, ◌∙◌, subst, inl, inr, arith}
use Rattle.std.proofs.lemmas.Bool.{cases_lt}
use Rattle.std.specs.List.{flat_map, range_with_len}
use Rattle.hume_base.specs.declared.types.Value.{Value}
use Rattle.hume_model.specs.declared.core_tree.Core.{Core}
use Rattle.hume_net.specs.rounds.Blocked.{blocks}
use Rattle.port_acts.specs.Acts.{Act, wants}
use Rattle.run_log.specs.declared.half.Half.{Half}
use Rattle.run_log.specs.declared.half.Half.TheVariants.{Mid, End}
use Rattle.run_log.specs.Faults.{blocks_before}
use Rattle.run_log.specs.Logs.{log_of}
use Rattle.run_rounds.specs.Inputs.{Inputs, is_bad}
use Rattle.run_rounds.specs.RunActs.{blocked_wants, reading, round_wants}
use Rattle.run_rounds.specs.Writes.{blocked_by}
use Rattle.run_rounds.proofs.ActSteps.{BeginsWith, as_begun, begins_in, more_begin, wants_within}
use Rattle.run_rounds.proofs.Ranges.{flat_more, flat_within}
use Rattle.log_rounds.specs.Supersteps.{blocked_superstep, supersteps_made}
use Rattle.log_rounds.specs.Outcomes.{HasBlock, IsOutcome, Outcome, blocked, is_held, is_wrong, is_longer, is_blocked}
use Rattle.log_rounds.specs.VerifyActs.{acts_through, agreeing, agreeing_acts, compared, verify_reads}
use Rattle.log_rounds.proofs.Outcomes.{AgreesThrough, AgreesUntil, fails_never, fails_not, until_mid, until_through}
use Rattle.log_rounds.proofs.Supersteps.{AreFree, all_made, blocker_past, made_before, made_least, stops_after}

-- all, where a list of acts begins with itself
begins_all : (acts : List Act) → BeginsWith acts acts
begins_all acts = ([], sym (append-nil acts))

module _ (core : Core) (log : List ℕ) (steps : ℕ) where
  module _ (good : List (List Value)) where
    abbrev Agreeing : ℕ → List Act
    Agreeing count = agreeing_acts core good log steps count

    abbrev Acts : Half → ℕ → List Act
    Acts half superstep = acts_through core good log steps half superstep

    abbrev Reading : ℕ → List Act
    Reading superstep = reading core good true steps superstep

    abbrev Compared : Half → ℕ → Act
    Compared half superstep = compared core good log half superstep

    pub agreeing_more : (done : ℕ) → Agreeing (suc done) ≡ Agreeing done ++ (Reading (suc done) ++ Compared Mid (suc done) ∷ Compared End (suc done) ∷ [])
    agreeing_more done =
        let last : 1 + done ≡ suc done = omega arith in
        ap (λ acts. Compared End 0 ∷ acts) (flat_more (agreeing core good log steps) 1 done
        ∙ ap (λ k. flat_map (agreeing core good log steps) (range_with_len 1 done) ++ agreeing core good log steps k) last)

    pub agreeing_within : (count total : ℕ) → count ≤ total → BeginsWith (Agreeing total) (Agreeing count)
    agreeing_within count total within =
        let its = flat_within (agreeing core good log steps) 1 count total within in
        (its.0, ap (λ acts. Compared End 0 ∷ acts) its.1)

    -- the reads through the midst of a superstep, and then through its end
    pub mid_acts : (done : ℕ) → Acts Mid (suc done) ≡ (Agreeing done ++ Reading (suc done)) ++ Compared Mid (suc done) ∷ []
    mid_acts done =
        let at : suc done - 1 ≡ done = omega arith in
        ap (λ k. (Agreeing k ++ Reading (suc done)) ++ Compared Mid (suc done) ∷ []) at

    pub end_acts : (done : ℕ) → Acts End (suc done) ≡ Acts Mid (suc done) ++ Compared End (suc done) ∷ []
    end_acts done =
        agreeing_more done
        ∙ sym (append_assoc (Agreeing done) (Reading (suc done)) (Compared Mid (suc done) ∷ Compared End (suc done) ∷ []))
        ∙ sym (append_assoc (Agreeing done ++ Reading (suc done)) (Compared Mid (suc done) ∷ []) (Compared End (suc done) ∷ []))
        ∙ ap (λ acts. acts ++ Compared End (suc done) ∷ []) (sym (mid_acts done))

    mid_within : (superstep : ℕ) → 1 ≤ superstep → BeginsWith (Agreeing superstep) (Acts Mid superstep)
    mid_within zero one = absurd (omega (arith, one))
    mid_within (suc done) one = (Compared End (suc done) ∷ [], end_acts done)

    pub through_within : (half : Half) (superstep total : ℕ) → HasBlock total half superstep → BeginsWith (Agreeing total) (Acts half superstep)
    through_within End superstep total there = agreeing_within superstep total there
    through_within Mid superstep total there =
        begins_in (Agreeing total) (Agreeing superstep) (Acts Mid superstep) (agreeing_within superstep total there.1) (mid_within superstep there.0)

    pub through_first : (half other : Half) (superstep number total : ℕ) → HasBlock total half superstep → HasBlock total other number
        → blocks_before half superstep ≤ blocks_before other number → BeginsWith (Acts other number) (Acts half superstep)
    through_first End End superstep number total there later most = through_within End superstep number (omega (arith, most))
    through_first Mid End superstep number total there later most = through_within Mid superstep number (there.0, omega (arith, most, there.0))
    through_first half Mid superstep number total there later most = by half there most
      where
        front : (h : Half) → HasBlock (number - 1) h superstep → BeginsWith (Acts Mid number) (Acts h superstep)
        front h has =
            begins_in (Acts Mid number) (Agreeing (number - 1)) (Acts h superstep) (Reading number ++ Compared Mid number ∷ [], append_assoc (Agreeing (number - 1)) (Reading number) (Compared Mid number ∷ []))
            (through_within h superstep (number - 1) has)

        by : (h : Half) → HasBlock total h superstep → blocks_before h superstep ≤ blocks_before Mid number → BeginsWith (Acts Mid number) (Acts h superstep)
        by End there most = front End (let one = later.0 in omega (arith, most, one))
        by Mid there most = elim (cases_lt superstep number) [
          | inl less ↦ front Mid (there.0, omega (arith, less))
          | inr past ↦ (
              let same : number ≡ superstep = (let one = later.0 in omega (arith, most, past, one, there.0)) in
              as_begun (Acts Mid superstep) (Acts Mid number) (Acts Mid superstep) (ap (Acts Mid) same) (begins_all (Acts Mid superstep)))
        ]

  module _ (inputs : Inputs) (text : List ℕ) where
    abbrev Reads : Outcome → List Act
    Reads outcome = verify_reads core inputs log steps outcome

    abbrev Its : ℕ → List Act
    Its count = Agreeing inputs.good count

    -- what is read until one byte more was asked for
    to_end : (last : List Act) (half : Half) (superstep : ℕ) → blocked_superstep core inputs steps ≡ None → HasBlock (supersteps_made core inputs steps) half superstep
        → BeginsWith (Its steps ++ last) (Acts inputs.good half superstep)
    to_end last half superstep none there =
        begins_in (Its steps ++ last) (Its steps) (Acts inputs.good half superstep) (last, refl)
        (through_within inputs.good half superstep steps (subst (λ k. HasBlock k half superstep) (all_made core inputs steps none) there))

    -- whatever comes of a text that is right before a block that is made, it is read through this block first
    pub reads_through : (half : Half) (superstep : ℕ) → HasBlock (supersteps_made core inputs steps) half superstep
        → AgreesUntil core inputs steps text half superstep → (outcome : Outcome) → IsOutcome core inputs steps text outcome
        → BeginsWith (Reads outcome) (Acts inputs.good half superstep)
    reads_through half superstep there on _ (is_held none is) = to_end (wants log (suc (length (log_of core inputs.good steps))) ∷ []) half superstep none there
    reads_through half superstep there on _ (is_longer none byte rest is) =
        to_end (wants log (suc (length (log_of core inputs.good steps))) ∷ []) half superstep none there
    reads_through half superstep there on _ (is_blocked number node stop by rest is) =
        begins_in (Reads (blocked number node)) (Its (number - 1)) (Acts inputs.good half superstep) (blocked_wants core inputs true steps number (Some node), refl)
        (through_within inputs.good half superstep (number - 1) (subst (λ k. HasBlock k half superstep) (made_before core inputs steps number stop) there))
    reads_through half superstep there on _ (is_wrong other number fault q) =
        elim (cases_lt (blocks_before other number) (blocks_before half superstep)) [
          | inl less ↦ absurd (fails_not core inputs steps text other number fault q
              (until_through core inputs steps text other half number superstep q.there there less on))
          | inr past ↦ through_first inputs.good half other superstep number (supersteps_made core inputs steps) there q.there past
        ]

    -- and where it is right through a superstep the streams are read before the next
    module _ (done n : ℕ) (less : done < steps) (free : AreFree core inputs steps done) (within : n < length core.nodes)
        (go_on : (m : ℕ) → m < n → blocks core inputs.good (is_bad inputs) 1 steps (suc done) m ≡ false) (on : AgreesThrough core inputs steps text End done) where
      abbrev Wants : ℕ → List Act
      Wants count = round_wants core inputs.good 1 steps (suc done) count

      abbrev FirstReads : List Act
      FirstReads = Its done ++ Wants (n + 1)

      in_mid : BeginsWith (Acts inputs.good Mid (suc done)) FirstReads
      in_mid =
          as_begun ((Its done ++ Reading inputs.good (suc done)) ++ Compared inputs.good Mid (suc done) ∷ []) (Acts inputs.good Mid (suc done)) FirstReads (mid_acts inputs.good done)
          (begins_in ((Its done ++ Reading inputs.good (suc done)) ++ Compared inputs.good Mid (suc done) ∷ []) (Its done ++ Reading inputs.good (suc done)) FirstReads
          (Compared inputs.good Mid (suc done) ∷ [], refl)
          (more_begin (Its done) (Reading inputs.good (suc done)) (Wants (n + 1))
          (wants_within core inputs.good 1 steps (suc done) (n + 1) (length core.nodes) (omega (arith, within)))))

      never_none : blocked_superstep core inputs steps ≡ Some (suc done) → blocked_superstep core inputs steps ≡ None → ⊥
      never_none stop none = (let both : ◌≡◌ {A = Option ℕ} None (Some (suc done)) = sym none ∙ stop in cc)

      at_stop : blocked_superstep core inputs steps ≡ Some (suc done) → (outcome : Outcome) → IsOutcome core inputs steps text outcome → BeginsWith (Reads outcome) FirstReads
      at_stop stop _ (is_held none is) = absurd (never_none stop none)
      at_stop stop _ (is_longer none byte rest is) = absurd (never_none stop none)
      at_stop stop _ (is_wrong half number fault q) =
          let at : suc done - 1 ≡ done = omega arith in
          let made : supersteps_made core inputs steps ≡ done = made_before core inputs steps (suc done) stop ∙ at in
          absurd (fails_never core inputs steps text half number fault q (subst (λ k. AgreesThrough core inputs steps text End k) (sym made) on))
      at_stop stop _ (is_blocked number node stopping by rest is) =
          let one : ◌≡◌ {A = Option ℕ} (Some number) (Some (suc done)) = sym stopping ∙ stop in
          let same : number ≡ suc done = cc in
          let at : suc done - 1 ≡ done = omega arith in
          let here : ◌≡◌ {A = Option ℕ} (blocked_by core inputs true steps (suc done)) (Some node) = ap (blocked_by core inputs true steps) (sym same) ∙ by in
          let past = blocker_past core inputs steps (suc done) n node here go_on in
          as_begun (Its done ++ Wants (node + 1)) (Reads (blocked number node)) FirstReads
          (ap (λ k. Its (k - 1) ++ blocked_wants core inputs true steps k (Some node)) same ∙ ap (λ k. Its k ++ Wants (node + 1)) at)
          (more_begin (Its done) (Wants (node + 1)) (Wants (n + 1)) (wants_within core inputs.good 1 steps (suc done) (n + 1) (node + 1) (omega (arith, past))))

      pub reads_want : (outcome : Outcome) → IsOutcome core inputs steps text outcome → BeginsWith (Reads outcome) FirstReads
      reads_want outcome is =
          let least = made_least core inputs steps done (omega (arith, less)) free in
          elim (cases_lt done (supersteps_made core inputs steps)) [
            | inl more ↦ begins_in (Reads outcome) (Acts inputs.good Mid (suc done)) FirstReads
                (reads_through Mid (suc done) (omega arith, omega (arith, more)) (until_mid core inputs steps text done on) outcome is) in_mid
            | inr past ↦ (
                let made : supersteps_made core inputs steps ≡ done = omega (arith, past, least) in
                at_stop (stops_after core inputs steps done less made) outcome is)
          ]
