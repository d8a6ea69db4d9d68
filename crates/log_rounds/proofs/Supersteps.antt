-- How many supersteps are made, and which one is blocked.
use Rattle.std.proofs.Common.{◌≡◌, ℕ, suc, ◌-◌, ◌<◌, ◌≤◌, true, false, true≢false, length, Option, None, Some, refl, ap, sym, ◌∙◌, inl, inr, arith}
use Rattle.std.proofs.lemmas.Bool.{cases_lt}
use Rattle.std.specs.Option.{is_some}
use Rattle.hume_model.specs.declared.core_tree.Core.{Core}
use Rattle.hume_net.specs.rounds.Blocked.{blocks}
use Rattle.hume_net.specs.rounds.Rounds.{IsRound, rounds_of}
use Rattle.hume_net.proofs.rounds_lemmas.Blocking.{none_is_blocked}
use Rattle.hume_net.proofs.rounds_lemmas.RoundCounts.{counted_round}
use Rattle.run_rounds.specs.Inputs.{Inputs, is_bad}
use Rattle.run_rounds.specs.Writes.{blocked_by}
use Rattle.run_rounds.proofs.FirstFound.{found, some_found}
use Rattle.log_rounds.specs.Supersteps.{before_blocked, blocked_superstep, supersteps_made}

-- a round of one superstep is a superstep of the run
pub within_steps : (steps round : ℕ) → 1 ≤ round → round ≤ rounds_of 1 steps → round ≤ steps
within_steps steps round one most =
    let is = counted_round 1 steps (omega arith) round one most in
    let begins = is.begins_within in
    omega (arith, begins, one)

pub is_superstep : (steps done : ℕ) → done < steps → IsRound 1 steps (suc done)
is_superstep steps done less = record { counted = omega arith; begins_within = omega (arith, less) }

module _ (core : Core) (inputs : Inputs) (steps : ℕ) where
  abbrev pub Blocking : ℕ → Option ℕ
  Blocking superstep = blocked_by core inputs true steps superstep

  abbrev pub AreFree : ℕ → Type 0
  AreFree count = (superstep : ℕ) → 1 ≤ superstep → superstep ≤ count → Blocking superstep ≡ None

  -- A superstep that is blocked is one of the run, and a stream blocks it.
  pub record IsStopped (superstep : ℕ) : Type 0 where
    pub least : 1 ≤ superstep
    pub most : superstep ≤ steps
    pub node : ℕ
    pub by : Blocking superstep ≡ Some node

  pub stopped : (superstep : ℕ) → blocked_superstep core inputs steps ≡ Some superstep → IsStopped superstep
  stopped superstep is =
      let f = found (λ r. is_some (Blocking r)) 1 (rounds_of 1 steps) superstep is in
      let most = f.most in
      let some = some_found (Blocking superstep) f.passes in
      record { least = f.least; most = within_steps steps superstep f.least (omega (arith, most)); node = some.0; by = some.1 }

  not_free : (superstep count : ℕ) → IsStopped superstep → superstep ≤ count → AreFree count → ⊥
  not_free superstep count is within free =
      let both : None ≡ Some is.node = sym (free superstep is.least within) ∙ is.by in cc

  made_as : (count : ℕ) → count ≤ steps → AreFree count → (o : Option ℕ) → blocked_superstep core inputs steps ≡ o → count ≤ before_blocked steps o
  made_as count within free None is = within
  made_as count within free (Some superstep) is = elim (cases_lt count superstep) [
    | inl less ↦ omega (arith, less)
    | inr past ↦ absurd (not_free superstep count (stopped superstep is) past free)
  ]

  -- supersteps that no stream blocks are made
  pub made_least : (count : ℕ) → count ≤ steps → AreFree count → count ≤ supersteps_made core inputs steps
  made_least count within free = made_as count within free (blocked_superstep core inputs steps) refl

  pub none_blocked : AreFree steps → blocked_superstep core inputs steps ≡ None
  none_blocked free = none_is_blocked core inputs.good (is_bad inputs) 1 steps (λ round least most. free round least (within_steps steps round least most))

  pub all_made : blocked_superstep core inputs steps ≡ None → supersteps_made core inputs steps ≡ steps
  all_made none = ap (before_blocked steps) none

  stops_as : (o : Option ℕ) → blocked_superstep core inputs steps ≡ o → (done : ℕ) → done < steps → before_blocked steps o ≡ done → o ≡ Some (suc done)
  stops_as None is done less made = absurd (omega (arith, less, made))
  stops_as (Some superstep) is done less made =
      let one = (stopped superstep is).least in
      let same : superstep ≡ suc done = omega (arith, made, one) in
      ap Some same

  -- where no more are made the next one is blocked
  pub stops_after : (done : ℕ) → done < steps → supersteps_made core inputs steps ≡ done → blocked_superstep core inputs steps ≡ Some (suc done)
  stops_after done less made = stops_as (blocked_superstep core inputs steps) refl done less made

  pub made_before : (superstep : ℕ) → blocked_superstep core inputs steps ≡ Some superstep → supersteps_made core inputs steps ≡ superstep - 1
  made_before superstep is = ap (before_blocked steps) is

  -- the stream that blocks a superstep stands behind those that don't
  pub blocker_past : (superstep n node : ℕ) → Blocking superstep ≡ Some node
      → ((m : ℕ) → m < n → blocks core inputs.good (is_bad inputs) 1 steps superstep m ≡ false) → n ≤ node
  blocker_past superstep n node by free =
      let f = found (blocks core inputs.good (is_bad inputs) 1 steps superstep) 0 (length core.nodes) node by in
      elim (cases_lt node n) [
        | inl less ↦ absurd (true≢false (sym f.passes ∙ free node less))
        | inr past ↦ past
      ]
