-- The rounds of a run, one after the other, make all its supersteps.
use Rattle.std.proofs.Common.{◌≡◌, ℕ, zero, suc, ◌+◌, ◌-◌, ◌*◌, ◌<◌, ◌≤◌, min, ap, sym, ◌∙◌, subst, inl, inr, ◌⊎◌, arith}
use Rattle.std.proofs.Math.Nat.{min-eq_left, min-eq_right}
use Rattle.std.proofs.lemmas.Bool.{cases_lt}
use Rattle.std.proofs.lemmas.Grind.{div_ceil_times}
use Rattle.std.proofs.lemmas.Nat.{mul-le}
use Rattle.hume_net.specs.rounds.Rounds.{begins, length_of, ends, IsRound, rounds_of, made}

times-more : (done span : ℕ) → suc done * span ≡ done * span + span
times-more done span = omega arith

begins-after : (span done : ℕ) → begins span (suc done) ≡ done * span
begins-after span done = let e : suc done - 1 ≡ done = omega arith in ap (λ k. k * span) e

module _ (span steps : ℕ) where
  module _ (positive : 1 ≤ span) where
    bounds : (steps ≤ rounds_of span steps * span) × (rounds_of span steps * span < steps + span)
    bounds = div_ceil_times steps span (omega (arith, positive))

    counted_after : (done : ℕ) → done * span < steps → (done < rounds_of span steps) ⊎ (rounds_of span steps ≤ done) → suc done ≤ rounds_of span steps
    counted_after done less (inl few) = omega (arith, few)
    counted_after done less (inr many) =
        let wide = mul-le (rounds_of span steps) span done span many (omega arith) in
        let all = bounds.0 in
        absurd (omega (arith, less, wide, all))

    pub round_counted : (round : ℕ) → IsRound span steps round → round ≤ rounds_of span steps
    round_counted zero is = omega arith
    round_counted (suc done) is =
        counted_after done (subst (λ k. k < steps) (begins-after span done) is.begins_within) (cases_lt done (rounds_of span steps))

    pub counted_round : (round : ℕ) → 1 ≤ round → round ≤ rounds_of span steps → IsRound span steps round
    counted_round zero one within = absurd (omega (arith, one))
    counted_round (suc done) one within = record {
      counted = one;
      begins_within =
          let wide = mul-le (suc done) span (rounds_of span steps) span within (omega arith) in
          let few = bounds.1 in
          let more = times-more done span in
          subst (λ k. k < steps) (sym (begins-after span done)) (omega (arith, wide, few, more));
    }

    pub all_made : made span steps (rounds_of span steps) ≡ steps
    all_made = min-eq_right bounds.0

  pub none_made : made span steps zero ≡ zero
  none_made = let e : zero * span ≡ zero = omega arith in ap (λ k. min k steps) e ∙ min-eq_left (omega arith)

  module _ (done : ℕ) where
    abbrev before : ℕ
    before = done * span

    length-after : length_of span steps (suc done) ≡ min span (steps - before)
    length-after = ap (λ k. min span (steps - k)) (begins-after span done)

    made-after : made span steps (suc done) ≡ min (before + span) steps
    made-after = ap (λ k. min k steps) (times-more done span)

    full_or_rest : before < steps → (span < steps - before) ⊎ (steps - before ≤ span) → min before steps + min span (steps - before) ≡ min (before + span) steps
    full_or_rest less (inl full) =
        let a : min before steps ≡ before = min-eq_left (omega (arith, less)) in
        let b : min span (steps - before) ≡ span = min-eq_left (omega (arith, full)) in
        let c : min (before + span) steps ≡ before + span = min-eq_left (omega (arith, full)) in
        omega (arith, a, b, c)
    full_or_rest less (inr rest) =
        let a : min before steps ≡ before = min-eq_left (omega (arith, less)) in
        let b : min span (steps - before) ≡ steps - before = min-eq_right rest in
        let c : min (before + span) steps ≡ steps = min-eq_right (omega (arith, rest, less)) in
        omega (arith, a, b, c, less)

    some_or_none : (before < steps) ⊎ (steps ≤ before) → min before steps + min span (steps - before) ≡ min (before + span) steps
    some_or_none (inl less) = full_or_rest less (cases_lt span (steps - before))
    some_or_none (inr over) =
        let a : min before steps ≡ steps = min-eq_right over in
        let none : steps - before ≡ 0 = omega (arith, over) in
        let b : min span (steps - before) ≡ 0 = ap (min span) none ∙ min-eq_right (omega arith) in
        let c : min (before + span) steps ≡ steps = min-eq_right (omega (arith, over)) in
        omega (arith, a, b, c)

    -- so many supersteps more are made with the next round
    pub made_more : made span steps done + length_of span steps (suc done) ≡ made span steps (suc done)
    made_more = ap (λ k. made span steps done + k) length-after ∙ some_or_none (cases_lt before steps) ∙ sym made-after

    pub begins_made : begins span (suc done) < steps → begins span (suc done) ≡ made span steps done
    begins_made within =
        let less : done * span < steps = subst (λ k. k < steps) (begins-after span done) within in
        begins-after span done ∙ sym (min-eq_left (omega (arith, less)))

    pub ends_made : begins span (suc done) < steps → ends span steps (suc done) ≡ made span steps (suc done)
    ends_made within = ap (λ k. k + length_of span steps (suc done)) (begins_made within) ∙ made_more

  pub round_begins : (round : ℕ) → IsRound span steps round → begins span round ≡ made span steps (round - 1)
  round_begins zero is = absurd (let one = is.counted in omega (arith, one))
  round_begins (suc done) is = begins_made done is.begins_within ∙ (let e : done ≡ suc done - 1 = omega arith in ap (made span steps) e)

  pub round_ends : (round : ℕ) → IsRound span steps round → ends span steps round ≡ made span steps round
  round_ends zero is = absurd (let one = is.counted in omega (arith, one))
  round_ends (suc done) is = ends_made done is.begins_within
