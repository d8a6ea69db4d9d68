-- What a pass does to the times of a wire and its two nodes, and what the times are where nothing is passed.
use Rattle.std.proofs.Common.{◌≡◌, ◌≢◌, ℕ, Bool, true, false, ◌+◌, ◌/◌, ◌%◌, ◌≤◌, sym, refl, ap, ◌∙◌, eq-eqb, ne_eqb, ◌⊎◌, ⊎_elim, arith}
use mathlib.Core.Logic.{dite}
use native.Mathlib.Decide.{ℕ_discrete}
use Rattle.hume_net.specs.Lockstep.{executes, supers}
use Rattle.turn_locker.specs.Rule.{tick, executed, asserted, IsTied}

pub executed_even : (t : ℕ) (b : Bool) → t % 2 ≡ 0 → executed t b ≡ (t + 1) / 2 + tick b
executed_even t b e = rw (eq-eqb (t % 2) 0 e) refl

pub executed_odd : (t : ℕ) (b : Bool) → t % 2 ≢ 0 → executed t b ≡ (t + 1) / 2 + 0
executed_odd t b e = rw (ne_eqb (t % 2) 0 e) refl

pub asserted_odd : (t : ℕ) (b : Bool) → t % 2 ≡ 1 → asserted t b ≡ t / 2 + tick b
asserted_odd t b e = rw (eq-eqb (t % 2) 1 e) refl

pub asserted_even : (t : ℕ) (b : Bool) → t % 2 ≢ 1 → asserted t b ≡ t / 2 + 0
asserted_even t b e = rw (ne_eqb (t % 2) 1 e) refl

-- the consumer passes the wire at an even time; it may be the producer too
pub wire_even : (t producer : ℕ) (c p p' : Bool) → t % 2 ≡ 0 → (p' ≡ p) ⊎ (producer ≡ t) → IsTied t t producer c p → IsTied (t + 1) t producer true p'
wire_even t producer c p p' even same k =
    let x = executed_even t c even in let x' = executed_even t true even in
    let s : asserted producer p' ≡ asserted producer p = ⊎_elim (λ e. ap (asserted producer) e)
    (λ e. let no : producer % 2 ≢ 1 = λ o. omega (arith, e) in asserted_even producer p' no ∙ sym (asserted_even producer p no)) same in
    let it = tied c x k.time k.not_behind k.not_ahead s x' in record { time = it.0; not_behind = it.1; not_ahead = it.2 }
  where
    tied : {a b a' b' : ℕ} (c : Bool) → b ≡ (t + 1) / 2 + tick c → t ≡ b + a → a ≤ b → b ≤ a + 1 → a' ≡ a → b' ≡ (t + 1) / 2 + 1
        → (t + 1 ≡ b' + a') × (a' ≤ b') × (b' ≤ a' + 1)
    tied true x sum low high s x' = absurd (omega arith)
    tied false x sum low high s x' = (omega arith, omega arith, omega arith)

-- the producer passes the wire at an odd time
pub wire_odd : (t consumer : ℕ) (c c' p : Bool) → t % 2 ≡ 1 → (c' ≡ c) ⊎ (consumer ≡ t) → IsTied t consumer t c p → IsTied (t + 1) consumer t c' true
wire_odd t consumer c c' p odd same k =
    let x = asserted_odd t p odd in let x' = asserted_odd t true odd in
    let s : executed consumer c' ≡ executed consumer c = ⊎_elim (λ e. ap (executed consumer) e)
    (λ e. let no : consumer % 2 ≢ 0 = λ o. omega (arith, e) in executed_odd consumer c' no ∙ sym (executed_odd consumer c no)) same in
    let it = tied p x k.time k.not_behind k.not_ahead s x' in record { time = it.0; not_behind = it.1; not_ahead = it.2 }
  where
    tied : {a b a' b' : ℕ} (p : Bool) → a ≡ t / 2 + tick p → t ≡ b + a → a ≤ b → b ≤ a + 1 → b' ≡ b → a' ≡ t / 2 + 1
        → (t + 1 ≡ b' + a') × (a' ≤ b') × (b' ≤ a' + 1)
    tied true x sum low high s x' = absurd (omega arith)
    tied false x sum low high s x' = (omega arith, omega arith, omega arith)

-- a node that has passed each wire of its side goes on, and its counts stay
pub executed_goes : (t : ℕ) (b : Bool) → (t % 2 ≡ 0 → b ≡ true) → executed (t + 1) false ≡ executed t b
executed_goes t b done = dite (ℕ_discrete (t % 2) 0)
    (λ e. let no : (t + 1) % 2 ≢ 0 = λ o. omega (arith, e) in
    executed_odd (t + 1) false no ∙ (let h : (t + 1 + 1) / 2 + 0 ≡ (t + 1) / 2 + 1 = omega (arith, e) in h)
    ∙ sym (executed_even t b e ∙ ap (λ (c : Bool). (t + 1) / 2 + tick c) (done e)))
    (λ e. let ev : (t + 1) % 2 ≡ 0 = omega (arith, e) in
    executed_even (t + 1) false ev ∙ (let h : (t + 1 + 1) / 2 + 0 ≡ (t + 1) / 2 + 0 = omega (arith, e) in h) ∙ sym (executed_odd t b e))

pub asserted_goes : (t : ℕ) (b : Bool) → (t % 2 ≡ 1 → b ≡ true) → asserted (t + 1) false ≡ asserted t b
asserted_goes t b done = dite (ℕ_discrete (t % 2) 1)
    (λ e. let no : (t + 1) % 2 ≢ 1 = λ o. omega (arith, e) in
    asserted_even (t + 1) false no ∙ (let h : (t + 1) / 2 + 0 ≡ t / 2 + 1 = omega (arith, e) in h)
    ∙ sym (asserted_odd t b e ∙ ap (λ (c : Bool). t / 2 + tick c) (done e)))
    (λ e. let ev : (t + 1) % 2 ≡ 1 = omega (arith, e) in
    asserted_odd (t + 1) false ev ∙ (let h : (t + 1) / 2 + 0 ≡ t / 2 + 0 = omega (arith, e) in h) ∙ sym (asserted_even t b e))

-- a wire that its consumer has passed in this half step isn't at the consumer's time any more
pub not_even : (t producer : ℕ) (p : Bool) → t % 2 ≡ 0 → IsTied t t producer true p → ⊥
not_even t producer p even k =
    let x = executed_even t true even in let sum = k.time in let high = k.not_ahead in omega (arith, even, x, sum, high)

pub not_odd : (t consumer : ℕ) (c : Bool) → t % 2 ≡ 1 → IsTied t consumer t c true → ⊥
not_odd t consumer c odd k =
    let x = asserted_odd t true odd in let sum = k.time in let low = k.not_behind in omega (arith, odd, x, sum, low)

pub executed_alone : (t : ℕ) → executed t false ≡ executes t
executed_alone t = dite (ℕ_discrete (t % 2) 0) (λ e. let is = executed_even t false e in omega (arith, is))
    (λ e. let is = executed_odd t false e in omega (arith, is))

pub asserted_alone : (t : ℕ) → asserted t false ≡ supers t
asserted_alone t = dite (ℕ_discrete (t % 2) 1) (λ e. let is = asserted_odd t false e in omega (arith, is))
    (λ e. let is = asserted_even t false e in omega (arith, is))
