-- The first number of which a test holds.
use Rattle.std.proofs.Common.{◌≡◌, ℕ, zero, suc, ◌+◌, ◌<◌, ◌≤◌, Bool, true, cond, Option, None, Some, refl, ap, sym, ◌∙◌, inl, inr, arith}
use Rattle.std.proofs.lemmas.Bool.{cases_Bool}
use Rattle.std.specs.List.{find, range_with_len}
use Rattle.std.specs.Option.{is_some}

-- it is in the range, and the test holds of it
pub record IsFound (test : ℕ → Bool) (from count number : ℕ) : Type 0 where
  pub least : from ≤ number
  pub most : number < from + count
  pub passes : test number ≡ true

pub found : (test : ℕ → Bool) (from count number : ℕ) → find test (range_with_len from count) ≡ Some number → IsFound test from count number
found test from zero number is = cc
found test from (suc count) number is = elim (cases_Bool (test from)) [
  | inl here ↦ (
      let same : from ≡ number = (let some : ◌≡◌ {A = Option ℕ} (Some from) (Some number) =
      sym (ap (λ b. cond b (Some from) (find test (range_with_len (from + 1) count))) here) ∙ is in cc) in
      record { least = omega (arith, same); most = omega (arith, same); passes = ap test (sym same) ∙ here })
  | inr other ↦ (
      let later = found test (from + 1) count number
      (sym (ap (λ b. cond b (Some from) (find test (range_with_len (from + 1) count))) other) ∙ is) in
      let least = later.least in
      let most = later.most in
      record { least = omega (arith, least); most = omega (arith, most); passes = later.passes })
]

pub some_found : (o : Option ℕ) → is_some o ≡ true → (number : ℕ) × (o ≡ Some number)
some_found None some = cc
some_found (Some number) some = (number, refl)
