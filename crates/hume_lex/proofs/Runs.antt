-- How far the bytes at the front pass a test.
use Rattle.std.proofs.Common.{◌≡◌, ℕ, ◌≤◌, List, [], ◌∷◌, ◌++◌, length, take, Bool, true, false, cond, refl, sym, ap, ◌∙◌, subst, inl, inr, arith, length-append}
use Rattle.std.specs.Prelude.{All}
use Rattle.std.specs.List.{prefix_len}
use Rattle.std.proofs.Math.Seq.{take-append_seam}
use Rattle.std.proofs.lemmas.Bool.{cases_Bool}
use Rattle.std.proofs.lemmas.List.Elements.{All-from_recursion}
use Rattle.hume_base.proofs.Tables.{chosen}
use Rattle.hume_lex.specs.Spelling.{Each}
use Rattle.hume_lex.specs.inner.Scan.{run}

-- what follows a run
abbrev pub after_run : (ℕ → Bool) → List ℕ → List ℕ
after_run p [] = []
after_run p (b ∷ bs) = cond (p b) (after_run p bs) (b ∷ bs)

pub run_cut : (p : ℕ → Bool) (bs : List ℕ) → bs ≡ run p bs ++ after_run p bs
run_cut p [] = refl
run_cut p (b ∷ bs) = elim (cases_Bool (p b)) [ inl h ↦ rw h (ap (λ l. b ∷ l) (run_cut p bs)) | inr h ↦ rw h ]

pub run_all : (p : ℕ → Bool) (bs : List ℕ) → Each p (run p bs)
run_all p [] = tt
run_all p (b ∷ bs) = elim (cases_Bool (p b)) [ inl h ↦ rw h (h, run_all p bs) | inr h ↦ rw h tt ]

pub run_stops : (p : ℕ → Bool) (bs : List ℕ) (c : ℕ) (cs : List ℕ) → after_run p bs ≡ c ∷ cs → p c ≡ false
run_stops p [] c cs e = cc
run_stops p (b ∷ bs) c cs e = elim (chosen (p b) (after_run p bs) (b ∷ bs) (c ∷ cs) e) [
  | inl h ↦ run_stops p bs c cs h.1
  | inr h ↦ (let same : b ≡ c = (let f = h.1 in cc) in ap p (sym same) ∙ h.0)
]

pub run_length : (p : ℕ → Bool) (bs : List ℕ) → prefix_len p bs ≡ length (run p bs)
run_length p [] = refl
run_length p (b ∷ bs) = elim (cases_Bool (p b)) [ inl h ↦ rw h (omega (arith, run_length p bs)) | inr h ↦ rw h ]

run_within : (p : ℕ → Bool) (bs : List ℕ) → length (run p bs) ≤ length bs
run_within p bs = omega (arith, ap length (run_cut p bs), length-append (run p bs) (after_run p bs))

run_taken : (p : ℕ → Bool) (bs : List ℕ) → take (length (run p bs)) bs ≡ run p bs
run_taken p bs = ap (take (length (run p bs))) (run_cut p bs) ∙ take-append_seam (run p bs) (after_run p bs)

-- the prefix of a run's length is the run
pub prefix_within : (p : ℕ → Bool) (bs : List ℕ) → prefix_len p bs ≤ length bs
prefix_within p bs = omega (arith, run_length p bs, run_within p bs)

pub take-prefix : (p : ℕ → Bool) (bs : List ℕ) → take (prefix_len p bs) bs ≡ run p bs
take-prefix p bs = ap (λ n. take n bs) (run_length p bs) ∙ run_taken p bs

pub prefix_passes : (p : ℕ → Bool) (bs : List ℕ) → All (λ c. p c ≡ true) (take (prefix_len p bs) bs)
prefix_passes p bs = subst (All (λ c. p c ≡ true)) (sym (take-prefix p bs)) (All-from_recursion _ _ (run_all p bs))

pub ruleset run_steps = (run_length, prefix_within, take-prefix, prefix_passes)
