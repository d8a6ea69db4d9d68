-- Sources that are accepted one after another, by the places of their texts.
use Rattle.std.proofs.Common.{◌≡◌, ℕ, zero, suc, ◌+◌, ◌<◌, get_or, Vec, Global, List, [], ◌∷◌, ◌++◌, take, length, Some, slice_get, ap, sym, ◌∙◌, subst, inl, inr, arith}
use Rattle.std.proofs.lemmas.Option.{slice_get-get_or}
use Rattle.hume_base.specs.declared.rule.Refusal.{Refusal}
use Rattle.hume_front.specs.declared.acceptance.Accepted.{Accepted}
use Rattle.hume_front.specs.Accepted.{Breaks, IsAccepted}
use Rattle.hume_calls.specs.declared.program_refusal.ProgramRefusal.{ProgramRefusal}
use Rattle.hume_calls.specs.Unions.{AreAccepted, BreaksFirst}
use Rattle.hume_run.specs.inner.Texts.{texts_of}

-- one more is accepted
pub accepted_more : (texts : List (List ℕ)) (n : ℕ) (text : List ℕ) (programs : List Accepted) (program : Accepted) → AreAccepted (take n texts) programs
    → slice_get texts n ≡ Some text → IsAccepted text program → AreAccepted (take (suc n) texts) (programs ++ program ∷ [])
accepted_more [] n text programs program are found is = cc
accepted_more (first ∷ texts) zero text [] program are found is =
    let same : text ≡ first = cc in
    (subst (λ t. IsAccepted t program) same is, tt)
accepted_more (first ∷ texts) zero text (other ∷ programs) program are found is = absurd are
accepted_more (first ∷ texts) (suc n) text [] program are found is = absurd are
accepted_more (first ∷ texts) (suc n) text (other ∷ programs) program are found is =
    (are.0, accepted_more texts n text programs program are.1 found is)

-- the next one isn't
pub breaks_next : (texts : List (List ℕ)) (n : ℕ) (text : List ℕ) (programs : List Accepted) (from : ℕ) (refusal : ProgramRefusal)
    → AreAccepted (take n texts) programs → slice_get texts n ≡ Some text → Breaks text refusal.refusal → refusal.program ≡ from + n
    → BreaksFirst texts from refusal
breaks_next [] n text programs from refusal are found breaks is = cc
breaks_next (first ∷ texts) zero text programs from refusal are found breaks is =
    let same : text ≡ first = cc in
    inl (omega (arith, is), subst (λ t. Breaks t refusal.refusal) same breaks)
breaks_next (first ∷ texts) (suc n) text [] from refusal are found breaks is = absurd are
breaks_next (first ∷ texts) (suc n) text (program ∷ programs) from refusal are found breaks is =
    inr ((program, are.0), breaks_next texts n text programs (from + 1) refusal are.1 found breaks (omega (arith, is)))

-- by the places of the texts

get_text : (texts : List (Vec ℕ Global)) (n : ℕ) (text : Vec ℕ Global) → slice_get texts n ≡ Some text → slice_get (texts_of texts) n ≡ Some text.items
get_text [] n text found = cc
get_text (first ∷ texts) zero text found = let same : first ≡ text = cc in ap (λ (t : Vec ℕ Global). Some t.items) same
get_text (first ∷ texts) (suc n) text found = get_text texts n text found

module _ (texts : List (Vec ℕ Global)) (n : ℕ) (text : Vec ℕ Global) (bytes : List ℕ) (less : n < length texts) (is : text ≡ get_or texts n text)
    (same : bytes ≡ text.items) where
  found_text : slice_get (texts_of texts) n ≡ Some bytes
  found_text = get_text texts n text (slice_get-get_or texts n text less ∙ ap Some (sym is)) ∙ ap Some (sym same)

  pub accepted_next : (programs after : List Accepted) (program : Accepted) (number : ℕ) → AreAccepted (take n (texts_of texts)) programs × (number ≡ n + 1)
      → IsAccepted bytes program → after ≡ programs ++ program ∷ [] → AreAccepted (take (n + 1) (texts_of texts)) after × (number + 1 ≡ n + 1 + 1)
  accepted_next programs after program number stands accepted more =
      let next : suc n ≡ n + 1 = omega arith in (
        subst (λ k. AreAccepted (take k (texts_of texts)) after) next
            (subst (AreAccepted (take (suc n) (texts_of texts))) (sym more) (accepted_more (texts_of texts) n bytes programs program stands.0 found_text accepted)),
        ap (λ k. k + 1) stands.1,
      )

  pub breaks_at : (programs : List Accepted) (number : ℕ) → AreAccepted (take n (texts_of texts)) programs × (number ≡ n + 1)
      → (refusal : Refusal) → Breaks bytes refusal → BreaksFirst (texts_of texts) 1 (record { program = number; refusal = refusal })
  breaks_at programs number stands refusal breaks =
      breaks_next (texts_of texts) n bytes programs 1 (record { program = number; refusal = refusal }) stands.0 found_text breaks (omega (arith, stands.1))
