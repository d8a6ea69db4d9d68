-- How the printing of words goes on.
use Rattle.std.proofs.Common.{◌≡◌, ℕ, zero, suc, ◌+◌, ◌-◌, ◌<◌, ◌≤◌, List, [], ◌∷◌, ◌++◌, codes, length, take, drop, append_assoc, append-nil, get_or, add-one, drop-cons, replicate, slice_get, refl, ap, sym, ◌∙◌, arith, inl, inr}
use Rattle.std.proofs.lemmas.Bool.{cases_eq, eq-eqb, ne_eqb}
use Rattle.std.proofs.lemmas.Grind.{common_steps}
use Rattle.std.proofs.lemmas.List.{drop_min}
use Rattle.hume_base.specs.declared.types.Ty.{Ty, fold-roll-Ty, the_lemmas}
use Rattle.hume_base.specs.declared.types.Types.{Types}
use Rattle.hume_text.specs.inner.Printers.{Printer, print_with, print_named, print_sum, print_several}
use Rattle.hume_text.proofs.Ranks.{rank-falls, some_size}

-- what was cut to a room, and more behind it, is cut as both together are
pub take-more : (room : ℕ) (before more : List ℕ) → take room (take room before ++ more) ≡ take room (before ++ more)
take-more zero before more = refl
take-more (suc room) [] more = refl
take-more (suc room) (byte ∷ before) more = ap (λ bytes. byte ∷ bytes) (take-more room before more)

pub print-past : (types : Types) (bound number : ℕ) (words : List ℕ) → bound ≤ number → print_named types bound number words ≡ ([], words)
unfolding print_named
print-past types zero number words past = refl
print-past types (suc bound) number words past =
    let other : number ≡ bound → ⊥ = λ e. omega arith in
    rw (ne_eqb number bound other) (print-past types bound number words (omega arith))

pub print-at : (types : Types) (bound number : ℕ) (words : List ℕ) → number < bound
    → print_named types bound number words ≡ print_sum types (print_with (print_named types number)) (slice_get types.sums number) words
unfolding print_named
print-at types zero number words below = absurd (omega arith)
print-at types (suc bound) number words below = elim (cases_eq number bound) [
  | inl same ↦ rw (eq-eqb number bound same) (ap (λ k. print_sum types (print_with (print_named types k)) (slice_get types.sums k) words) (sym same))
  | inr other ↦ rw (ne_eqb number bound other) (print-at types bound number words (omega arith))
]

-- a text of one value behind what stands before it, and what comes later
next-text : (r₀ r₁ r₂ : ℕ) (filled before text later mid last : List ℕ) → r₁ ≡ r₀ → r₂ ≡ r₁ → mid ≡ take r₀ (filled ++ before)
    → last ≡ take r₁ (mid ++ text)
    → take r₂ (last ++ later) ≡ take r₀ (filled ++ ((before ++ text) ++ later))
next-text r₀ r₁ r₂ filled before text later mid last s₁ s₂ e₁ e₂ =
    rw (e₂, e₁, s₂, s₁) (take-more r₀ (take r₀ (filled ++ before) ++ text) later
    ∙ ap (take r₀) (append_assoc (take r₀ (filled ++ before)) text later)
    ∙ take-more r₀ (filled ++ before) (text ++ later)
    ∙ ap (take r₀) (append_assoc filled before (text ++ later) ∙ ap (λ bytes. filled ++ bytes) (sym (append_assoc before text later))))

-- one more of several
pub several-next : (r₀ r₁ r₂ : ℕ) (filled before mid last words rest : List ℕ) (printer : Printer) (printers others : List Printer) (text left : List ℕ)
    → printers ≡ printer ∷ others → r₁ ≡ r₀ → r₂ ≡ r₁ → mid ≡ take r₀ (filled ++ before) → last ≡ take r₁ (mid ++ (printer words).0)
    → rest ≡ (printer words).1
    → take r₀ (filled ++ (print_several before printers words).0) ≡ text → (print_several before printers words).1 ≡ left
    → (take r₂ (last ++ (print_several (codes ", ") others rest).0) ≡ text) × ((print_several (codes ", ") others rest).1 ≡ left)
several-next r₀ r₁ r₂ filled before mid last words rest printer printers others text left p s₁ s₂ e₁ e₂ e t l =
    let t' : take r₀ (filled ++ (print_several before (printer ∷ others) words).0) ≡ text = rw p at t in
    let l' : (print_several before (printer ∷ others) words).1 ≡ left = rw p at l in
    rw e (next-text r₀ r₁ r₂ filled before (printer words).0 (print_several (codes ", ") others (printer words).1).0 mid last s₁ s₂ e₁ e₂ ∙ t', l')

-- the closing bytes behind several
pub closed-text : (r₀ r₁ r₂ : ℕ) (old opening first inside last closing all : List ℕ) → r₁ ≡ r₀ → r₂ ≡ r₁ → first ≡ take r₀ (old ++ opening)
    → take r₂ (last ++ []) ≡ take r₁ (first ++ inside)
    → all ≡ take r₂ (last ++ closing) → all ≡ take r₀ (old ++ (opening ++ (inside ++ closing)))
closed-text r₀ r₁ r₂ old opening first inside last closing all s₁ s₂ e₁ e₂ e =
    let same : take r₀ (last ++ []) ≡ take r₀ (take r₀ (old ++ opening) ++ inside) = rw (s₂, s₁, e₁) at e₂ in
    let cut : take r₀ last ≡ take r₀ ((old ++ opening) ++ inside) = ap (take r₀) (sym (append-nil last)) ∙ same
    ∙ take-more r₀ (old ++ opening) inside in
    rw (e, s₂, s₁) (sym (take-more r₀ last closing)
    ∙ ap (λ bytes. take r₀ (bytes ++ closing)) cut
    ∙ take-more r₀ ((old ++ opening) ++ inside) closing
    ∙ ap (take r₀) (append_assoc (old ++ opening) inside closing ∙ append_assoc old opening (inside ++ closing)))

-- the list from a place on begins with what stands there
pub drop-item : {X : Type 0} (xs : List X) (at : ℕ) (x : X) → at < length xs → x ≡ get_or xs at x → drop at xs ≡ x ∷ drop (at + 1) xs
drop-item xs at x below is = rw (add-one) (drop-cons xs at x below ∙ ap (λ y. y ∷ drop (suc at) xs) (sym is))

-- so it does with what is seen of that
pub drop-seen : {X : Type 0} (xs : List X) (at : ℕ) (x y : X) → at < length xs → y ≡ x → x ≡ get_or xs at x → drop at xs ≡ y ∷ drop (at + 1) xs
drop-seen xs at x y below seen is = drop-item xs at x below is ∙ ap (λ z. z ∷ drop (at + 1) xs) (sym seen)

one_more : {X : Type 0} (count place : ℕ) (x : X) → place < count
    → replicate {A = X} (count - place) x ≡ x ∷ replicate {A = X} (count - (place + 1)) x
one_more {X} count place x below = let step : count - place ≡ suc (count - (place + 1)) = omega arith in rw step refl

pub items-more : (printer : Printer) (count place : ℕ) → place < count
    → replicate {A = Printer} (count - place) printer ≡ printer ∷ replicate {A = Printer} (count - (place + 1)) printer
items-more printer count place below = one_more {X = Printer} count place printer below

pub ruleset printing_steps = (common_steps, the_lemmas, print-past, print-at, rank-falls, some_size, drop_min, take-more)
