-- A turn of a loop that folds the elements.
use Rattle.std.proofs.Common.{◌≡◌, ℕ, suc, ◌<◌, ◌+◌, List, ◌∷◌, length, get_or, drop, drop-cons, ap, sym, ◌∙◌, arith}
use Rattle.std.specs.Prelude.{fold}

drop_next : {A : Type 0} (xs : List A) (i : ℕ) (x : A) → i < length xs → x ≡ get_or xs i x → drop i xs ≡ x ∷ drop (i + 1) xs
drop_next xs i x h is =
    let one : i + 1 ≡ suc i = omega arith in
    drop-cons xs i x h ∙ ap (λ y. y ∷ drop (suc i) xs) (sym is) ∙ ap (λ n. x ∷ drop n xs) (sym one)

pub next_turn : {A B S : Type 0} (f : S → B → S) (g : List A → List B) (v : A → B) → ((y : A) (ys : List A) → g (y ∷ ys) ≡ v y ∷ g ys)
    → (xs : List A) (i : ℕ) (x : A) (before after whole : S)
    → i < length xs → x ≡ get_or xs i x → after ≡ f before (v x)
    → fold f before (g (drop i xs)) ≡ whole → fold f after (g (drop (i + 1) xs)) ≡ whole
next_turn f g v one xs i x before after whole h is a w =
    ap (λ s. fold f s (g (drop (i + 1) xs))) a
    ∙ ap (λ l. fold f before l) (sym (one x (drop (i + 1) xs)))
    ∙ ap (λ l. fold f before (g l)) (sym (drop_next xs i x h is)) ∙ w
