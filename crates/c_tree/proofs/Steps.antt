-- What printing is proved by.
use Rattle.std.proofs.Common.{◌≡◌, ℕ, suc, ◌<◌, ◌+◌, List, ◌∷◌, ◌++◌, length, map, get_or, drop, drop-cons, ap, sym, ◌∙◌, arith, append_assoc}
use Rattle.std.specs.List.{flat_map}
use Rattle.std.proofs.lemmas.Grind.{common_steps}

pub ruleset text_steps = (common_steps, append_assoc)

-- a turn of a loop that adds the text of each element
pub next_turn : {A B : Type 0} (f : B → List ℕ) (g : A → B) (xs : List A) (i : ℕ) (x : A) (before after whole : List ℕ)
    → i < length xs → x ≡ get_or xs i x → after ≡ before ++ f (g x)
    → before ++ flat_map f (map g (drop i xs)) ≡ whole → after ++ flat_map f (map g (drop (i + 1) xs)) ≡ whole
next_turn f g xs i x before after whole h is a w =
    let one : i + 1 ≡ suc i = omega arith in
    let parts : drop i xs ≡ x ∷ drop (i + 1) xs =
    drop-cons xs i x h ∙ ap (λ y. y ∷ drop (suc i) xs) (sym is) ∙ ap (λ n. x ∷ drop n xs) (sym one) in
    ap (λ t. t ++ flat_map f (map g (drop (i + 1) xs))) a
    ∙ append_assoc before (f (g x)) (flat_map f (map g (drop (i + 1) xs)))
    ∙ ap (λ l. before ++ flat_map f (map g l)) (sym parts) ∙ w
