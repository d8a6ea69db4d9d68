-- Steps of the loops that put cases, functions and marks one after the other.
use Rattle.std.proofs.Common.{◌≡◌, ℕ, ◌+◌, ◌<◌, List, [], ◌∷◌, ◌++◌, map, drop, get_or, length, ap, sym, ◌∙◌, append_assoc, append-nil}
use Rattle.std.proofs.lemmas.Grind.{common_steps}
use Rattle.c_boxes.proofs.ResultForms.{drop_next}

pub mapped_next : {A B : Type 0} (f : A → B) (xs : List A) (n : ℕ) (x : A) (all after : List B) (y : B) → n < length xs → x ≡ get_or xs n x
    → y ≡ f x → after ≡ all ++ y ∷ [] → after ++ map f (drop (n + 1) xs) ≡ all ++ map f (drop n xs)
mapped_next f xs n x all after y lt is y_is after_is =
    ap (λ them. them ++ map f (drop (n + 1) xs)) after_is
    ∙ append_assoc all (y ∷ []) (map f (drop (n + 1) xs))
    ∙ ap (λ z. all ++ z ∷ map f (drop (n + 1) xs)) y_is
    ∙ ap (λ them. all ++ map f them) (sym (drop_next xs n x lt is))

pub ruleset case_steps = (common_steps, append_assoc, append-nil)
