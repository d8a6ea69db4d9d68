-- What printing is proved by.
use Rattle.std.proofs.Common.{◌≡◌, ℕ, List, ◌++◌, ap, ◌∙◌, append_assoc}
use Rattle.std.proofs.lemmas.Grind.{common_steps}

pub ruleset text_steps = (common_steps, append_assoc)

pub two_added : (old a b x y : List ℕ) → x ≡ old ++ a → y ≡ x ++ b → y ≡ old ++ (a ++ b)
two_added old a b x y p q = q ∙ ap (λ l. l ++ b) p ∙ append_assoc old a b

pub three_added : (old a b d x y z : List ℕ) → x ≡ old ++ a → y ≡ x ++ b → z ≡ y ++ d → z ≡ old ++ (a ++ (b ++ d))
three_added old a b d x y z p q r = two_added old a (b ++ d) x z p (two_added x b d y z q r)

pub four_added : (old a b d e x y z w : List ℕ) → x ≡ old ++ a → y ≡ x ++ b → z ≡ y ++ d → w ≡ z ++ e → w ≡ old ++ (a ++ (b ++ (d ++ e)))
four_added old a b d e x y z w p q r s = two_added old a (b ++ (d ++ e)) x w p (three_added x b d e y z w q r s)

-- two texts that were added are those of equal things
pub same_added : {R S : Type 0} (f : R → List ℕ) (g : S → List ℕ) (old new : List ℕ) (r r' : R) (s s' : S)
    → r ≡ r' → s ≡ s' → new ≡ old ++ (f r ++ g s) → new ≡ old ++ (f r' ++ g s')
same_added f g old new r r' s s' p q h = h ∙ (λ i. old ++ (f (p i) ++ g (q i)))
