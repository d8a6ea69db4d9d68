-- Gathering what is written, declaration by declaration.
use Rattle.std.proofs.Common.{◌≡◌, List, [], ◌∷◌, ◌++◌, map, Option, Some, None, option_map, refl, ap, sym, ◌∙◌, append_assoc, append-nil}
use Rattle.std.specs.List.{filter_map, cons_option}
use Rattle.std.proofs.lemmas.Grind.{common_steps}
use Rattle.check_typing.specs.Partial.{given}
use Rattle.check_typing.specs.WrittenTypes.{all_there}

module _ {X A B : Type 0} (of : X → Option A) (by : A → Option B) where
  -- what is found so far, and what there is in what is left
  abbrev pub with_rest : List X → List B → Option (List B)
  with_rest xs ys = given (all_there (map by (filter_map of xs))) (λ others. Some (ys ++ others))

  pub nothing_left : (ys : List B) → with_rest [] ys ≡ Some ys
  nothing_left ys = ap Some (append-nil ys)

  all_of : (o : Option (List B)) → given o (λ others. Some ([] ++ others)) ≡ o
  all_of None = refl
  all_of (Some ys) = refl

  pub nothing_yet : (xs : List X) → with_rest xs [] ≡ all_there (map by (filter_map of xs))
  nothing_yet xs = all_of (all_there (map by (filter_map of xs)))

  pub passed : (x : X) (xs : List X) (ys : List B) → option_map by (of x) ≡ None → with_rest (x ∷ xs) ys ≡ with_rest xs ys
  passed x xs ys h = go (of x) h
    where
      go : (o : Option A) → option_map by o ≡ None → given (all_there (map by (cons_option o (filter_map of xs)))) (λ others. Some (ys ++ others)) ≡ with_rest xs ys
      go None h = refl
      go (Some a) h = cc

  pub failed : (x : X) (xs : List X) (ys : List B) → option_map by (of x) ≡ Some None → with_rest (x ∷ xs) ys ≡ None
  failed x xs ys h = go (of x) h
    where
      go : (o : Option A) → option_map by o ≡ Some None → given (all_there (map by (cons_option o (filter_map of xs)))) (λ others. Some (ys ++ others)) ≡ None
      go None h = cc
      go (Some a) h =
          let none : by a ≡ None = cc in
          ap (λ first. given (given first (λ b. given (all_there (map by (filter_map of xs))) (λ bs. Some (b ∷ bs)))) (λ others. Some (ys ++ others))) none

  pub pushed : (x : X) (xs : List X) (ys : List B) (b : B) → option_map by (of x) ≡ Some (Some b) → with_rest (x ∷ xs) ys ≡ with_rest xs (ys ++ b ∷ [])
  pushed x xs ys b h = go (of x) h
    where
      last : (o : Option (List B)) → given (given o (λ bs. Some (b ∷ bs))) (λ others. Some (ys ++ others)) ≡ given o (λ others. Some ((ys ++ b ∷ []) ++ others))
      last None = refl
      last (Some bs) = ap Some (sym (append_assoc ys (b ∷ []) bs))

      go : (o : Option A) → option_map by o ≡ Some (Some b)
          → given (all_there (map by (cons_option o (filter_map of xs)))) (λ others. Some (ys ++ others)) ≡ with_rest xs (ys ++ b ∷ [])
      go None h = cc
      go (Some a) h =
          let there : by a ≡ Some b = cc in
          ap (λ first. given (given first (λ b. given (all_there (map by (filter_map of xs))) (λ bs. Some (b ∷ bs)))) (λ others. Some (ys ++ others))) there
          ∙ last (all_there (map by (filter_map of xs)))

pub ruleset gathered_steps = (common_steps, nothing_left, nothing_yet, passed, failed, pushed)
