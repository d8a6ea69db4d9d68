-- Things found one after the other, each for one of a list.
use Rattle.std.proofs.Common.{◌≡◌, ℕ, zero, suc, ◌+◌, ◌<◌, ◌≤◌, List, [], ◌∷◌, ◌++◌, length, drop, get_or, sym, subst, ◌∙◌, append_assoc, append-nil, drop-cons, add-one, arith}
use Rattle.std.proofs.lemmas.List.{drop_all}
use Rattle.check_typing.specs.Declarations.{InPlaces}

-- what is left of a list from a place on
pub split_at : {A : Type 0} (all : List A) (place : ℕ) (x d : A) → place < length all → x ≡ get_or all place d → drop place all ≡ x ∷ drop (place + 1) all
split_at all place x d h e = drop-cons all place d h ∙ (λ i. sym e i ∷ drop (sym (add-one place) i) all)

module _ {A B : Type 0} (Belongs : A → B → Type 0) where
  -- what belongs to those that are left goes behind what is found so far
  pub record GoesOn (all left : List A) (found : List B) : Type 0 where
    pub on : (others : List B) → InPlaces Belongs left others → InPlaces Belongs all (found ++ others)

  pub nothing_yet : (all : List A) → GoesOn all all []
  nothing_yet all = record { on = λ others h. h }

  pub one_more : (all left : List A) (found : List B) (x : A) (y : B) → GoesOn all (x ∷ left) found → Belongs x y → GoesOn all left (found ++ y ∷ [])
  one_more all left found x y goes belongs = record {
    on = λ others h. subst (InPlaces Belongs all) (sym (append_assoc found (y ∷ []) others)) (goes.on (y ∷ others) (belongs, h));
  }

  pub nothing_left : (all : List A) (found : List B) → GoesOn all [] found → InPlaces Belongs all found
  nothing_left all found goes = subst (InPlaces Belongs all) (append-nil found) (goes.on [] tt)

  -- those of a whole list, in its order
  pub next_found : (all : List A) (place : ℕ) (x : A) (y : B) (found new : List B) → place < length all → x ≡ get_or all place x
      → GoesOn all (drop place all) found → Belongs x y → new ≡ found ++ y ∷ [] → GoesOn all (drop (place + 1) all) new
  next_found all place x y found new h e goes belongs is =
      subst (GoesOn all (drop (place + 1) all)) (sym is)
      (one_more all (drop (place + 1) all) found x y (subst (λ left. GoesOn all left found) (split_at all place x x h e) goes) belongs)

  pub all_found : (all : List A) (place : ℕ) (found : List B) → length all ≤ place → GoesOn all (drop place all) found → InPlaces Belongs all found
  all_found all place found h goes = nothing_left all found (subst (λ left. GoesOn all left found) (drop_all place all h) goes)

  -- what belongs to the first of those that are left, where it is looked up by its place
  pub first_belongs : (x : A) (left : List A) (all : List B) (place : ℕ) (y : B) → InPlaces Belongs (x ∷ left) (drop place all)
      → y ≡ get_or all place y → Belongs x y
  first_belongs x left [] zero y h e = absurd h
  first_belongs x left (z ∷ all) zero y h e = subst (Belongs x) (sym e) h.0
  first_belongs x left [] (suc place) y h e = absurd h
  first_belongs x left (z ∷ all) (suc place) y h e = first_belongs x left all place y h e

  pub others_left : (x : A) (left : List A) (all : List B) (place : ℕ) → InPlaces Belongs (x ∷ left) (drop place all)
      → InPlaces Belongs left (drop (suc place) all)
  others_left x left [] zero h = absurd h
  others_left x left (y ∷ all) zero h = h.1
  others_left x left [] (suc place) h = absurd h
  others_left x left (y ∷ all) (suc place) h = others_left x left all place h

  pub first_within : (x : A) (left : List A) (all : List B) (place : ℕ) → InPlaces Belongs (x ∷ left) (drop place all) → place < length all
  first_within x left [] zero h = absurd h
  first_within x left (y ∷ all) zero h = omega arith
  first_within x left [] (suc place) h = absurd h
  first_within x left (y ∷ all) (suc place) h = let lt = first_within x left all place h in omega arith
