-- Sets to which names are added.
use Rattle.std.proofs.Common.{◌≡◌, ℕ, Bool, true, false, ◌||◌, List, [], ◌∷◌, ◌++◌, map, Vec, refl, ap, sym, ◌∙◌, if◌then◌else◌}
use Rattle.std.specs.List.{list_any}
use Rattle.std.specs.Str.{bytes_eq}
use Rattle.std.specs.declared.alloc.Global.{Global}
use Rattle.std.proofs.lemmas.Slice.Eq.{bytes_eq-Decides}
use Rattle.std.proofs.lemmas.List.Folds.{list_any-append}
use Rattle.c_used.specs.Uses.{Name}
use Rattle.c_used.specs.Kept.{is_among}
use Rattle.c_used.specs.inner.Names.{with_name, with_names}

-- names of one list after those of another
pub more_names : (names xs ys : List Name) → with_names (with_names names xs) ys ≡ with_names names (xs ++ ys)
more_names names [] ys = refl
more_names names (x ∷ xs) ys = more_names (with_name names x) xs ys

-- one name, then others
pub name_and_more : (names : List Name) (x : Name) (xs : List Name) → with_names (with_name names x) xs ≡ with_names names (x ∷ xs)
name_and_more names x xs = refl

or_swap_behind : (a b : Bool) → (a || (b || false)) ≡ (b || a)
or_swap_behind true true = refl
or_swap_behind true false = refl
or_swap_behind false true = refl
or_swap_behind false false = refl

or_three : (a b c : Bool) → (a || (b || c)) ≡ ((b || a) || c)
or_three true true c = refl
or_three true false c = refl
or_three false true c = refl
or_three false false c = refl

true_same : (x y : Name) → bytes_eq x y ≡ true → x ≡ y
true_same x y same = (bytes_eq-Decides x y).0 same

abbrev pub shown : List (Vec ℕ Global) → List Name
shown keys = map (λ key. key.items) keys

pub has_shown : (name : Name) (keys : List (Vec ℕ Global)) → list_any (λ (key : Vec ℕ Global). bytes_eq name key.items) keys ≡ is_among (shown keys) name
has_shown name [] = refl
has_shown name (key ∷ keys) = ap (λ b. bytes_eq name key.items || b) (has_shown name keys)

shown_behind : (keys : List (Vec ℕ Global)) (key : Vec ℕ Global) → shown (keys ++ key ∷ []) ≡ shown keys ++ key.items ∷ []
shown_behind [] key = refl
shown_behind (first ∷ keys) key = ap (λ names. first.items ∷ names) (shown_behind keys key)

-- the names that are shown once a key has been put in
pub shown_more : (keys : List (Vec ℕ Global)) (key : Vec ℕ Global)
    → shown (if list_any (λ (k : Vec ℕ Global). bytes_eq key.items k.items) keys then keys else keys ++ key ∷ []) ≡ with_name (shown keys) key.items
shown_more keys key = by (list_any (λ (k : Vec ℕ Global). bytes_eq key.items k.items) keys) (has_shown key.items keys)
  where
    by : (b : Bool) → b ≡ is_among (shown keys) key.items → shown (if b then keys else keys ++ key ∷ []) ≡ with_name (shown keys) key.items
    by true is = ap (λ b. if b then shown keys else shown keys ++ key.items ∷ []) is
    by false is = shown_behind keys key ∙ ap (λ b. if b then shown keys else shown keys ++ key.items ∷ []) is

-- what is among the names once one has been added
among_with_name : (names : List Name) (one : Name) (name : Name) → is_among (with_name names one) name ≡ (bytes_eq name one || is_among names name)
among_with_name names one name = by (is_among names one) refl
  where
    there : (b : Bool) → bytes_eq name one ≡ b → is_among names one ≡ true → is_among names name ≡ (b || is_among names name)
    there true same is = ap (is_among names) (true_same name one same) ∙ is
    there false same is = refl

    by : (b : Bool) → is_among names one ≡ b → is_among (if b then names else names ++ one ∷ []) name ≡ (bytes_eq name one || is_among names name)
    by true is = there (bytes_eq name one) refl is
    by false is = list_any-append (bytes_eq name) names (one ∷ []) ∙ or_swap_behind (is_among names name) (bytes_eq name one)

-- what is among the names once several have been added
pub among_with_names : (names xs : List Name) (name : Name) → is_among (with_names names xs) name ≡ (is_among xs name || is_among names name)
among_with_names names [] name = refl
among_with_names names (x ∷ xs) name = among_with_names (with_name names x) xs name
    ∙ ap (λ b. is_among xs name || b) (among_with_name names x name) ∙ or_three (is_among xs name) (bytes_eq name x) (is_among names name)
