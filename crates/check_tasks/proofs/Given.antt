-- What is put together of what may be missing, and lists from their ends.
use native.Mathlib.Omega.{arith}
use Rattle.std.proofs.Common.{◌≡◌, ℕ, suc, ◌+◌, Option, Some, None, Bool, true, false, List, [], ◌∷◌, ◌++◌, length, take, drop, reverse, refl, ap, sym, ◌∙◌, add-one}
use Rattle.std.proofs.lemmas.Grind.{common_steps}
use Rattle.std.proofs.lemmas.List.{reverse-append, length-reverse, reverse-reverse, append_assoc}
use Rattle.std.proofs.Math.Seq.{take-append_seam, drop-append_seam, drop-append-add}
use Rattle.check_cores.specs.Stacks.{lifted}
use Rattle.check_scopes.specs.types.Contexts.{last_of}
use Rattle.hume_base.specs.declared.types.Ty.{the_lemmas as ty_lemmas}
use Rattle.check_typing.specs.Partial.{given, when}

pub given_some : {A B : Type 0} (o : Option A) (x : A) (f : A → Option B) → o ≡ Some x → given o f ≡ f x
given_some o x f h = ap (λ p. given p f) h

pub given_none : {A B : Type 0} (o : Option A) (f : A → Option B) → o ≡ None → given o f ≡ None
given_none o f h = ap (λ p. given p f) h

-- by whether it is there
pub by_case : {A C : Type 0} (o : Option A) → (o ≡ None → C) → ((x : A) → o ≡ Some x → C) → C
by_case None none some = none refl
by_case (Some x) none some = some x refl

-- by whether it is so
pub by_test : {C : Type 0} (b : Bool) → (b ≡ false → C) → (b ≡ true → C) → C
by_test false unset set = unset refl
by_test true unset set = set refl

module _ {A : Type 0} where
  -- the last ones of a stack, in their order
  pub taken_back : (xs ys : List A) (count : ℕ) → length xs ≡ count → reverse (take count (reverse xs ++ ys)) ≡ xs
  taken_back xs ys count h =
      ap (λ n. reverse (take n (reverse xs ++ ys))) (sym h ∙ sym (length-reverse xs)) ∙ ap reverse (take-append_seam (reverse xs) ys) ∙ reverse-reverse xs

  -- the stack below them
  pub left_below : (xs ys : List A) (count : ℕ) → length xs ≡ count → drop count (reverse xs ++ ys) ≡ ys
  left_below xs ys count h = ap (λ n. drop n (reverse xs ++ ys)) (sym h ∙ sym (length-reverse xs)) ∙ drop-append_seam (reverse xs) ys

  pub reverse_more : (x : A) (xs ys : List A) → reverse (x ∷ xs) ++ ys ≡ reverse xs ++ (x ∷ ys)
  reverse_more x xs ys = ap (λ l. l ++ ys) (reverse-append (x ∷ []) xs) ∙ append_assoc (reverse xs) (x ∷ []) ys

  pub reverse_joined : (xs ys zs : List A) → reverse (xs ++ ys) ++ zs ≡ reverse ys ++ (reverse xs ++ zs)
  reverse_joined xs ys zs = ap (λ l. l ++ zs) (reverse-append xs ys) ∙ append_assoc (reverse ys) (reverse xs) zs

  -- what lies below others, on top of them
  lifted_seam : (xs rest : List A) (x : A) (count : ℕ) → length xs ≡ count → lifted count (xs ++ x ∷ rest) ≡ x ∷ xs ++ rest
  lifted_seam xs rest x count h = ap (λ n. lifted n (xs ++ x ∷ rest)) (sym h)
      ∙ (λ i. take 1 (drop-append_seam xs (x ∷ rest) i) ++ (take-append_seam xs (x ∷ rest) i ++ one_more i))
    where
      one_more : drop (suc (length xs)) (xs ++ x ∷ rest) ≡ rest
      one_more = ap (λ k. drop k (xs ++ x ∷ rest)) (sym (add-one (length xs))) ∙ drop-append-add xs (x ∷ rest) 1

  -- one that came before those that stand before it, put in its place
  pub lifted_out : (before after rest : List A) (x : A) (count : ℕ) → length before ≡ count
      → reverse after ++ lifted count (reverse before ++ x ∷ rest) ≡ reverse (before ++ x ∷ after) ++ rest
  lifted_out before after rest x count h =
      ap (λ l. reverse after ++ l) (lifted_seam (reverse before) rest x count (length-reverse before ∙ h))
      ∙ sym (reverse_joined before (x ∷ after) rest ∙ reverse_more x after (reverse before ++ rest))

-- the last variable is the one that has come into scope
pub last_entered : {A : Type 0} (variables : List (List ℕ × A)) (name : List ℕ) (x : A) → last_of (variables ++ (name, x) ∷ []) ≡ Some x
last_entered [] name x = refl
last_entered (v ∷ []) name x = refl
last_entered (v ∷ w ∷ variables) name x = last_entered (w ∷ variables) name x

pub ruleset form_steps = (common_steps, ty_lemmas, given_some, given_none, take-append_seam, last_entered)
