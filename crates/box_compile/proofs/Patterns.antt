-- What is found in patterns, one after another.
use Rattle.std.proofs.Common.{◌≡◌, ℕ, zero, suc, ◌+◌, ◌<◌, ◌≤◌, List, [], ◌∷◌, ◌++◌, map, length, take, get_or, refl, ap, sym, ◌∙◌, append_assoc, arith}
use Rattle.std.proofs.lemmas.Grind.{common_steps}
use Rattle.std.proofs.lemmas.List.{take_more}
use Rattle.hume_model.specs.declared.core_tree.PatC.{PatC, the_lemmas as pattern_lemmas}
use Rattle.box_compile.proofs.Lists.{append_nil}
use Rattle.box_code.specs.Paths.{Spot, root, field_of_spot, of_fields, of_words}

map_last : {X Y : Type 0} (f : X → Y) (xs : List X) (x : X) → map f (xs ++ x ∷ []) ≡ map f xs ++ f x ∷ []
map_last f [] x = refl
map_last f (y ∷ ys) x = ap (λ k. f y ∷ k) (map_last f ys x)

long : {X Y : Type 0} (f : X → Y) (xs : List X) (i : ℕ) → i ≤ length xs → length (map f (take i xs)) ≡ i
long f xs zero low = refl
long f [] (suc i) low = absurd (omega (arith, low))
long f (x ∷ xs) (suc i) low = ap suc (long f xs i (omega (arith, low)))

fields_last : {X : Type 0} (parts : List (Spot → List X)) (part : Spot → List X) (spot : Spot) (start at : ℕ) → at ≡ start + length parts
    → of_fields (parts ++ part ∷ []) spot start ≡ of_fields parts spot start ++ part (field_of_spot spot at)
fields_last [] part spot start at is = append_nil (part (field_of_spot spot start)) ∙ ap (λ k. part (field_of_spot spot k)) (let e : start ≡ at = omega
    (arith, is) in e)
fields_last (p ∷ ps) part spot start at is =
    ap (λ k. p (field_of_spot spot start) ++ k) (fields_last ps part spot (suc start) at (omega (arith, is)))
    ∙ sym (append_assoc (p (field_of_spot spot start)) (of_fields ps spot (suc start)) (part (field_of_spot spot at)))

words_last : {X : Type 0} (parts : List (Spot → List X)) (part : Spot → List X) (start at : ℕ) → at ≡ start + length parts
    → of_words (parts ++ part ∷ []) start ≡ of_words parts start ++ part (root at)
words_last [] part start at is = append_nil (part (root start)) ∙ ap (λ k. part (root k)) (let e : start ≡ at = omega (arith, is) in e)
words_last (p ∷ ps) part start at is =
    ap (λ k. p (root start) ++ k) (words_last ps part (suc start) at (omega (arith, is)))
    ∙ sym (append_assoc (p (root start)) (of_words ps (suc start)) (part (root at)))

module _ {X : Type 0} (f : PatC → Spot → List X) (parts : List PatC) (i : ℕ) (part : PatC) (low : i < length parts) (is : part ≡ get_or parts i part) where
  one_more : map f (take (i + 1) parts) ≡ map f (take i parts) ++ f part ∷ []
  one_more = ap (map f) (take_more parts i part low ∙ ap (λ p. take i parts ++ p ∷ []) (sym is)) ∙ map_last f (take i parts) part

  pub fields_more : (spot : Spot) (all before found : List X) → found ≡ before ++ of_fields (map f (take i parts)) spot 0
      → all ≡ found ++ f part (field_of_spot spot i)
      → all ≡ before ++ of_fields (map f (take (i + 1) parts)) spot 0
  fields_more spot all before found so then_is =
      let e : i ≡ 0 + length (map f (take i parts)) = (let l = long f parts i (omega (arith, low)) in omega (arith, l)) in
      then_is ∙ ap (λ k. k ++ f part (field_of_spot spot i)) so ∙ append_assoc before (of_fields (map f (take i parts)) spot 0) (f part (field_of_spot spot i))
      ∙ ap (λ k. before ++ k) (sym (ap (λ ps. of_fields ps spot 0) one_more ∙ fields_last (map f (take i parts)) (f part) spot 0 i e))

  pub words_more : (all found : List X) → found ≡ of_words (map f (take i parts)) 0 → all ≡ found ++ f part (root i)
      → all ≡ of_words (map f (take (i + 1) parts)) 0
  words_more all found so then_is =
      let e : i ≡ 0 + length (map f (take i parts)) = (let l = long f parts i (omega (arith, low)) in omega (arith, l)) in
      then_is ∙ ap (λ k. k ++ f part (root i)) so ∙ sym (ap (λ ps. of_words ps 0) one_more ∙ words_last (map f (take i parts)) (f part) 0 i e)

pub ruleset pattern_steps = (common_steps, pattern_lemmas)
