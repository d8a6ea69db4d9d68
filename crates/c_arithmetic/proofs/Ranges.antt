-- Lists of what comes of numbers one after another.
use Rattle.std.proofs.Common.{◌≡◌, ℕ, zero, suc, ◌+◌, List, ◌++◌, ap, sym, ◌∙◌, arith, append_assoc}
use Rattle.std.specs.List.{flat_map, range_with_len}
use Rattle.std.proofs.lemmas.List.{append-nil}

more_from : {A : Type 0} (f : ℕ → List A) (a n : ℕ) → flat_map f (range_with_len a (n + 1)) ≡ flat_map f (range_with_len a n) ++ f (a + n)
more_from f a zero = append-nil (f a) ∙ ap f (let e : a ≡ a + 0 = omega arith in e)
more_from f a (suc n) =
    let one : suc n + 1 ≡ suc (n + 1) = omega arith in
    let last : a + 1 + n ≡ a + suc n = omega arith in
    ap (λ k. flat_map f (range_with_len a k)) one
    ∙ ap (λ xs. f a ++ xs) (more_from f (a + 1) n ∙ ap (λ k. flat_map f (range_with_len (a + 1) n) ++ f k) last)
    ∙ sym (append_assoc (f a) (flat_map f (range_with_len (a + 1) n)) (f (a + suc n)))

-- one number more, from 1 on
pub flat_more : {A : Type 0} (f : ℕ → List A) (n : ℕ) → flat_map f (range_with_len 1 (n + 1)) ≡ flat_map f (range_with_len 1 n) ++ f (n + 1)
flat_more f n = more_from f 1 n ∙ ap (λ k. flat_map f (range_with_len 1 n) ++ f k) (let e : 1 + n ≡ n + 1 = omega arith in e)
