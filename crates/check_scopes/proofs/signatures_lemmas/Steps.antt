-- More names in a table, and more constructors.
use Rattle.std.proofs.Common.{◌≡◌, ℕ, suc, ◌+◌, List, [], ◌∷◌, ◌++◌, length, ap, arith}
use Rattle.std.proofs.lemmas.Grind.{common_steps}
use Rattle.check_tables.proofs.names_lemmas.Lookup.{with_names-append}
use Rattle.check_scopes.specs.signatures.inner.Tables.{numbered_from}

pub numbered_from-append : {A : Type 0} (name_of : A → List ℕ) (n : ℕ) (xs ys : List A)
    → numbered_from name_of n (xs ++ ys) ≡ numbered_from name_of n xs ++ numbered_from name_of (n + length xs) ys
numbered_from-append name_of n [] ys = ap (λ m. numbered_from name_of m ys) (let e : n ≡ n + 0 = omega arith in e)
numbered_from-append name_of n (x ∷ xs) ys = ap (λ l. (name_of x, n) ∷ l) (rw (numbered_from-append name_of (suc n) xs ys) (ap (λ m. numbered_from name_of (suc n) xs ++ numbered_from name_of m ys) (let e : suc n + length xs ≡ n + suc (length xs) = omega arith in e)))

pub ruleset table_steps = (common_steps, with_names-append, numbered_from-append)
