-- The last variable of a name, one more variable on.
use Rattle.std.proofs.Common.{◌≡◌, ℕ, zero, suc, ◌+◌, List, [], ◌∷◌, ◌++◌, length, map, get_or, Some, refl, ap, ◌∙◌, Bool, true, false, if◌then◌else◌, arith}
use Rattle.std.proofs.lemmas.Grind.{common_steps}
use Rattle.std.specs.Str.{bytes_eq}
use denote.Ref.{Bor}
use Rattle.check_typing.specs.Signatures.{variable_named, inner_or_this}
use Rattle.check_scopes.specs.types.Contexts.{last_of}

pub variable_named-push : {A : Type 0} (x : List ℕ) (vs : List (List ℕ × A)) (v : List ℕ × A) → variable_named x (vs ++ v ∷ []) ≡ (if bytes_eq v.0 x then Some (length vs, v.1) else variable_named x vs)
variable_named-push x [] v = refl
variable_named-push x (w ∷ vs) v = ap (inner_or_this x w) (variable_named-push x vs v) ∙ by (bytes_eq v.0 x)
  where
    by : (b : Bool) → inner_or_this x w (if b then Some (length vs, v.1) else variable_named x vs) ≡ (if b then Some (suc (length vs), v.1) else inner_or_this x w (variable_named x vs))
    by true = ap (λ n. Some (n, v.1)) (let e : length vs + 1 ≡ suc (length vs) = omega arith in e)
    by false = refl

-- what stands beside the last variable, by its place
pub last_at : (vs : List (Bor (List ℕ) × ℕ)) (n : ℕ) (d : Bor (List ℕ) × ℕ) → length vs ≡ n + 1
    → last_of (map (λ (v : Bor (List ℕ) × ℕ). (v.0.now, v.1)) vs) ≡ Some (get_or vs n d).1
last_at [] n d h = absurd (none n h)
  where
    none : (n : ℕ) → 0 ≡ n + 1 → ⊥
    none n h = omega arith
last_at (v ∷ []) zero d h = refl
last_at (v ∷ []) (suc n) d h = absurd (one n h)
  where
    one : (n : ℕ) → 1 ≡ suc n + 1 → ⊥
    one n h = omega arith
last_at (v ∷ w ∷ vs) zero d h = absurd (more (length vs) h)
  where
    more : (n : ℕ) → suc (suc n) ≡ 1 → ⊥
    more n h = omega arith
last_at (v ∷ w ∷ vs) (suc n) d h = last_at (w ∷ vs) n d (let e : length (w ∷ vs) ≡ n + 1 = omega arith in e)

pub ruleset var_steps = (common_steps, variable_named-push)
