-- Lists that grow by one variable.
use Rattle.std.proofs.Common.{◌≡◌, ℕ, zero, suc, ◌+◌, [], ◌∷◌, ◌++◌, map, replicate, refl, ap, ◌∙◌, arith}
use Rattle.std.proofs.lemmas.Grind.{common_steps}
use Rattle.std.specs.List.{range_with_len}
use Rattle.hume_model.specs.declared.core_tree.Expr.TheVariants as expr
use Rattle.hume_model.specs.declared.core_tree.PatC.TheVariants as pat

variables_from : (a n : ℕ) → map expr.Var (range_with_len a (n + 1)) ≡ map expr.Var (range_with_len a n) ++ expr.Var (a + n) ∷ []
variables_from a zero = ap (λ k. expr.Var k ∷ []) (let e : a ≡ a + 0 = omega arith in e)
variables_from a (suc n) =
    let one : suc n + 1 ≡ suc (n + 1) = omega arith in
    let last : a + 1 + n ≡ a + suc n = omega arith in
    ap (λ k. map expr.Var (range_with_len a k)) one
    ∙ ap (λ es. expr.Var a ∷ es) (variables_from (a + 1) n)
    ∙ ap (λ k. expr.Var a ∷ (map expr.Var (range_with_len (a + 1) n) ++ expr.Var k ∷ [])) last

pub variables_more : (n : ℕ) → map expr.Var (range_with_len 0 (n + 1)) ≡ map expr.Var (range_with_len 0 n) ++ expr.Var n ∷ []
variables_more n = variables_from 0 n ∙ ap (λ k. map expr.Var (range_with_len 0 n) ++ expr.Var k ∷ []) (let e : 0 + n ≡ n = omega arith in e)

pub patterns_more : (n : ℕ) → replicate (n + 1) pat.Var ≡ replicate n pat.Var ++ pat.Var ∷ []
patterns_more zero = refl
patterns_more (suc n) =
    let one : suc n + 1 ≡ suc (n + 1) = omega arith in
    ap (λ k. replicate k pat.Var) one ∙ ap (λ ps. pat.Var ∷ ps) (patterns_more n)

pub ruleset variable_steps = (common_steps, variables_more, patterns_more)
