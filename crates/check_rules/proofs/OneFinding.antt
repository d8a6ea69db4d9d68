-- A program has one least broken rule.
use Rattle.std.proofs.Common.{◌≡◌, ℕ, ◌==◌, true, Some, if◌then◌else◌, refl, ap, sym, ◌∙◌, arith}
use Rattle.std.proofs.lemmas.Bool.Decides.{nat_tests}
use Rattle.hume_base.specs.declared.rule.Rule.{Rule}
use Rattle.hume_base.specs.declared.rule.Rule.TheVariants.{C10, C11, C12, C20, C30, C31, C32, C33, C40, C41, C42, C43, C44, C45, C50, C51, C52, C53, C54, C55, C56, C57, C60, C61, C70, C71, C72, C73, C74, C75, C76, C77, C78, C79, C90, C91, C92, C93, C94}
use Rattle.hume_base.specs.declared.finding.Finding.{Finding}
use Rattle.hume_base.specs.Rules.{code_of, phase_of}
use Rattle.hume_base.specs.Least.{goes_first, precedes, IsLeast}

-- the rule of a code
rule_of : ℕ → Rule
rule_of n = (if n == 11 then C11 else (if n == 12 then C12 else (if n == 20 then C20 else (if n == 30 then C30 else (if n == 31 then C31 else (if n == 32 then C32 else (if n == 33 then C33 else (if n == 40 then C40 else (if n == 41 then C41 else (if n == 42 then C42 else (if n == 43 then C43 else (if n == 44 then C44 else (if n == 45 then C45 else (if n == 50 then C50 else (if n == 51 then C51 else (if n == 52 then C52 else (if n == 53 then C53 else (if n == 54 then C54 else (if n == 55 then C55 else (if n == 56 then C56 else (if n == 57 then C57 else (if n == 60 then C60 else (if n == 61 then C61 else (if n == 70 then C70 else (if n == 71 then C71 else (if n == 72 then C72 else (if n == 73 then C73 else (if n == 74 then C74 else (if n == 75 then C75 else (if n == 76 then C76 else (if n == 77 then C77 else (if n == 78 then C78 else (if n == 79 then C79 else (if n == 90 then C90 else (if n == 91 then C91 else (if n == 92 then C92 else (if n == 93 then C93 else (if n == 94 then C94 else C10))))))))))))))))))))))))))))))))))))))

rule_of-code : (r : Rule) → rule_of (code_of r) ≡ r
unfolding rule_of
rule_of-code C10 = refl
rule_of-code C11 = refl
rule_of-code C12 = refl
rule_of-code C20 = refl
rule_of-code C30 = refl
rule_of-code C31 = refl
rule_of-code C32 = refl
rule_of-code C33 = refl
rule_of-code C40 = refl
rule_of-code C41 = refl
rule_of-code C42 = refl
rule_of-code C43 = refl
rule_of-code C44 = refl
rule_of-code C45 = refl
rule_of-code C50 = refl
rule_of-code C51 = refl
rule_of-code C52 = refl
rule_of-code C53 = refl
rule_of-code C54 = refl
rule_of-code C55 = refl
rule_of-code C56 = refl
rule_of-code C57 = refl
rule_of-code C60 = refl
rule_of-code C61 = refl
rule_of-code C70 = refl
rule_of-code C71 = refl
rule_of-code C72 = refl
rule_of-code C73 = refl
rule_of-code C74 = refl
rule_of-code C75 = refl
rule_of-code C76 = refl
rule_of-code C77 = refl
rule_of-code C78 = refl
rule_of-code C79 = refl
rule_of-code C90 = refl
rule_of-code C91 = refl
rule_of-code C92 = refl
rule_of-code C93 = refl
rule_of-code C94 = refl

one_rule : (r q : Rule) → code_of r ≡ code_of q → r ≡ q
one_rule r q e = sym (rule_of-code r) ∙ ap rule_of e ∙ rule_of-code q

same_numbers : (x y : ℕ × ℕ × ℕ) → goes_first x y ≡ true → goes_first y x ≡ true → (x.1 ≡ y.1) × (x.2 ≡ y.2)
unfolding goes_first
same_numbers x y h g = (grind (arith, nat_tests), grind (arith, nat_tests))

pub one_finding : (x y : Finding) → precedes x y ≡ true → precedes y x ≡ true → x ≡ y
one_finding x y h g =
    let same = same_numbers (phase_of x.rule, x.declaration, code_of x.rule) (phase_of y.rule, y.declaration, code_of y.rule) h g in
    let rule = one_rule x.rule y.rule same.1 in
    λ i. record { rule = rule i; declaration = same.0 i }

pub one_least : (broken : Finding → Type 0) (x y : Finding) → IsLeast broken (Some x) → IsLeast broken (Some y) → x ≡ y
one_least broken x y p q = one_finding x y (p.1 y q.0) (q.1 x p.0)
