-- The least broken rule: by phase, then by declaration, then by code.
use Rattle.std.specs.Prelude.{◌≡◌, ℕ, ◌≤◌, ◌==◌, nat_lt, nat_le, Bool, IsTrue, Option, Some, None, if◌then◌else◌}
use Rattle.hume_base.specs.declared.rule.Rule.{Rule}
use Rattle.hume_base.specs.declared.finding.Finding.{Finding}
use Rattle.hume_base.specs.Rules.{code_of, phase_of}

-- by three numbers each, the first ones first; a triple goes before itself
unfoldable pub goes_first : ℕ × ℕ × ℕ → ℕ × ℕ × ℕ → Bool
goes_first x y = if x.0 == y.0 then (if x.1 == y.1 then nat_le x.2 y.2 else nat_lt x.1 y.1) else nat_lt x.0 y.0

-- one finding comes before another, or is the same
abbrev pub precedes : Finding → Finding → Bool
precedes x y = goes_first (phase_of x.rule, x.declaration, code_of x.rule) (phase_of y.rule, y.declaration, code_of y.rule)

abbrev pub earlier_of : Option Finding → Option Finding → Option Finding
earlier_of None right = right
earlier_of (Some x) None = Some x
earlier_of (Some x) (Some y) = if precedes x y then Some x else Some y

-- of the findings that there are one that comes before all others; none where there are none
abbrev pub IsLeast : (Finding → Type 0) → Option Finding → Type 0
IsLeast broken None = (f : Finding) → broken f → ⊥
IsLeast broken (Some x) = broken x × ((f : Finding) → broken f → IsTrue (precedes x f))

-- the first number that has the property; none where no number has it
abbrev pub IsFirst : (ℕ → Type 0) → Option ℕ → Type 0
IsFirst P None = (i : ℕ) → P i → ⊥
IsFirst P (Some i) = P i × ((j : ℕ) → P j → i ≤ j)

-- the findings of one rule: the declarations that have the property break it
abbrev pub OfRule : Rule → (ℕ → Type 0) → Finding → Type 0
OfRule rule P f = (f.rule ≡ rule) × P f.declaration

-- a rule and the declaration that breaks it, if one does
abbrev pub finding_of : Rule → Option ℕ → Option Finding
finding_of rule None = None
finding_of rule (Some i) = Some (record { rule = rule; declaration = i })
