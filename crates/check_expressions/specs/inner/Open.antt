-- The first one that has a type of its own.
use Rattle.std.specs.Prelude.{◌≡◌, ℕ, Bool, true, false, List, ◌∷◌, ◌++◌, length}
use Rattle.hume_ast.specs.declared.tree.Pat.{Pat}
use Rattle.hume_ast.specs.declared.tree.Exp.{Exp}
use Rattle.hume_ast.specs.declared.tree.BinOp.{BinOp}
use Rattle.hume_ast.specs.declared.tree.BinOp.TheVariants as sign
use Rattle.check_typing.specs.inner.Walk.{walk, arm_walks_open}
use Rattle.check_typing.specs.declared.signatures.Signatures.{Signatures}
use Rattle.check_tasks.specs.Tasks.{walks, arm_walks, walks_open}

-- the sign is one between numbers that gives a number
abbrev pub is_arithmetic_sign : BinOp → Bool
is_arithmetic_sign sign.Add = true
is_arithmetic_sign sign.Sub = true
is_arithmetic_sign sign.Mul = true
is_arithmetic_sign sign.Div = true
is_arithmetic_sign sign.Mod = true
is_arithmetic_sign _ = false

-- the expression at the place is closed, and all before it are open
abbrev pub IsFirstClosed : Signatures → List Exp → ℕ → Type 0
IsFirstClosed signatures parts place = (front behind : List Exp) (part : Exp) → parts ≡ front ++ part ∷ behind → length front ≡ place
    → (walks_open (walks signatures front) ≡ true) × ((walk signatures part).is_open ≡ false)

-- the same of the bodies of alternatives
abbrev pub IsFirstClosedArm : Signatures → List (Pat × Exp) → ℕ → Type 0
IsFirstClosedArm signatures arms place = (front behind : List (Pat × Exp)) (arm : Pat × Exp) → arms ≡ front ++ arm ∷ behind → length front ≡ place
    → (arm_walks_open (arm_walks signatures front) ≡ true) × ((walk signatures arm.1).is_open ≡ false)
