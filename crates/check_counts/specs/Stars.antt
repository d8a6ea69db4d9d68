-- Where a `*` stands: it may be an output of a result, and nothing else.
use Rattle.std.specs.Prelude.{ℕ, ◌||◌, nat_le, Bool, true, false, List, [], ◌∷◌, Option, Some, None, if◌then◌else◌}
use Rattle.hume_ast.specs.declared.tree.Pat.{Pat}
use Rattle.hume_ast.specs.declared.tree.Exp.{Exp, fold-Exp}
use Rattle.hume_ast.specs.declared.tree.Exp.TheOpen.{Exp-F}

-- Whether a `*` of an expression is no output: where the expression is none, where it is an output, where it is a result
-- of one output, and where it is one of several.
pub record Stray : Type 0 where
  pub inner : Bool
  pub output : Bool
  pub single : Bool
  pub several : Bool

-- it is the same wherever the expression stands
abbrev pub all_alike : Bool → Stray
all_alike stray = record { inner = stray; output = stray; single = stray; several = stray }

-- a `*` stands in one of the parts
abbrev pub any_inner : List Stray → Bool
any_inner [] = false
any_inner (part ∷ parts) = part.inner || any_inner parts

-- in one of the outputs a `*` is none
abbrev pub any_output : List Stray → Bool
any_output [] = false
any_output (part ∷ parts) = part.output || any_output parts

-- so it is in one of the alternatives
abbrev pub any_arm : (Stray → Bool) → List (Pat × Stray) → Bool
any_arm of [] = false
any_arm of (arm ∷ arms) = of arm.1 || any_arm of arms

-- a result goes on in the parts that it is followed through; in others, and where it is an output, a `*` is inside of it
abbrev pub followed : Bool → ((Stray → Bool) → Bool) → Stray
followed others through = record {
  inner = others || through (λ part. part.inner);
  output = others || through (λ part. part.inner);
  single = others || through (λ part. part.single);
  several = others || through (λ part. part.several);
}

-- a `*` stands in the part, if there is one
abbrev pub inner_if_there : Option Stray → Bool
inner_if_there None = false
inner_if_there (Some part) = part.inner

-- one level of an expression, with what holds of its parts
abbrev pub star_step : Exp-F Stray → Stray
star_step (Exp-F.Let name part body) = followed part.inner (λ of. of body)
star_step (Exp-F.If test when_true when_false) = followed test.inner (λ of. of when_true || of when_false)
star_step (Exp-F.Case part arms) = followed part.inner (λ of. any_arm of arms)
star_step (Exp-F.Raise name part) = all_alike (inner_if_there part)
star_step (Exp-F.Binary sign left right) = all_alike (left.inner || right.inner)
star_step (Exp-F.Neg part) = all_alike part.inner
star_step (Exp-F.Not part) = all_alike part.inner
star_step (Exp-F.App name parts) = all_alike (any_inner parts)
star_step (Exp-F.Con name parts) = all_alike (any_inner parts)
star_step (Exp-F.Update vector place item) = all_alike (vector.inner || (place.inner || item.inner))
star_step (Exp-F.Num negative amount) = all_alike false
star_step (Exp-F.Letter byte) = all_alike false
star_step (Exp-F.Truth truth) = all_alike false
star_step (Exp-F.Paren part) = part
star_step (Exp-F.Tuple parts) = record { inner = any_inner parts; output = any_inner parts; single = any_inner parts; several = any_output parts }
star_step (Exp-F.Cast part type) = all_alike part.inner
star_step (Exp-F.Vect parts) = all_alike (any_inner parts)
star_step Exp-F.Star = record { inner = true; output = false; single = false; several = true }

-- whether a `*` of the expression is no output, wherever the expression stands
abbrev pub strays : Exp → Stray
strays = fold-Exp Stray star_step

-- a `*` stands in the expression, which is no output
abbrev pub has_star : Exp → Bool
has_star e = (strays e).inner

-- a `*` in the result of a box with so many outputs is none of them
abbrev pub has_stray_star : ℕ → Exp → Bool
has_stray_star outputs result = if nat_le 2 outputs then (strays result).several else (strays result).single
