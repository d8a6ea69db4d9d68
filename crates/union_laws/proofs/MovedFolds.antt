-- What a fold makes of a moved expression, where each level makes the like of the moved level.
use Rattle.std.proofs.Common.{◌≡◌, ℕ, nat_lt, Bool, true, refl, ap, ◌∙◌}
use Rattle.std.specs.Bool.{⊤}
use Rattle.hume_model.specs.declared.core_tree.Forms.{Forms}
use Rattle.hume_model.specs.declared.core_tree.Expr.{Expr, fold-Expr, map-Expr}
use Rattle.hume_model.specs.declared.core_tree.Expr.TheOpen.{Expr-F}
use Rattle.hume_model.specs.Calls.{calls_below, calls_step}
use Rattle.union_laws.specs.declared.moves.Moves.{Moves}
use Rattle.union_laws.specs.Moving.{moved, moved_layer}
use Rattle.union_laws.specs.inner.Names.{names_below, names_step}
use Rattle.union_laws.proofs.NamedFolds.{IsKnown, named_same}

-- a call is of a function of a number below the bound
abbrev pub IsKnownCall : {X : Type 0} → ℕ → Expr-F X → Type 0
IsKnownCall bound (Expr-F.Call function parts) = nat_lt function bound ≡ true
IsKnownCall bound layer = ⊤

-- any forms will do
abbrev pub any_forms : Forms → Bool
any_forms forms = true

step_is : (bound : ℕ) (y : Expr-F Bool) → names_step bound any_forms y ≡ calls_step bound y
step_is bound (Expr-F.Word w) = refl
step_is bound (Expr-F.Var n) = refl
step_is bound (Expr-F.Con c ps) = refl
step_is bound (Expr-F.Tuple ps) = refl
step_is bound (Expr-F.Vect ps) = refl
step_is bound (Expr-F.Prim op ty ps) = refl
step_is bound (Expr-F.Index n v k) = refl
step_is bound (Expr-F.Update n v k e) = refl
step_is bound (Expr-F.If t a b) = refl
step_is bound (Expr-F.Case e forms arms) = refl
step_is bound (Expr-F.Let a b) = refl
step_is bound (Expr-F.Call f ps) = refl
step_is bound (Expr-F.Raise x e) = refl

-- where any forms will do, known names are known calls
pub names_are : (bound : ℕ) → names_below bound any_forms ≡ calls_below bound
names_are bound = λ i. fold-Expr Bool (λ y. step_is bound y i)

call_of : (X : Type 0) (bound : ℕ) (y : Expr-F X) → IsKnown bound any_forms y → IsKnownCall bound y
call_of X bound (Expr-F.Word w) known = tt
call_of X bound (Expr-F.Var n) known = tt
call_of X bound (Expr-F.Con c ps) known = tt
call_of X bound (Expr-F.Tuple ps) known = tt
call_of X bound (Expr-F.Vect ps) known = tt
call_of X bound (Expr-F.Prim op ty ps) known = tt
call_of X bound (Expr-F.Index n v k) known = tt
call_of X bound (Expr-F.Update n v k e) known = tt
call_of X bound (Expr-F.If t a b) known = tt
call_of X bound (Expr-F.Case e forms arms) known = tt
call_of X bound (Expr-F.Let a b) known = tt
call_of X bound (Expr-F.Call f ps) known = known
call_of X bound (Expr-F.Raise x e) known = tt

pub moved_same : (X : Type 0) (step other : Expr-F X → X) (g : X → X) (moves : Moves) (bound : ℕ)
    → ((y : Expr-F X) → IsKnownCall bound y → other (moved_layer moves (map-Expr X X g y)) ≡ g (step y))
    → (e : Expr) → calls_below bound e ≡ true → fold-Expr X other (moved moves e) ≡ g (fold-Expr X step e)
moved_same X step other g moves bound alike e known =
    named_same X step other g moves bound any_forms (λ y is. alike y (call_of X bound y is)) e (ap (λ (test : Expr → Bool). test e) (names_are bound) ∙ known)
