-- What stands there for one level of an expression, and what it spends.
use Rattle.std.proofs.Common.{◌≡◌, ℕ, ◌+◌, ◌<◌, List, [], ◌∷◌, ◌++◌, length, Option, Some, None, slice_get, ap, sym, ◌∙◌, subst, false, true}
use Rattle.hume_base.specs.declared.types.Value.{Value}
use Rattle.hume_model.specs.declared.core_tree.Expr.{Expr, roll-Expr, map-Expr, out-Expr, out-roll-Expr, fold-roll-Expr}
use Rattle.hume_model.specs.declared.core_tree.Expr.TheOpen.{Expr-F}
use Rattle.hume_model.specs.declared.core_tree.Expr.TheVariants as expr
use Rattle.hume_model.specs.declared.outcome.Outcome.{Outcome}
use Rattle.box_costs.specs.Spending.{Spent, Spending, spent_step, spent_with}
use Rattle.box_code.specs.declared.instr.Scalar.{Scalar}
use Rattle.box_code.specs.declared.instr.Instr.TheVariants.{Push, Load, Make, Index, Update, Jump, JumpFalse, Slide, Call, Raise}
use Rattle.box_code.specs.Words.{StandsAt}
use Rattle.box_code.specs.Machine.{type_of}
use Rattle.box_code.specs.Represents.{depth_of, instr_of_op, Represents, AllRepresent, ArmsStand}

module _ (code : List ℕ) (entry : ℕ → Option ℕ) (places : List ℕ) (high from to : ℕ) where
  abbrev Part : ℕ → ℕ → Expr → Type 0
  Part = Represents code entry places high

  abbrev Parts : ℕ → List Expr → Type 0
  Parts = AllRepresent code entry places high from

  abbrev pub Layer : Expr-F Expr → Type 0
  Layer (Expr-F.Word w) = StandsAt code from (Push w) to
  Layer (Expr-F.Var number) = (place : ℕ) × (slice_get places number ≡ Some place) × (place < high) × StandsAt code from (Load (depth_of high place)) to
  Layer (Expr-F.Con c parts) = (mid : ℕ) × Parts mid parts × StandsAt code mid (Make c (length parts)) to
  Layer (Expr-F.Tuple parts) = (mid : ℕ) × Parts mid parts × StandsAt code mid (Make 0 (length parts)) to
  Layer (Expr-F.Vect parts) = (mid : ℕ) × Parts mid parts × StandsAt code mid (Make 0 (length parts)) to
  Layer (Expr-F.Prim op ty parts) = (scalar : Scalar) × (mid : ℕ) × (ty ≡ type_of scalar) × Parts mid parts × StandsAt code mid (instr_of_op op scalar) to
  Layer (Expr-F.Index count v p) = (mid : ℕ) × Parts mid (v ∷ p ∷ []) × StandsAt code mid (Index count) to
  Layer (Expr-F.Update count v p e) = (mid : ℕ) × Parts mid (v ∷ p ∷ e ∷ []) × StandsAt code mid (Update count) to
  Layer (Expr-F.Case e forms arms) = (mid : ℕ) × Part from mid e × ArmsStand code entry places high mid to arms
  Layer (Expr-F.If test a b) = (tested : ℕ) × (first : ℕ) × (done : ℕ) × (second : ℕ) × Part from tested test
      × StandsAt code tested (JumpFalse second) first × Part first done a × StandsAt code done (Jump to) second × Part second to b
  Layer (Expr-F.Let a b) = (mid : ℕ) × (done : ℕ) × Part from mid a × Represents code entry (places ++ high ∷ []) (high + 1) mid done b × StandsAt code done (Slide 1) to
  Layer (Expr-F.Call number parts) = (mid : ℕ) × (place : ℕ) × Parts mid parts × (entry number ≡ Some place) × StandsAt code mid (Call place (length parts)) to
  Layer (Expr-F.Raise exn None) = (mid : ℕ) × StandsAt code from (Push 0) mid × StandsAt code mid (Raise exn false) to
  Layer (Expr-F.Raise exn (Some part)) = (mid : ℕ) × Part from mid part × StandsAt code mid (Raise exn true) to

  opened : (e : Expr) (x : Expr-F Expr) → roll-Expr x ≡ e → Layer x → Layer (out-Expr e)
  opened e x is l = subst (λ y. Layer y) (sym (ap out-Expr (sym is) ∙ out-roll-Expr x)) l

module _ (code : List ℕ) (entry : ℕ → Option ℕ) where
  layer_of : {places : List ℕ} {high from to : ℕ} {e : Expr} → Represents code entry places high from to e → Layer code entry places high from to (out-Expr e)
  layer_of (Represents.word {places = p} {high = h} {from = f} {to = t} w found) = opened code entry p h f t (expr.Word w) (Expr-F.Word w) (expr.rolls-Word w) found
  layer_of (Represents.variable {places = p} {high = h} {from = f} {to = t} number place at low found) =
      opened code entry p h f t (expr.Var number) (Expr-F.Var number) (expr.rolls-Var number) (place, at, low, found)
  layer_of (Represents.con {places = p} {high = h} {from = f} {to = t} c mid {parts = es} parts found) =
      opened code entry p h f t (expr.Con c es) (Expr-F.Con c es) (expr.rolls-Con c es) (mid, parts, found)
  layer_of (Represents.tuple {places = p} {high = h} {from = f} {to = t} mid {parts = es} parts found) =
      opened code entry p h f t (expr.Tuple es) (Expr-F.Tuple es) (expr.rolls-Tuple es) (mid, parts, found)
  layer_of (Represents.vector {places = p} {high = h} {from = f} {to = t} mid {parts = es} parts found) =
      opened code entry p h f t (expr.Vect es) (Expr-F.Vect es) (expr.rolls-Vect es) (mid, parts, found)
  layer_of (Represents.operation {places = p} {high = h} {from = f} {to = t} op ty scalar mid {parts = es} same parts found) =
      opened code entry p h f t (expr.Prim op ty es) (Expr-F.Prim op ty es) (expr.rolls-Prim op ty es) (scalar, mid, same, parts, found)
  layer_of (Represents.index {places = p} {high = h} {from = f} {to = t} count mid {vector = v} {place = k} parts found) =
      opened code entry p h f t (expr.Index count v k) (Expr-F.Index count v k) (expr.rolls-Index count v k) (mid, parts, found)
  layer_of (Represents.update {places = p} {high = h} {from = f} {to = t} count mid {vector = v} {place = k} {item = e} parts found) =
      opened code entry p h f t (expr.Update count v k e) (Expr-F.Update count v k e) (expr.rolls-Update count v k e) (mid, parts, found)
  layer_of (Represents.alternatives {places = p} {high = h} {from = f} {to = t} forms mid {part = e} {arms = ways} part arms) =
      opened code entry p h f t (expr.Case e forms ways) (Expr-F.Case e forms ways) (expr.rolls-Case e forms ways) (mid, part, arms)
  layer_of (Represents.choice {places = p} {high = h} {from = f} {to = t} tested first done second {test = e} {when_true = a} {when_false = b} re jf ra j rb) =
      opened code entry p h f t (expr.If e a b) (Expr-F.If e a b) (expr.rolls-If e a b) (tested, first, done, second, re, jf, ra, j, rb)
  layer_of (Represents.binding {places = p} {high = h} {from = f} {to = t} mid done {part = a} {body = b} ra rb found) =
      opened code entry p h f t (expr.Let a b) (Expr-F.Let a b) (expr.rolls-Let a b) (mid, done, ra, rb, found)
  layer_of (Represents.call {places = p} {high = h} {from = f} {to = t} number mid place {parts = es} parts at found) =
      opened code entry p h f t (expr.Call number es) (Expr-F.Call number es) (expr.rolls-Call number es) (mid, place, parts, at, found)
  layer_of (Represents.raise_alone {places = p} {high = h} {from = f} {to = t} exn mid push found) =
      opened code entry p h f t (expr.Raise exn None) (Expr-F.Raise exn None) (expr.rolls-Raise exn None) (mid, push, found)
  layer_of (Represents.raise_with {places = p} {high = h} {from = f} {to = t} exn mid {part = e} part found) =
      opened code entry p h f t (expr.Raise exn (Some e)) (Expr-F.Raise exn (Some e)) (expr.rolls-Raise exn (Some e)) (mid, part, found)

  -- the same at a form that is known
  pub stands_there : {places : List ℕ} {high from to : ℕ} {e : Expr} → Represents code entry places high from to e → (x : Expr-F Expr) → roll-Expr x ≡ e → Layer code entry places high from to x
  stands_there {places = p} {high = h} {from = f} {to = t} {e = e} rep x is = subst (λ y. Layer code entry p h f t y) (ap out-Expr (sym is) ∙ out-roll-Expr x) (layer_of rep)

-- what a form spends
pub spent_form : (call : ℕ → List Value → Spent Outcome) (env : List Value) (e : Expr) (x : Expr-F Expr) → roll-Expr x ≡ e → spent_with call e env ≡ spent_step call (map-Expr Expr Spending (spent_with call) x) env
spent_form call env e x is = ap (λ e. spent_with call e env) (sym is) ∙ ap (λ (m : Spending). m env) (fold-roll-Expr Spending (spent_step call) x)
