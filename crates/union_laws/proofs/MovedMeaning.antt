-- A moved expression comes to what the expression comes to, with exceptions of moved numbers.
use Rattle.std.proofs.Common.{◌≡◌, ℕ, ◌+◌, ◌-◌, ◌==◌, nat_lt, Bool, true, false, if◌then◌else◌, ℤ, List, [], ◌∷◌, ◌++◌, map, Option, Some, None, slice_get, refl, ap, sym, ◌∙◌}
use Rattle.std.specs.List.{list_all, slice_set}
use Rattle.std.proofs.lemmas.Bool.{and_parts}
use Rattle.hume_base.specs.declared.types.Ty.{Ty, out-Ty, map-Ty}
use Rattle.hume_base.specs.declared.types.Ty.TheOpen.{Ty-F}
use Rattle.hume_base.specs.declared.types.Value.{Value, Tuple, Vector, Con, out-Value}
use Rattle.hume_base.specs.Flat.{word_of_value, parts_in}
use Rattle.hume_model.specs.declared.core_tree.Op.{Op}
use Rattle.hume_model.specs.declared.core_tree.Op.TheVariants.{Add, Sub, Mul, Div, Mod, Neg, Not, Convert, Eq, Ne, Lt, Le, Gt, Ge}
use Rattle.hume_model.specs.declared.core_tree.PatC.{PatC}
use Rattle.hume_model.specs.declared.core_tree.Expr.{Expr, map-Expr}
use Rattle.hume_model.specs.declared.core_tree.Expr.TheOpen.{Expr-F}
use Rattle.hume_model.specs.declared.core_tree.EqC.{EqC}
use Rattle.hume_model.specs.declared.core_tree.FunC.{FunC}
use Rattle.hume_model.specs.declared.outcome.Outcome.{Outcome}
use Rattle.hume_model.specs.declared.outcome.Outcome.TheVariants.{Gives, Raises}
use Rattle.hume_model.specs.declared.outcome.Several.{Several}
use Rattle.hume_model.specs.declared.outcome.Several.TheVariants.{All, Raised}
use Rattle.hume_model.specs.Calls.{calls_below, equation_calls}
use Rattle.hume_model.specs.Outcomes.{Meaning, after_values, and_then, div_zero, in_order, on_match, out_of_range, then_rest, with_all}
use Rattle.hume_model.specs.Operations.{binary, is_place, item_of, item_or_raise, number_at, prim, unary, updated, word_at}
use Rattle.hume_model.specs.Patterns.{matches, matches_all}
use Rattle.hume_model.specs.Meaning.{Calls, call_of, eval_step, eval_with, first_arm, first_equation}
use Rattle.union_laws.specs.declared.moves.Moves.{Moves}
use Rattle.union_laws.specs.Moving.{moved, moved_equation, moved_exn, moved_function, moved_layer, moved_type, moved_type_layer}
use Rattle.union_laws.specs.inner.Outcomes.{moved_outcome, moved_several}
use Rattle.union_laws.proofs.MovedFolds.{IsKnownCall, moved_same}
use Rattle.union_laws.proofs.MovedTypes.{moved_out}

module _ (moves : Moves) where
  abbrev out : Outcome → Outcome
  out = moved_outcome moves

  -- operations

  number_same : (x : Ty-F Ty) (word : ℕ) → number_at (moved_type_layer moves (map-Ty Ty Ty (moved_type moves) x)) word ≡ number_at x word
  number_same Ty-F.Bool word = refl
  number_same Ty-F.Char word = refl
  number_same (Ty-F.Int bits) word = refl
  number_same (Ty-F.Nat bits) word = refl
  number_same (Ty-F.Tuple tys) word = refl
  number_same (Ty-F.Vector count item) word = refl
  number_same (Ty-F.Named number) word = refl

  word_same : (x : Ty-F Ty) (number : ℤ) → word_at (moved_type_layer moves (map-Ty Ty Ty (moved_type moves) x)) number ≡ word_at x number
  word_same Ty-F.Bool number = refl
  word_same Ty-F.Char number = refl
  word_same (Ty-F.Int bits) number = refl
  word_same (Ty-F.Nat bits) number = refl
  word_same (Ty-F.Tuple tys) number = refl
  word_same (Ty-F.Vector count item) number = refl
  word_same (Ty-F.Named number) number' = refl

  unless_same : (o : Outcome) → out o ≡ o → (zero : Bool) → (if zero then div_zero else o) ≡ out (if zero then div_zero else o)
  unless_same o same true = refl
  unless_same o same false = sym same

  binary_same : (op : Op) (x y : Ty-F Ty) → ((w : ℕ) → number_at y w ≡ number_at x w) → ((n : ℤ) → word_at y n ≡ word_at x n)
      → (left right : ℕ) → binary op y left right ≡ out (binary op x left right)
  binary_same Add x y number word left right = rw (number left, number right, word) refl
  binary_same Sub x y number word left right = rw (number left, number right, word) refl
  binary_same Mul x y number word left right = rw (number left, number right, word) refl
  binary_same Div x y number word left right = rw (number left, number right, word) (unless_same _ refl (right == 0))
  binary_same Mod x y number word left right = rw (number left, number right, word) (unless_same _ refl (right == 0))
  binary_same Neg x y number word left right = refl
  binary_same Not x y number word left right = refl
  binary_same Convert x y number word left right = refl
  binary_same Eq x y number word left right = refl
  binary_same Ne x y number word left right = refl
  binary_same Lt x y number word left right = rw (number left, number right) refl
  binary_same Le x y number word left right = rw (number left, number right) refl
  binary_same Gt x y number word left right = rw (number left, number right) refl
  binary_same Ge x y number word left right = rw (number left, number right) refl

  unary_same : (op : Op) (x y : Ty-F Ty) → ((w : ℕ) → number_at y w ≡ number_at x w) → ((n : ℤ) → word_at y n ≡ word_at x n)
      → (operand : ℕ) → unary op y operand ≡ out (unary op x operand)
  unary_same Add x y number word operand = refl
  unary_same Sub x y number word operand = refl
  unary_same Mul x y number word operand = refl
  unary_same Div x y number word operand = refl
  unary_same Mod x y number word operand = refl
  unary_same Neg x y number word operand = rw (number operand, word) refl
  unary_same Not x y number word operand = refl
  unary_same Convert x y number word operand = rw word refl
  unary_same Eq x y number word operand = refl
  unary_same Ne x y number word operand = refl
  unary_same Lt x y number word operand = refl
  unary_same Le x y number word operand = refl
  unary_same Gt x y number word operand = refl
  unary_same Ge x y number word operand = refl

  pub prim_same : (op : Op) (ty : Ty) (values : List Value) → prim op (moved_type moves ty) values ≡ out (prim op ty values)
  prim_same op ty [] = refl
  prim_same op ty (a ∷ []) =
      ap (λ x. unary op x (word_of_value a)) (moved_out moves ty)
      ∙ unary_same op (out-Ty ty) _ (number_same (out-Ty ty)) (word_same (out-Ty ty)) (word_of_value a)
  prim_same op ty (a ∷ b ∷ []) =
      ap (λ x. binary op x (word_of_value a) (word_of_value b)) (moved_out moves ty)
      ∙ binary_same op (out-Ty ty) _ (number_same (out-Ty ty)) (word_same (out-Ty ty)) (word_of_value a) (word_of_value b)
  prim_same op ty (a ∷ b ∷ c ∷ more) = refl

  item_there : (o : Option Value) → item_or_raise o ≡ out (item_or_raise o)
  item_there None = refl
  item_there (Some item) = refl

  pub item_same : (count : ℕ) (v p : Value) → item_of count v p ≡ out (item_of count v p)
  item_same count v p = by (is_place count (word_of_value p))
    where
      by : (b : Bool) → (if b then item_or_raise (slice_get (parts_in (out-Value v)) (word_of_value p - 1)) else out_of_range)
          ≡ out (if b then item_or_raise (slice_get (parts_in (out-Value v)) (word_of_value p - 1)) else out_of_range)
      by true = item_there (slice_get (parts_in (out-Value v)) (word_of_value p - 1))
      by false = refl

  pub updated_same : (count : ℕ) (v p item : Value) → updated count v p item ≡ out (updated count v p item)
  updated_same count v p item = by (is_place count (word_of_value p))
    where
      by : (b : Bool) → (if b then Gives (Vector (slice_set (parts_in (out-Value v)) (word_of_value p - 1) item)) else out_of_range)
          ≡ out (if b then Gives (Vector (slice_set (parts_in (out-Value v)) (word_of_value p - 1) item)) else out_of_range)
      by true = refl
      by false = refl

  -- what comes after an evaluation

  then_same : (o : Outcome) (go other : Value → Outcome) → ((v : Value) → other v ≡ out (go v)) → and_then (out o) other ≡ out (and_then o go)
  then_same (Gives v) go other same = same v
  then_same (Raises exn carried) go other same = refl

  all_same : (s : Several) (go other : List Value → Outcome) → ((vs : List Value) → other vs ≡ out (go vs)) → with_all (moved_several moves s) other ≡ out (with_all s go)
  all_same (All vs) go other same = same vs
  all_same (Raised exn carried) go other same = refl

  pub after_same : (vs : List Value) (s : Several) → after_values vs (moved_several moves s) ≡ moved_several moves (after_values vs s)
  after_same vs (All more) = refl
  after_same vs (Raised exn carried) = refl

  rest_same : (o : Outcome) (s : Several) → then_rest (out o) (moved_several moves s) ≡ moved_several moves (then_rest o s)
  rest_same (Gives v) s = after_same (v ∷ []) s
  rest_same (Raises exn carried) s = refl

  abbrev like : Meaning → Meaning
  like meaning env = out (meaning env)

  order_same : (parts : List Meaning) (env : List Value) → in_order (map like parts) env ≡ moved_several moves (in_order parts env)
  order_same [] env = refl
  order_same (part ∷ parts) env = ap (then_rest (out (part env))) (order_same parts env) ∙ rest_same (part env) (in_order parts env)

  match_same : (o : Option (List Value)) (go other : List Value → Outcome) (x y : Outcome) → ((vs : List Value) → other vs ≡ out (go vs)) → y ≡ out x
      → on_match o other y ≡ out (on_match o go x)
  match_same None go other x y same none = none
  match_same (Some vs) go other x y same none = same vs

  abbrev arm_like : PatC × Meaning → PatC × Meaning
  arm_like arm = (arm.0, like arm.1)

  arm_same : (arms : List (PatC × Meaning)) (v : Value) (env : List Value) → first_arm (map arm_like arms) v env ≡ out (first_arm arms v env)
  arm_same [] v env = refl
  arm_same (arm ∷ arms) v env =
      match_same (matches arm.0 v) (λ vs. arm.1 (env ++ vs)) (λ vs. out (arm.1 (env ++ vs))) (first_arm arms v env) (first_arm (map arm_like arms) v env)
      (λ vs. refl) (arm_same arms v env)

  module _ (bound : ℕ) (call other : Calls)
      (calls : (f : ℕ) → nat_lt f bound ≡ true → (args : List Value) → other (moves.funs + f) args ≡ out (call f args)) where
    truth_same : (a b : Outcome) (zero : Bool) → (if zero then out a else out b) ≡ out (if zero then a else b)
    truth_same a b true = refl
    truth_same a b false = refl

    level_same : (y : Expr-F Meaning) → IsKnownCall bound y → (env : List Value)
        → eval_step other (moved_layer moves (map-Expr Meaning Meaning like y)) env ≡ out (eval_step call y env)
    level_same (Expr-F.Word w) known env = refl
    level_same (Expr-F.Var n) known env = refl
    level_same (Expr-F.Con c ps) known env =
        ap (λ s. with_all s (λ vs. Gives (Con c vs))) (order_same ps env) ∙ all_same (in_order ps env) (λ vs. Gives (Con c vs)) (λ vs. Gives (Con c vs)) (λ vs. refl)
    level_same (Expr-F.Tuple ps) known env =
        ap (λ s. with_all s (λ vs. Gives (Tuple vs))) (order_same ps env) ∙ all_same (in_order ps env) (λ vs. Gives (Tuple vs)) (λ vs. Gives (Tuple vs)) (λ vs. refl)
    level_same (Expr-F.Vect ps) known env =
        ap (λ s. with_all s (λ vs. Gives (Vector vs))) (order_same ps env) ∙ all_same (in_order ps env) (λ vs. Gives (Vector vs)) (λ vs. Gives (Vector vs)) (λ vs. refl)
    level_same (Expr-F.Prim op ty ps) known env =
        ap (λ s. with_all s (prim op (moved_type moves ty))) (order_same ps env) ∙ all_same (in_order ps env) (prim op ty) (prim op (moved_type moves ty)) (prim_same op ty)
    level_same (Expr-F.Index n v k) known env =
        then_same (v env) (λ a. and_then (k env) (item_of n a)) (λ a. and_then (out (k env)) (item_of n a))
        (λ a. then_same (k env) (item_of n a) (item_of n a) (item_same n a))
    level_same (Expr-F.Update n v k e) known env =
        then_same (v env) (λ a. and_then (k env) (λ p. and_then (e env) (updated n a p))) (λ a. and_then (out (k env)) (λ p. and_then (out (e env)) (updated n a p)))
        (λ a. then_same (k env) (λ p. and_then (e env) (updated n a p)) (λ p. and_then (out (e env)) (updated n a p))
        (λ p. then_same (e env) (updated n a p) (updated n a p) (updated_same n a p)))
    level_same (Expr-F.If t a b) known env =
        then_same (t env) (λ v. if word_of_value v == 0 then b env else a env) (λ v. if word_of_value v == 0 then out (b env) else out (a env))
        (λ v. truth_same (b env) (a env) (word_of_value v == 0))
    level_same (Expr-F.Case e forms arms) known env =
        then_same (e env) (λ v. first_arm arms v env) (λ v. first_arm (map arm_like arms) v env) (λ v. arm_same arms v env)
    level_same (Expr-F.Let a b) known env =
        then_same (a env) (λ v. b (env ++ v ∷ [])) (λ v. out (b (env ++ v ∷ []))) (λ v. refl)
    level_same (Expr-F.Call f ps) known env =
        ap (λ s. with_all s (other (moves.funs + f))) (order_same ps env) ∙ all_same (in_order ps env) (call f) (other (moves.funs + f)) (calls f known)
    level_same (Expr-F.Raise x None) known env = refl
    level_same (Expr-F.Raise x (Some p)) known env =
        then_same (p env) (λ v. Raises x (Some v)) (λ v. Raises (moved_exn moves x) (Some v)) (λ v. refl)

    -- where calls come to the like, so do all expressions
    pub meaning_same : (e : Expr) → calls_below bound e ≡ true → (env : List Value) → eval_with other (moved moves e) env ≡ out (eval_with call e env)
    meaning_same e known env =
        ap (λ (m : Meaning). m env)
        (moved_same Meaning (eval_step call) (eval_step other) like moves bound (λ y call_known. λ i env. level_same y call_known env i) e known)

    equations_same : (equations : List EqC) → list_all (equation_calls bound) equations ≡ true → (args : List Value)
        → first_equation (eval_with other) (map (moved_equation moves) equations) args ≡ out (first_equation (eval_with call) equations args)
    equations_same [] known args = refl
    equations_same (equation ∷ equations) known args =
        let both = and_parts (equation_calls bound equation) (list_all (equation_calls bound) equations) known in
        match_same (matches_all equation.pats args) (eval_with call equation.body) (eval_with other (moved moves equation.body))
        (first_equation (eval_with call) equations args) (first_equation (eval_with other) (map (moved_equation moves) equations) args)
        (meaning_same equation.body both.0) (equations_same equations both.1 args)

    -- and functions
    pub function_same : (function : FunC) → list_all (equation_calls bound) function.equations ≡ true → (args : List Value)
        → call_of (eval_with other) (Some (moved_function moves function)) args ≡ out (call_of (eval_with call) (Some function) args)
    function_same function known args = equations_same function.equations known args
