-- A moved expression or result raises no exception whose number none of its own gets.
use Rattle.std.proofs.Common.{◌≡◌, ℕ, zero, suc, ◌+◌, ◌<◌, ◌==◌, nat_lt, Bool, true, false, List, [], ◌∷◌, length, map, Option, Some, None, slice_get, refl, ap, ◌∙◌, arith}
use Rattle.std.specs.List.{list_all, list_any}
use Rattle.std.specs.Option.{option_map}
use Rattle.std.proofs.lemmas.Bool.{and_parts, ltb-true}
use Rattle.std.proofs.lemmas.Option.{slice_get_within}
use Rattle.hume_base.specs.declared.types.Types.{Types}
use Rattle.hume_model.specs.declared.core_tree.PatC.{PatC}
use Rattle.hume_model.specs.declared.core_tree.Expr.{Expr, map-Expr}
use Rattle.hume_model.specs.declared.core_tree.Expr.TheOpen.{Expr-F}
use Rattle.hume_model.specs.declared.core_tree.Res.{Res, fold-Res, map-Res}
use Rattle.hume_model.specs.declared.core_tree.Res.TheOpen.{Res-F}
use Rattle.hume_model.specs.declared.core_tree.EqC.{EqC}
use Rattle.hume_model.specs.declared.core_tree.FunC.{FunC}
use Rattle.hume_model.specs.declared.core_tree.Core.{Core}
use Rattle.hume_model.specs.declared.exceptions.TheConstants.{DIV_ZERO, NO_CASE, RANGE}
use Rattle.hume_model.specs.Calls.{CallsGoDown, calls_below, equation_calls}
use Rattle.hume_model.specs.Raising.{Seen, function_raises, raises_below, raises_if_there, raises_step, raises_with, result_may_raise, result_raises_step, seen, some_raise}
use Rattle.union_laws.specs.declared.moves.Moves.{Moves}
use Rattle.union_laws.specs.Moving.{moved, moved_equation, moved_exn, moved_function, moved_layer, moved_result, moved_result_layer}
use Rattle.union_laws.specs.inner.ResultCalls.{known_in, out_calls, result_calls}
use Rattle.union_laws.proofs.MovedCalls.{there_is}
use Rattle.union_laws.proofs.MovedFolds.{IsKnownCall, moved_same}
use Rattle.union_laws.proofs.MovedRaising.{raises-at}
use Rattle.union_laws.proofs.MovedResultFolds.{moved_result_same}
use Rattle.union_laws.proofs.SilentParts.{neither, not_both}

-- the number is that of no moved exception, nor of one that every program has
pub record IsForeign (moves : Moves) (exn : ℕ) : Type 0 where
  pub div_zero : (exn == DIV_ZERO) ≡ false
  pub range : (exn == RANGE) ≡ false
  pub no_case : (exn == NO_CASE) ≡ false
  pub others : (other : ℕ) → (moved_exn moves other == exn) ≡ false

module _ (moves : Moves) (types : Types) (exn : ℕ) (foreign : IsForeign moves exn) where
  abbrev quiet : Seen → Seen
  quiet s = record { literal = s.literal; raises = false }

  abbrev nothing : ℕ → Bool
  nothing f = false

  all_quiet : (ps : List Seen) → some_raise (map quiet ps) ≡ false
  all_quiet [] = refl
  all_quiet (p ∷ ps) = all_quiet ps

  arms_quiet : (arms : List (PatC × Seen)) → list_any (λ (arm : PatC × Seen). arm.1.raises) (map (λ (arm : PatC × Seen). (arm.0, quiet arm.1)) arms) ≡ false
  arms_quiet [] = refl
  arms_quiet (arm ∷ arms) = arms_quiet arms

  module _ (bound : ℕ) (other : ℕ → Bool) (calls : (f : ℕ) → nat_lt f bound ≡ true → other (moves.funs + f) ≡ false) where
    level : (y : Expr-F Seen) → IsKnownCall bound y → raises_step types other exn (moved_layer moves (map-Expr Seen Seen quiet y)) ≡ quiet (raises_step types nothing 0 y)
    level (Expr-F.Word w) known = refl
    level (Expr-F.Var n) known = refl
    level (Expr-F.Con c ps) known = ap seen (all_quiet ps)
    level (Expr-F.Tuple ps) known = ap seen (all_quiet ps)
    level (Expr-F.Vect ps) known = ap seen (all_quiet ps)
    level (Expr-F.Prim op ty ps) known = ap seen (neither _ _ (all_quiet ps) (not_both _ _ foreign.div_zero))
    level (Expr-F.Index n v k) known = ap seen (not_both _ _ foreign.range)
    level (Expr-F.Update n v k e) known = ap seen (not_both _ _ foreign.range)
    level (Expr-F.If t a b) known = refl
    level (Expr-F.Case e forms arms) known = ap seen (neither _ _ (arms_quiet arms) (not_both _ _ foreign.no_case))
    level (Expr-F.Let a b) known = refl
    level (Expr-F.Call f ps) known = ap seen (neither _ _ (all_quiet ps) (calls f known))
    level (Expr-F.Raise x None) known = ap seen (foreign.others x)
    level (Expr-F.Raise x (Some p)) known = ap seen (foreign.others x)

    expression_quiet : (e : Expr) → calls_below bound e ≡ true → raises_with types other exn (moved moves e) ≡ false
    expression_quiet e known =
        ap (λ (s : Seen). s.raises) (moved_same Seen (raises_step types nothing 0) (raises_step types other exn) quiet moves bound level e known)

    bodies_quiet : (equations : List EqC) → list_all (equation_calls bound) equations ≡ true
        → list_any (λ (equation : EqC). raises_with types other exn equation.body) (map (moved_equation moves) equations) ≡ false
    bodies_quiet [] down = refl
    bodies_quiet (equation ∷ equations) down =
        let c = and_parts (equation_calls bound equation) (list_all (equation_calls bound) equations) down in
        neither _ _ (expression_quiet equation.body c.0) (bodies_quiet equations c.1)

    function_quiet : (function : FunC) → list_all (equation_calls bound) function.equations ≡ true
        → function_raises types (raises_with types other exn) exn (Some (moved_function moves function)) ≡ false
    function_quiet function down = neither _ _ (bodies_quiet function.equations down) (not_both _ _ foreign.no_case)

    maybe_quiet : (o : Option Expr) → out_calls bound o ≡ true → raises_if_there (raises_with types other exn) (option_map (moved moves) o) ≡ false
    maybe_quiet None known = refl
    maybe_quiet (Some e) known = expression_quiet e known

    outs_quiet : (outs : List (Option Expr)) → list_all (out_calls bound) outs ≡ true
        → list_any (raises_if_there (raises_with types other exn)) (map (option_map (moved moves)) outs) ≡ false
    outs_quiet [] known = refl
    outs_quiet (out ∷ outs) known =
        let parts = and_parts (out_calls bound out) (list_all (out_calls bound) outs) known in
        neither _ _ (maybe_quiet out parts.0) (outs_quiet outs parts.1)

    ways_quiet : (arms : List (PatC × Bool)) → list_any (λ (arm : PatC × Bool). arm.1) (map (λ (arm : PatC × Bool). (arm.0, false)) arms) ≡ false
    ways_quiet [] = refl
    ways_quiet (arm ∷ arms) = ways_quiet arms

    abbrev calm : Res-F Bool → Bool
    calm y = false

    abbrev no : Bool → Bool
    no b = false

    result_level : (y : Res-F Bool) → known_in bound y ≡ true
        → result_raises_step types (raises_with types other exn) exn (moved_result_layer moves (map-Res Bool Bool no y)) ≡ no (calm y)
    result_level (Res-F.Outs outs) known = outs_quiet outs known
    result_level (Res-F.If t a b) known = neither _ _ (expression_quiet t known) refl
    result_level (Res-F.Case e forms arms) known = neither _ _ (expression_quiet e known) (neither _ _ (ways_quiet arms) (not_both _ _ foreign.no_case))
    result_level (Res-F.Let e b) known = neither _ _ (expression_quiet e known) refl
    result_level (Res-F.Raise x e) known = neither _ _ (maybe_quiet e known) (foreign.others x)

    result_quiet : (r : Res) → result_calls bound r ≡ true → fold-Res Bool (result_raises_step types (raises_with types other exn) exn) (moved_result moves r) ≡ false
    result_quiet r known = moved_result_same Bool calm (result_raises_step types (raises_with types other exn) exn) no moves bound result_level r known

module _ (moves : Moves) (small large : Core) (down : CallsGoDown small)
    (funs : (n : ℕ) (function : FunC) → slice_get small.funs n ≡ Some function → slice_get large.funs (moves.funs + n) ≡ Some (moved_function moves function))
    (exn : ℕ) (foreign : IsForeign moves exn) where
  quiet_by : (n f m : ℕ) → f < n → f < length small.funs → moves.funs + f < m → raises_below large m exn (moves.funs + f) ≡ false
  quiet_by zero f m less within above = absurd (omega arith)
  quiet_by (suc n) f m less within above =
      let at = there_is small.funs f within in
      raises-at large m exn (moves.funs + f) above
      ∙ ap (function_raises large.types (raises_with large.types (raises_below large (moves.funs + f) exn) exn) exn) (funs f at.0 at.1)
      ∙ function_quiet moves large.types exn foreign f (raises_below large (moves.funs + f) exn)
      (λ g known. let lower : g < f = ltb-true g f known in quiet_by n g (moves.funs + f) (omega (arith, lower, less)) (omega (arith, lower, within)) (omega (arith, lower)))
      at.0 (down f at.0 at.1)

  pub foreign_result : (r : Res) → result_calls (length small.funs) r ≡ true → result_may_raise large exn (moved_result moves r) ≡ false
  foreign_result r known =
      result_quiet moves large.types exn foreign (length small.funs) (raises_below large (length large.funs) exn)
      (λ f less.
      let within : f < length small.funs = ltb-true f (length small.funs) less in
      let at = there_is small.funs f within in
      quiet_by (suc f) f (length large.funs) (omega arith) within (slice_get_within large.funs (moves.funs + f) _ (funs f at.0 at.1)))
      r known
