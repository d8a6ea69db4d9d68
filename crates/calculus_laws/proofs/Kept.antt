-- What boxes mean in a core with the same functions.
use Rattle.std.proofs.Common.{◌≡◌, ℕ, zero, suc, ◌==◌, List, length, Option, Some, None, slice_get, refl, ap, ◌∙◌, if◌then◌else◌}
use Rattle.std.specs.List.{find}
use Rattle.std.specs.Option.{option_and_then, option_map}
use Rattle.hume_base.specs.declared.types.Value.{Value}
use Rattle.hume_model.specs.declared.core_tree.Expr.{Expr}
use Rattle.hume_model.specs.declared.core_tree.Res.{Res, fold-Res}
use Rattle.hume_model.specs.declared.core_tree.RuleC.{RuleC}
use Rattle.hume_model.specs.declared.core_tree.HandC.{HandC}
use Rattle.hume_model.specs.declared.core_tree.BoxC.{BoxC}
use Rattle.hume_model.specs.declared.core_tree.Core.{Core}
use Rattle.hume_model.specs.declared.outcome.Outputs.{Outputs}
use Rattle.hume_model.specs.declared.outcome.Outputs.TheVariants.{Asserts, Throws}
use Rattle.hume_model.specs.Meaning.{call_below, call_of, eval_with}
use Rattle.hume_model.specs.Results.{ResultMeaning, result_step, meaning_in, result_of}
use Rattle.hume_model.specs.Matching.{taken_at, bound}
use Rattle.hume_model.specs.Firing.{rule_fits, handler_env, outputs_or_none, handled_by, handled, fire}

module _ (core new : Core) (same : new.funs ≡ core.funs) where
  calls_kept : (bound : ℕ) → call_below new bound ≡ call_below core bound
  unfolding call_below
  calls_kept zero = refl
  calls_kept (suc bound) = λ i function args.
      if function == bound then call_of (eval_with (calls_kept bound i)) (slice_get (same i) bound) args else calls_kept bound i function args

  pub meaning_kept : meaning_in new ≡ meaning_in core
  meaning_kept = λ i. λ (e : Expr) env. eval_with ((ap (λ funs. call_below new (length funs)) same ∙ calls_kept (length core.funs)) i) e env

  pub result_kept : (env : List Value) (res : Res) → result_of new env res ≡ result_of core env res
  result_kept env res = λ i. fold-Res ResultMeaning (result_step (meaning_kept i)) res env

-- the same results give the same firings
module _ (core new : Core) (same : (env : List Value) (res : Res) → result_of new env res ≡ result_of core env res) where
  found_kept : (carried : Option Value) (handler : Option HandC) → handled_by new carried handler ≡ handled_by core carried handler
  found_kept carried None = refl
  found_kept carried (Some handler) = ap outputs_or_none (same (handler_env handler carried) handler.result)

  handled_kept : (handlers : List HandC) (outs : Outputs) → handled new handlers outs ≡ handled core handlers outs
  handled_kept handlers (Asserts outs) = refl
  handled_kept handlers (Throws exn carried) = found_kept carried (find (λ (handler : HandC). handler.exn == exn) handlers)

  pub outs_kept : (handlers : List HandC) (env : List Value) (res : Res)
      → handled new handlers (result_of new env res) ≡ handled core handlers (result_of core env res)
  outs_kept handlers env res = handled_kept handlers (result_of new env res) ∙ ap (handled core handlers) (same env res)

  pub fire_kept : (b : BoxC) (order : List ℕ) (ins : List (Option Value)) → fire new b order ins ≡ fire core b order ins
  fire_kept b order ins = λ i.
      option_and_then (λ number. option_map (λ (rule : RuleC). record {
        rule = number;
        taken = taken_at rule.pats ins;
        outs = outs_kept b.handlers (bound rule.pats ins) rule.result i;
      }) (slice_get b.rules number))
      (find (λ number. rule_fits ins (slice_get b.rules number)) order)
