use Rattle.std.proofs.Common.{◌≡◌, ℕ, List, Option, Some, slice_get, length, refl, ap, sym, ◌∙◌, subst}
use Rattle.std.proofs.lemmas.Option.{slice_get_read}
use Rattle.box_compile.specs.inner.Emitted.{Emitted}
use Rattle.box_compile.specs.inner.Entries.{entry_in, FunctionStands}
use Rattle.box_compile.proofs.FunctionCode.{functions_more, one_longer}
use Rattle.box_compile.proofs.functions.emit_functions.Goals as goal

pub loop-i-preserved : goal.loop-i-preserved
loop-i-preserved c =
    let core = c.args.core.now in
    let function = c.function-item.result in
    let k = c.loop-i.i in
    let here : slice_get c.as_slice-function-items.result.now k ≡ Some function = slice_get_read _ _ k function refl c.loop-i-test.true c.function-item.is in
    let found : slice_get core.funs k ≡ Some function = ap (λ l. slice_get l k) (sym c.as_slice-function-items.ensures) ∙ here in
    let at : slice_get core.funs (length c.loop-i.entries) ≡ Some function = ap (slice_get core.funs) c.loop-i.invariant.count ∙ found in
    record {
      count = one_longer c.loop-i.entries c.push.new.self c.in_ok-entry.entry k c.in_ok-push.ensures.ok c.loop-i.invariant.count;
      stands = functions_more core c.loop-i.entries c.push.new.self c.in_ok-entry.entry function c.in_ok-push.ensures.ok at c.loop-i.invariant.stands
          (subst (λ (l : List (Option ℕ)). Emitted c.loop-i.writer c.emit_if_needed.new.writer (λ code from to. FunctionStands code
          (entry_in l) c.in_ok-entry.entry function)) c.as_slice.ensures c.in_ok-entry.ensures);
    }
