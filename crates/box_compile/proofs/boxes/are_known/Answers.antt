use Rattle.std.proofs.Common.{◌≡◌, ◌==◌, ◌<◌, ℕ, List, take, Some, sym, subst}
use Rattle.std.specs.List.{find}
use Rattle.hume_model.specs.declared.core_tree.HandC.{HandC}
use Rattle.box_compile.proofs.Taken.{taken_more, taken_all}
use Rattle.box_compile.proofs.BoxCode.{known_more}
use Rattle.box_compile.proofs.boxes.are_known.Goals as goal

pub loop-handler-preserved : goal.loop-handler-preserved
loop-handler-preserved c =
    let handlers : List HandC = c.args.handlers.now in
    subst (λ (l : List HandC). (exn : ℕ) (handler : HandC) → find (λ (handler : HandC). handler.exn == exn) l ≡ Some handler → exn < c.args.exceptions)
    (sym (taken_more handlers c.loop-handler.handler-index c.handler-item.result c.loop-handler-test.true c.handler-item.is))
    (known_more c.args.exceptions (take c.loop-handler.handler-index handlers) c.handler-item.result c.if-handler-exceptions.false c.loop-handler.invariant)

pub returns : goal.returns
returns c = λ holds.
    subst (λ (l : List HandC). (exn : ℕ) (handler : HandC) → find (λ (handler : HandC). handler.exn == exn) l ≡ Some handler → exn < c.args.exceptions)
    (taken_all c.args.handlers.now c.loop-handler.handler-index c.loop-handler-test.false) c.loop-handler.invariant
