use Rattle.std.proofs.Common.{◌≡◌, ◌==◌, ◌+◌, List, refl, subst, arith, ℕ}
use Rattle.std.specs.List.{find}
use Rattle.hume_model.specs.declared.core_tree.HandC.{HandC}
use Rattle.box_compile.specs.inner.Boxes.{HandlerFound, HandlersFound}
use Rattle.box_compile.specs.inner.Emitted.{Emitted}
use Rattle.box_compile.specs.inner.Entries.{entry_in}
use Rattle.box_compile.proofs.BoxCode.{handlers_more}
use Rattle.box_compile.proofs.boxes.emit_handlers.Goals as goal

pub loop-exn-preserved : goal.loop-exn-preserved
loop-exn-preserved c =
    let exn = c.loop-exn.exn in
    let one : Emitted c.loop-exn.writer c.emit_for_exception.new.writer (λ code from to. HandlerFound code (entry_in c.args.entries.now) (find (λ
    (handler : HandC). handler.exn == exn) c.args.b.now.handlers) c.in_ok-place.place) =
    subst (λ (l : List HandC). Emitted c.loop-exn.writer c.emit_for_exception.new.writer (λ code from to. HandlerFound code (entry_in c.args.entries.now)
    (find (λ (handler : HandC). handler.exn == exn) l) c.in_ok-place.place))
    c.as_slice.ensures c.in_ok-place.ensures in
    handlers_more c.args.b.now c.loop-exn.found c.push.new.self exn (exn + 1) c.in_ok-place.place refl c.in_ok-push.ensures.ok c.loop-exn.invariant one

pub returns : goal.returns
returns c =
    let end : c.loop-exn.exn ≡ c.args.exceptions = (let last = c.loop-exn-test.false in let low = c.loop-exn.auto.exn-end in omega (arith, last, low)) in
    subst (λ (n : ℕ). Emitted c.args.writer.now c.loop-exn.writer (λ code from to. HandlersFound code
    (entry_in c.args.entries.now) c.args.b.now c.loop-exn.found n)) end c.loop-exn.invariant
