use Rattle.std.proofs.Common.{◌+◌, get_or, slice_get, ap, sym, subst, refl, ◌∙◌}
use Rattle.check_typing.specs.Partial.{given}
use Rattle.check_typing.specs.declared.signatures.Signatures.{Signatures}
use Rattle.check_rules.specs.Declared.{function_of}
use Rattle.check_rules.specs.CoreOf.{IsFunctionOf}
use Rattle.hume_check.specs.nodes.inner.Parts.{HasPartsIfOne}
use Rattle.hume_check.proofs.nodes_lemmas.FunctionLaws.{AreMade, all_made, other_passed, is_function, is_none, function_made, has_signature, function_added}
use Rattle.hume_check.proofs.nodes.functions.functions_in_order.Goals as goal
use Rattle.hume_check.proofs.nodes.functions.functions_in_order.Goals.{in-Some+in_ok-function_core+in_ok-push, in_default}

pub loop-number-preserved : goal.loop-number-preserved
loop-number-preserved c =
    let text = c.args.lines.now in
    let s = c.args.table.now in
    let decls = c.args.decls.now in
    let order = c.args.order.now in
    let at = c.loop-number.number-index in
    let there = given (slice_get decls (get_or order at 0)) function_of in
    elim c.match-function_declared.branch [
      | in-Some+in_ok-function_core+in_ok-push w ↦
          let one = is_function s there w.in-Some.parts (subst (HasPartsIfOne s there) w.in-Some.is (c.function_declared.ensures s c.requires.trees)) in
          let funs = c.as_slice-signatures.ensures ∙ ap (λ (s : Signatures). s.funs) c.signatures.ensures in
          let signed = has_signature text s decls order at _ c.loop-number.functions c.loop-number-test.true refl c.loop-number.invariant one.0 one.1
          w.index-signatures-len.result (w.index-signatures-len.is ∙ (λ i. get_or (funs i) (w.len.ensures i) w.index-signatures-len.result)) in
          function_added text s decls order at _ c.loop-number.functions c.loop-number-test.true refl c.loop-number.invariant one.0 one.1
          w.in_ok-function_core.field-0 c.match-function_declared.functions
          (subst (IsFunctionOf text s one.0) (sym w.in_ok-function_core.ensures)
          (function_made text s one.0 w.in-Some.parts w.index-signatures-len.result signed one.2))
          (w.functions-is ∙ w.in_ok-push.ensures.ok)
      | in_default w ↦
          subst (AreMade text s decls order (at + 1)) (sym w.functions-is)
          (other_passed text s decls order at _ c.loop-number.functions c.loop-number-test.true refl c.loop-number.invariant
          (is_none s there (subst (HasPartsIfOne s there) w.in_default.is (c.function_declared.ensures s c.requires.trees))))
    ]

pub returns : goal.returns
returns c =
    all_made c.args.lines.now c.args.table.now c.args.decls.now c.args.order.now c.loop-number.number-index c.loop-number.functions
    c.loop-number-test.false c.loop-number.invariant
