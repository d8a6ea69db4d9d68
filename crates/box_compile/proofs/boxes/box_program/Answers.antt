use Rattle.std.proofs.Common.{◌==◌, ◌≡◌, ◌<◌, ℕ, List, Option, Some, ap, ◌∙◌, refl, subst}
use Rattle.std.specs.List.{find}
use Rattle.hume_model.specs.declared.core_tree.HandC.{HandC}
use Rattle.hume_model.specs.declared.core_tree.PortC.{PortC}
use Rattle.hume_model.specs.BoxTyping.{port_types}
use Rattle.box_code.specs.RepresentsBox.{handler_of}
use Rattle.box_compile.specs.inner.Boxes.{BoxWritten}
use Rattle.box_compile.specs.inner.Entries.{entry_in}
use Rattle.box_compile.proofs.BoxCode.{box_done}
use Rattle.box_compile.proofs.boxes.box_program.Goals as goal

pub returns : goal.returns
returns c =
    let b = c.args.b.now in
    let functions = c.in_ok-functions.functions in
    let written : BoxWritten functions.writer c.emit_box.new.writer (entry_in functions.entries) b c.in_ok-begins.begins.rules
    c.in_ok-begins.begins.handlers c.in_ok-exceptions.exceptions =
    subst (λ (l : List (Option ℕ)). BoxWritten functions.writer c.emit_box.new.writer (entry_in l) b c.in_ok-begins.begins.rules
    c.in_ok-begins.begins.handlers c.in_ok-exceptions.exceptions) c.as_slice-entries.ensures c.in_ok-begins.ensures in
    let known : (exn : ℕ) (handler : HandC) → handler_of b exn ≡ Some handler → exn < c.in_ok-exceptions.exceptions =
    subst (λ (l : List HandC). (exn : ℕ) (handler : HandC) → find (λ (handler : HandC). handler.exn == exn) l ≡ Some handler
    → exn < c.in_ok-exceptions.exceptions) c.as_slice.ensures
    (c.are_known.ensures c.if-not-are_known.false) in
    box_done c.args.core.now b (record {
      code = c.into_code.result;
      rules = c.in_ok-begins.begins.rules;
      handlers = c.in_ok-begins.begins.handlers;
      heap = c.args.heap;
      stack = c.args.stack;
      work = c.args.work;
      outs = c.in_ok-outs.outs;
    })
    written.found c.in_ok-exceptions.exceptions _ c.in_ok-functions.ensures written.rules_are written.handlers_are c.into_code.ensures
    (c.in_ok-exceptions.ensures ∙ c.len.ensures) refl written.places known
    (c.in_ok-outs.ensures ∙ ap (λ (l : List PortC). port_types l) c.as_slice-2.ensures) c.requires.heap c.requires.stack c.requires.work
