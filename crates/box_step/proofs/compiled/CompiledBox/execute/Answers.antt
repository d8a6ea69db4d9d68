use Rattle.std.proofs.Common.{map, slice_get, ap, sym, ◌∙◌, subst}
use Rattle.std.specs.Option.{option_and_then}
use Rattle.std.proofs.Math.Facts.{Fits-of_lt}
use Rattle.hume_model.specs.declared.core_tree.BoxC.{BoxC}
use Rattle.hume_model.specs.BoxTyping.{BoxHasFrame, port_types}
use Rattle.wire_cells.specs.Cells.{without_values}
use Rattle.wire_cells.proofs.AtHome.{others_same, same_cells}
use Rattle.match_rules.specs.Inputs.{AreCellsOf}
use Rattle.box_step.specs.inner.Buffers.{pending_in, words_in}
use Rattle.box_step.proofs.BareForms.{bare_plain, box_frame_of, cells_of, frame_of}
use Rattle.box_step.proofs.Fitting.{fires_so, free, none_there, same_found, small_number, waits}
use Rattle.box_step.proofs.Firing.{executes}
use Rattle.box_step.proofs.Idling.{blocked, none_fits}
use Rattle.box_step.proofs.Opening.{inside_at, whole_executed}
use Rattle.box_step.proofs.compiled.CompiledBox.execute.Goals as goal

pub returns-then-self-clause-executed : goal.returns-then-self-clause-executed
returns-then-self-clause-executed c = λ whole its before ins there forms here.
    let at = inside_at c.self.view_is here in (
      ins,
      there,
      whole_executed c.self.view_is
          (blocked at (waits forms at (words_in c.self.inside.outputs) (ap (λ pending. pending_in pending c.self.inside.outputs) c.if-self.true))),
    )

pub returns-then-self-clause-rest : goal.returns-then-self-clause-rest
returns-then-self-clause-rest c = λ ins after there now. ap (map without_values) (same_cells c.args.side.now c.args.home.now after ins now there)

pub returns-then-self-clause-others : goal.returns-then-self-clause-others
returns-then-self-clause-others c = others_same c.args.side.now c.args.home.now

pub first_rule-requires-clause-core : goal.first_rule-requires-clause-core
first_rule-requires-clause-core c = let forms = c.requires.at.5 in frame_of forms.sound forms.core_is

pub first_rule-requires-clause-typed : goal.first_rule-requires-clause-typed
first_rule-requires-clause-typed c =
    let forms = c.requires.at.5 in
    subst (BoxHasFrame c.args.core.now) (sym forms.box_is) (box_frame_of forms.sound forms.core_is)

pub first_rule-requires-clause-plain : goal.first_rule-requires-clause-plain
first_rule-requires-clause-plain c =
    let forms = c.requires.at.5 in
    let at = inside_at c.self.view_is c.requires.at.6 in
    at.box_at.plain ∙ sym (bare_plain forms)

pub first_rule-requires-clause-home : goal.first_rule-requires-clause-home
first_rule-requires-clause-home c = (c.requires.at.3, c.requires.at.4)

pub returns-in_default-clause-executed : goal.returns-in_default-clause-executed
returns-in_default-clause-executed c = λ whole its before ins there forms here.
    let at = inside_at c.self.view_is here in
    let found = same_found forms at c.first_rule.result (c.first_rule.ensures ins before.side there
    (subst (λ b. AreCellsOf c.args.core.now (port_types b.ins) ins before.side) (sym forms.box_is) (cells_of forms.core_is at.inputs))) in
    let is_free = free forms at (ap (λ pending. pending_in pending c.self.inside.outputs) c.if-self.false) in
    (ins, there, whole_executed c.self.view_is (none_fits at is_free (ap (option_and_then (slice_get its.rules)) (found ∙ c.in_default.is))))

pub returns-in_default-clause-rest : goal.returns-in_default-clause-rest
returns-in_default-clause-rest c = λ ins after there now. ap (map without_values) (same_cells c.args.side.now c.args.home.now after ins now there)

pub returns-in_default-clause-others : goal.returns-in_default-clause-others
returns-in_default-clause-others c = others_same c.args.side.now c.args.home.now

pub overflow_cast-number : goal.overflow_cast-number
overflow_cast-number c =
    Fits-of_lt (small_number c.requires.at.5 c.requires.at.6 c.in-Some.number c.in-Some-get.rule.now c.in-Some-get.ensures)

pub fire-requires-clause-fires : goal.fire-requires-clause-fires
fire-requires-clause-fires c =
    let before = c.requires.at.2 in
    let ins = c.requires.at.3 in
    let forms = c.requires.at.5 in
    let at = inside_at c.self.view_is c.requires.at.6 in
    let found = same_found forms at c.first_rule.result (c.first_rule.ensures ins before.side c.requires.at.4
    (subst (λ b. AreCellsOf c.args.core.now (port_types b.ins) ins before.side) (sym forms.box_is) (cells_of forms.core_is at.inputs))) in
    let is_free = free forms at (ap (λ pending. pending_in pending c.self.inside.outputs) c.if-self.false) in (
      c.requires.at.0,
      c.requires.at.1,
      before,
      ins,
      c.requires.at.4,
      fires_so forms at c.in-Some.number c.in-Some-get.rule.now (found ∙ c.in-Some.is) c.in-Some-get.ensures is_free,
      ap (λ (b : BoxC). port_types b.ins) forms.box_is,
    )

pub returns-in-None-clause-executed : goal.returns-in-None-clause-executed
returns-in-None-clause-executed c = λ whole its before ins there forms here.
    let at = inside_at c.self.view_is here in
    let found = same_found forms at c.first_rule.result (c.first_rule.ensures ins before.side there
    (subst (λ b. AreCellsOf c.args.core.now (port_types b.ins) ins before.side) (sym forms.box_is) (cells_of forms.core_is at.inputs))) in
    let is_free = free forms at (ap (λ pending. pending_in pending c.self.inside.outputs) c.if-self.false) in
    (ins, there, whole_executed c.self.view_is (none_fits at is_free (none_there forms at c.in-Some.number (found ∙ c.in-Some.is) c.in-None.ensures)))

pub returns-in-None-clause-rest : goal.returns-in-None-clause-rest
returns-in-None-clause-rest c = λ ins after there now. ap (map without_values) (same_cells c.args.side.now c.args.home.now after ins now there)

pub returns-in-None-clause-others : goal.returns-in-None-clause-others
returns-in-None-clause-others c = others_same c.args.side.now c.args.home.now

pub returns-in-Some-get-clause-executed : goal.returns-in-Some-get-clause-executed
returns-in-Some-get-clause-executed c = λ whole its before ins there forms here.
    let at = inside_at c.self.view_is here in
    let found = same_found forms at c.first_rule.result (c.first_rule.ensures ins before.side there
    (subst (λ b. AreCellsOf c.args.core.now (port_types b.ins) ins before.side) (sym forms.box_is) (cells_of forms.core_is at.inputs))) in
    let is_free = free forms at (ap (λ pending. pending_in pending c.self.inside.outputs) c.if-self.false) in
    let fires = fires_so forms at c.in-Some.number c.in-Some-get.rule.now (found ∙ c.in-Some.is) c.in-Some-get.ensures is_free in
    let fired = c.fire.ensures.fired whole its before ins there fires (ap (λ (b : BoxC). port_types b.ins) forms.box_is) in
    (fired.0, fired.1, whole_executed c.self.view_is (executes fires fired.2))
