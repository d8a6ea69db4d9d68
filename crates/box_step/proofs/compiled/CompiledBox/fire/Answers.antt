use Rattle.std.proofs.Common.{◌≡◌, ◌≤◌, true, length, map, refl, ap, sym, ◌∙◌, subst}
use Rattle.hume_model.specs.BoxTyping.{port_types}
use Rattle.hume_net.specs.HalfSteps.{oldest}
use Rattle.box_costs.specs.Bounds.{built_patterns}
use Rattle.box_costs.specs.ResultSpending.{inputs_built}
use Rattle.hume_model.specs.Matching.{taken_at}
use Rattle.match_rules.specs.Inputs.{AreCellsOf, left_in}
use Rattle.match_rules.specs.Plain.{plain_rule}
use Rattle.box_step.proofs.BareForms.{cells_of, frame_of, plain_there}
use Rattle.box_step.proofs.Built.{bare_fits, it_has_fired, its_ready, stands_there}
use Rattle.box_step.proofs.Opening.{inside_fires, whole_fired}
use Rattle.box_step.proofs.Ready.{heap_fits, same_patterns, stack_fits}
use Rattle.box_step.proofs.compiled.CompiledBox.fire.Goals as goal

pub build-requires-clause-core : goal.build-requires-clause-core
build-requires-clause-core c = let fires = c.requires.fires.5 in frame_of fires.sound fires.core_is

pub build-requires-clause-plain : goal.build-requires-clause-plain
build-requires-clause-plain c = λ is.
    let its = c.requires.fires.1 in
    let fires = inside_fires c.self.view_is c.requires.fires.5 in
    let ports = sym (ap port_types c.as_slice.ensures ∙ c.requires.fires.6) in
    subst (λ types. plain_rule types c.args.rule.now ≡ true) ports
    (plain_there its c.args.number fires.rule c.args.rule.now (sym fires.at.box_at.plain ∙ is) fires.there fires.rule_is)

pub build-requires-clause-fitting : goal.build-requires-clause-fitting
build-requires-clause-fitting c =
    let before = c.requires.fires.2 in
    let fires = inside_fires c.self.view_is c.requires.fires.5 in
    let ins = map oldest before.side in
    let ports = sym (ap port_types c.as_slice.ensures ∙ c.requires.fires.6) in
    let same = sym (same_patterns fires) in (
      c.requires.fires.3,
      before.side,
      c.requires.fires.4,
      subst (λ types. AreCellsOf c.args.core.now types c.requires.fires.3 before.side) ports (cells_of fires.core_is fires.at.inputs),
      bare_fits fires,
      subst (λ pats. inputs_built pats ins ≤ c.self.inside.heap.room) same (heap_fits fires),
      subst (λ pats. length (built_patterns pats) ≤ c.self.inside.stack.room) same (stack_fits fires),
    )

pub run_ready_rule-ran-requires : goal.run_ready_rule-ran-requires
run_ready_rule-ran-requires c =
    let its = c.requires.fires.1 in
    let before = c.requires.fires.2 in
    let fires = inside_fires c.self.view_is c.requires.fires.5 in
    let ports = sym (ap port_types c.as_slice.ensures ∙ c.requires.fires.6) in
    let cells = subst (λ types. AreCellsOf c.args.core.now types c.requires.fires.3 before.side) ports (cells_of fires.core_is fires.at.inputs) in
    let built = c.build.ensures.built c.requires.fires.3 before.side c.requires.fires.4 cells (bare_fits fires) in (
      c.requires.fires.0,
      its,
      fires.rule,
      map oldest before.side,
      its_ready fires c.build.new.heap c.build.new.stack built c.self.inside.outputs refl,
    )

pub put_last-requires : goal.put_last-requires
put_last-requires c = stands_there (inside_fires c.self.view_is c.requires.fires.5)

pub returns-clause-fired : goal.returns-clause-fired
returns-clause-fired c = λ whole its before in_cells there it_fires same_ports.
    let fires = inside_fires c.self.view_is it_fires in
    let ins = map oldest before.side in
    let now = c.build.new in
    let ports = sym (ap port_types c.as_slice.ensures ∙ same_ports) in
    let cells = subst (λ types. AreCellsOf c.args.core.now types in_cells before.side) ports (cells_of fires.core_is fires.at.inputs) in
    let built = c.build.ensures.built in_cells before.side there cells (bare_fits fires) in
    let outputs = c.self.inside.outputs in
    let ready = its_ready fires now.heap now.stack built outputs refl in
    let after = left_in (taken_at c.args.rule.now.pats ins) in_cells in (
      after,
      c.build.ensures.left in_cells before.side there cells (bare_fits fires),
      whole_fired c.self.view_is
          (it_has_fired fires now.heap now.stack built outputs refl c.run_ready_rule-ran.new.heap c.run_ready_rule-ran.new.stack
          c.run_ready_rule-ran.new.out c.run_ready_rule-ran.new.work c.run_ready_rule-ran.result
          (c.run_ready_rule-ran.ensures whole its fires.rule ins ready) c.put_last.new.order c.put_last.ensures after refl),
    )
