use Rattle.std.proofs.Common.{ap, sym, ◌∙◌}
use Rattle.box_step.specs.Views.{CompiledView}
use Rattle.box_step.specs.inner.Buffers.{pending_in}
use Rattle.box_step.proofs.compiled.CompiledBox.pending_outputs.Goals as goal

pub returns-then-not-self : goal.returns-then-not-self
returns-then-not-self c =
    sym (ap (λ (view : CompiledView). view.pending) c.self.view_is) ∙ ap (λ waits. pending_in waits c.self.inside.outputs) c.if-not-self.true

pub returns : goal.returns
returns c = (
  sym (ap (λ (view : CompiledView). view.pending) c.self.view_is) ∙ ap (λ waits. pending_in waits c.self.inside.outputs) c.if-not-self.false,
  sym (ap (λ (view : CompiledView). view.sizes) c.self.view_is),
)
