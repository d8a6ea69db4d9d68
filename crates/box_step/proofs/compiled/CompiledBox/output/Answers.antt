use Rattle.std.proofs.Common.{◌≡◌, MatchOption, None, Some, ap, sym, ◌∙◌, subst}
use Rattle.box_step.specs.Views.{CompiledView}
use Rattle.box_step.specs.inner.Buffers.{pending_in}
use Rattle.box_step.proofs.PendingWords.{its_words}
use Rattle.box_step.proofs.compiled.CompiledBox.output.Goals as goal

pub returns-then-self : goal.returns-then-self
returns-then-self c =
    let outputs = c.self.inside.outputs in
    let sized = ap (λ (view : CompiledView). view.sizes) c.self.view_is in
    let pending = sym (ap (λ (view : CompiledView). view.pending) c.self.view_is) ∙ ap (λ waits. pending_in waits outputs) c.if-self.true in
    let output = its_words c.args.self.now outputs c.args.i c.requires sized pending in
    subst (λ all. MatchOption c.get.result (all ≡ None) (λ words. all ≡ Some words.now)) output.2 (c.get.ensures output.0 output.1)
