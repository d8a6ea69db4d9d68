use Rattle.std.proofs.Common.{◌+◌, length, ap, sym, ◌∙◌, option_map}
use Rattle.check_scopes.specs.signatures.Numbered.{seen}
use Rattle.check_typing.specs.Signatures.{con_named}
use Rattle.check_scopes.proofs.Pushed.{with_kept, numbered_found, constructor_pushed}
use Rattle.check_scopes.proofs.environment.Environment.push_constructor.Goals as goal

pub returns-in_ok-push_kept-in-Some : goal.returns-in_ok-push_kept-in-Some
returns-in_ok-push_kept-in-Some c =
    let s = c.self.inside.names in
    let one = seen c.in-Some.found in
    let found = numbered_found s.types.sums (con_named c.args.name.now s) one (sym c.constructor.ensures ∙ ap (option_map seen) c.in-Some.is) in
    let functions = c.len.ensures ∙ ap (λ s. length s.funs) c.signatures-signatures.ensures in
    let exceptions = c.len-in-Some.ensures ∙ ap (λ s. length s.exns) c.signatures-signatures.ensures in
    let others = c.in_ok-others-in-Some.ensures ∙ (λ i. functions i + exceptions i) in
    let at = c.in_ok-at-in-Some.ensures ∙ (λ i. others i + found.1 i) in
    constructor_pushed c.self.inside.context c.push_kept.new.self s c.args.self.now c.args.name.now c.self.view_is c.self.invariant
    one.0 found.0 (c.in_ok-push_kept-in-Some.ensures.ok ∙ ap (λ n. with_kept n c.self.inside.context) at)
