use Rattle.std.proofs.Common.{◌+◌, not, length, ap, sym, ◌∙◌, option_map}
use Rattle.check_scopes.proofs.Pushed.{with_kept, exception_pushed}
use Rattle.check_scopes.proofs.environment.Environment.push_exception.Goals as goal

pub returns-in_ok-push_kept-in-Some : goal.returns-in_ok-push_kept-in-Some
returns-in_ok-push_kept-in-Some c =
    let s = c.self.inside.names in
    let found = sym c.exception.ensures ∙ ap (option_map (λ f. (f.0, f.1.now))) c.in-Some.is in
    let functions = c.len-functions.ensures ∙ ap (λ s. length s.funs) c.signatures.ensures in
    let at = c.in_ok-at-in-Some.ensures ∙ ap (λ n. n + c.in-Some.number) functions in
    exception_pushed c.self.inside.context c.push_kept.new.self s c.args.self.now c.args.name.now c.self.view_is c.self.invariant
    c.in-Some.number c.in-Some.exception.now found (c.is_none.ensures ∙ ap not c.if-is_none.false)
    (c.in_ok-push_kept-in-Some.ensures.ok ∙ ap (λ n. with_kept n c.self.inside.context) at)
