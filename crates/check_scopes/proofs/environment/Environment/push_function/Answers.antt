use Rattle.std.proofs.Common.{ap, sym, ◌∙◌, option_map}
use Rattle.check_scopes.proofs.Pushed.{function_pushed}
use Rattle.check_scopes.proofs.environment.Environment.push_function.Goals as goal

pub returns-in_ok-push_kept-in-Some : goal.returns-in_ok-push_kept-in-Some
returns-in_ok-push_kept-in-Some c =
    let found = sym c.function.ensures ∙ ap (option_map (λ f. (f.0, f.1.now))) c.in-Some.is in
    function_pushed c.self.inside.context c.push_kept.new.self c.self.inside.names c.args.self.now c.args.name.now c.self.view_is c.self.invariant
    c.in-Some.number c.in-Some.field-0-1.now found c.in_ok-push_kept-in-Some.ensures.ok
