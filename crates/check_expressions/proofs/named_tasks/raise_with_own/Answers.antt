use Rattle.std.proofs.Common.{◌≡◌, sym, ap, subst, ◌∙◌, Some, None, IfErr}
use Rattle.check_typing.specs.Partial.{given}
use Rattle.check_typing.specs.Signatures.{exn_named}
use Rattle.check_typing.specs.Typing.{int32}
use Rattle.check_typing.specs.Cores.{raise_with_core}
use Rattle.check_typing.specs.inner.Walk.{walk, of_type, raised_with}
use Rattle.check_scopes.specs.Known.{Known}
use Rattle.check_expressions.specs.declared.stop.Stop.{Stop}
use Rattle.check_expressions.specs.declared.stop.Stop.TheVariants.{NoType}
use Rattle.check_expressions.proofs.Forms.{other_reason}
use Rattle.check_expressions.proofs.named_tasks.raise_with_own.Goals as goal

pub returns-clause-none : goal.returns-clause-none
returns-clause-none c =
    let name = c.args.name.now in
    let a = c.args.a.now in
    let found : Known → _ = λ e. given (raised_with (exn_named name e.2) (walk e.2 a) e.0) (λ raised. Some (raise_with_core raised.0 raised.1)) in
    other_reason c.raise_with.result (λ stop. stop ≡ NoType → found c.push.new.self ≡ None) (λ stop. stop ≡ NoType → of_type int32 (found c.args.at.now.0) ≡ None)
    (λ stop h same. ap (of_type int32) (ap found (sym (ap (λ s. s.0) c.at.view_is)) ∙ sym (ap found c.in_ok-push.ensures) ∙ h same)) c.raise_with.ensures.none
