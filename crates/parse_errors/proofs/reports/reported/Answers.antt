use Rattle.std.proofs.Common.{◌≡◌, ◌⊎◌, sym, ap, ◌∙◌, subst}
use Rattle.parse_errors.specs.declared.stop.Stop.TheVariants.{Memory}
use Rattle.parse_errors.specs.WrongTokens.{IsWrongPlace}
use Rattle.parse_errors.specs.inner.Reported.{reported, reported_syntax, reported_deep}
use Rattle.parse_errors.proofs.ReportedPlaces.{reported_right}
use Rattle.parse_errors.proofs.reports.reported.Goals as goal

pub returns-in-Syntax-clause-place : goal.returns-in-Syntax-clause-place
returns-in-Syntax-clause-place c f =
    subst (λ error. (c.args.stop ≡ Memory) ⊎ IsWrongPlace c.args.tokens.now c.args.end error)
    (ap (λ stop. reported stop c.args.tokens.now c.args.end) c.in-Syntax.is
    ∙ sym (c.syntax_at.ensures ∙ ap (reported_syntax c.args.end) c.place_left.ensures))
    (reported_right c.args.stop c.args.tokens.now c.args.end f)

pub returns-in-Deep-clause-place : goal.returns-in-Deep-clause-place
returns-in-Deep-clause-place c f =
    subst (λ error. (c.args.stop ≡ Memory) ⊎ IsWrongPlace c.args.tokens.now c.args.end error)
    (ap (λ stop. reported stop c.args.tokens.now c.args.end) c.in-Deep.is
    ∙ sym (c.deep_at.ensures ∙ ap (reported_deep c.args.end) c.place_left-in-Deep.ensures))
    (reported_right c.args.stop c.args.tokens.now c.args.end f)
