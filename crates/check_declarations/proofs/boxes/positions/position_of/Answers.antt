use Rattle.std.proofs.Common.{◌∷◌, sym, ap, ◌∙◌}
use Rattle.std.proofs.lemmas.Result.{err_from_is_err_and}
use Rattle.hume_base.specs.declared.types.Ty.{out-Ty}
use Rattle.check_scopes.specs.types.Contexts.{top, part_at}
use Rattle.check_tasks.specs.States.{State, with_types}
use Rattle.check_declarations.specs.boxes.inner.Rules.{with_position}
use Rattle.check_declarations.proofs.boxes_lemmas.PositionLaws.{no_part}
use Rattle.check_declarations.proofs.boxes.positions.position_of.Goals as goal

pub returns-in_err-found-clause-none : goal.returns-in_err-found-clause-none
returns-in_err-found-clause-none c =
    let p = err_from_is_err_and c.from_residual-in_err-found.result c.from_residual-in_err-found.ensures.1 in
    let cores = c.at.inside.builder in
    let before = (λ i. (c.in_ok-push_part.ensures i, cores.0, cores.1, cores.2))
    ∙ ap (λ (s : State). with_types (part_at c.args.place (out-Ty (top s.0.1)) ∷ s.0.1) s) c.at.view_is in
    rw (p.1, p.2) (λ t. no_part c.args.at.now c.args.place c.args.pat.now (ap (with_position c.args.pat.now) (sym before) ∙ c.in_err-found.ensures.none t))
