use Rattle.std.proofs.Common.{◌≡◌}
use Rattle.hume_ports.proofs.Steps.{step_at}
use Rattle.hume_streams.proofs.places_lemmas.StepsAt.{nothing_at}
use Rattle.hume_streams.proofs.places_lemmas.FillsInLists.{fills_from, fill_names, fill_untouched, fill_roomy}
use Rattle.hume_streams.proofs.places.filling.fill_at.Goals as goal

pub returns-clause-step : goal.returns-clause-step
returns-clause-step g c = step_at _ _ _ _ _ _ c.requires.place c.fill.ensures.fills

pub returns-clause-idle : goal.returns-clause-idle
returns-clause-idle g c = λ enough.
    let idle = c.fill.ensures.idle enough in
    (idle.0, nothing_at _ _ _ (step_at _ _ _ _ _ (λ old new. new ≡ old) c.requires.place idle.1), idle.2)

pub returns-clause-fills : goal.returns-clause-fills
returns-clause-fills g c = fills_from _ _ _ _ _ _ _ _ _ (returns-clause-step g c)

pub returns-clause-roomy : goal.returns-clause-roomy
returns-clause-roomy g c = fill_roomy _ _ _ _ _ _ _ _ _ (returns-clause-step g c)

pub returns-clause-same_names : goal.returns-clause-same_names
returns-clause-same_names g c = fill_names _ _ _ _ _ _ _ _ _ (returns-clause-step g c)

pub returns-clause-untouched : goal.returns-clause-untouched
returns-clause-untouched g c = fill_untouched _ _ _ _ _ _ _ _ _ (returns-clause-step g c)
