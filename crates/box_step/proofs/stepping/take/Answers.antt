use Rattle.hume_model.specs.BoxTyping.{port_types}
use Rattle.box_step.proofs.stepping.take.Goals as goal

pub take_plain-requires-clause-fitting : goal.take_plain-requires-clause-fitting
take_plain-requires-clause-fitting c =
    let fitting = c.requires.fitting in (
      fitting.0,
      c.args.core.now,
      port_types c.args.ports.now,
      c.args.rule.now,
      fitting.1,
      fitting.2,
      record { plain = c.requires.plain c.if-plain.true; cells = fitting.3; fit = fitting.4 },
      fitting.6,
    )

pub returns-then-plain-clause-left : goal.returns-then-plain-clause-left
returns-then-plain-clause-left c = λ ins values there cells fit.
    c.take_plain.ensures.left ins c.args.core.now (port_types c.args.ports.now) c.args.rule.now values there
    (record { plain = c.requires.plain c.if-plain.true; cells = cells; fit = fit })
