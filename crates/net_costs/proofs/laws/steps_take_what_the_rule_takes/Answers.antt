use Rattle.net_costs.proofs.Spent.{fires_spend, rests_spend, waits_spend, sources_spend, sinks_spend}
use Rattle.net_costs.proofs.laws.steps_take_what_the_rule_takes.Goals as goal

pub returns-clause-fires : goal.returns-clause-fires
returns-clause-fires c = fires_spend

pub returns-clause-rests : goal.returns-clause-rests
returns-clause-rests c = rests_spend

pub returns-clause-waits : goal.returns-clause-waits
returns-clause-waits c = waits_spend

pub returns-clause-sources : goal.returns-clause-sources
returns-clause-sources c = sources_spend

pub returns-clause-sinks : goal.returns-clause-sinks
returns-clause-sinks c = sinks_spend
