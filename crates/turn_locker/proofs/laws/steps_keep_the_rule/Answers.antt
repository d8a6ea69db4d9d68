use Rattle.std.proofs.Common.{refl}
use Rattle.turn_locker.proofs.Ends.{joins, splits}
use Rattle.turn_locker.proofs.Passes.{passes_step}
use Rattle.turn_locker.proofs.Steps.{claims_step, looks_step, releases_step}
use Rattle.turn_locker.proofs.laws.steps_keep_the_rule.Goals as goal

pub returns-clause-load : goal.returns-clause-load
returns-clause-load g c plan slots id item = looks_step g.T.Timed.number_of g.T.Timed.time_of g.T.Timed.right plan slots item id

pub returns-clause-claim : goal.returns-clause-claim
returns-clause-claim g c plan slots id item time me = claims_step g.T.Timed.number_of g.T.Timed.time_of g.T.Timed.right plan slots item id time _ me refl

pub returns-clause-put_back : goal.returns-clause-put_back
returns-clause-put_back g c plan slots id item value me share slot out number right may =
    releases_step g.T.Timed.number_of g.T.Timed.time_of g.T.Timed.right plan slots item id _ _ value me share slot out number refl right refl may

pub returns-clause-pass : goal.returns-clause-pass
returns-clause-pass g c plan slots id item time value me same share slot out number clock right may =
    passes_step g.T.Timed.number_of g.T.Timed.time_of g.T.Timed.right plan slots item id time _ value me same share slot out may number clock right refl

pub returns-clause-split : goal.returns-clause-split
returns-clause-split g c plan = splits g.T.Timed.number_of g.T.Timed.time_of g.T.Timed.right plan

pub returns-clause-join : goal.returns-clause-join
returns-clause-join g c plan = joins g.T.Timed.number_of g.T.Timed.time_of g.T.Timed.right plan
