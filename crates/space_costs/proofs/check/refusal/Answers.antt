use Rattle.std.proofs.Common.{refl}
use Rattle.space_costs.proofs.NodeFindings.{broken_stands}
use Rattle.space_costs.proofs.check.refusal.Goals as goal

pub returns : goal.returns
returns c =
    let at = broken_stands c.args.core.now c.args.finding c.requires.0 in
    record { finding = c.args.finding; least = c.requires; rule = refl; line = c.declared_line.ensures at.0 at.1 }
