use Rattle.std.proofs.Common.{refl}
use Rattle.turn_workers.proofs.FewItems.{few_items}
use Rattle.turn_workers.proofs.division.Division.make.Goals as goal

pub returns : goal.returns
returns c = record {
  of = refl;
  groups = c.requires.groups.0;
  few = few_items c.args.plan c.args.groups c.requires.groups.0 c.requires.groups.1;
  ways = c.in_ok-ways.ensures;
}
