use Rattle.std.proofs.Common.{ap, ◌∙◌}
use Rattle.c_used.specs.Kept.{is_among}
use Rattle.c_used.proofs.Sets.{has_shown}
use Rattle.c_used.proofs.names.Names.has.Goals as goal

pub returns : goal.returns
returns c = c.contains.ensures ∙ has_shown c.args.name.now c.self.inside.entries.keys ∙ ap (λ names. is_among names c.args.name.now) c.self.view_is
