use Rattle.std.proofs.Common.{ap, ◌∙◌}
use Rattle.c_used.specs.Kept.{is_among}
use Rattle.c_used.specs.inner.Names.{with_name}
use Rattle.c_used.proofs.Sets.{shown, shown_more}
use Rattle.c_used.proofs.names.Names.add.Goals as goal

pub returns-in_ok-insert : goal.returns-in_ok-insert
returns-in_ok-insert c =
    ap shown c.in_ok-insert.ensures.keys ∙ shown_more c.self.inside.entries.keys c.in_ok-key.key
    ∙ ap (λ names. with_name names c.in_ok-key.key.items) c.self.view_is ∙ ap (with_name c.args.self.now) c.in_ok-key.ensures.items
