use Rattle.std.proofs.Common.{reverse, ◌∙◌}
use Rattle.c_used.proofs.KeptForms.{kept_by}
use Rattle.c_used.proofs.items.Behind.keeps.Goals as goal

pub returns : goal.returns
returns c = c.is_kept_by.ensures
    ∙ kept_by c.args.self.now.names c.args.self.now.some (reverse c.args.self.now.items.items) c.args.self.now.used c.args.self.now.begins c.args.item.now
