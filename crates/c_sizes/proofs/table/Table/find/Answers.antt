use Rattle.std.proofs.Common.{ap, ◌∙◌}
use Rattle.c_sizes.specs.Names.{known}
use Rattle.c_sizes.proofs.Lookup.{lookup-known}
use Rattle.c_sizes.proofs.table.Table.find.Goals as goal

pub returns : goal.returns
returns g c =
    c.copied.ensures ∙ c.get.ensures.value ∙ lookup-known c.args.name.now c.self.inside.entries.entries
    ∙ ap (known c.args.name.now) c.self.view_is
