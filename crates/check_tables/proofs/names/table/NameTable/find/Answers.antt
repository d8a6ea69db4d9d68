use Rattle.std.proofs.Common.{ap, ◌∙◌}
use Rattle.check_tables.specs.names.Names.{number_of}
use Rattle.check_tables.proofs.names_lemmas.Lookup.{lookup-number_of}
use Rattle.check_tables.proofs.names.table.NameTable.find.Goals as goal

pub returns : goal.returns
returns c = c.copied.ensures ∙ c.get.ensures.value ∙ lookup-number_of c.args.name.now c.self.inside.entries.entries ∙ ap (number_of c.args.name.now) c.self.view_is
