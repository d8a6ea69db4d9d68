use Rattle.std.proofs.Common.{ap, ◌∙◌, is_some}
use Rattle.check_tables.specs.names.Names.{number_of}
use Rattle.check_tables.proofs.names_lemmas.Lookup.{lookup-number_of, is_some-number_of}
use Rattle.check_tables.proofs.names.table.NameTable.has.Goals as goal

pub returns : goal.returns
returns c =
    c.contains_key.ensures ∙ ap is_some (lookup-number_of c.args.name.now c.self.inside.entries.entries ∙ ap (number_of c.args.name.now) c.self.view_is)
    ∙ is_some-number_of c.args.name.now c.args.self.now
